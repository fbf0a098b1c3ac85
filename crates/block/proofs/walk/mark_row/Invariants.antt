use Rattle.std.proofs.Common.{◌≡◌, length}
use Rattle.block.specs.Walk.{RowAt}
use Rattle.block.proofs.walk.mark_row.Given as goal

-- the places so far are marked, and none stands twice
abbrev pub invariant-loop-index : goal.invariant-loop-index
invariant-loop-index l = RowAt l.cells l.block l.limit l.cell l.length l.all l.marks l.index × (length l.marks ≡ length l.initial.marks)
