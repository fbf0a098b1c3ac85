use Rattle.block.specs.Walk.{RowsAt}
use Rattle.block.proofs.walk.laid.Given as goal

-- the rows so far are marked, and their places counted
abbrev pub invariant-loop-cell : goal.invariant-loop-cell
invariant-loop-cell l = RowsAt l.cells l.block l.bump l.marks l.taken l.cell
