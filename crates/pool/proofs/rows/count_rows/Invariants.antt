use Rattle.std.proofs.Common.{◌≡◌, ◌≤◌, Ok}
use Rattle.acts.specs.Looks.{count_of}
use Rattle.pool.proofs.rows.count_rows.Given as goal

-- so many of the rows so far
abbrev pub invariant-loop-index : goal.invariant-loop-index
invariant-loop-index g l = (count_of g.seen l.index ≡ Ok l.count) × (l.count ≤ l.index)
