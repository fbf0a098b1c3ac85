use Rattle.std.proofs.Common.{◌≡◌, Ok, None}
use Rattle.acts.specs.Plans.{first_of}
use Rattle.pool.proofs.rows.first_row.Given as goal

-- nothing was found so far
abbrev pub invariant-loop-index : goal.invariant-loop-index
invariant-loop-index g l = first_of g.seen l.index ≡ Ok None
