use Rattle.std.proofs.Common.{rules}
use Rattle.std.proofs.Math.ListN.{length-set}
use Rattle.block.proofs.Plans.{appends}
use Rattle.block.proofs.change.append.Goals as goal

pub bounds-block-1 : goal.bounds-block-1
bounds-block-1 c = simp length-set (search (rules, appends))

pub bounds-block-at : goal.bounds-block-at
bounds-block-at c = simp length-set (search (rules, appends))

pub bounds-block-at-2 : goal.bounds-block-at-2
bounds-block-at-2 c = simp length-set (search (rules, appends))

pub bounds-block-length_at : goal.bounds-block-length_at
bounds-block-length_at c = simp length-set (search (rules, appends))
