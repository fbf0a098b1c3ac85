use Rattle.std.proofs.Common.{◌≡◌, true}
use Rattle.theorems.specs.Terms.{all_to}
use Rattle.survey.specs.Held.{alone_at}
use Rattle.survey.proofs.holds.alone.Given as goal

abbrev pub invariant-loop-other : goal.invariant-loop-other
invariant-loop-other g l = all_to (alone_at l.pool.sizes l.pool.words.now g.held l.task l.thing) l.other ≡ true
