use Rattle.std.proofs.Common.{◌≡◌, true}
use Rattle.theorems.specs.Terms.{all_to}
use Rattle.survey.proofs.below.all_below.Given as goal

abbrev pub invariant-loop-index : goal.invariant-loop-index
invariant-loop-index g l = all_to g.says l.index ≡ true
