use Rattle.std.proofs.Common.{◌≡◌, false}
use Rattle.survey.specs.Decide.{some_to}
use Rattle.survey.proofs.below.any_below.Given as goal

abbrev pub invariant-loop-index : goal.invariant-loop-index
invariant-loop-index g l = some_to g.says l.index ≡ false
