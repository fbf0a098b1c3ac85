use Rattle.std.proofs.Common.{rules}
use Rattle.survey.proofs.Finding.{some-stop}
use Rattle.survey.proofs.below.any_below.Goals as goal

pub returns-then-test : goal.returns-then-test
returns-then-test g c = some-stop g.says c.loop-index.index c.test.result (c.requires.1.1 _ _ (search rules) c.test.ensures) _ (search rules) (search rules)
