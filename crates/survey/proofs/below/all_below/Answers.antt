use Rattle.std.proofs.Common.{rules}
use Rattle.survey.proofs.Ways.{all-stop}
use Rattle.survey.proofs.below.all_below.Goals as goal

pub returns-then-not-test : goal.returns-then-not-test
returns-then-not-test g c = all-stop g.says c.loop-index.index c.test.result (c.requires.1.1 _ _ (search rules) c.test.ensures) _ (search rules) (search rules)
