use Rattle.survey.specs.Broken.{owner_at, rule6_at}
use Rattle.survey.proofs.holds.all_held_once.Given as goal

abbrev pub ghost-all_below : goal.ghost-all_below
ghost-all_below a = rule6_at a.test.0.sizes a.test.0.words.now

abbrev pub ghost-all_below-2 : goal.ghost-all_below-2
ghost-all_below-2 a = owner_at a.test.0.sizes a.test.0.words.now
