use Rattle.survey.specs.Held.{filled_by}
use Rattle.survey.specs.Broken.{off_target}
use Rattle.survey.proofs.holds.target_at.Given as goal

abbrev pub ghost-alone : goal.ghost-alone
ghost-alone a = filled_by

abbrev pub ghost-all_below : goal.ghost-all_below
ghost-all_below a = off_target a.test.0.sizes a.test.0.words.now a.test.1
