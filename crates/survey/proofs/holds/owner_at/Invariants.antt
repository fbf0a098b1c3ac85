use Rattle.survey.specs.Broken.{owns_at}
use Rattle.survey.proofs.holds.owner_at.Given as goal

abbrev pub ghost-any_below : goal.ghost-any_below
ghost-any_below a = owns_at a.test.0.sizes a.test.0.words.now a.test.1
