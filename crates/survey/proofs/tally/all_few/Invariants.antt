use Rattle.survey.specs.Broken.{rule4_at}
use Rattle.survey.proofs.tally.all_few.Given as goal

abbrev pub ghost-all_below : goal.ghost-all_below
ghost-all_below a = rule4_at a.test.0.sizes a.test.0.words.now
