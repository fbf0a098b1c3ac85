use Rattle.survey.specs.Broken.{filling_at}
use Rattle.audit.proofs.fillers.fillers_laid.Given as goal

abbrev pub ghost-all_below : goal.ghost-all_below
ghost-all_below a = filling_at a.test.0.sizes a.test.0.words.now
