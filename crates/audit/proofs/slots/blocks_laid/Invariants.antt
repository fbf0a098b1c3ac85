use Rattle.survey.specs.Broken.{laid_at}
use Rattle.audit.proofs.slots.blocks_laid.Given as goal

abbrev pub ghost-all_below : goal.ghost-all_below
ghost-all_below a = laid_at a.test.0.sizes a.test.0.words.now
