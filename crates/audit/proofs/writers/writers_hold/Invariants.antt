use Rattle.survey.specs.Broken.{writer_at}
use Rattle.audit.proofs.writers.writers_hold.Given as goal

abbrev pub ghost-all_below : goal.ghost-all_below
ghost-all_below a = writer_at a.test.0.sizes a.test.0.words.now
