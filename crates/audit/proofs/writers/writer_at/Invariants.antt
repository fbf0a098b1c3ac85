use Rattle.survey.specs.Broken.{not_above}
use Rattle.audit.specs.Written.{written_by}
use Rattle.audit.proofs.writers.writer_at.Given as goal

abbrev pub ghost-alone : goal.ghost-alone
ghost-alone a = written_by

abbrev pub ghost-all_below : goal.ghost-all_below
ghost-all_below a = not_above a.test.0.sizes a.test.0.words.now a.test.1
