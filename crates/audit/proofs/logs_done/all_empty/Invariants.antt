use Rattle.audit.specs.LogsDone.{empty_at}
use Rattle.audit.proofs.logs_done.all_empty.Given as goal

abbrev pub ghost-all_below : goal.ghost-all_below
ghost-all_below a = empty_at a.test.0.sizes a.test.0.words.now a.test.1
