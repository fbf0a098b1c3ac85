use Rattle.audit.specs.LogsDone.{other_below}
use Rattle.audit.proofs.logs_done.others_below.Given as goal

abbrev pub ghost-all_below : goal.ghost-all_below
ghost-all_below a = other_below a.test.0.sizes a.test.0.words.now a.test.1 a.test.2 a.test.3
