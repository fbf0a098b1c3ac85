use Rattle.audit.specs.LogsDone.{cell_below}
use Rattle.audit.proofs.logs_done.block_below.Given as goal

abbrev pub ghost-all_below : goal.ghost-all_below
ghost-all_below a = cell_below a.test.0.sizes a.test.0.words.now a.test.1 a.test.2
