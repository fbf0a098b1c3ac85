use Rattle.audit.specs.Gets.{older_in}
use Rattle.audit.proofs.logs.all_older.Given as goal

abbrev pub ghost-all_below : goal.ghost-all_below
ghost-all_below a = older_in a.test.0.sizes a.test.0.words.now a.test.1 a.test.2 a.test.3
