use Rattle.std.proofs.Common.{arith}
use Rattle.audit.proofs.Telling.{part-known, part-paced, part-told}
use Rattle.audit.proofs.seven.rule_seven.Goals as goal

pub writers_hold-requires : goal.writers_hold-requires
writers_hold-requires c = part-paced _ _ c.args.pool.spans (grind arith) (grind arith)

pub tasks_done-requires : goal.tasks_done-requires
tasks_done-requires c = part-known _ _ c.args.pool.spans (grind arith) (grind arith) c.requires.two c.requires.three c.requires.six

pub fillers_laid-requires : goal.fillers_laid-requires
fillers_laid-requires c = part-told _ _ c.args.pool.spans (grind arith) (grind arith) (grind arith)
