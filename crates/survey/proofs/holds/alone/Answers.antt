use Rattle.std.proofs.Common.{rules}
use Rattle.survey.proofs.Holding.{alone_stop, alone_own, alone_else}
use Rattle.survey.proofs.holds.alone.Goals.{else-eq-via-then-eq+else-other-task, else-eq-via-else-eq}
use Rattle.survey.proofs.holds.alone.Goals as goal

pub returns-then-other-task : goal.returns-then-other-task
returns-then-other-task g c = alone_stop _ _ g.held c.args.task c.args.thing c.loop-other.other (search rules) c.raw_task.result c.raw_task.ensures c.holds.result (c.requires.1.1 _ _ c.holds.ensures) (search rules) (search rules)

pub loop-other-preserved : goal.loop-other-preserved
loop-other-preserved g c = elim c.else-eq.branch [ else-eq-via-then-eq+else-other-task w ↦ alone_own _ _ g.held c.args.task c.args.thing c.loop-other.other (search rules) c.raw_task.result c.raw_task.ensures c.holds.result (c.requires.1.1 _ _ c.holds.ensures) c.loop-other.invariant (search rules) | else-eq-via-else-eq w ↦ alone_else _ _ g.held c.args.task c.args.thing c.loop-other.other (search rules) c.raw_task.result c.raw_task.ensures c.holds.result (c.requires.1.1 _ _ c.holds.ensures) c.loop-other.invariant (search rules) ]
