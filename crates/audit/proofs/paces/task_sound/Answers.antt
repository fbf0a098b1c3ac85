use Rattle.audit.proofs.Pacing.{row-ranged}
use Rattle.audit.proofs.paces.task_sound.Goals as goal

pub is_ok_and-requires : goal.is_ok_and-requires
is_ok_and-requires c = λ task is _ _ _ _. (c.args.pool.spans.cells, row-ranged _ _ _ _ c.ranged_task.ensures task is)
