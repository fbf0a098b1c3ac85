use Rattle.std.proofs.Common.{arith}
use Rattle.std.proofs.lemmas.Grind.{common_steps}
use Rattle.layout.specs.View.{view_slot_at, view_task_at}
use Rattle.survey.specs.Broken.{fresh_at}
use Rattle.survey.proofs.Holding.{alone_fresh}
use Rattle.survey.specs.Held.{reserved_by}
use Rattle.survey.proofs.holds.fresh_at.Goals.{then-slot-pool, else-slot-pool}
use Rattle.survey.proofs.holds.fresh_at.Goals as goal

pub returns-then-is_reserved : goal.returns-then-is_reserved
unfolding fresh_at reserved_by
returns-then-is_reserved c = elim c.if-slot-pool.branch [ then-slot-pool w ↦ grind (arith, common_steps, view_slot_at, view_task_at, alone_fresh) | else-slot-pool w ↦ grind (arith, common_steps) ]
