use Rattle.std.proofs.Common.{rules}
use Rattle.survey.proofs.Marking.{marks}
use Rattle.survey.proofs.stands.mark_slot.Goals.{else-is_live-via-then-is_live+else-handle-lt-MOST_BLOCKS, else-is_live-via-else-is_live}
use Rattle.survey.proofs.stands.mark_slot.Goals as goal

pub returns-then-handle-lt-MOST_BLOCKS : goal.returns-then-handle-lt-MOST_BLOCKS
returns-then-handle-lt-MOST_BLOCKS c = search (rules, marks)

pub returns-else-is_live : goal.returns-else-is_live
returns-else-is_live c = elim c.else-is_live.branch [ else-is_live-via-then-is_live+else-handle-lt-MOST_BLOCKS w ↦ search (rules, marks) | else-is_live-via-else-is_live w ↦ search (rules, marks) ]
