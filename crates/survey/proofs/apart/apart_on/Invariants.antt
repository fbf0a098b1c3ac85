use Rattle.std.proofs.Common.{◌≡◌, length}
use Rattle.survey.proofs.Meeting.{Down, left}
use Rattle.survey.proofs.apart.apart_on.Given as goal

abbrev pub invariant-loop-slot : goal.invariant-loop-slot
invariant-loop-slot l = (length l.seen ≡ length l.initial.seen) × Down l.pool.sizes l.pool.words.now l.first l.next l.block l.slot l.seen

abbrev pub decreases-loop-slot : goal.decreases-loop-slot
decreases-loop-slot l = left l.slot
