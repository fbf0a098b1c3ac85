use Rattle.std.proofs.Common.{◌≡◌, length}
use Rattle.survey.specs.Stands.{MarkedTo}
use Rattle.survey.proofs.stands.mark_stood.Given as goal

abbrev pub invariant-loop-slot : goal.invariant-loop-slot
invariant-loop-slot l = (length l.marks ≡ length l.initial.marks) × MarkedTo l.pool.sizes l.pool.words.now l.slot l.marks
