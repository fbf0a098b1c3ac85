use Rattle.std.proofs.Common.{◌≡◌, length}
use Rattle.survey.specs.Chains.{ChainedTo}
use Rattle.survey.proofs.apart.chain_slots.Given as goal

abbrev pub invariant-loop-slot : goal.invariant-loop-slot
invariant-loop-slot l = (length l.first ≡ length l.initial.first) × (length l.next ≡ length l.initial.next) × ChainedTo l.pool.sizes l.pool.words.now l.slot l.first l.next
