use Rattle.std.proofs.Common.{◌≡◌, take, replicate, length}
use Rattle.pool.proofs.opening.clear.Given as goal

-- the words so far are 0
abbrev pub invariant-loop-word : goal.invariant-loop-word
invariant-loop-word l = (take l.word-index l.word-items ≡ replicate l.word-index 0) × (length l.word-items ≡ length l.initial.word-items)
