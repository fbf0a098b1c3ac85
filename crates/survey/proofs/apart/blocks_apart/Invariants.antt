use Rattle.std.proofs.Common.{◌≡◌, length}
use Rattle.survey.proofs.Meeting.{ApartTo}
use Rattle.survey.proofs.apart.blocks_apart.Given as goal

abbrev pub invariant-loop-block : goal.invariant-loop-block
invariant-loop-block l = (length l.seen ≡ length l.initial.seen) × ApartTo l.pool.sizes l.pool.words.now l.block l.seen
