use Rattle.block.specs.Rows.{row-reach}
use Rattle.block.proofs.walk.mark_row.Goals as goal

pub place-place-requires : goal.place-place-requires
place-place-requires c = row-reach c.loop-index.invariant.0 c.loop-index-test.true
