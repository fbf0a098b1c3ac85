use Rattle.std.proofs.Common.{refl}
use Rattle.block.specs.Rows.{rows_start}
use Rattle.block.proofs.walk.laid.Goals as goal

pub loop-cell-init : goal.loop-cell-init
loop-cell-init c = rows_start c.args.cells c.args.block.now c.in-Ok.ensures.sized _ _ refl c.places.ensures.0 c.if-places-bump.false c.places.ensures.1
