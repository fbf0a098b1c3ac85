use Rattle.std.proofs.Common.{rules}
use Rattle.block.specs.Rooms.{told-reach}
use Rattle.block.proofs.entry.Goals as goal

pub place-place-requires : goal.place-place-requires
place-place-requires c = search (rules, told-reach)
