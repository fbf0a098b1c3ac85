use Rattle.std.proofs.Common.{rules}
use Rattle.block.specs.Rooms.{told-reach}
use Rattle.block.proofs.change.find_room.Goals as goal

pub fresh_room-requires : goal.fresh_room-requires
fresh_room-requires c = search (rules, told-reach)

pub held_room-requires : goal.held_room-requires
held_room-requires c = search (rules, told-reach)
