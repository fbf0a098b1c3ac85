use Rattle.std.proofs.Common.{rules}
use Rattle.layout.specs.Opens.{open-head}
use Rattle.layout.specs.Parts.{part}
use Rattle.pool.proofs.opening.open.Goals as goal

pub write_control-requires : goal.write_control-requires
unfolding part
write_control-requires c = search (rules, open-head)
