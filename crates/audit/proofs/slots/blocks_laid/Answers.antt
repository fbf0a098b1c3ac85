use Rattle.std.proofs.Common.{rules}
use Rattle.audit.proofs.slots.blocks_laid.Goals as goal

pub all_below-requires : goal.all_below-requires
all_below-requires c κs within = (λ a m. search rules, ((λ index l _ _ _ _ _ _ _ _. (c.requires, l)), (λ index b l e. search rules)))
