use Rattle.std.proofs.Common.{rules}
use Rattle.survey.proofs.Chaining.{chain_block, chains}
use Rattle.survey.proofs.apart.chain_slot.Goals as goal

pub bounds-first-block : goal.bounds-first-block
bounds-first-block c = search (rules, chain_block)

pub bounds-first-block-then-is_live : goal.bounds-first-block-then-is_live
bounds-first-block-then-is_live c = search (rules, chain_block)

pub returns-then-is_live : goal.returns-then-is_live
returns-then-is_live c = search (rules, chains)

pub returns-else-is_live : goal.returns-else-is_live
returns-else-is_live c = search (rules, chains)
