use Rattle.std.proofs.Common.{rules}
use Rattle.survey.proofs.Chaining.{chain_start}
use Rattle.survey.proofs.Meeting.{unmet-start}
use Rattle.survey.proofs.apart.all_apart.Goals as goal

pub chain_slots-requires : goal.chain_slots-requires
chain_slots-requires c = search (rules, chain_start)

pub blocks_apart-requires : goal.blocks_apart-requires
blocks_apart-requires c = search (rules, unmet-start)
