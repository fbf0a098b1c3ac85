use Rattle.audit.proofs.Knowing.{facts_stands}
use Rattle.audit.proofs.facts.facts_at.Goals as goal

pub stage_done-requires : goal.stage_done-requires
stage_done-requires c = facts_stands _ _ c.requires.known c.args.index _ c.raw_task.ensures c.requires.there
