use Rattle.std.proofs.Common.{rules}
use Rattle.survey.proofs.Marking.{mark-end}
use Rattle.survey.proofs.stands.mark_stood.Goals as goal

pub returns : goal.returns
returns c = search (rules, mark-end)
