use Rattle.std.proofs.Common.{rules}
use Rattle.survey.proofs.Marking.{mark-start}
use Rattle.audit.proofs.order.check.Goals as goal

pub mark_stood-requires : goal.mark_stood-requires
mark_stood-requires c = search (rules, mark-start)
