use Rattle.std.proofs.Common.{arith}
use Rattle.audit.proofs.Seeking.{candidate_is}
use Rattle.audit.proofs.gets.candidate_holds.Goals as goal
use Rattle.audit.proofs.gets.candidate_holds.Goals.{else-hand-entries, then-hand-entries}

pub returns-then-hand-raw_stamp : goal.returns-then-hand-raw_stamp
returns-then-hand-raw_stamp c = elim c.if-hand-entries.branch [ then-hand-entries w ↦ grind (arith, candidate_is) | else-hand-entries w ↦ grind arith ]
