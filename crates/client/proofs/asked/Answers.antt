use Rattle.std.proofs.Common.{rules}
use Rattle.client.proofs.asked.Goals as goal

pub returns-in_default : goal.returns-in_default
returns-in_default g c = (c.call.result, c.call.new.arg2, search rules, search rules)
