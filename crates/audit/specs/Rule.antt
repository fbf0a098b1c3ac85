-- Document 01's number of each rule, and of the first broken one; 0 where none is. Nothing is proved here.
use Rattle.std.specs.Prelude.{ℕ, Result, Ok, Err}
use Rattle.audit.specs.declared.order.Rule.{Rule}
use Rattle.audit.specs.declared.order.Rule.TheVariants as rule

abbrev pub number_of : Rule → ℕ
number_of rule.Header = 1
number_of rule.Handles = 2
number_of rule.Logs = 3
number_of rule.Entries = 4
number_of rule.Numbers = 5
number_of rule.Tasks = 6
number_of rule.Layout = 7

abbrev pub rule_in : Result Unit Rule → ℕ
rule_in (Ok _) = 0
rule_in (Err r) = number_of r
