use Rattle.std.proofs.Common.{rules}
use Rattle.survey.proofs.Tallies.{tallies}
use Rattle.survey.proofs.Marking.{told}
use Rattle.survey.proofs.tally.few_entries.Goals as goal

pub entries_of-total-requires : goal.entries_of-total-requires
entries_of-total-requires c = search (rules, tallies, told)

pub returns-then-total-raw_version : goal.returns-then-total-raw_version
returns-then-total-raw_version c = search (rules, tallies, told)

pub returns-else-total-raw_version : goal.returns-else-total-raw_version
returns-else-total-raw_version c = search (rules, tallies, told)
