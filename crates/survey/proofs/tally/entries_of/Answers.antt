use Rattle.std.proofs.Common.{rules}
use Rattle.survey.proofs.Tallies.{tallies}
use Rattle.survey.proofs.tally.entries_of.Goals as goal

pub returns : goal.returns
returns c = search (rules, tallies)
