use Rattle.survey.proofs.Tallies.{TallyAt}
use Rattle.survey.proofs.tally.entries_of.Given as goal

abbrev pub invariant-loop-cell : goal.invariant-loop-cell
invariant-loop-cell l = TallyAt l.pool.sizes l.pool.words.now l.block l.total l.cell
