use Rattle.survey.proofs.Walking.{BlocksAt, EntriesAt, LogsAt}
use Rattle.survey.proofs.walk.logs_hold.Given as goal

abbrev pub invariant-walk : goal.invariant-walk
invariant-walk l = BlocksAt l.pool.sizes l.pool.words.now l.block l.kept

abbrev pub invariant-loop-cell : goal.invariant-loop-cell
invariant-loop-cell l = LogsAt l.pool.sizes l.pool.words.now l.block l.version l.marks l.cell l.kept

abbrev pub invariant-loop-index : goal.invariant-loop-index
invariant-loop-index l = EntriesAt l.pool.sizes l.pool.words.now l.block l.version l.cell l.length l.marks l.least l.index l.kept
