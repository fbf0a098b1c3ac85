use Rattle.std.proofs.Common.{arith}
use Rattle.audit.proofs.Sounding.{writer-is}
use Rattle.audit.proofs.writers.writer_at.Goals as goal

pub returns-then-alone : goal.returns-then-alone
returns-then-alone c =
    grind (arith, writer-is _ _ _ _ c.raw_task-writer.ensures c.requires.there c.requires.paced _ c.written_by.ensures _ c.in-Some.is _ c.raw_version.ensures)

pub returns-else-alone : goal.returns-else-alone
returns-else-alone c =
    grind (arith, writer-is _ _ _ _ c.raw_task-writer.ensures c.requires.there c.requires.paced _ c.written_by.ensures _ c.in-Some.is _ c.raw_version.ensures)
