use Rattle.std.proofs.Common.{rules}
use Rattle.work.proofs.Stages.{take_err}
use Rattle.work.proofs.news.step_take.Goals as goal

pub returns-in_err-take-clause-words : goal.returns-in_err-take-clause-words
returns-in_err-take-clause-words c = rw (← c.counted-row.ensures) (take_err _ _ _ _ _ c.take.result c.in_err-take.field-0.0 (search rules) _ (search rules) _ c.in-Some.block (search rules) c.take.ensures.words)
