use Rattle.std.proofs.Common.{rules}
use Rattle.work.specs.Stepped.{step_at}
use Rattle.acts.specs.StepPlans.{plan_at}
use Rattle.work.proofs.Stages.{fill_err, fill_last, finish_bad, finish_done, finish_err}
use Rattle.work.proofs.news.step_fill.Goals as goal

pub returns-in_err-serial-clause-words : goal.returns-in_err-serial-clause-words
unfolding step_at plan_at
returns-in_err-serial-clause-words c = rw (← c.counted-row.ensures) (fill_last _ _ _ _ _ (search rules) (search (rules, finish_bad)))

pub returns-in_err-fill-clause-words : goal.returns-in_err-fill-clause-words
unfolding step_at plan_at
returns-in_err-fill-clause-words c = rw (← c.counted-row.ensures) (fill_last _ _ _ _ _ (search rules) (finish_err _ _ _ _ _ _ _ _ c.in_ok-serial.serial (search rules) _ c.fill.result c.fill.ensures.words c.in_err-fill.field-0.0 (search rules) _ (search rules)))

pub returns-then-next-pool-clause-words : goal.returns-then-next-pool-clause-words
unfolding step_at plan_at
returns-then-next-pool-clause-words c = rw (← c.counted-row.ensures) (fill_last _ _ _ _ _ (search rules) (finish_done _ _ _ _ _ _ _ _ c.in_ok-serial.serial (search rules) _ c.fill.result c.fill.ensures.words _ (search rules) _ (search rules)))

pub returns-in_err-fill-2-clause-words : goal.returns-in_err-fill-2-clause-words
unfolding step_at plan_at
returns-in_err-fill-2-clause-words c = rw (← c.counted-row.ensures) (fill_err _ _ _ _ _ c.fill-2.result c.in_err-fill-2.field-0.0 (search rules) _ (search rules) (search rules) c.fill-2.ensures.words)
