use Rattle.std.proofs.Common.{rules}
use Rattle.work.specs.Stepped.{step_at}
use Rattle.acts.specs.StepPlans.{plan_at, writes_new}
use Rattle.layout.specs.Pool.{sight}
use Rattle.work.proofs.Stages.{finish_bad, finish_err, finish_done}
use Rattle.work.proofs.sets.step_write.Goals as goal

pub returns-in_err-serial-clause-words : goal.returns-in_err-serial-clause-words
unfolding step_at plan_at writes_new sight
returns-in_err-serial-clause-words c = search (rules, finish_bad)

pub returns-in_err-write-clause-words : goal.returns-in_err-write-clause-words
unfolding step_at plan_at writes_new sight
returns-in_err-write-clause-words c = rw (← c.counted-row.ensures) (finish_err _ _ _ _ _ _ _ _ c.in_ok-serial.serial (search rules) _ c.write.result c.write.ensures.words c.in_err-write.field-0.0 (search rules) _ (search rules))

pub returns-clause-words : goal.returns-clause-words
unfolding step_at plan_at writes_new sight
returns-clause-words c = rw (← c.counted-row.ensures) (finish_done _ _ _ _ _ _ _ _ c.in_ok-serial.serial (search rules) _ c.write.result c.write.ensures.words _ (search rules) _ (search rules))
