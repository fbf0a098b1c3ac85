use Rattle.std.proofs.Common.{rules}
use Rattle.work.specs.Stepped.{step_at}
use Rattle.acts.specs.StepPlans.{plan_at}
use Rattle.layout.specs.Pool.{sight}
use Rattle.work.proofs.Stages.{copy_err}
use Rattle.work.proofs.sets.step_fill_copy.Goals as goal

pub returns-in_err-fill-clause-words : goal.returns-in_err-fill-clause-words
unfolding step_at plan_at sight
returns-in_err-fill-clause-words c = rw (← c.counted-row.ensures) (copy_err _ _ _ _ _ c.fill.result c.in_err-fill.field-0.0 (search rules) _ (search rules) _ c.answer.result c.answer.ensures c.fill.ensures.words)
