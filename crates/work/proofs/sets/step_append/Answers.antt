use Rattle.std.proofs.Common.{rules}
use Rattle.work.specs.Stepped.{step_at}
use Rattle.acts.specs.StepPlans.{plan_at, appends_entry}
use Rattle.work.proofs.Stages.{goes_err}
use Rattle.work.proofs.sets.step_append.Goals as goal

pub returns-in_err-append_old-clause-words : goal.returns-in_err-append_old-clause-words
unfolding step_at plan_at appends_entry
returns-in_err-append_old-clause-words c = rw (← c.counted-row.ensures) (goes_err _ _ _ _ _ c.append_old.result c.append_old.ensures.words c.in_err-append_old.field-0.0 (search rules) _ (search rules) _ _)
