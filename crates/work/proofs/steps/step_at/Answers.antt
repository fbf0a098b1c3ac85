use Rattle.acts.specs.StepPlans.{plan_at}
use Rattle.acts.specs.declared.Refusal.TheVariants as refusal
use Rattle.work.specs.Stepped.{step_at}
use Rattle.work.proofs.Doing.{does_refused}
use Rattle.work.proofs.steps.step_at.Goals as goal

pub returns-in-Idle-clause-words : goal.returns-in-Idle-clause-words
unfolding step_at plan_at
returns-in-Idle-clause-words c = rw c.in-Idle.is (does_refused _ _ refusal.Idle)
