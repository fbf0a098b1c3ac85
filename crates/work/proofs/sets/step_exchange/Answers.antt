use Rattle.std.proofs.Common.{rules}
use Rattle.work.specs.Stepped.{step_at}
use Rattle.acts.specs.StepPlans.{plan_at}
use Rattle.layout.specs.Pool.{sight}
use Rattle.work.proofs.Stages.{exchange_err, exchange_same, exchange_raised}
use Rattle.work.proofs.sets.step_exchange.Goals as goal

pub returns-in_err-exchange-clause-words : goal.returns-in_err-exchange-clause-words
unfolding step_at plan_at sight
returns-in_err-exchange-clause-words c = rw (← c.counted-row.ensures) (exchange_err _ _ _ _ _ c.exchange.result c.exchange.ensures.answer c.exchange.ensures.words c.in_err-exchange.field-0.0 (search rules) _ (search rules))

pub returns-then-not-branch-clause-words : goal.returns-then-not-branch-clause-words
unfolding step_at plan_at sight
returns-then-not-branch-clause-words c = rw (← c.counted-row.ensures) (exchange_same _ _ _ _ _ c.exchange.result c.exchange.ensures.answer c.exchange.ensures.words (search rules) _ (search rules))

pub returns-clause-words : goal.returns-clause-words
unfolding step_at plan_at sight
returns-clause-words c = rw (← c.counted-row.ensures) (exchange_raised _ _ _ _ _ c.exchange.result c.exchange.ensures.answer c.exchange.ensures.words (search rules) _ (search rules))
