-- Demand 3: what the steps of a kept store cost, counted in the calls themselves.
-- Rests on Two and the machine's theorems.
use Rattle.std.specs.Prelude.{◌<◌, ◌≤◌, ℕ, true, ◌≡◌}
use Rattle.rulebook.specs.Answers.{operation}
use Rattle.rulebook.specs.History.{Ended, Past, sets_bound, work_code}
use Rattle.rulebook.specs.State.{busy, task_at}
use Rattle.theorems.proofs.Demands as theorems
use Rattle.theorems.specs.Terms.{Every, Spent, price}
use Rattle.promises.specs.Promises.{BusyBelow, Kept, Priced, SetsBound, StepsCounted, StepsExact, machine_calls, machine_first}
use Rattle.promises.proofs.Two.{as_noted, first-opened}
use Rattle.promises.specs.Said.{spoken}

module _ (k : Kept spoken) where
  pub sets_bounded : SetsBound spoken k
  sets_bounded =
      as_noted k (λ (y : Past). y.set_steps ≤ sets_bound y.store.sizes.n y.firsts y.laters) (theorems.all_sets (machine_first spoken k) (first-opened k) (machine_calls spoken k))

  pub priced : Priced spoken k
  priced =
      as_noted k (λ (y : Past). Every (λ (e : Ended). e.told ≤ price y.store.sizes.n e.work) y.ends) (theorems.priced (machine_first spoken k) (first-opened k) (machine_calls spoken k))

  pub busy_below : BusyBelow spoken k
  busy_below =
      as_noted k (λ (y : Past). (t : ℕ) → busy (task_at y.store t).stage ≡ true → y.counts t < price y.store.sizes.n (y.works t))
      (theorems.busy_below (machine_first spoken k) (first-opened k) (machine_calls spoken k))

  pub steps_counted : StepsCounted spoken k
  steps_counted = as_noted k (λ (y : Past). Every (λ (e : Ended). e.told ≡ e.counted) y.ends) (theorems.steps (machine_first spoken k) (first-opened k) (machine_calls spoken k))

  pub steps_exact : StepsExact spoken k
  steps_exact =
      as_noted k
      (λ (y : Past). Every (λ (e : Ended). (operation e.last ≡ work_code e.work) × Spent y.store.sizes.n e.last e.told e.probes) y.ends)
      (theorems.spent (machine_first spoken k) (first-opened k) (machine_calls spoken k))
