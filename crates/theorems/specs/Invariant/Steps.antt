-- Every step of a task keeps the invariant, and what the live handles see.
-- Rests on Readings, Sets and Fills.
use Rattle.std.specs.Prelude.{◌<◌, ℕ, ◌≡◌, leb}
use Rattle.std.proofs.Math.Path.{refl}
use Rattle.std.proofs.Common.{leb-false}
use Rattle.rulebook.specs.declared.Reading.TheVariants.{Guess}
use Rattle.rulebook.specs.declared.Stage.{Stage}
use Rattle.rulebook.specs.declared.Stage.TheVariants.{Append, Copying, Exchange, FillCopy, FillNew, Getting, Idle, Paging, Put, Read, TakeCopy, TakeNew, Write}
use Rattle.rulebook.specs.State.{Result, State, task_at}
use Rattle.rulebook.specs.Steps.{counted, step, step_at}
use Rattle.rulebook.specs.Tests.{if_case}
use Rattle.theorems.specs.Invariant.Fills.{stage_copy-write, stage_fill, stage_put, stage_take-copy, stage_take-new}
use Rattle.theorems.specs.Invariant.Moves.{Goes, InvS, apart_keep, same_refl}
use Rattle.theorems.specs.Invariant.Readings.{got_copy_lem, got_get_lem, got_page_lem, my_apart, my_ok, read-on}
use Rattle.theorems.specs.Invariant.Sets.{stage_append, stage_exchange, stage_read, stage_write}
use Rattle.theorems.specs.Invariant.Shape.{Shape}

module _ (s : State) (sh : Shape s) (iv : InvS s) (t : ℕ) (in_t : t < s.sizes.t) where
  -- ---- every stage

  pub inv-step_at : (g : Stage) → (task_at s t).stage ≡ g → Goes s (step_at g s t (counted (task_at s t))).0
  unfolding step_at counted
  inv-step_at Idle e = (iv, same_refl s)
  inv-step_at (Getting r) e = let h = my_ok s sh iv t in_t (Getting r) e in got_get_lem s sh iv t in_t _ r e h.1.in_n h.0 (read-on s sh iv t in_t r h.0 h.1)
  inv-step_at (Paging r) e =
      let h = my_ok s sh iv t in_t (Paging r) e in
      got_page_lem s sh iv t in_t _ r e (h.0, record { in_n = h.1.in_n; good = tt }, h.2, h.3) h.1.in_n (read-on s sh iv t in_t r h.0 h.1)
  inv-step_at Exchange e = stage_exchange s sh iv t in_t e
  inv-step_at Read e = stage_read s sh iv t in_t e
  inv-step_at Append e = stage_append s sh iv t in_t e
  inv-step_at Write e = stage_write s sh iv t in_t e
  inv-step_at TakeCopy e = stage_take-copy s sh iv t in_t e
  inv-step_at (Copying r) e =
      let h = my_ok s sh iv t in_t (Copying r) e in
      got_copy_lem s sh iv t in_t _ (λ q x. (h.0, h.1, h.2, h.3, h.4, x, h.6)) (λ u d. apart_keep (Copying r) (Copying Guess) _ (task_at s t) _ _ refl refl refl (λ p. p) (λ p. p) (λ p. p) (my_apart s sh iv t in_t (Copying r) e u d)) h.5.in_n (read-on s sh iv t in_t r h.0 h.5)
  inv-step_at FillCopy e = stage_copy-write s sh iv t in_t e
  inv-step_at Put e = stage_put s sh iv t in_t e
  inv-step_at TakeNew e = stage_take-new s sh iv t in_t e
  inv-step_at FillNew e = stage_fill s sh iv t in_t e

-- a step keeps the invariant
pub inv-step : (s : State) → Shape s → InvS s → (t : ℕ) → Goes s (step s t).0
unfolding step
inv-step s sh iv t =
    if_case (λ (x : Result). Goes s x.0) (leb s.sizes.t t) (λ e. (iv, same_refl s)) (λ e. inv-step_at s sh iv t (leb-false s.sizes.t t e) (task_at s t).stage refl)
