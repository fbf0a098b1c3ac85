-- No call but an accepted open changes the sizes.
-- Rests on the machine's definitions alone.
use Rattle.std.specs.Prelude.{◌+◌, ℕ, ◌||◌, not, ◌≡◌, eqb, leb}
use Rattle.std.proofs.Math.Path.{refl}
use Rattle.std.proofs.Math.Dec.{ltb}
use Rattle.rulebook.specs.declared.Progress.{Progress}
use Rattle.rulebook.specs.declared.Progress.TheVariants.{Going, Settled}
use Rattle.rulebook.specs.declared.Reading.TheVariants.{Guess}
use Rattle.rulebook.specs.declared.Stage.{Stage}
use Rattle.rulebook.specs.declared.Stage.TheVariants.{Append, Copying, Exchange, FillCopy, FillNew, Getting, Idle, Paging, Put, Read, TakeCopy, TakeNew, Write}
use Rattle.rulebook.specs.declared.Task.{Task}
use Rattle.rulebook.specs.Machine.{release}
use Rattle.rulebook.specs.Sizes.{slot_of}
use Rattle.rulebook.specs.Starts.{no_slot, reserve, start_get, start_new, start_page, start_set, startable}
use Rattle.rulebook.specs.State.{Result, State, free_block, in_use, live_handle, task_at, with_block, with_slot, with_task}
use Rattle.rulebook.specs.Steps.{counted, exchanged, filled, finished, got_copy, got_get, got_page, here_of, no_room, step, step_at, taken}
use Rattle.rulebook.specs.Tests.{if_case}

module _ (s : State) where
  abbrev Same-size : Result → Type 0
  Same-size r = r.0.sizes ≡ s.sizes

  sizes-got : (q : Progress) (t : ℕ) (k : Task) → Same-size (got_get q s t k) × Same-size (got_page q s t k) × Same-size (got_copy q s t k)
  unfolding got_get got_page got_copy with_task
  sizes-got (Going r w) t k = (refl, refl, refl)
  sizes-got (Settled w) t k = (refl, if_case Same-size (eqb (w.cell + 1) k.until) (λ _. refl) (λ _. refl), refl)

  sizes-taken : (t : ℕ) (k : Task) (g : Stage) → Same-size (taken s t k g)
  unfolding taken no_room with_task with_slot with_block
  sizes-taken t k g = if_case Same-size (leb s.sizes.b (free_block s)) (λ _. refl) (λ _. refl)

  pub sizes-at : (g : Stage) (t : ℕ) (k : Task) → Same-size (step_at g s t k)
  unfolding step_at finished exchanged filled with_task with_slot with_block
  sizes-at Idle t k = refl
  sizes-at TakeNew t k = sizes-taken t k FillNew
  sizes-at FillNew t k = if_case Same-size (eqb (k.hand.cell + 1) s.sizes.n) (λ _. refl) (λ _. refl)
  sizes-at (Getting r) t k = (sizes-got _ t k).0
  sizes-at Exchange t k = if_case Same-size (eqb (here_of s k).version k.number) (λ _. refl) (λ _. refl)
  sizes-at Read t k = refl
  sizes-at Append t k = refl
  sizes-at Write t k = refl
  sizes-at TakeCopy t k = sizes-taken t k (Copying Guess)
  sizes-at (Copying r) t k = (sizes-got _ t k).2
  sizes-at FillCopy t k = refl
  sizes-at Put t k = refl
  sizes-at (Paging r) t k = (sizes-got _ t k).1

  pub sizes_step : (t : ℕ) → Same-size (step s t)
  unfolding step
  sizes_step t = if_case Same-size (leb s.sizes.t t) (λ _. refl) (λ _. sizes-at (task_at s t).stage t (counted (task_at s t)))

  module _ (t h i : ℕ) where
    pub sizes-new : Same-size (start_new s t i)
    unfolding start_new reserve with_task with_slot
    sizes-new = if_case Same-size (not (eqb (startable s t) 0)) (λ _. refl) (λ _. if_case Same-size (no_slot s) (λ _. refl) (λ _. refl))

    pub sizes-get : Same-size (start_get s t h i)
    unfolding start_get with_task
    sizes-get =
        if_case Same-size (not (eqb (startable s t) 0)) (λ _. refl) (λ _.
        if_case Same-size (not (live_handle s h)) (λ _. refl) (λ _.
        if_case Same-size (leb s.sizes.n i) (λ _. refl) (λ _. refl)))

    pub sizes-set : (v : ℕ) → Same-size (start_set s t h i v)
    unfolding start_set reserve with_task with_slot
    sizes-set v =
        if_case Same-size (not (eqb (startable s t) 0)) (λ _. refl) (λ _.
        if_case Same-size (not (live_handle s h)) (λ _. refl) (λ _.
        if_case Same-size (leb s.sizes.n i) (λ _. refl) (λ _.
        if_case Same-size (no_slot s) (λ _. refl) (λ _. refl))))

    pub sizes-page : (m : ℕ) → Same-size (start_page s t h i m)
    unfolding start_page with_task
    sizes-page m =
        if_case Same-size (not (eqb (startable s t) 0)) (λ _. refl) (λ _.
        if_case Same-size (not (live_handle s h)) (λ _. refl) (λ _.
        if_case Same-size (eqb m 0 || ltb s.sizes.n (i + m)) (λ _. refl) (λ _. refl)))

  pub sizes-release : (h : ℕ) → Same-size (release s h)
  unfolding release with_slot
  sizes-release h =
      if_case Same-size (not (live_handle s h)) (λ _. refl) (λ _. if_case Same-size (in_use s (slot_of h)) (λ _. refl) (λ _. refl))
