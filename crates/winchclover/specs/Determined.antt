-- The contract of each C function admits one outcome: any two pools, answer slices and numbers that it allows are equal.
-- Rests on the contracts' right sides, as the functions state them, and on the store's lemma.
use Rattle.std.specs.Prelude.{ℕ, List, ◌≡◌}
use Rattle.survey.specs.Broken.{broken_in}
use Rattle.layout.specs.Calls.{look_cell_in, look_entry_in, look_log_in, look_task_in, look_version_in, release_in, report_in, start_get_in, start_new_in, start_page_in, start_set_in, step_in}
use Rattle.layout.specs.Pool.{open_in}
use Rattle.store.specs.Determined.{both}
use Rattle.winchclover.specs.Answered.{answered_in, shown_in}
use Rattle.rulebook.specs.declared.Reply.TheVariants as reply

-- pool and answer slice, and the number
abbrev Call : (List ℕ × List ℕ) × ℕ → Type 0
Call f = (w v : List ℕ × List ℕ) (n m : ℕ) → (w, n) ≡ f → (v, m) ≡ f → (w ≡ v) × (n ≡ m)

-- the answer slice and the number
abbrev Look : List ℕ × ℕ → Type 0
Look f = (o q : List ℕ) (n m : ℕ) → (o, n) ≡ f → (q, m) ≡ f → (o ≡ q) × (n ≡ m)

module _ (p a : List ℕ) where
  pub open_determined : (n h t : ℕ) → Call (answered_in (λ p. open_in p n h t) p a)
  open_determined n h t = both (answered_in (λ p. open_in p n h t) p a)

  pub start_new_determined : (t v : ℕ) → Call (answered_in (λ p. start_new_in p t v) p a)
  start_new_determined t v = both (answered_in (λ p. start_new_in p t v) p a)

  pub start_get_determined : (t h i : ℕ) → Call (answered_in (λ p. start_get_in p t h i) p a)
  start_get_determined t h i = both (answered_in (λ p. start_get_in p t h i) p a)

  pub start_set_determined : (t h i v : ℕ) → Call (answered_in (λ p. start_set_in p t h i v) p a)
  start_set_determined t h i v = both (answered_in (λ p. start_set_in p t h i v) p a)

  pub start_page_determined : (t h from m : ℕ) → Call (answered_in (λ p. start_page_in p t h from m) p a)
  start_page_determined t h from m = both (answered_in (λ p. start_page_in p t h from m) p a)

  pub step_determined : (t : ℕ) → Call (answered_in (λ p. step_in p t) p a)
  step_determined t = both (answered_in (λ p. step_in p t) p a)

  pub release_determined : (h : ℕ) → Call (answered_in (λ p. release_in p h) p a)
  release_determined h = both (answered_in (λ p. release_in p h) p a)

  pub look_version_determined : (b : ℕ) → Look (shown_in (λ p. look_version_in p b) p a)
  look_version_determined b = both (shown_in (λ p. look_version_in p b) p a)

  pub look_cell_determined : (b i : ℕ) → Look (shown_in (λ p. look_cell_in p b i) p a)
  look_cell_determined b i = both (shown_in (λ p. look_cell_in p b i) p a)

  pub look_log_determined : (b i : ℕ) → Look (shown_in (λ p. look_log_in p b i) p a)
  look_log_determined b i = both (shown_in (λ p. look_log_in p b i) p a)

  pub look_entry_determined : (b i j : ℕ) → Look (shown_in (λ p. look_entry_in p b i j) p a)
  look_entry_determined b i j = both (shown_in (λ p. look_entry_in p b i j) p a)

  pub look_task_determined : (t : ℕ) → Look (shown_in (λ p. look_task_in p t) p a)
  look_task_determined t = both (shown_in (λ p. look_task_in p t) p a)

  pub report_determined : Look (shown_in report_in p a)
  report_determined = both (shown_in report_in p a)

  pub check_determined : Look (shown_in (λ p. reply.Shown (broken_in p)) p a)
  check_determined = both (shown_in (λ p. reply.Shown (broken_in p)) p a)
