-- The contract of each public function admits one outcome: any two pools and results that it allows are equal.
-- Rests on the contracts' right sides, as the functions state them.
use Rattle.std.specs.Prelude.{ℕ, List, Result, ◌≡◌}
use Rattle.std.proofs.Common.{◌∙◌, ap, sym}
use Rattle.acts.specs.Told.{reply_of, shown_of}
use Rattle.acts.specs.declared.Refusal.{Refusal}
use Rattle.acts.specs.declared.Shown.{Shown}
use Rattle.acts.specs.declared.Told.{Told}
use Rattle.acts.proofs.Replies.{shown_once, told_once}
use Rattle.layout.specs.Calls.{look_cell_in, look_entry_in, look_log_in, look_task_in, look_version_in, release_in, report_in, start_get_in, start_new_in, start_page_in, start_set_in, step_in}
use Rattle.layout.specs.Pool.{open_in}
use Rattle.rulebook.specs.declared.Reply.{Reply}

-- of any two pairs that are f, the parts are equal
pub both : {A B : Type 0} (f : A × B) (w v : A) (r q : B) → (w, r) ≡ f → (v, q) ≡ f → (w ≡ v) × (r ≡ q)
both {A} {B} f w v r q e g = (ap (λ (z : A × B). z.0) (e ∙ sym g), ap (λ (z : A × B). z.1) (e ∙ sym g))

-- what a call leaves and tells, and what a look shows
abbrev Call : List ℕ × Reply → Type 0
Call f = (w v : List ℕ) (r q : Result Told Refusal) → (w, reply_of r) ≡ f → (v, reply_of q) ≡ f → (w ≡ v) × (r ≡ q)

abbrev Look : Reply → Type 0
Look f = (r q : Result Shown Refusal) → shown_of r ≡ f → shown_of q ≡ f → r ≡ q

call : (f : List ℕ × Reply) → Call f
call f w v r q e g =
    let x : (w ≡ v) × (reply_of r ≡ reply_of q) = both f w v (reply_of r) (reply_of q) e g in (x.0, told_once r q x.1)

look : (f : Reply) → Look f
look f r q e g = shown_once r q (e ∙ sym g)

module _ (p : List ℕ) where
  pub open_determined : (n h t : ℕ) → Call (open_in p n h t)
  open_determined n h t = call (open_in p n h t)

  pub start_new_determined : (t v : ℕ) → Call (start_new_in p t v)
  start_new_determined t v = call (start_new_in p t v)

  pub start_get_determined : (t h i : ℕ) → Call (start_get_in p t h i)
  start_get_determined t h i = call (start_get_in p t h i)

  pub start_set_determined : (t h i v : ℕ) → Call (start_set_in p t h i v)
  start_set_determined t h i v = call (start_set_in p t h i v)

  pub start_page_determined : (t h from m : ℕ) → Call (start_page_in p t h from m)
  start_page_determined t h from m = call (start_page_in p t h from m)

  pub step_determined : (t : ℕ) → Call (step_in p t)
  step_determined t = call (step_in p t)

  pub release_determined : (h : ℕ) → Call (release_in p h)
  release_determined h = call (release_in p h)

  pub look_version_determined : (b : ℕ) → Look (look_version_in p b)
  look_version_determined b = look (look_version_in p b)

  pub look_cell_determined : (b i : ℕ) → Look (look_cell_in p b i)
  look_cell_determined b i = look (look_cell_in p b i)

  pub look_log_determined : (b i : ℕ) → Look (look_log_in p b i)
  look_log_determined b i = look (look_log_in p b i)

  pub look_entry_determined : (b i j : ℕ) → Look (look_entry_in p b i j)
  look_entry_determined b i j = look (look_entry_in p b i j)

  pub look_task_determined : (t : ℕ) → Look (look_task_in p t)
  look_task_determined t = look (look_task_in p t)

  pub report_determined : Look (report_in p)
  report_determined = look (report_in p)
