-- The code of a task's stage alone says whether the task may start.
-- Rests on acts' plans and on what a call sees of a row.
use Rattle.std.specs.Prelude.{ℕ, true, false, List, Result, Ok, Err, ◌≡◌, refl, get_or, if◌then◌else◌}
use Rattle.std.proofs.Common.{◌∙◌, sym, ap}
use Rattle.rulebook.specs.Codes.{is_code, stage_coded}
use Rattle.rulebook.specs.State.{busy}
use Rattle.rulebook.specs.Tests.{by_test}
use Rattle.rulebook.specs.declared.Damaged.{Damaged}
use Rattle.rulebook.specs.declared.Sizes.{Sizes}
use Rattle.rulebook.specs.declared.Stage.{Stage}
use Rattle.acts.specs.Plans.{ready_row}
use Rattle.acts.specs.declared.Refusal.{Refusal}
use Rattle.acts.specs.declared.Refusal.TheVariants as refusal
use Rattle.layout.specs.Places.{task_part}
use Rattle.layout.specs.Pool.{task_seen}
use Rattle.layout.specs.Rows.{task_read, task_seen_of}

abbrev readied : Result Stage Damaged → Result Unit Refusal
readied (Err _) = Err refusal.Damaged
readied (Ok g) = if busy g then Err refusal.Busy else Ok tt

module _ (p : List ℕ) (d : Sizes) (t : ℕ) where
  coded : ready_row (task_seen p d t) ≡ readied (stage_coded (get_or (task_part p d t) 0 0))
  unfolding ready_row task_seen task_seen_of task_read stage_coded
  coded = by_test (is_code (get_or (task_part p d t) 0 0)) (λ o. rw o refl) (λ o. rw o refl)

  module _ (r : Result Stage Damaged) (e : r ≡ stage_coded (get_or (task_part p d t) 0 0)) where
    told : ready_row (task_seen p d t) ≡ readied r
    told = coded ∙ sym (ap readied e)

    pub ready_bad : (f : Damaged) → r ≡ Err f → ready_row (task_seen p d t) ≡ Err refusal.Damaged
    ready_bad f g = told ∙ ap readied g

    pub ready_busy : (g : Stage) → r ≡ Ok g → busy g ≡ true → ready_row (task_seen p d t) ≡ Err refusal.Busy
    ready_busy g h b = told ∙ ap readied h ∙ rw b refl

    pub ready_idle : (g : Stage) → r ≡ Ok g → busy g ≡ false → ready_row (task_seen p d t) ≡ Ok tt
    ready_idle g h b = told ∙ ap readied h ∙ rw b refl

pub ruleset readies = (ready_bad, ready_busy, ready_idle)
