-- The code that was read of a task's row: what the step of its stage does is what the plan of a step does.
-- Rests on Stepped.
use Rattle.work.specs.Stepped.{step_at, task_up}
use Rattle.work.proofs.Doing.{does_refused}
use Rattle.layout.specs.Pool.{applied_in}
use Rattle.rulebook.specs.Codes.{stage_coded}
use Rattle.acts.specs.declared.Refusal.TheVariants as refusal
use Rattle.std.specs.Prelude.{◌<◌, ◌≤◌, ℕ, List, ◌≡◌, get_or, if◌then◌else◌, Err, None, Ok, Result, Some}
use Rattle.std.proofs.Common.{arith, ◌∙◌, sym}
use Rattle.std.proofs.Math.Path.{ap, refl}
use Rattle.std.proofs.Math.Dec.{eqb}
use borrow.Author.Tests.{le-leb, lt-leb}
use Rattle.acts.specs.Acts.{Act, Found}
use Rattle.acts.specs.declared.Reader.{Reader}
use Rattle.acts.specs.Touch.{Touch}
use Rattle.rulebook.specs.declared.Reading.{Reading}
use Rattle.rulebook.specs.declared.Sizes.{Sizes}
use Rattle.rulebook.specs.declared.Stage.{Stage}
use Rattle.rulebook.specs.declared.Task.{Task}
use Rattle.acts.specs.Plans.{after, free_in, goes, ticked}
use Rattle.acts.specs.StepPlans.{appends_entry, copy_goes, exchanges_on, fills_copy, fills_new, finishes, get_goes, gives_up, goes_on, page_goes, page_settles, plan_at, plan_row, plan_step, puts, read_in, reads_old, takes, writes_new}
use Rattle.acts.specs.Sight.{Sight}
use Rattle.layout.specs.Places.{task_part}
use Rattle.layout.specs.Pool.{sight, task_seen}
use Rattle.rulebook.specs.Codes.{is_code, stage_from}
use Rattle.layout.specs.Rows.{task_read, task_seen_of}
use Rattle.rulebook.specs.State.{hand_of}
use Rattle.rulebook.specs.Steps.{moved}
use Rattle.rulebook.specs.Tests.{by_test}
use Rattle.acts.specs.declared.Reader.TheVariants as reader
use Rattle.acts.specs.Touch as touch
use Rattle.rulebook.specs.declared.Progress.TheVariants as progress
use Rattle.rulebook.specs.declared.Reading.TheVariants as reading
use Rattle.rulebook.specs.declared.Reply.TheVariants as reply
use Rattle.rulebook.specs.declared.Stage.TheVariants as stage
use Rattle.rulebook.specs.declared.Damaged.{Damaged}
use Rattle.rulebook.specs.declared.Slot.{Slot}
use Rattle.rulebook.specs.declared.Progress.{Progress}
use Rattle.rulebook.specs.declared.Reply.{Reply}
use Rattle.rulebook.specs.Codes.{damaged}

-- ---- a stage does not ask what stage the task has

module _ (e : Sight) (t : ℕ) (k : Task) (h : Stage) where
  -- the same task at stage h
  abbrev again : Task
  again = record { stage = h; slot = k.slot; block = k.block; number = k.number; cell = k.cell; value = k.value; until = k.until; fresh = k.fresh; target = k.target; hand = k.hand; steps = k.steps }

  any_reads : (o : Reader) (x : Result Progress Damaged) → goes_on o x t k ≡ goes_on o x t again
  unfolding goes_on get_goes copy_goes page_goes page_settles moved
  any_reads reader.Get (Err _) = refl
  any_reads reader.Get (Ok (progress.Going r w)) = refl
  any_reads reader.Get (Ok (progress.Settled w)) = refl
  any_reads reader.Copy (Err _) = refl
  any_reads reader.Copy (Ok (progress.Going r w)) = refl
  any_reads reader.Copy (Ok (progress.Settled w)) = refl
  any_reads reader.Page (Err _) = refl
  any_reads reader.Page (Ok (progress.Going r w)) = refl
  any_reads reader.Page (Ok (progress.Settled w)) = refl

  any_read_in : (r : Reading) → read_in r e k ≡ read_in r e again
  unfolding read_in
  any_read_in reading.Guess = refl
  any_read_in reading.Version = refl
  any_read_in reading.Length = refl
  any_read_in reading.Probe = refl

  any_finishes : (y : Result Slot Damaged) (x : Touch) (b l : ℕ) → finishes y x t k b l ≡ finishes y x t again b l
  unfolding finishes
  any_finishes (Err _) x b l = refl
  any_finishes (Ok y) x b l = refl

  any_gives : (y : Result Slot Damaged) → gives_up y t k ≡ gives_up y t again
  unfolding gives_up
  any_gives (Err _) = refl
  any_gives (Ok y) = refl

  any_takes : (x : Found) (g : Stage) → takes x e t k g ≡ takes x e t again g
  unfolding takes moved
  any_takes (Err _) g = refl
  any_takes (Ok (Some b)) g = refl
  any_takes (Ok None) g = any_gives (e.slot k.fresh)

  any_exchanges : (x : Result ℕ Damaged) (n : ℕ) → exchanges_on x n t k ≡ exchanges_on x n t again
  unfolding exchanges_on moved
  any_exchanges (Err _) n = refl
  any_exchanges (Ok v) n = refl

  any_old : (x : Result ℕ Damaged) → reads_old x t k ≡ reads_old x t again
  unfolding reads_old moved
  any_old (Err _) = refl
  any_old (Ok v) = refl

  any_reading : (o : Reader) (r : Reading) → goes_on o (read_in r e k) t k ≡ goes_on o (read_in r e again) t again
  any_reading o r = any_reads o (read_in r e k) ∙ ap (λ (x : Result Progress Damaged). goes_on o x t again) (any_read_in r)

  pub plan_any : (g : Stage) → plan_at g e t k ≡ plan_at g e t again
  unfolding plan_at fills_new appends_entry writes_new fills_copy puts moved
  plan_any stage.Idle = refl
  plan_any stage.TakeNew = any_takes (free_in e) stage.FillNew
  plan_any stage.FillNew =
      ap (λ (a : Act). if eqb (after k.hand.cell) e.sizes.n then a else goes (touch.Fill k.target k.hand.cell k.value) t (moved k stage.FillNew (hand_of (after k.hand.cell))) reply.Quiet)
      (any_finishes (e.slot k.fresh) (touch.Fill k.target k.hand.cell k.value) k.target 0)
  plan_any (stage.Getting r) = unfold goes_on in any_reading reader.Get r
  plan_any stage.Exchange = any_exchanges (e.version k.block) e.sizes.n
  plan_any stage.Read = any_old (e.cell k.block k.cell)
  plan_any stage.Append = refl
  plan_any stage.Write = any_finishes (e.slot k.fresh) (touch.Write k.block k.cell k.value) k.block (after k.number)
  plan_any stage.TakeCopy = any_takes (free_in e) (stage.Copying reading.Guess)
  plan_any (stage.Copying r) = unfold goes_on in any_reading reader.Copy r
  plan_any stage.FillCopy = refl
  plan_any stage.Put = any_finishes (e.slot k.fresh) (touch.Fill k.target k.cell k.value) k.target 0
  plan_any (stage.Paging r) = unfold goes_on in any_reading reader.Page r

-- ---- the code that was read

module _ (p : List ℕ) (d : Sizes) (t : ℕ) (l : t < d.t) where
  -- the task of the row goes up, at its stage
  up_as : (g : Stage) → plan_at g (sight p d) t (ticked (task_read (task_part p d t))) ≡ plan_at g (sight p d) t (task_up p d t)
  unfolding task_read task_up ticked
  up_as g = plan_any (sight p d) t (ticked (task_read (task_part p d t))) stage.Idle g

  -- no stage has the code: 2
  pub step_bad : (r : Result Stage Damaged) → r ≡ stage_coded (get_or (task_part p d t) 0 0) → r ≡ Err damaged → (p, reply.Refused 2) ≡ applied_in p d (plan_step (sight p d) t)
  unfolding stage_coded plan_step plan_row sight task_seen task_seen_of
  step_bad r e f =
      rw (lt-leb d.t t l)
      (by_test (is_code (get_or (task_part p d t) 0 0))
      (λ o. let q : ◌≡◌ {A = Result Stage Damaged} (Ok (stage_from (get_or (task_part p d t) 0 0))) (Err damaged) = (rw o at (sym e ∙ f)) in let z : ◌≡◌ {A = ℕ} 0 1 = cc in absurd (omega arith))
      (λ o. rw o (does_refused p d refusal.Damaged)))

  -- the stage whose code it is
  pub step_as : (r : Result Stage Damaged) (g : Stage) (z : List ℕ × Reply) → r ≡ stage_coded (get_or (task_part p d t) 0 0) → r ≡ Ok g → z ≡ step_at p d t g → z ≡ applied_in p d (plan_step (sight p d) t)
  unfolding stage_coded plan_step plan_row sight task_seen task_seen_of step_at
  step_as r g z e f h =
      h ∙ rw (lt-leb d.t t l)
      (by_test (is_code (get_or (task_part p d t) 0 0))
      (λ o. let q : ◌≡◌ {A = Result Stage Damaged} (Ok (stage_from (get_or (task_part p d t) 0 0))) (Ok g) = (rw o at (sym e ∙ f)) in
      let y : stage_from (get_or (task_part p d t) 0 0) ≡ g = cc in
      rw o (ap (λ (x : Stage). applied_in p d (plan_at x (sight p d) t (task_up p d t))) (sym y) ∙ ap (applied_in p d) (sym (up_as (stage_from (get_or (task_part p d t) 0 0))) ∙ (unfold task_read in refl))))
      (λ o. let q : ◌≡◌ {A = Result Stage Damaged} (Err damaged) (Ok g) = (rw o at (sym e ∙ f)) in let z : ◌≡◌ {A = ℕ} 0 1 = cc in absurd (omega arith)))

-- there is no such task: 4
pub step_away : (p : List ℕ) (d : Sizes) (t : ℕ) → d.t ≤ t → (p, reply.Refused 4) ≡ applied_in p d (plan_step (sight p d) t)
unfolding plan_step sight
step_away p d t l = rw (le-leb d.t t l) (does_refused p d refusal.NoTask)

pub ruleset steps = (step_away, step_bad, step_as)
