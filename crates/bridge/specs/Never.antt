-- The machine refuses with neither 1 nor 2, so on a sound pool no call does: 2 is given only where the check says no.
-- Rests on the machine's definitions and on Bridge.
use Rattle.std.specs.Prelude.{◌+◌, ℕ, ◌||◌, false, not, List, ◌≡◌, eqb, leb, ltb, length, if◌then◌else◌}
use Rattle.std.proofs.Common.{true≢false, ◌∙◌, ap, sym}
use Rattle.std.proofs.Math.Path.{refl}
use Rattle.rulebook.specs.declared.Progress.{Progress}
use Rattle.rulebook.specs.declared.Reply.{Reply}
use Rattle.rulebook.specs.declared.Sizes.{Sizes}
use Rattle.rulebook.specs.declared.Stage.{Stage}
use Rattle.rulebook.specs.declared.Task.{Task}
use Rattle.layout.specs.Pool.{view_of}
use Rattle.rulebook.specs.Answers.{refusal}
use Rattle.rulebook.specs.Machine.{Call, call, look_cell, look_entry, look_log, look_task, look_version, release, report}
use Rattle.rulebook.specs.Sizes.{opens, slot_of, within}
use Rattle.rulebook.specs.Starts.{no_slot, opening, start_get, start_new, start_page, start_set, startable}
use Rattle.rulebook.specs.State.{Result, State, block_at, busy, free_block, in_use, live_handle, log_at, stood, task_at}
use Rattle.rulebook.specs.Steps.{counted, exchanged, finished, got_copy, got_get, got_page, here_of, no_room, step, step_at, taken}
use Rattle.rulebook.specs.Tests.{if_case}
use Rattle.bridge.specs.Asked.{Asked, asked, call_of}
use Rattle.bridge.specs.Bridge.{bridge}
use Rattle.bridge.specs.Sound.{Sound}
use Rattle.rulebook.specs.declared.Progress.TheVariants as progress
use Rattle.rulebook.specs.declared.Reading.TheVariants as reading
use Rattle.rulebook.specs.declared.Reply.TheVariants as reply
use Rattle.rulebook.specs.declared.Stage.TheVariants as stage
use Rattle.rulebook.specs.Machine as machine

-- the refusal number is neither 1 nor 2
abbrev Neither : Reply → Type 0
Neither r = within 1 (refusal r) 2 ≡ false

abbrev Fine : Result → Type 0
Fine x = Neither x.1

module _ (s : State) (t : ℕ) where
  take_fine : (k : Task) (g : Stage) → Fine (taken s t k g)
  unfolding taken no_room
  take_fine k g = if_case Fine (leb s.sizes.b (free_block s)) (λ _. refl) (λ _. refl)

  get_fine : (q : Progress) (k : Task) → Fine (got_get q s t k)
  unfolding got_get
  get_fine (progress.Going r w) k = refl
  get_fine (progress.Settled w) k = refl

  page_fine : (q : Progress) (k : Task) → Fine (got_page q s t k)
  unfolding got_page
  page_fine (progress.Going r w) k = refl
  page_fine (progress.Settled w) k = if_case Fine (eqb (w.cell + 1) k.until) (λ _. refl) (λ _. refl)

  copy_fine : (q : Progress) (k : Task) → Fine (got_copy q s t k)
  unfolding got_copy
  copy_fine (progress.Going r w) k = refl
  copy_fine (progress.Settled w) k = refl

  stage_fine : (g : Stage) (k : Task) → Fine (step_at g s t k)
  unfolding step_at exchanged finished
  stage_fine stage.Idle k = refl
  stage_fine stage.TakeNew k = take_fine k stage.FillNew
  stage_fine stage.FillNew k = if_case Fine (eqb (k.hand.cell + 1) s.sizes.n) (λ _. refl) (λ _. refl)
  stage_fine (stage.Getting r) k = get_fine _ k
  stage_fine stage.Exchange k = if_case Fine (eqb (here_of s k).version k.number) (λ _. refl) (λ _. refl)
  stage_fine stage.Read k = refl
  stage_fine stage.Append k = refl
  stage_fine stage.Write k = refl
  stage_fine stage.TakeCopy k = take_fine k (stage.Copying reading.Guess)
  stage_fine (stage.Copying r) k = copy_fine _ k
  stage_fine stage.FillCopy k = refl
  stage_fine stage.Put k = refl
  stage_fine (stage.Paging r) k = page_fine _ k

  start_fine : (x : Result) → Fine x → Fine (if not (eqb (startable s t) 0) then (s, reply.Refused (startable s t)) else x)
  unfolding startable
  start_fine x h =
      if_case Fine (not (eqb (startable s t) 0))
      (λ _. if_case (λ (n : ℕ). Neither (reply.Refused n)) (leb s.sizes.t t) (λ _. refl) (λ _. if_case (λ (n : ℕ). Neither (reply.Refused n)) (busy (task_at s t).stage) (λ _. refl) (λ _. refl)))
      (λ _. h)

call_fine : (c : Call) (s : State) → Fine (call c s)
unfolding call opening start_new start_get start_set start_page step release look_version look_cell look_log look_entry look_task report
call_fine (machine.Open n h t words lie) s = if_case Fine (opens n h t words) (λ _. refl) (λ _. refl)
call_fine (machine.New t v) s = start_fine s t _ (if_case Fine (no_slot s) (λ _. refl) (λ _. refl))
call_fine (machine.Get t h i) s =
    start_fine s t _ (if_case Fine (not (live_handle s h)) (λ _. refl) (λ _. if_case Fine (leb s.sizes.n i) (λ _. refl) (λ _. refl)))
call_fine (machine.Set t h i v) s =
    start_fine s t _ (if_case Fine (not (live_handle s h)) (λ _. refl) (λ _. if_case Fine (leb s.sizes.n i) (λ _. refl) (λ _. if_case Fine (no_slot s) (λ _. refl) (λ _. refl))))
call_fine (machine.Page t h from m) s =
    start_fine s t _ (if_case Fine (not (live_handle s h)) (λ _. refl) (λ _. if_case Fine (eqb m 0 || ltb s.sizes.n (from + m)) (λ _. refl) (λ _. refl)))
call_fine (machine.Step t) s = if_case Fine (leb s.sizes.t t) (λ _. refl) (λ _. stage_fine s t (task_at s t).stage (counted (task_at s t)))
call_fine (machine.Release h) s = if_case Fine (not (live_handle s h)) (λ _. refl) (λ _. if_case Fine (in_use s (slot_of h)) (λ _. refl) (λ _. refl))
call_fine (machine.LookVersion b) s = if_case Neither (not (stood s b)) (λ _. refl) (λ _. refl)
call_fine (machine.LookCell b i) s = if_case Neither (not (stood s b) || leb s.sizes.n i) (λ _. refl) (λ _. refl)
call_fine (machine.LookLog b i) s = if_case Neither (not (stood s b) || leb s.sizes.n i) (λ _. refl) (λ _. refl)
call_fine (machine.LookEntry b i j) s =
    if_case Neither (not (stood s b) || (leb s.sizes.n i || leb (length (log_at (block_at s b) i)) j)) (λ _. refl) (λ _. refl)
call_fine (machine.LookTask t) s = if_case Neither (leb s.sizes.t t) (λ _. refl) (λ _. refl)
call_fine machine.Report s = refl

-- on a sound pool no call is refused with 1 or 2
pub never : (x : Asked) {d : Sizes} {p : List ℕ} → Sound d p → (refusal (asked x p).1 ≡ 1 → ⊥) × (refusal (asked x p).1 ≡ 2 → ⊥)
never x {d} {p} S =
    let fine : within 1 (refusal (asked x p).1) 2 ≡ false = ap (λ (r : Reply). within 1 (refusal r) 2) (bridge x S).reply ∙ call_fine (call_of x p) (view_of d p) in
    (λ e. true≢false (ap (λ (n : ℕ). within 1 n 2) (sym e) ∙ fine), λ e. true≢false (ap (λ (n : ℕ). within 1 n 2) (sym e) ∙ fine))
