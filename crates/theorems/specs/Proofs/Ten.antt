-- Refusal 10 ends its task and harms no handle.
-- Rests on what every step keeps.
use Prim.Native.Nat.{◌+◌, ◌<◌, zero-le, ℕ}
use Rattle.std.specs.Prelude.{◌&&◌, true, List, refl, eqb, leb, ltb, get_or, length, set}
use Rattle.std.proofs.Math.Bool.{not}
use Rattle.std.proofs.Common.{◌∙◌, ap, ap₂, arith, length-set}
use Rattle.std.proofs.Math.Path.{◌≡◌}
use Rattle.std.proofs.Math.ListN.{get_or-eq_default}
use Rattle.std.proofs.Math.Seq.{get_or-set_same}
use borrow.Author.Tests.{leb-false, leb-true, ltb-false, ltb-true, not-false}
use Rattle.rulebook.specs.declared.Progress.{Progress}
use Rattle.rulebook.specs.declared.Progress.TheVariants.{Going, Settled}
use Rattle.rulebook.specs.declared.Reading.TheVariants.{Guess}
use Rattle.rulebook.specs.declared.Sizes.{Sizes}
use Rattle.rulebook.specs.declared.Slot.{Slot}
use Rattle.rulebook.specs.declared.Stage.{Stage}
use Rattle.rulebook.specs.declared.Stage.TheVariants.{Append, Copying, Exchange, FillCopy, FillNew, Getting, Idle, Paging, Put, Read, TakeCopy, TakeNew, Write}
use Rattle.rulebook.specs.declared.Status.TheVariants.{Free, Live}
use Rattle.rulebook.specs.declared.Task.{Task}
use Rattle.rulebook.specs.Answers.{refusal}
use Rattle.rulebook.specs.Lists.{list_to-same, lowest-none}
use Rattle.rulebook.specs.Sizes.{serial_of, slot_of}
use Rattle.rulebook.specs.State.{Block, Result, State, block_at, free_block, freed, held, idle, is_live, list_to, live_handle, no_block, slot_at, task_at, with_slot, with_task}
use Rattle.rulebook.specs.Steps.{counted, exchanged, finished, got_copy, got_get, got_page, here_of, no_room, step, step_at, taken}
use Rattle.rulebook.specs.Tests.{by_test, if_case}
use Rattle.theorems.specs.Invariant.Calls.{live_handle_lem}
use Rattle.theorems.specs.Invariant.Moves.{InvS}
use Rattle.theorems.specs.Invariant.Shape.{Shape}
use Rattle.theorems.specs.Invariant.Steps.{inv-step}
use Rattle.theorems.specs.Terms.{Harmless, shown, value_at}

-- ---- refusal 10

-- a slot that was set to one that is free, if it is there at all
slot-freed : (l : List Slot) (j : ℕ) (y : Slot) → y.status ≡ Free → (get_or (set l j y) j (freed 0)).status ≡ Free
slot-freed l j y e =
    by_test (ltb j (length l))
    (λ b. ap (λ (z : Slot). z.status) (get_or-set_same l j y (freed 0) (ltb-true j (length l) b)) ∙ e)
    (λ b. ap (λ (z : Slot). z.status) (get_or-eq_default (set l j y) (freed 0) (omega (arith, ltb-false j (length l) b, length-set l j y))))

-- no block is free, the task is idle afterwards and the slot f free, and blocks and sizes are as they were
pub record Left (s : State) (t f : ℕ) (x : State) : Type 0 where
  pub all_held : (k : ℕ) → k < s.sizes.b → held s k ≡ true
  pub now_idle : task_at x t ≡ idle
  pub now_free : (slot_at x f).status ≡ Free
  pub same_blocks : x.blocks ≡ s.blocks
  pub same_sizes : x.sizes ≡ s.sizes

module _ (s : State) (t : ℕ) (inside : t < length s.tasks) where
  -- where the answer is 10
  abbrev Tens : ℕ → Result → Type 0
  Tens f r = refusal r.1 ≡ 10 → Left s t f r.0

  accepts : {Q : Type 0} → ◌≡◌ {A = ℕ} 0 10 → Q
  accepts e = absurd (omega arith)

  ten-taken : (k : Task) (g : Stage) → Tens k.fresh (taken s t k g)
  unfolding taken no_room with_task with_slot free_block
  ten-taken k g =
      if_case (Tens k.fresh) (leb s.sizes.b (free_block s))
      (λ e q. record {
        all_held = λ j h. not-false (held s j) (lowest-none (λ (k : ℕ). not (held s k)) s.sizes.b 0 j zero-le (omega (arith, h, leb-true s.sizes.b (free_block s) e)));
        now_free = slot-freed s.slots k.fresh _ refl;
        now_idle = get_or-set_same s.tasks t idle idle inside;
        same_blocks = refl;
        same_sizes = refl;
      }) (λ e. accepts)

  ten-got : (q : Progress) (k : Task) → Tens k.fresh (got_get q s t k) × Tens k.fresh (got_page q s t k) × Tens k.fresh (got_copy q s t k)
  unfolding got_get got_page got_copy
  ten-got (Going r w) k = (accepts, accepts, accepts)
  ten-got (Settled w) k = (accepts, if_case (Tens k.fresh) (eqb (w.cell + 1) k.until) (λ e. accepts) (λ e. accepts), accepts)

  ten-at : (g : Stage) (k : Task) → Tens k.fresh (step_at g s t k)
  unfolding step_at finished exchanged
  ten-at Idle k = λ e. absurd (let z : ◌≡◌ {A = ℕ} 6 10 = e in omega arith)
  ten-at (Getting r) k = (ten-got _ k).0
  ten-at (Paging r) k = (ten-got _ k).1
  ten-at Exchange k = if_case (Tens k.fresh) (eqb (here_of s k).version k.number) (λ e. accepts) (λ e. accepts)
  ten-at Read k = accepts
  ten-at Append k = accepts
  ten-at Write k = accepts
  ten-at TakeCopy k = ten-taken k (Copying Guess)
  ten-at (Copying r) k = (ten-got _ k).2
  ten-at FillCopy k = accepts
  ten-at Put k = accepts
  ten-at TakeNew k = ten-taken k FillNew
  ten-at FillNew k = if_case (Tens k.fresh) (eqb (k.hand.cell + 1) s.sizes.n) (λ e. accepts) (λ e. accepts)

ten-step : (s : State) → Shape s → (t : ℕ) → refusal (step s t).1 ≡ 10 → Left s t (task_at s t).fresh (step s t).0
unfolding step counted
ten-step s sh t =
    if_case (λ (r : Result). refusal r.1 ≡ 10 → Left s t (task_at s t).fresh r.0) (leb s.sizes.t t)
    (λ e q. absurd (let z : ◌≡◌ {A = ℕ} 4 10 = q in omega arith))
    (λ e. ten-at s t (omega (arith, leb-false s.sizes.t t e, sh.tasks_len)) (task_at s t).stage (counted (task_at s t)))

-- what the handle h shows is the same in two states in which its slot and its values are
pub shown-same : (s x : State) (h : ℕ) → x.sizes.n ≡ s.sizes.n → slot_at x (slot_of h) ≡ slot_at s (slot_of h)
    → ((i : ℕ) → value_at (block_at x (slot_at s (slot_of h)).block) (slot_at s (slot_of h)).number i ≡ value_at (block_at s (slot_at s (slot_of h)).block) (slot_at s (slot_of h)).number i)
    → shown x h ≡ shown s h
unfolding shown
shown-same s x h n e v =
    ap₂ (λ (m : ℕ) (z : Slot). list_to m (λ (i : ℕ). value_at (block_at x z.block) z.number i)) n e ∙ list_to-same s.sizes.n _ _ (λ i _. v i)

-- where the slots of live handles are as they were
pub ten_harmless : (s : State) → Shape s → (t : ℕ) → ((j : ℕ) → (slot_at s j).status ≡ Live → slot_at (step s t).0 j ≡ slot_at s j)
    → refusal (step s t).1 ≡ 10 → Harmless s t (step s t).0
unfolding live_handle
ten_harmless s sh t same e =
    record {
      all_held = q.all_held;
      is_idle = q.now_idle;
      slot_is_free = q.now_free;
      same_blocks = q.same_blocks;
      still_live = λ h l. ap₂ (λ (z : Sizes) (y : Slot). ltb (slot_of h) z.h && (is_live y.status && eqb y.serial (serial_of h))) q.same_sizes (same (slot_of h) (live_handle_lem s h l).lives) ∙ l;
      still_shows = λ h l. shown-same s _ h (ap (λ (z : Sizes). z.n) q.same_sizes) (same (slot_of h) (live_handle_lem s h l).lives)
          (λ i. ap (λ (bs : List Block). value_at (get_or bs (slot_at s (slot_of h)).block no_block) (slot_at s (slot_of h)).number i) q.same_blocks);
    }
  where
    q : Left s t (task_at s t).fresh (step s t).0
    q = ten-step s sh t e

pub ten_proof : (s : State) → Shape s → InvS s → (t : ℕ) → refusal (step s t).1 ≡ 10 → Harmless s t (step s t).0
ten_proof s sh iv t e = ten_harmless s sh t (λ j l. ((inv-step s sh iv t).1 j l).0) e
