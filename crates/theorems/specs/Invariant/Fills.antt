-- The steps that take a block and fill it keep the invariant.
-- Rests on Readings and Sets.
use Rattle.std.specs.Prelude.{◌+◌, ◌<◌, ℕ, true, ◌≡◌, eqb, leb}
use Rattle.std.proofs.Math.Bool.{false}
use Rattle.std.proofs.lemmas.Bool.{false≢true}
use mathlib.Core.List.{[]}
use Rattle.std.proofs.Common.{◌∙◌, sym, not-suc-le-zero, arith}
use Rattle.std.proofs.Math.Path.{ap, refl, subst}
use Rattle.std.proofs.Math.ListN.{length, length-set}
use Rattle.std.proofs.Math.Seq.{get_or-set_other, get_or-set_same}
use borrow.Author.Tests.{eqb-false, eqb-true, leb-false}
use Rattle.rulebook.specs.declared.Reading.TheVariants.{Guess}
use Rattle.rulebook.specs.declared.Slot.{Slot}
use Rattle.rulebook.specs.declared.Stage.{Stage}
use Rattle.rulebook.specs.declared.Stage.TheVariants.{Copying, FillCopy, FillNew, Idle, Put, TakeCopy, TakeNew}
use Rattle.rulebook.specs.declared.Status.TheVariants.{Live, Reserved}
use Rattle.rulebook.specs.declared.Task.{Task}
use Rattle.rulebook.specs.State.{Block, Result, State, block_at, fills, free_block, freed, hand_of, held, idle, names, reserves, slot_at, task_at, with_block, with_cell, with_log, with_slot, with_task, with_version, writes}
use Rattle.rulebook.specs.Steps.{aimed, answer, counted, filled, finished, here_of, moved, no_room, step_at, taken}
use Rattle.rulebook.specs.Tests.{by_test, if_case}
use Rattle.theorems.specs.Invariant.Blocks.{free≢live, free≢reserved, holds-put, holds-write, live≢reserved, no_flags, stands-filled}
use Rattle.theorems.specs.Invariant.Facts.{no-filler, no-stander, not_held, ok-fresh}
use Rattle.theorems.specs.Invariant.Moves.{Carries, Goes, InvS, Owned, apart_keep, frame_same, frame-slot, inv_move, owned_ended, unique-dead}
use Rattle.theorems.specs.Invariant.Readings.{Ok, Others, block_too, in_tasks, my_apart, my_ok, other_block, same_block, u_named, u_writer, wide_at}
use Rattle.theorems.specs.Invariant.Sets.{finish_too}
use Rattle.theorems.specs.Invariant.Shape.{Shape}
use Rattle.theorems.specs.Invariant.Tasks.{Copied, Filler, Fresh, Holds, Named, OkAt, Stands}
use Rattle.theorems.specs.Terms.{value_at}

module _ (s : State) (sh : Shape s) (iv : InvS s) (t : ℕ) (in_t : t < s.sizes.t) where
  -- ---- slots alone

  -- the task moves to k, and the slot f, which nobody else uses, becomes y, which is not live
  pub slot_too : (f : ℕ) (y : Slot) (k : Task) → (y.status ≡ Live → ⊥) → ((slot_at s f).status ≡ Live → ⊥) → f < s.sizes.h
      → OkAt s.sizes.n s.sizes.h s.sizes.b k.stage (slot_at (with_slot s f y)) (block_at s) k
      → ((u : ℕ) → (u ≡ t → ⊥) → names (task_at s u).stage ≡ true → (task_at s u).slot ≡ f → ⊥)
      → ((u : ℕ) → (u ≡ t → ⊥) → reserves (task_at s u).stage ≡ true → (task_at s u).fresh ≡ f → ⊥)
      → Others s sh iv t in_t k.stage k
      → ((j : ℕ) → (slot_at (with_slot s f y) j).status ≡ Reserved → Owned (task_at (with_task s t k)) j)
      → Goes s (with_task (with_slot s f y) t k)
  unfolding with_task with_slot
  slot_too f y k dead was in_h own no_name no-fresh apart owners = (
    inv_move s.sizes.n s.sizes.h s.sizes.b (slot_at s) (slot_at (with_slot s f y)) (task_at s) (task_at (with_task s t k)) (block_at s) (block_at s) t k iv
        (get_or-set_same s.tasks t k idle (in_tasks s sh iv t in_t))
        (λ u d. get_or-set_other s.tasks t u k idle d)
        (λ j l. by_test (eqb j f)
        (λ e. absurd (dead (ap (λ (z : Slot). z.status) (sym (ap (λ (c : ℕ). slot_at (with_slot s f y) c) (eqb-true j f e) ∙ mine)) ∙ l)))
        (λ e. subst (λ (z : Slot). Stands s.sizes.n s.sizes.b (block_at s) z.block z.number) (sym (others j (eqb-false j f e)))
        (iv.stands j (ap (λ (z : Slot). z.status) (sym (others j (eqb-false j f e))) ∙ l))))
        own
        (λ u d. frame-slot _ (slot_at s) (slot_at (with_slot s f y)) (block_at s) (block_at s) f (task_at s u) (frame_same _ _ _ _) others (no_name u d) (no-fresh u d)
        (λ n l e. dead (ap (λ (z : Slot). z.status) (sym mine) ∙ l))
        (λ n l e. dead (ap (λ (z : Slot). z.status) (sym mine) ∙ l)))
        apart
        (unique-dead (slot_at s) (slot_at (with_slot s f y)) f others (λ l. dead (ap (λ (z : Slot). z.status) (sym mine) ∙ l)) iv.unique)
        owners,
    λ j l. (others j (λ e. was (ap (λ (c : ℕ). (slot_at s c).status) (sym e) ∙ l)), (λ i. refl), λ i. omega arith),
  )
    where
      mine : slot_at (with_slot s f y) f ≡ y
      mine = get_or-set_same s.slots f y (freed 0) (omega (arith, in_h, sh.slots_len))

      others : (j : ℕ) → (j ≡ f → ⊥) → slot_at (with_slot s f y) j ≡ slot_at s j
      others j d = get_or-set_other s.slots f j y (freed 0) d

  -- ---- taking a block

  pub no_room_lem : (g : Stage) → (task_at s t).stage ≡ g → reserves g ≡ true → Goes s (no_room s t (counted (task_at s t))).0
  unfolding no_room counted with_task with_slot
  no_room_lem g e r =
      slot_too (task_at s t).fresh _ idle free≢live (λ l. live≢reserved (slot_at s (task_at s t).fresh) l fr.slot_is_reserved) fr.in_h tt
      (λ u d n o. live≢reserved (slot_at s (task_at s t).fresh) (ap (λ (c : ℕ). (slot_at s c).status) (sym o) ∙ (u_named s sh iv t in_t u n).lives) fr.slot_is_reserved)
      (λ u d n o. (my_apart s sh iv t in_t g e u d).a_fresh r n (sym o))
      (λ u d. no_flags Idle _ _ _ refl refl refl)
      (λ j q. let d : j ≡ (task_at s t).fresh → ⊥ = λ o. free≢reserved (ap (λ (z : Slot). z.status) (sym (ap (slot_at gone) o ∙ mine)) ∙ q) in
      owned_ended (task_at s) (task_at (with_task s t idle)) t (λ u d. get_or-set_other s.tasks t u idle idle d) j (λ o. d (sym o))
      (iv.owned j (ap (λ (z : Slot). z.status) (sym (get_or-set_other s.slots (task_at s t).fresh j (freed (slot_at s (task_at s t).fresh).serial) (freed 0) d)) ∙ q)))
    where
      gone : State
      gone = with_slot s (task_at s t).fresh (freed (slot_at s (task_at s t).fresh).serial)

      fr : Fresh s.sizes.h (slot_at s) (task_at s t).fresh
      fr = ok-fresh s.sizes.n s.sizes.h s.sizes.b (slot_at s) (block_at s) (task_at s t) g r (my_ok s sh iv t in_t g e)

      mine : slot_at gone (task_at s t).fresh ≡ freed (slot_at s (task_at s t).fresh).serial
      mine = get_or-set_same s.slots (task_at s t).fresh _ (freed 0) (omega (arith, fr.in_h, sh.slots_len))

  -- the block taken
  abbrev pub took : Block
  took = with_version (block_at s (free_block s)) 0

  pub take_block : (g g' : Stage) → (task_at s t).stage ≡ g → reserves g ≡ true → reserves g' ≡ true → writes g' ≡ false → free_block s < s.sizes.b
      → (Filler s.sizes.b (slot_at s) (block_at (with_block s (free_block s) took)) (free_block s)
      → OkAt s.sizes.n s.sizes.h s.sizes.b g' (slot_at s) (block_at (with_block s (free_block s) took)) (aimed (moved (counted (task_at s t)) g' (hand_of 0)) (free_block s)))
      → Goes s (with_task (with_block s (free_block s) took) t (aimed (moved (counted (task_at s t)) g' (hand_of 0)) (free_block s)))
  unfolding aimed moved counted with_version
  take_block g g' e r r' w in_b own =
      block_too s sh iv t in_t (free_block s) took _ (λ _. (r', refl)) in_b
      (λ j l o. absurd (no-stander s (free_block s) nh j l o))
      (own (record { in_b = in_b; alone = no-stander s (free_block s) nh; start = ap (λ (x : Block). x.version) (same_block s sh iv t in_t (free_block s) took in_b) }))
      (λ j l o. absurd (no-stander s (free_block s) nh j l o))
      (λ u d n o. let q = (u_writer s sh iv t in_t u n).0 in no-stander s (free_block s) nh _ q.lives (q.on ∙ o))
      (λ u d. no-filler s (free_block s) nh u)
      (λ u d. record { a_write = λ p. absurd (false≢true (sym w ∙ p)); a_fill = λ p q o. no-filler s (free_block s) nh u q (sym o); a_fresh = λ p. (my_apart s sh iv t in_t g e u d).a_fresh r })
    where
      nh : held s (free_block s) ≡ false
      nh = not_held s in_b

  pub stage_take-copy : (task_at s t).stage ≡ TakeCopy → Goes s (taken s t (counted (task_at s t)) (Copying Guess)).0
  unfolding taken
  stage_take-copy e =
      if_case (λ (x : Result). Goes s x.0) (leb s.sizes.b (free_block s))
      (λ _. no_room_lem TakeCopy e refl)
      (λ q. let h = my_ok s sh iv t in_t TakeCopy e in
      take_block TakeCopy (Copying Guess) e refl refl refl (leb-false s.sizes.b (free_block s) q)
      (λ f. unfold aimed moved counted in (h.0, h.1, h.2, f, (λ i z. absurd (not-suc-le-zero z)), record { in_n = omega (arith, h.2); good = tt }, source h (leb-false s.sizes.b (free_block s) q))))
    where
      -- the handle's own block is not the one that is taken
      source : Ok s sh iv t in_t TakeCopy (task_at s t) → free_block s < s.sizes.b → (task_at s t).number < (block_at (with_block s (free_block s) took) (task_at s t).block).version
      source h in_b = subst (λ (x : Block). (task_at s t).number < x.version) (sym (other_block s sh iv t in_t (free_block s) took (task_at s t).block (λ o. no-stander s (free_block s) (not_held s in_b) _ h.0.lives (h.0.on ∙ o)))) h.3

  pub stage_take-new : (task_at s t).stage ≡ TakeNew → Goes s (taken s t (counted (task_at s t)) FillNew).0
  unfolding taken
  stage_take-new e =
      if_case (λ (x : Result). Goes s x.0) (leb s.sizes.b (free_block s))
      (λ _. no_room_lem TakeNew e refl)
      (λ q. let h = my_ok s sh iv t in_t TakeNew e in
      take_block TakeNew FillNew e refl refl refl (leb-false s.sizes.b (free_block s) q)
      (λ f. unfold aimed moved counted in (h.0, f, (λ i z. absurd (not-suc-le-zero z)), h.1)))

  -- ---- filling a block

  -- the block being filled, with v written to cell i
  abbrev pub wrote : ℕ → ℕ → Block
  wrote i v = with_log (with_cell (block_at s (task_at s t).target) i v) i []

  module _ (g : Stage) (e : (task_at s t).stage ≡ g) (fl : fills g ≡ true) (f : Filler s.sizes.b (slot_at s) (block_at s) (task_at s t).target) (i v : ℕ) where
    not_mine : {j b n : ℕ} → Named (slot_at s) j b n → b ≡ (task_at s t).target → ⊥
    not_mine {j} h o = f.alone j h.lives (h.on ∙ o)

    filler-on : Filler s.sizes.b (slot_at s) (block_at (with_block s (task_at s t).target (wrote i v))) (task_at s t).target
    unfolding with_log with_cell
    filler-on = record { in_b = f.in_b; alone = f.alone; start = ap (λ (x : Block). x.version) (same_block s sh iv t in_t _ (wrote i v) f.in_b) ∙ f.start }

    fill_too : (k : Task) → Carries (task_at s t) k
        → OkAt s.sizes.n s.sizes.h s.sizes.b k.stage (slot_at s) (block_at (with_block s (task_at s t).target (wrote i v))) k
        → Others s sh iv t in_t k.stage k
        → Goes s (with_task (with_block s (task_at s t).target (wrote i v)) t k)
    fill_too k carries own apart =
        block_too s sh iv t in_t (task_at s t).target (wrote i v) k carries f.in_b
        (λ j l o. absurd (f.alone j l o))
        own
        (λ j l o. absurd (f.alone j l o))
        (λ u d n o. not_mine (u_writer s sh iv t in_t u n).0 o)
        (λ u d n o. (my_apart s sh iv t in_t g e u d).a_fill fl n (sym o))
        apart

    fill_done : (y : Slot) (φ : ℕ → ℕ) → Fresh s.sizes.h (slot_at s) (task_at s t).fresh → reserves g ≡ true → y.status ≡ Live → y.block ≡ (task_at s t).target → y.number ≡ 0
        → Holds (wrote i v) s.sizes.n φ
        → Goes s (with_task (with_slot (with_block s (task_at s t).target (wrote i v)) (task_at s t).fresh y) t idle)
    unfolding with_log with_cell
    fill_done y φ fr rs yl ob on hs =
        finish_too s sh iv t in_t (task_at s t).target (wrote i v) (task_at s t).fresh y f.in_b fr refl yl ob
        (rw on (stands-filled s.sizes.n s.sizes.b (task_at s t).target φ (block_at (with_block s (task_at s t).target (wrote i v))) f.in_b
        filler-on.start
        (ap (λ (x : Block). length x.logs) same ∙ length-set (block_at s (task_at s t).target).logs i [] ∙ (wide_at s sh iv t in_t (task_at s t).target f.in_b).wide_logs)
        (subst (λ (x : Block). Holds x s.sizes.n φ) (sym same) hs)))
        (λ j l o. absurd (f.alone j l o))
        (λ j l o. absurd (f.alone j l o))
        (λ u d n o. not_mine (u_writer s sh iv t in_t u n).0 o)
        (λ u d n o. (my_apart s sh iv t in_t g e u d).a_fill fl n (sym o))
        (λ u d n o. (my_apart s sh iv t in_t g e u d).a_fresh rs n (sym o))
        (λ j l o p. f.alone j l o)
      where
        same : block_at (with_block s (task_at s t).target (wrote i v)) (task_at s t).target ≡ wrote i v
        same = same_block s sh iv t in_t (task_at s t).target (wrote i v) f.in_b

  -- what has been copied, seen after one more write
  pub copied_more : (f : Filler s.sizes.b (slot_at s) (block_at s) (task_at s t).target) (i v c : ℕ) {j b n : ℕ} → Named (slot_at s) j b n → Holds (wrote i v) c (value_at (block_at s b) n)
      → Copied c (block_at (with_block s (task_at s t).target (wrote i v))) (task_at s t).target b n
  copied_more f i v c {j} {b} {n} h hs =
      subst (λ (x : Block). Holds (block_at (with_block s (task_at s t).target (wrote i v)) (task_at s t).target) c (value_at x n)) (sym (other_block s sh iv t in_t _ (wrote i v) b (λ o. f.alone j h.lives (h.on ∙ o))))
      (subst (λ (x : Block). Holds x c (value_at (block_at s b) n)) (sym (same_block s sh iv t in_t _ (wrote i v) f.in_b)) hs)

  pub stage_copy-write : (task_at s t).stage ≡ FillCopy → Goes s (step_at FillCopy s t (counted (task_at s t))).0
  unfolding step_at filled moved counted
  stage_copy-write e =
      if_case (λ (k : Task). Goes s (with_task (with_block s (task_at s t).target (wrote i v)) t k)) (eqb (i + 1) s.sizes.n)
      (λ q. fill_too FillCopy e refl h.3 i v _ (λ _. (refl, refl)) (h.0, h.1, h.2, filler-on FillCopy e refl h.3 i v, subst (λ (c : ℕ). Copied c (block_at (with_block s (task_at s t).target (wrote i v))) (task_at s t).target (task_at s t).block (task_at s t).number) (eqb-true (i + 1) s.sizes.n q) more)
      (λ u d. apart_keep FillCopy Put _ (task_at s t) _ _ refl refl refl (λ p. p) (λ p. p) (λ p. p) (my_apart s sh iv t in_t FillCopy e u d)))
      (λ q. fill_too FillCopy e refl h.3 i v _ (λ _. (refl, refl)) (h.0, h.1, h.2, filler-on FillCopy e refl h.3 i v, more, record { in_n = omega (arith, h.5, eqb-false (i + 1) s.sizes.n q); good = tt }, source)
      (λ u d. apart_keep FillCopy (Copying Guess) _ (task_at s t) _ _ refl refl refl (λ p. p) (λ p. p) (λ p. p) (my_apart s sh iv t in_t FillCopy e u d)))
    where
      h : Ok s sh iv t in_t FillCopy (task_at s t)
      h = my_ok s sh iv t in_t FillCopy e

      i : ℕ
      i = (task_at s t).hand.cell

      v : ℕ
      v = answer (task_at s t).hand

      source : (task_at s t).number < (block_at (with_block s (task_at s t).target (wrote i v)) (task_at s t).block).version
      source = subst (λ (x : Block). (task_at s t).number < x.version) (sym (other_block s sh iv t in_t (task_at s t).target (wrote i v) (task_at s t).block (λ o. h.3.alone _ h.0.lives (h.0.on ∙ o)))) h.7

      more : Copied (i + 1) (block_at (with_block s (task_at s t).target (wrote i v))) (task_at s t).target (task_at s t).block (task_at s t).number
      more = copied_more h.3 i v (i + 1) h.0 (holds-write s.sizes.n i v _ _ (wide_at s sh iv t in_t _ h.3.in_b) h.5 h.4 h.6)

  pub stage_put : (task_at s t).stage ≡ Put → Goes s (step_at Put s t (counted (task_at s t))).0
  unfolding step_at filled finished counted
  stage_put e =
      let h = my_ok s sh iv t in_t Put e in
      fill_done Put e refl h.3 (task_at s t).cell (task_at s t).value _ _ h.1 refl refl refl refl
      (holds-put s.sizes.n (task_at s t).cell (task_at s t).value (value_at (here_of s (task_at s t)) (task_at s t).number) _ (wide_at s sh iv t in_t _ h.3.in_b) h.2 h.4)

  pub stage_fill : (task_at s t).stage ≡ FillNew → Goes s (step_at FillNew s t (counted (task_at s t))).0
  unfolding step_at filled finished moved counted
  stage_fill e =
      if_case (λ (x : Result). Goes s x.0) (eqb (i + 1) s.sizes.n)
      (λ q. fill_done FillNew e refl h.1 i (task_at s t).value _ (λ _. (task_at s t).value) h.0 refl refl refl refl (subst (λ (c : ℕ). Holds (wrote i (task_at s t).value) c (λ _. (task_at s t).value)) (eqb-true (i + 1) s.sizes.n q) more))
      (λ q. fill_too FillNew e refl h.1 i (task_at s t).value _ (λ _. (refl, refl)) (h.0, filler-on FillNew e refl h.1 i (task_at s t).value, subst (λ (x : Block). Holds x (i + 1) (λ _. (task_at s t).value)) (sym (same_block s sh iv t in_t _ (wrote i (task_at s t).value) h.1.in_b)) more, omega (arith, h.3, eqb-false (i + 1) s.sizes.n q))
      (λ u d. apart_keep FillNew FillNew _ (task_at s t) _ _ refl refl refl (λ p. p) (λ p. p) (λ p. p) (my_apart s sh iv t in_t FillNew e u d)))
    where
      h : Ok s sh iv t in_t FillNew (task_at s t)
      h = my_ok s sh iv t in_t FillNew e

      i : ℕ
      i = (task_at s t).hand.cell

      more : Holds (wrote i (task_at s t).value) (i + 1) (λ _. (task_at s t).value)
      more = holds-write s.sizes.n i (task_at s t).value (λ _. (task_at s t).value) _ (wide_at s sh iv t in_t _ h.1.in_b) h.3 h.2 refl
