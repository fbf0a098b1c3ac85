-- Every call keeps the ranges and the pace, from whatever store has the rules; an opened store has them.
-- Rests on Steps.
use Prim.Native.Nat.{◌*◌, ◌+◌, ◌-◌, ◌<◌, ◌≤◌, zero-le, ℕ}
use Rattle.std.specs.Prelude.{◌||◌, not, true, ◌≡◌, eqb, leb}
use Rattle.std.proofs.Math.Path.{ap, refl, subst⁻¹}
use native.Mathlib.Omega.{arith}
use Rattle.std.proofs.Math.Dec.{ltb}
use borrow.Author.Tests.{eqb-false, leb-false, leb-true, ltb-false, not-false}
use Rattle.rulebook.specs.declared.Reading.TheVariants.{Guess}
use Rattle.rulebook.specs.declared.Stage.{Stage}
use Rattle.rulebook.specs.declared.Stage.TheVariants.{Exchange, Getting, Paging}
use Rattle.rulebook.specs.declared.Status.TheVariants.{Free, Reserved}
use Rattle.rulebook.specs.Lists.{replicate_get}
use Rattle.rulebook.specs.Machine.{Call, Get, LookCell, LookEntry, LookLog, LookTask, LookVersion, New, Open, Page, Release, Report, Set, Step, call, release}
use Rattle.rulebook.specs.Sizes.{most_cells, most_handles, most_tasks, most_words, opens, room, slot_of, within}
use Rattle.rulebook.specs.Starts.{Lie, begun, no_slot, opened, opening, reserve, start_get, start_new, start_page, start_set, startable}
use Rattle.rulebook.specs.State.{Result, State, free_slot, freed, idle, in_use, live_handle, slot_at, with_slot}
use Rattle.rulebook.specs.Tests.{and_both, if_case, or_neither}
use Rattle.theorems.specs.Invariant.Calls.{live_handle_lem}
use Rattle.theorems.specs.Terms.{digits}
use Rattle.rules.proofs.Facts.{live_stood}
use Rattle.rules.specs.Paced.{Pace, Paced, SlotRange, TaskRange}
use Rattle.rules.specs.Rules.{Rules}
use Rattle.rules.proofs.Steps.{idle-range, idle-within, paced-slot, paced-step, paced-task, slot-empty}

-- ---- the starts

module _ (s : State) (h : Rules s) (p : Paced s) (t : ℕ) where
  abbrev N : ℕ
  N = s.sizes.n

  abbrev Fine : Result → Type 0
  Fine x = Paced x.0

  -- a start reserves a slot
  paced-reserve : Paced (reserve s)
  unfolding reserve
  paced-reserve =
      paced-slot s (free_slot s) _ (slot-empty (slot_at s (free_slot s)).serial Reserved (p.slots (free_slot s)).serial_not_above refl) p

  -- a task on the handle a, of which no step is taken
  range-begun : (a : ℕ) (g : Stage) (i v until j : ℕ) → live_handle s a ≡ true → i < N → until ≤ N → j < s.sizes.h → Pace N g (begun s a g i v until j) → TaskRange s.sizes (begun s a g i v until j)
  unfolding begun
  range-begun a g i v until j l in_n in_until in_h pc =
      let x = live_handle_lem s a l in
      let q = live_stood s h (slot_of a) x.lives in
      record { slot_below = x.in_h; block_below = q.block_in_b; number_within = q.at_most_n; cell_below = in_n; until_within = in_until; fresh_below = in_h; target_below = (idle-range s p).target_below; hand_below = in_n; pace = pc }

  paced-new : (v : ℕ) → Fine (start_new s t v)
  unfolding start_new reserve with_slot
  paced-new v =
      let z = idle-range s p in
      if_case Fine (not (eqb (startable s t) 0)) (λ _. p) (λ _.
      if_case Fine (no_slot s) (λ _. p) (λ e.
      paced-task (reserve s) t _ (record { slot_below = z.slot_below; block_below = z.block_below; number_within = zero-le; cell_below = z.cell_below; until_within = zero-le; fresh_below = leb-false s.sizes.h (free_slot s) e; target_below = z.target_below; hand_below = z.hand_below; pace = refl }) paced-reserve))

  paced-start_get : (a i : ℕ) → Fine (start_get s t a i)
  unfolding start_get begun
  paced-start_get a i =
      if_case Fine (not (eqb (startable s t) 0)) (λ _. p) (λ _.
      if_case Fine (not (live_handle s a)) (λ _. p) (λ l.
      if_case Fine (leb N i) (λ _. p) (λ e.
      paced-task s t _ (range-begun a (Getting Guess) i 0 0 0 (not-false _ l) (leb-false N i e) zero-le (idle-range s p).fresh_below (omega arith)) p)))

  paced-start_set : (a i v : ℕ) → Fine (start_set s t a i v)
  unfolding start_set begun reserve with_slot
  paced-start_set a i v =
      if_case Fine (not (eqb (startable s t) 0)) (λ _. p) (λ _.
      if_case Fine (not (live_handle s a)) (λ _. p) (λ l.
      if_case Fine (leb N i) (λ _. p) (λ e.
      if_case Fine (no_slot s) (λ _. p) (λ f.
      paced-task (reserve s) t _ (range-begun a Exchange i v 0 (free_slot s) (not-false _ l) (leb-false N i e) zero-le (leb-false s.sizes.h (free_slot s) f) refl) paced-reserve))))

  paced-start_page : (a from m : ℕ) → Fine (start_page s t a from m)
  unfolding start_page begun
  paced-start_page a from m =
      if_case Fine (not (eqb (startable s t) 0)) (λ _. p) (λ _.
      if_case Fine (not (live_handle s a)) (λ _. p) (λ l.
      if_case Fine (eqb m 0 || ltb N (from + m)) (λ _. p) (λ e.
      let q = or_neither _ _ e in
      let some : m ≡ 0 → ⊥ = eqb-false m 0 q.0 in
      let fits = ltb-false N (from + m) q.1 in
      let single : (from - from + 1) * (3 + digits N) ≡ 1 * (3 + digits N) = ap (λ (z : ℕ). z * (3 + digits N)) (omega arith) in
      paced-task s t _ (range-begun a (Paging Guess) from 0 (from + m) 0 (not-false _ l) (omega arith) fits (idle-range s p).fresh_below (omega arith, omega arith)) p)))

-- ---- every call

paced-release : (s : State) (a : ℕ) → Paced s → Paced (release s a).0
unfolding release
paced-release s a p =
    if_case (λ (x : Result). Paced x.0) (not (live_handle s a)) (λ _. p) (λ _.
    if_case (λ (x : Result). Paced x.0) (in_use s (slot_of a)) (λ _. p) (λ _.
    paced-slot s (slot_of a) _ (slot-empty (slot_at s (slot_of a)).serial Free (p.slots (slot_of a)).serial_not_above refl) p))

pub paced-opened : (n h t w : ℕ) (lie : Lie) → opens n h t w ≡ true → Paced (opened n h t w lie)
unfolding opened opens
paced-opened n h t w lie ok =
    let a = and_both (within 1 n most_cells) _ ok in
    let b = and_both (within 1 h most_handles) _ a.1 in
    let c = and_both (within 1 t most_tasks) _ b.1 in
    record {
      tasks = λ j. subst⁻¹ (TaskRange (record { n = n; h = h; t = t; b = room n h t w })) (replicate_get t idle j)
          (idle-within _ (leb-true 1 n (and_both (leb 1 n) _ a.0).0) (leb-true 1 h (and_both (leb 1 h) _ b.0).0) (leb-true 1 (room n h t w) (and_both (leb w most_words) _ c.1).1));
      slots = λ j. subst⁻¹ SlotRange (replicate_get h (freed 0) j) (slot-empty 0 Free zero-le refl);
    }

pub paced-call : (c : Call) (s : State) → Rules s → Paced s → Paced (call c s).0
unfolding call opening
paced-call (Open n h t w lie) s r p = if_case (λ (x : Result). Paced x.0) (opens n h t w) (λ e. paced-opened n h t w lie e) (λ _. p)
paced-call (New t v) s r p = paced-new s r p t v
paced-call (Get t h i) s r p = paced-start_get s r p t h i
paced-call (Set t h i v) s r p = paced-start_set s r p t h i v
paced-call (Page t h from m) s r p = paced-start_page s r p t h from m
paced-call (Step t) s r p = paced-step s r p t
paced-call (Release h) s r p = paced-release s h p
paced-call (LookVersion b) s r p = p
paced-call (LookCell b i) s r p = p
paced-call (LookLog b i) s r p = p
paced-call (LookEntry b i j) s r p = p
paced-call (LookTask t) s r p = p
paced-call Report s r p = p
