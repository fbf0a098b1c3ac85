-- What is noted follows the machine, call by call; and no call changes what a live handle shows.
-- Rests on Causes and on what every call keeps.
use Rattle.std.specs.Prelude.{ℕ, not, true, List, [], ◌∷◌, ◌≡◌, eqb}
use Rattle.std.proofs.Common.{◌∙◌, ap, sym, arith, get_or-set_other, get_or-set_same, eqb-true}
use Rattle.std.proofs.Math.Path.{refl}
use Rattle.std.proofs.lemmas.Bool.{eqb-false, not-false}
use Rattle.rulebook.specs.declared.Sizes.{Sizes}
use Rattle.rulebook.specs.declared.Slot.{Slot}
use Rattle.rulebook.specs.History.{Past, accepted, fresh, next, noted, onward, past, released, run, started, stepped}
use Rattle.rulebook.specs.Lists.{replicate_get}
use Rattle.rulebook.specs.Machine.{Call, Get, LookCell, LookEntry, LookLog, LookTask, LookVersion, New, Open, Page, Release, Report, Set, Step, call, release}
use Rattle.rulebook.specs.Sizes.{opens, slot_of}
use Rattle.rulebook.specs.Starts.{Lie, opened, opening}
use Rattle.rulebook.specs.State.{Result, State, freed, in_use, live_handle, slot_at, with_slot}
use Rattle.rulebook.specs.Tests.{by_test, if_case}
use Rattle.theorems.specs.Invariant.Blocks.{free≢live}
use Rattle.theorems.specs.Invariant.Calls.{Handle, inv-get, inv_new, inv-page, inv-set, live_handle_lem}
use Rattle.theorems.specs.Invariant.Moves.{Goes, InvS}
use Rattle.theorems.specs.Invariant.Shape.{Shape}
use Rattle.theorems.specs.Invariant.Sizes.{sizes-get, sizes-new, sizes-page, sizes-set, sizes_step}
use Rattle.theorems.specs.Invariant.Steps.{inv-step}
use Rattle.theorems.proofs.Causes.{refused-same}
use Rattle.theorems.specs.Proofs.Ten.{shown-same}
use Rattle.theorems.specs.Terms.{shown}

-- ---- the machine's state

noted-store : (c : Call) (r : Result) (p : Past) → accepted r.1 ≡ true → r ≡ call c p.store → (noted c r.0 r.1 p).store ≡ (call c p.store).0
unfolding noted stepped started released call
noted-store (Open n h t words lie) r p a e = ap (λ (x : Result). x.0) e
noted-store (New t v) r p a e = ap (λ (x : Result). x.0) e
noted-store (Get t h i) r p a e = ap (λ (x : Result). x.0) e
noted-store (Set t h i v) r p a e = ap (λ (x : Result). x.0) e
noted-store (Page t h from m) r p a e = ap (λ (x : Result). x.0) e
noted-store (Step t) r p a e = ap (λ (x : Result). x.0) e
noted-store (Release h) r p a e = ap (λ (x : Result). x.0) e
noted-store (LookVersion b) r p a e = refl
noted-store (LookCell b i) r p a e = refl
noted-store (LookLog b i) r p a e = refl
noted-store (LookEntry b i j) r p a e = refl
noted-store (LookTask t) r p a e = refl
noted-store Report r p a e = refl

pub next-store : (c : Call) (p : Past) → (next c p).store ≡ (call c p.store).0
unfolding next
next-store c p =
    by_test (accepted (call c p.store).1)
    (λ e. rw e (noted-store c (call c p.store) p e refl))
    (λ e. rw e (sym (refused-same p.store c e)))

store-onward : (cs : List Call) (p : Past) → (onward p cs).store ≡ (run p.store cs).0
unfolding onward run
store-onward [] p = refl
store-onward (c ∷ cs) p = store-onward cs (next c p) ∙ ap (λ (s : State). (run s cs).0) (next-store c p)

pub store_proof : (s : State) (cs : List Call) → (past s cs).store ≡ (run s cs).0
store_proof s cs = store-onward cs (fresh s)

-- ---- tables

module _ (s : State) (sh : Shape s) (iv : InvS s) where
  -- a handle that is live before and after a call shows what it showed
  abbrev Kept : State → Type 0
  Kept x = (h : ℕ) → live_handle s h ≡ true → live_handle x h ≡ true → shown x h ≡ shown s h

  kept_goes : (x : State) → x.sizes ≡ s.sizes → Goes s x → Kept x
  kept_goes x n goes h l m = let k = goes.1 (slot_of h) (live_handle_lem s h l).lives in shown-same s x h (ap (λ (z : Sizes). z.n) n) k.0 k.1

  kept_same : (x : State) → x ≡ s → Kept x
  kept_same x e h l m = ap (λ (y : State). shown y h) e

  kept-open : (n a t words : ℕ) (lie : Lie) → Kept (opened n a t words lie)
  kept-open n a t words lie h l m =
      absurd (free≢live (sym (ap (λ (z : Slot). z.status) (gone (slot_of h))) ∙ (live_handle_lem _ h m).lives))
    where
      gone : (j : ℕ) → slot_at (opened n a t words lie) j ≡ freed 0
      gone j = unfold opened in replicate_get a (freed 0) j

  kept-release : (h : ℕ) → Kept (release s h).0
  unfolding release with_slot
  kept-release h =
      if_case (λ (r : Result). Kept r.0) (not (live_handle s h)) (λ _. kept_same s refl) (λ e1.
      if_case (λ (r : Result). Kept r.0) (in_use s (slot_of h)) (λ _. kept_same s refl) (λ _ g l m.
      by_test (eqb (slot_of g) (slot_of h))
      (λ e. absurd (free≢live (sym (ap (λ (z : Slot). z.status) (mine (live_handle_lem s h (not-false _ e1)) (slot_of g) (eqb-true _ _ e))) ∙ (live_handle_lem (with_slot s (slot_of h) y) g m).lives)))
      (λ e. shown-same s (with_slot s (slot_of h) y) g refl (get_or-set_other s.slots (slot_of h) (slot_of g) y (freed 0) (eqb-false _ _ e)) (λ i. refl))))
    where
      y : Slot
      y = freed (slot_at s (slot_of h)).serial

      mine : Handle s h → (j : ℕ) → j ≡ slot_of h → slot_at (with_slot s (slot_of h) y) j ≡ y
      mine l j e = ap (λ (i : ℕ). slot_at (with_slot s (slot_of h) y) i) e ∙ get_or-set_same s.slots (slot_of h) y (freed 0) (omega (arith, l.in_h, sh.slots_len))

  pub kept_proof : (c : Call) → Kept (call c s).0
  unfolding call opening
  kept_proof (Open n a t words lie) = if_case (λ (r : Result). Kept r.0) (opens n a t words) (λ _. kept-open n a t words lie) (λ _. kept_same s refl)
  kept_proof (New t v) = kept_goes _ (sizes-new s t 0 v) (inv_new s sh iv t v)
  kept_proof (Get t h i) = kept_goes _ (sizes-get s t h i) (inv-get s sh iv t h i)
  kept_proof (Set t h i v) = kept_goes _ (sizes-set s t h i v) (inv-set s sh iv t h i v)
  kept_proof (Page t h from m) = kept_goes _ (sizes-page s t h from m) (inv-page s sh iv t h from m)
  kept_proof (Step t) = kept_goes _ (sizes_step s t) (inv-step s sh iv t)
  kept_proof (Release h) = kept-release h
  kept_proof (LookVersion b) = kept_same s refl
  kept_proof (LookCell b i) = kept_same s refl
  kept_proof (LookLog b i) = kept_same s refl
  kept_proof (LookEntry b i j) = kept_same s refl
  kept_proof (LookTask t) = kept_same s refl
  kept_proof Report = kept_same s refl
