-- The search of a log, step by step: it ends at the first entry at or above the handle's number, with that entry as the candidate.
-- Rests on nothing.
use Rattle.std.specs.Prelude.{◌-◌, ◌/◌, ◌<◌, ◌≤◌, suc, zero, ℕ, false, true, List, [], ◌∷◌, ◌≡◌, refl, leb, ltb, length}
use Rattle.std.proofs.Common.{zero-le, sym, not-suc-le-zero, le-leb, leb-false, leb-true, ltb-false, ltb-true}
use native.Mathlib.Omega.{arith}
use Rattle.std.proofs.lemmas.Bool.{lt-leb}
use Rattle.rulebook.specs.declared.Entry.{Entry}
use Rattle.rulebook.specs.declared.Hand.{Hand}
use Rattle.rulebook.specs.State.{entry_at}
use Rattle.rulebook.specs.Steps.{answer, kept, lowered, middle, probed, raised, searching}
use Rattle.rulebook.specs.Tests.{by_test}
use Rattle.theorems.specs.Terms.{value_in, version_at}

abbrev pub old_at : List Entry → ℕ → ℕ
old_at l j = (entry_at l j).old

abbrev pub Below : List Entry → ℕ → Type 0
Below l n = (j : ℕ) → j < length l → version_at l j < n

abbrev pub Rises : List Entry → Type 0
Rises l = (p q : ℕ) → p < q → q < length l → version_at l p < version_at l q

pub value-first : (l : List Entry) (n c k : ℕ) → k < length l → ((j : ℕ) → j < k → version_at l j < n) → n ≤ version_at l k → value_in l n c ≡ old_at l k
unfolding value_in
value-first [] n c k h below at = absurd (not-suc-le-zero h)
value-first (e ∷ l) n c zero h below at = rw (le-leb n e.version at)
value-first (e ∷ l) n c (suc k) h below at =
    rw (lt-leb n e.version (below 0 (omega arith))) (value-first l n c k (omega arith) (λ j q. below (suc j) (omega arith)) at)

pub value_none : (l : List Entry) (n c : ℕ) → Below l n → value_in l n c ≡ c
unfolding value_in
value_none [] n c below = refl
value_none (e ∷ l) n c below =
    rw (lt-leb n e.version (below 0 (omega arith))) (value_none l n c (λ j q. below (suc j) (omega arith)))

-- what holds between two probes
pub record Sought (l : List Entry) (n : ℕ) (w : Hand) : Type 0 where
  pub order : w.lo ≤ w.hi
  pub inside : w.hi ≤ length l
  pub below : (j : ℕ) → j < w.lo → version_at l j < n
  pub above : (j : ℕ) → w.hi ≤ j → j < length l → n ≤ version_at l j
  pub kept_entry : w.hi < length l → (w.found ≡ true) × (w.candidate ≡ old_at l w.hi) × (w.version ≡ version_at l w.hi)
  pub none_yet : w.hi ≡ length l → w.found ≡ false

pub sought-start : (l : List Entry) (n : ℕ) (w : Hand) → Sought l n (searching w (length l))
sought-start l n w =
    record {
      order = zero-le;
      inside = omega arith;
      below = λ j h. absurd (not-suc-le-zero h);
      above = λ j h q. absurd (omega arith);
      kept_entry = λ h. absurd (omega arith);
      none_yet = λ h. refl;
    }

-- rising versions, with equality allowed
pub rises_le : (l : List Entry) → Rises l → (p q : ℕ) → p ≤ q → q < length l → version_at l p ≤ version_at l q
rises_le l rises p q h inside =
    by_test (ltb p q)
    (λ e. omega (arith, rises p q (ltb-true p q e) inside))
    (λ e. let same : q ≡ p = omega (arith, ltb-false p q e) in rw same (omega arith))

module _ (l : List Entry) (n : ℕ) (w : Hand) (rises : Rises l) (s : Sought l n w) (left : w.lo < w.hi) where
  sought-hit : n ≤ version_at l (middle w) → Sought l n (lowered (middle w) (kept (entry_at l (middle w)) w))
  sought-hit at =
      record {
        order = omega arith;
        inside = omega (arith, s.inside);
        below = s.below;
        above = λ j h q. omega (arith, rises_le l rises (middle w) j h q);
        kept_entry = λ h. (refl, refl, refl);
        none_yet = λ h. absurd (omega (arith, s.inside));
      }

  sought-miss : version_at l (middle w) < n → Sought l n (raised (middle w) w)
  sought-miss at =
      record {
        order = omega arith;
        inside = s.inside;
        below = λ j h. omega (arith, rises_le l rises j (middle w) (omega arith) (omega (arith, s.inside)));
        above = s.above;
        kept_entry = s.kept_entry;
        none_yet = s.none_yet;
      }

  -- one probe keeps it, and halves the part that is left
  pub sought_probe : Sought l n (probed l n w) × ((probed l n w).hi - (probed l n w).lo ≤ (w.hi - w.lo) / 2) × ((probed l n w).guess ≡ w.guess)
  unfolding probed
  sought_probe =
      by_test (leb n (version_at l (middle w)))
      (λ e. rw e (sought-hit (leb-true n (version_at l (middle w)) e), omega arith, refl))
      (λ e. rw e (sought-miss (leb-false n (version_at l (middle w)) e), omega arith, refl))

pub sought-end : (l : List Entry) (n : ℕ) (w : Hand) → Sought l n w → w.lo ≡ w.hi → answer w ≡ value_in l n w.guess
sought-end l n w s e =
    by_test (ltb w.hi (length l))
    (λ t. let h = ltb-true w.hi (length l) t in
    rw ((s.kept_entry h).0, (s.kept_entry h).1) (sym (value-first l n w.guess w.hi h (λ j q. s.below j (omega arith)) (s.above w.hi (omega arith) h))))
    (λ t. let h = ltb-false w.hi (length l) t in
    rw (s.none_yet (omega (arith, s.inside))) (sym (value_none l n w.guess (λ j q. s.below j (omega arith)))))
