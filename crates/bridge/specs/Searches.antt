-- What the searches of rows find on the machine's state: the rule book's any and lowest.
-- Rests on acts' definitions.
use Prim.Native.Nat.{◌+◌, ◌<◌, ◌≤◌, suc, zero, ℕ}
use Rattle.std.specs.Prelude.{Bool, false, not, true, ◌≡◌, ltb, get_or, length, if◌then◌else◌, Err, None, Ok, Some}
use Rattle.std.proofs.lemmas.Bool.{false≢true}
use Rattle.std.proofs.Common.{true≢false, ◌∙◌, ap₂, sym, arith, le-ltb, lt-ltb, ltb-false, ltb-true}
use mathlib.Core.List.{List, [], ◌∷◌}
use Rattle.std.proofs.Math.Path.{ap, refl}
use Rattle.acts.specs.Acts.{Found, is_none}
use Rattle.acts.specs.Plans.{first_of, found_if, or_else}
use Rattle.rulebook.specs.State.{any, lowest}
use Rattle.rulebook.specs.Tests.{by_test, if_case}

-- ---- a search that finds the places of a test

pub first-same : (f g : ℕ → Found) (m : ℕ) → ((j : ℕ) → j < m → f j ≡ g j) → first_of f m ≡ first_of g m
unfolding first_of
first-same f g zero h = refl
first-same f g (suc m) h = ap₂ or_else (first-same f g m (λ j q. h j (omega arith))) (h m (omega arith))

-- where nothing was found below m, m is tried
lowest-more : (q : ℕ → Bool) (d k : ℕ) → lowest q (suc d) k ≡ (if ltb (lowest q d k) (k + d) then lowest q d k else if q (k + d) then k + d else suc (k + d))
unfolding lowest
lowest-more q zero k = if_case (λ (x : ℕ). (if q k then k else suc k) ≡ x) (ltb k (k + 0)) (λ e. absurd (omega (arith, ltb-true k (k + 0) e))) (λ _. let z : k ≡ k + 0 = omega arith in ap (λ (y : ℕ). if q y then y else suc y) z)
lowest-more q (suc d) k =
    by_test (q k)
    (λ e. rw (e, lt-ltb k (k + suc d) (omega arith)))
    (λ e. rw e (lowest-more q d (suc k) ∙ ap (λ (y : ℕ). if ltb (lowest q d (suc k)) y then lowest q d (suc k) else if q y then y else suc y) (omega arith)))

lowest-top : (q : ℕ → Bool) (d k : ℕ) → lowest q d k ≤ k + d
unfolding lowest
lowest-top q zero k = omega arith
lowest-top q (suc d) k = if_case (λ (x : ℕ). x ≤ k + suc d) (q k) (λ _. omega arith) (λ _. omega (arith, lowest-top q d (suc k)))

-- the lowest place, or none
pub first-lowest : (q : ℕ → Bool) (m : ℕ) → first_of (λ (j : ℕ). found_if (q j) j) m ≡ (if ltb (lowest q m 0) m then Ok (Some (lowest q m 0)) else Ok None)
unfolding first_of or_else lowest
first-lowest q zero = refl
first-lowest q (suc m) =
    let top = lowest-top q m 0 in
    ap (λ (x : Found). or_else x (found_if (q m) m)) (first-lowest q m) ∙ by_test (ltb (lowest q m 0) m)
    (λ e. let small : lowest q m 0 < m = ltb-true _ m e in
    let low : lowest q (suc m) 0 ≡ lowest q m 0 = lowest-more q m 0 ∙ ap (λ (b : Bool). if b then lowest q m 0 else if q (0 + m) then 0 + m else suc (0 + m)) (lt-ltb (lowest q m 0) (0 + m) (omega arith)) in
    rw (e, low, lt-ltb (lowest q m 0) (suc m) (omega arith)))
    (λ e. let none : lowest q m 0 ≡ m = omega (arith, ltb-false _ m e) in
    let low : lowest q (suc m) 0 ≡ (if q m then m else suc m) = lowest-more q m 0 ∙ ap (λ (b : Bool). if b then lowest q m 0 else if q (0 + m) then 0 + m else suc (0 + m)) (le-ltb (lowest q m 0) (0 + m) (omega arith)) ∙ ap (λ (y : ℕ). if q y then y else suc y) (omega arith) in
    by_test (q m)
    (λ f. rw (e, low, f, lt-ltb m (suc m) (omega arith)))
    (λ f. rw (e, low, f, le-ltb (suc m) (suc m) (omega arith))))

abbrev pub is_bad : Found → Bool
is_bad (Err _) = true
is_bad (Ok (Some j)) = false
is_bad (Ok None) = false

-- a search that meets nothing bad
pub or_good : (a b : Found) → is_bad a ≡ false → is_bad b ≡ false → is_bad (or_else a b) ≡ false
unfolding or_else
or_good (Err _) b h k = h
or_good (Ok (Some j)) b h k = refl
or_good (Ok None) b h k = k

pub first_good : (f : ℕ → Found) (m : ℕ) → ((j : ℕ) → is_bad (f j) ≡ false) → is_bad (first_of f m) ≡ false
unfolding first_of
first_good f zero h = refl
first_good f (suc m) h = or_good (first_of f m) (f m) (first_good f m h) (h m)

pub good_if : (b : Bool) (j : ℕ) → is_bad (found_if b j) ≡ false
good_if true j = refl
good_if false j = refl

-- nothing is found exactly where nothing is in the list
module _ {A : Type 0} (p : A → Bool) (d : A) where
  none_cons : (x : A) (l : List A) (m : ℕ) → first_of (λ (j : ℕ). found_if (p (get_or (x ∷ l) j d)) j) (suc m) ≡ or_else (found_if (p x) 0) (first_of (λ (j : ℕ). found_if (p (get_or l j d)) (suc j)) m)
  unfolding first_of or_else
  none_cons x l zero = by_test (p x) (λ e. rw e) (λ e. rw e)
  none_cons x l (suc m) = ap (λ (y : Found). or_else y (found_if (p (get_or l m d)) (suc m))) (none_cons x l m) ∙ assoc (found_if (p x) 0) (first_of (λ (j : ℕ). found_if (p (get_or l j d)) (suc j)) m) (found_if (p (get_or l m d)) (suc m))
    where
      assoc : (a b c : Found) → or_else (or_else a b) c ≡ or_else a (or_else b c)
      assoc (Err _) b c = refl
      assoc (Ok (Some j)) b c = refl
      assoc (Ok None) b c = refl

  -- the place that is named does not matter
  none_name : (l : List A) (m : ℕ) (f g : ℕ → ℕ) → is_none (first_of (λ (j : ℕ). found_if (p (get_or l j d)) (f j)) m) ≡ is_none (first_of (λ (j : ℕ). found_if (p (get_or l j d)) (g j)) m)
  unfolding first_of
  none_name l zero f g = refl
  none_name l (suc m) f g = none_or (first_of (λ (j : ℕ). found_if (p (get_or l j d)) (f j)) m) (first_of (λ (j : ℕ). found_if (p (get_or l j d)) (g j)) m) (none_name l m f g)
    where
      none_or : (a b : Found) → is_none a ≡ is_none b → is_none (or_else a (found_if (p (get_or l m d)) (f m))) ≡ is_none (or_else b (found_if (p (get_or l m d)) (g m)))
      none_or (Err _) (Err _) e = unfold or_else in refl
      none_or (Err _) (Ok (Some j)) e = unfold or_else in refl
      none_or (Err _) (Ok None) e = absurd (false≢true e)
      none_or (Ok (Some i)) (Err _) e = unfold or_else in refl
      none_or (Ok (Some i)) (Ok (Some j)) e = unfold or_else in refl
      none_or (Ok (Some i)) (Ok None) e = absurd (false≢true e)
      none_or (Ok None) (Err _) e = absurd (true≢false e)
      none_or (Ok None) (Ok (Some j)) e = absurd (true≢false e)
      none_or (Ok None) (Ok None) e = unfold or_else in by_test (p (get_or l m d)) (λ q. rw q) (λ q. rw q)

  none_any : (l : List A) → is_none (first_of (λ (j : ℕ). found_if (p (get_or l j d)) j) (length l)) ≡ not (any p l)
  unfolding any first_of or_else
  none_any [] = refl
  none_any (x ∷ l) =
      ap is_none (none_cons x l (length l)) ∙ by_test (p x) (λ e. rw e) (λ e. rw e (none_name l (length l) suc (λ (j : ℕ). j) ∙ none_any l))

  -- a search of all rows finds none exactly where none is in the list
  pub row_search : (l : List A) (m : ℕ) (f : ℕ → Found) → length l ≡ m → ((j : ℕ) → f j ≡ found_if (p (get_or l j d)) j) → is_none (first_of f m) ≡ not (any p l)
  row_search l m f e h =
      ap is_none (ap (first_of f) (sym e) ∙ first-same f (λ (j : ℕ). found_if (p (get_or l j d)) j) (length l) (λ j _. h j)) ∙ none_any l
