-- Laws of the rule book's list functions: list_to, any, lowest.
-- Rests on nothing.
use Prim.Native.Nat.{ℕ, zero, suc, ◌+◌, ◌≤◌, ◌<◌}
use Rattle.std.specs.Prelude.{◌≡◌, Bool, true, false, length, get_or, set, replicate, eqb}
use Rattle.std.proofs.Math.Path.{refl, ap, ap₂}
use Rattle.std.proofs.Common.{sym, ◌∙◌, subst, true≢false, not-suc-le-zero, arith, length-set, get_or-set_same, get_or-set_other, ext_get_or, eqb-true}
use mathlib.Core.List.{List, [], ◌∷◌, ◌++◌}
use Rattle.std.proofs.lemmas.Bool.{eqb-false}
use Rattle.rulebook.specs.State.{any, lowest, list_to}
use Rattle.rulebook.specs.Tests.{by_test, or_neither}

-- ---- list_to n f: f 0, .. f (n - 1)

module _ {A : Type 0} where
  pub list_to-length : (n : ℕ) (f : ℕ → A) → length (list_to n f) ≡ n
  unfolding list_to
  list_to-length zero f = refl
  list_to-length (suc n) f = ap suc (list_to-length n (λ (i : ℕ). f (suc i)))

  pub list_to-get : (n : ℕ) (f : ℕ → A) (i : ℕ) (d : A) → i < n → get_or (list_to n f) i d ≡ f i
  unfolding list_to
  list_to-get zero f i d h = absurd (not-suc-le-zero h)
  list_to-get (suc n) f zero d h = refl
  list_to-get (suc n) f (suc i) d h = list_to-get n (λ (k : ℕ). f (suc k)) i d (omega arith)

  pub list_to-same : (n : ℕ) (f g : ℕ → A) → ((i : ℕ) → i < n → f i ≡ g i) → list_to n f ≡ list_to n g
  unfolding list_to
  list_to-same zero f g h = refl
  list_to-same (suc n) f g h =
      ap₂ (λ (x : A) (l : List A). x ∷ l) (h 0 (omega arith)) (list_to-same n (λ (k : ℕ). f (suc k)) (λ (k : ℕ). g (suc k)) (λ i q. h (suc i) (omega arith)))

  -- one more at the end
  pub list_to_snoc : (n : ℕ) (f : ℕ → A) → list_to (suc n) f ≡ list_to n f ++ (f n ∷ [])
  unfolding list_to
  list_to_snoc zero f = refl
  list_to_snoc (suc n) f = ap (λ (l : List A). f 0 ∷ l) (list_to_snoc n (λ (k : ℕ). f (suc k)))

  -- a list is what its places hold
  pub list_to-all : (d : A) (l : List A) → list_to (length l) (λ (i : ℕ). get_or l i d) ≡ l
  unfolding list_to
  list_to-all d [] = refl
  list_to-all d (x ∷ l) = ap (λ (m : List A). x ∷ m) (list_to-all d l)

  -- one place changed
  pub list_to-set : (d : A) (n i : ℕ) (f g : ℕ → A) (v : A) → i < n → g i ≡ v → ((j : ℕ) → j < n → (j ≡ i → ⊥) → g j ≡ f j) → list_to n g ≡ set (list_to n f) i v
  list_to-set d n i f g v h own others =
      ext_get_or d (list_to n g) (set (list_to n f) i v) (list_to-length n g ∙ sym (list_to-length n f) ∙ sym (length-set (list_to n f) i v))
      (λ j l. at j (subst (λ (x : ℕ). j < x) (list_to-length n g) l))
    where
      at : (j : ℕ) → j < n → get_or (list_to n g) j d ≡ get_or (set (list_to n f) i v) j d
      at j l =
          by_test (eqb j i)
          (λ e. list_to-get n g j d l ∙ ap g (eqb-true j i e) ∙ own ∙ sym (get_or-set_same (list_to n f) i v d (subst (λ (x : ℕ). i < x) (sym (list_to-length n f)) h)) ∙ ap (λ (x : ℕ). get_or (set (list_to n f) i v) x d) (sym (eqb-true j i e)))
          (λ e. list_to-get n g j d l ∙ others j l (eqb-false j i e) ∙ sym (list_to-get n f j d l) ∙ sym (get_or-set_other (list_to n f) i j v d (eqb-false j i e)))

  pub replicate_get : (n : ℕ) (a : A) (j : ℕ) → get_or (replicate n a) j a ≡ a
  replicate_get zero a j = refl
  replicate_get (suc n) a zero = refl
  replicate_get (suc n) a (suc j) = replicate_get n a j

-- ---- any

pub any_none : {A : Type 0} (p : A → Bool) (l : List A) (d : A) → any p l ≡ false → p d ≡ false → (j : ℕ) → p (get_or l j d) ≡ false
unfolding any
any_none p [] d h e j = e
any_none p (x ∷ l) d h e zero = (or_neither (p x) (any p l) h).0
any_none p (x ∷ l) d h e (suc j) = any_none p l d (or_neither (p x) (any p l) h).1 e j

pub any_some : {A : Type 0} (p : A → Bool) (l : List A) (d : A) (j : ℕ) → p d ≡ false → p (get_or l j d) ≡ true → any p l ≡ true
any_some p l d j e h = by_test (any p l) (λ q. q) (λ q. absurd (true≢false (sym h ∙ any_none p l d q e j)))

pub any_replicate : {A : Type 0} (p : A → Bool) (n : ℕ) (x : A) → p x ≡ false → any p (replicate n x) ≡ false
unfolding any
any_replicate p zero x e = refl
any_replicate p (suc n) x e = rw e (any_replicate p n x e)

-- a change to something that is not looked for
pub any_set : {A : Type 0} (p : A → Bool) (l : List A) (f : ℕ) (y : A) → p y ≡ false → any p (set l f y) ≡ true → any p l ≡ true
unfolding any
any_set p [] f y e h = h
any_set p (x ∷ l) zero y e h = by_test (p x) (λ q. rw q) (λ q. rw q (rw e at h))
any_set p (x ∷ l) (suc f) y e h = by_test (p x) (λ q. rw q) (λ q. rw q (any_set p l f y e (rw q at h)))

-- ---- lowest

pub lowest-found : (p : ℕ → Bool) (d k : ℕ) → lowest p d k < k + d → p (lowest p d k) ≡ true
unfolding lowest
lowest-found p zero k h = absurd (omega arith)
lowest-found p (suc d) k h = by_test (p k) (λ e. rw e e) (λ e. rw e (lowest-found p d (suc k) (rest e)))
  where
    rest : p k ≡ false → lowest p d (suc k) < suc k + d
    rest e = omega (arith, rw e at h)

-- below it nothing is found
pub lowest-none : (p : ℕ → Bool) (d k j : ℕ) → k ≤ j → j < lowest p d k → p j ≡ false
unfolding lowest
lowest-none p zero k j a b = absurd (omega arith)
lowest-none p (suc d) k j a b =
    by_test (p k)
    (λ e. let z : j < k = rw e at b in absurd (omega arith))
    (λ e. by_test (eqb j k) (λ q. rw (eqb-true j k q) e) (λ q. lowest-none p d (suc k) j (omega (arith, eqb-false j k q)) (rw e at b)))
