-- Tests that decide statements: comparisons, and, or, only where, for every number below a bound, for some number below it.
use Prim.Native.Nat.{◌<◌, ◌≤◌, suc, zero, ℕ}
use Rattle.std.specs.Prelude.{Bool, ◌&&◌, false, not, true, List, [], ◌∷◌, ◌≡◌, refl, eqb, leb, ltb, get_or, length}
use Rattle.std.proofs.lemmas.Bool.{false≢true}
use Rattle.std.proofs.Common.{true≢false, ◌∙◌, ap, sym, not-suc-le-zero}
use native.Mathlib.Omega.{arith}
use Rattle.std.proofs.Math.ListN.{get_or-eq_default}
use borrow.Author.Tests.{eqb-false, eqb-true, leb-false, leb-true, ltb-false, ltb-true}
use Rattle.block.specs.Walk.{Decides}
use Rattle.rulebook.specs.Lists.{any_none}
use Rattle.rulebook.specs.State.{any}
use Rattle.rulebook.specs.Tests.{by_test}
use Rattle.theorems.specs.Terms.{all_to}
use Rattle.survey.specs.Decide.{◌implies◌, some_to}

-- ---- one test

pub decide_lt : (a b : ℕ) → Decides (ltb a b) (a < b)
decide_lt a b = record { yes = ltb-true a b; no = λ e h. omega (arith, ltb-false a b e) }

pub decide_le : (a b : ℕ) → Decides (leb a b) (a ≤ b)
decide_le a b = record { yes = leb-true a b; no = λ e h. omega (arith, leb-false a b e) }

pub decide_eq : (a b : ℕ) → Decides (eqb a b) (a ≡ b)
decide_eq a b = record { yes = eqb-true a b; no = eqb-false a b }

pub decide_test : (a : Bool) → Decides a (a ≡ true)
decide_test a = record { yes = λ e. e; no = λ e h. true≢false (sym h ∙ e) }

pub decide_not : (a : Bool) → Decides (not a) (a ≡ false)
decide_not true = record { yes = λ e. absurd (false≢true e); no = λ e h. true≢false h }
decide_not false = record { yes = λ e. refl; no = λ e h. true≢false e }

pub decide_always : {P : Type 0} → P → Decides true P
decide_always h = record { yes = λ e. h; no = λ e. absurd (true≢false e) }

-- ---- tests together

module _ {a : Bool} {P : Type 0} where
  pub decide_as : {Q : Type 0} → Decides a P → (P → Q) → (Q → P) → Decides a Q
  decide_as x to back = record { yes = λ e. to (x.yes e); no = λ e q. x.no e (back q) }

  pub decide_never : Decides a P → Decides (not a) (P → ⊥)
  decide_never x = by_test a (λ e. rw e (record { yes = λ f. absurd (false≢true f); no = λ f g. g (x.yes e) })) (λ e. rw e (record { yes = λ f. x.no e; no = λ f. absurd (true≢false f) }))

  pub decide_and : {b : Bool} {Q : Type 0} → Decides a P → Decides b Q → Decides (a && b) (P × Q)
  decide_and {b} {Q} x y =
      by_test a
      (λ e. rw e (record { yes = λ f. (x.yes e, y.yes f); no = λ f h. y.no f h.1 }))
      (λ e. rw e (record { yes = λ f. absurd (false≢true f); no = λ f h. x.no e h.0 }))

  pub decide_only : {b : Bool} {Q : Type 0} → Decides a P → (P → Decides b Q) → Decides (a implies b) (P → Q)
  decide_only {b} {Q} x y =
      by_test a
      (λ e. rw e (record { yes = λ f h. (y h).yes f; no = λ f h. let u = x.yes e in (y u).no f (h u) }))
      (λ e. rw e (record { yes = λ f h. absurd (x.no e h); no = λ f. absurd (true≢false f) }))

-- three and five in a row
pub decide_three : {a b c : Bool} {P Q R : Type 0} → Decides a P → Decides b Q → Decides c R → Decides (a && (b && c)) (P × Q × R)
decide_three x y z = decide_as (decide_and x (decide_and y z)) (λ h. (h.0, h.1.0, h.1.1)) (λ h. (h.0, (h.1, h.2)))

pub decide_five : {a b c d e : Bool} {P Q R S T : Type 0} → Decides a P → Decides b Q → Decides c R → Decides d S → Decides e T → Decides (a && (b && (c && (d && e)))) (P × Q × R × S × T)
decide_five x y z u v =
    decide_as (decide_and x (decide_and y (decide_three z u v))) (λ h. (h.0, h.1.0, h.1.1.0, h.1.1.1, h.1.1.2)) (λ h. (h.0, (h.1, (h.2, h.3, h.4))))

-- two tests that decide one statement are the same
pub same : {P : Type 0} (a b : Bool) → Decides a P → Decides b P → a ≡ b
same true true x y = refl
same true false x y = absurd (y.no refl (x.yes refl))
same false true x y = absurd (x.no refl (y.yes refl))
same false false x y = refl

-- ---- at every number, at some number below n

module _ (p : ℕ → Bool) where
  pub all-at : (n : ℕ) → all_to p n ≡ true → (i : ℕ) → i < n → p i ≡ true
  unfolding all_to
  all-at zero e i l = absurd (not-suc-le-zero l)
  all-at (suc n) e i l =
      by_test (eqb i n)
      (λ q. rw (eqb-true i n q) (by_test (all_to p n) (λ f. rw f at e) (λ f. absurd (false≢true (rw f at e)))))
      (λ q. by_test (all_to p n) (λ f. all-at n f i (omega (arith, eqb-false i n q))) (λ f. absurd (false≢true (rw f at e))))

  all_not : (n : ℕ) → all_to p n ≡ false → (i : ℕ) × (i < n) × (p i ≡ false)
  unfolding all_to
  all_not zero e = absurd (true≢false e)
  all_not (suc n) e =
      by_test (all_to p n)
      (λ f. (n, omega arith, rw f at e))
      (λ f. let r = all_not n f in (r.0, omega arith, r.2))

  pub some_at : (n : ℕ) → some_to p n ≡ true → (i : ℕ) × (i < n) × (p i ≡ true)
  unfolding some_to
  some_at zero e = absurd (false≢true e)
  some_at (suc n) e =
      by_test (some_to p n)
      (λ f. let r = some_at n f in (r.0, omega arith, r.2))
      (λ f. (n, omega arith, rw f at e))

  pub some_not : (n : ℕ) → some_to p n ≡ false → (i : ℕ) → i < n → p i ≡ false
  unfolding some_to
  some_not zero e i l = absurd (not-suc-le-zero l)
  some_not (suc n) e i l =
      by_test (eqb i n)
      (λ q. rw (eqb-true i n q) (by_test (some_to p n) (λ f. absurd (true≢false (rw f at e))) (λ f. rw f at e)))
      (λ q. by_test (some_to p n) (λ f. absurd (true≢false (rw f at e))) (λ f. some_not n f i (omega (arith, eqb-false i n q))))

module _ {p : ℕ → Bool} {P : ℕ → Type 0} (n : ℕ) (x : (i : ℕ) → i < n → Decides (p i) (P i)) where
  pub decide_all : Decides (all_to p n) ((i : ℕ) → i < n → P i)
  decide_all =
      record {
        yes = λ e i l. (x i l).yes (all-at p n e i l);
        no = λ e h. let r = all_not p n e in (x r.0 r.1).no r.2 (h r.0 r.1);
      }

  pub decide_some : Decides (some_to p n) ((i : ℕ) × (i < n) × P i)
  decide_some =
      record {
        yes = λ e. let r = some_at p n e in (r.0, r.1, (x r.0 r.1).yes r.2);
        no = λ e h. (x h.0 h.1).no (some_not p n e h.0 h.1) h.2;
      }

-- ---- some element of a list

pub any_at : {A : Type 0} (p : A → Bool) (l : List A) (d : A) → any p l ≡ true → (j : ℕ) × (p (get_or l j d) ≡ true)
unfolding any
any_at p [] d e = absurd (false≢true e)
any_at p (x ∷ l) d e =
    by_test (p x) (λ f. (0, f)) (λ f. let r = any_at p l d (rw f at e) in (suc r.0, r.1))

-- is some number at which one stands
pub any_some-to : {A : Type 0} (p : A → Bool) (l : List A) (d : A) → p d ≡ false → (n : ℕ) → length l ≡ n → any p l ≡ some_to (λ (j : ℕ). p (get_or l j d)) n
any_some-to p l d e n h =
    by_test (any p l)
    (λ f.
    let r = any_at p l d f in
    f ∙ sym (by_test (some_to (λ (j : ℕ). p (get_or l j d)) n) (λ g. g)
    (λ g.
    by_test (ltb r.0 n)
    (λ q. absurd (true≢false (sym r.1 ∙ some_not (λ (j : ℕ). p (get_or l j d)) n g r.0 (ltb-true r.0 n q))))
    (λ q. absurd (true≢false (sym r.1 ∙ ap p (get_or-eq_default l d (omega (arith, ltb-false r.0 n q))) ∙ e))))))
    (λ f. f ∙ sym (by_test (some_to (λ (j : ℕ). p (get_or l j d)) n)
    (λ g. let r = some_at (λ (j : ℕ). p (get_or l j d)) n g in absurd (true≢false (sym r.2 ∙ any_none p l d f e r.0)))
    (λ g. g)))
