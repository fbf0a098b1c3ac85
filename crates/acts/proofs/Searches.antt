-- A search of rows: nothing found so far, one row more, and the row that ends it. A count of rows.
-- Rests on Plans and Looks.
use Rattle.std.specs.Prelude.{ℕ, zero, suc, ◌+◌, ◌≡◌, ◌≢◌, ◌<◌, Some, None, Ok, Err, refl, ltb}
use Rattle.std.proofs.Common.{arith, add-one, sym, ◌∙◌, ap}
use Rattle.std.proofs.lemmas.Bool.{ltb-true, ltb-false}
use Rattle.rulebook.specs.Codes.{damaged}
use Rattle.rulebook.specs.Tests.{by_test}
use Rattle.acts.specs.Acts.{Found}
use Rattle.acts.specs.Plans.{first_of, or_else}
use Rattle.acts.specs.Looks.{count_of, plus}

pub first_of_zero : (f : ℕ → Found) → first_of f 0 ≡ Ok None
unfolding first_of
first_of_zero f = refl

pub first_of_none : (f : ℕ → Found) (n : ℕ) → first_of f n ≡ Ok None → f n ≡ Ok None → first_of f (n + 1) ≡ Ok None
unfolding first_of or_else
first_of_none f n e g = rw (add-one n, e, g)

kept : (x y r : Found) → x ≡ r → r ≢ Ok None → or_else x y ≡ r
unfolding or_else
kept (Ok None) y r e h = absurd (h (sym e))
kept (Ok (Some k)) y r e h = e
kept (Err x) y r e h = e

here : (f : ℕ → Found) (n : ℕ) (r : Found) → first_of f n ≡ Ok None → f n ≡ r → first_of f (suc n) ≡ r
unfolding first_of or_else
here f n r e g = rw e g

-- a search ends at the first row that decides
pub first_of_stops : (f : ℕ → Found) (j n : ℕ) (r : Found) → first_of f j ≡ Ok None → j < n → f j ≡ r → r ≢ Ok None → first_of f n ≡ r
unfolding first_of
first_of_stops f j zero r e l g h = absurd (omega (arith, l))
first_of_stops f j (suc n) r e l g h =
    by_test (ltb j n)
    (λ t. kept (first_of f n) (f n) r (first_of_stops f j n r e (ltb-true j n t) g h) h)
    (λ t. let at : j ≡ n = omega (arith, l, ltb-false j n t) in here f n r (ap (first_of f) (sym at) ∙ e) (ap f (sym at) ∙ g))

-- ---- a count

pub count_of_zero : (f : ℕ → Found) → count_of f 0 ≡ Ok 0
unfolding count_of
count_of_zero f = refl

pub count_of_same : (f : ℕ → Found) (n m : ℕ) → count_of f n ≡ Ok m → f n ≡ Ok None → count_of f (n + 1) ≡ Ok m
unfolding count_of plus
count_of_same f n m e g = rw (add-one n, e, g)

pub count_of_more : (f : ℕ → Found) (n m j : ℕ) → count_of f n ≡ Ok m → f n ≡ Ok (Some j) → count_of f (n + 1) ≡ Ok (m + 1)
unfolding count_of plus
count_of_more f n m j e g = rw (add-one n, e, g)

spoiled : (f : ℕ → Found) (n : ℕ) → count_of f n ≡ Err damaged → count_of f (suc n) ≡ Err damaged
unfolding count_of plus
spoiled f n e = rw e

broken : (f : ℕ → Found) (n m : ℕ) → count_of f n ≡ Ok m → f n ≡ Err damaged → count_of f (suc n) ≡ Err damaged
unfolding count_of plus
broken f n m e g = rw (e, g)

-- a damaged row spoils it
pub count_of_stops : (f : ℕ → Found) (j n m : ℕ) → count_of f j ≡ Ok m → j < n → f j ≡ Err damaged → count_of f n ≡ Err damaged
count_of_stops f j zero m e l g = absurd (omega (arith, l))
count_of_stops f j (suc n) m e l g =
    by_test (ltb j n)
    (λ t. spoiled f n (count_of_stops f j n m e (ltb-true j n t) g))
    (λ t. let at : j ≡ n = omega (arith, l, ltb-false j n t) in broken f n m (ap (count_of f) (sym at) ∙ e) (ap f (sym at) ∙ g))
