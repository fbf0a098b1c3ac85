-- Binary digits, and how many steps a get may still take: never more than 3 and the digits of N.
-- Rests on Reading.
use Prim.Native.Nat.{◌+◌, ◌-◌, ◌/◌, ◌<◌, ◌≤◌, suc, zero, zero-le, ℕ}
use Rattle.std.specs.Prelude.{List, ◌≡◌, refl, eqb, leb, length}
use Rattle.std.proofs.Common.{◌∙◌, ap, sym, arith, eqb-true}
use Rattle.std.proofs.lemmas.Bool.{eqb-false}
use Rattle.rulebook.specs.declared.Entry.{Entry}
use Rattle.rulebook.specs.declared.Hand.{Hand}
use Rattle.rulebook.specs.declared.Progress.{Progress}
use Rattle.rulebook.specs.declared.Progress.TheVariants.{Going, Settled}
use Rattle.rulebook.specs.declared.Reading.{Reading}
use Rattle.rulebook.specs.declared.Reading.TheVariants.{Guess, Length, Probe, Version}
use Rattle.rulebook.specs.State.{Block, log_at}
use Rattle.rulebook.specs.Steps.{get_step, middle, probed}
use Rattle.rulebook.specs.Tests.{by_test, if_case}
use Rattle.theorems.specs.Reading.Get.{Good}
use Rattle.theorems.specs.Terms.{digits, digits_in, version_at}

in_none : (f : ℕ) → digits_in f 0 ≡ 0
unfolding digits_in
in_none zero = refl
in_none (suc f) = refl

in_some : (f n : ℕ) → 0 < n → digits_in (suc f) n ≡ suc (digits_in f (n / 2))
unfolding digits_in
in_some f n h = by_test (eqb n 0) (λ e. absurd (omega (arith, eqb-true n 0 e))) (λ e. rw e)

-- more fuel changes nothing
in_fuel : (f g n : ℕ) → n ≤ f → n ≤ g → digits_in f n ≡ digits_in g n
in_fuel zero g n p q = let z : n ≡ 0 = omega arith in rw z (in_none zero ∙ sym (in_none g))
in_fuel (suc f) zero n p q = let z : n ≡ 0 = omega arith in rw z (in_none (suc f) ∙ sym (in_none zero))
in_fuel (suc f) (suc g) n p q =
    by_test (eqb n 0)
    (λ e. rw (eqb-true n 0 e) (in_none (suc f) ∙ sym (in_none (suc g))))
    (λ e. let some : 0 < n = omega (arith, eqb-false n 0 e) in
    in_some f n some ∙ ap suc (in_fuel f g (n / 2) (omega arith) (omega arith)) ∙ sym (in_some g n some))

in_mono : (f m n : ℕ) → m ≤ n → digits_in f m ≤ digits_in f n
unfolding digits_in
in_mono zero m n h = omega arith
in_mono (suc f) m n h =
    by_test (eqb m 0)
    (λ e. rw e zero-le)
    (λ e. let some : 0 < m = omega (arith, eqb-false m 0 e) in
    omega (arith, in_some f m some, in_some f n (omega arith), in_mono f (m / 2) (n / 2) (omega arith)))

in_le : (f n : ℕ) → digits_in f n ≤ n
in_le zero n = unfold digits_in in zero-le
in_le (suc f) n =
    by_test (eqb n 0)
    (λ e. rw (eqb-true n 0 e) (omega (arith, in_none (suc f))))
    (λ e. omega (arith, eqb-false n 0 e, in_some f n (omega (arith, eqb-false n 0 e)), in_le f (n / 2)))

pub digits_mono : (m n : ℕ) → m ≤ n → digits m ≤ digits n
unfolding digits
digits_mono m n h = omega (arith, in_mono n m n h, in_fuel m n m (omega arith) h)

pub digits_half : (n : ℕ) → 0 < n → digits n ≡ suc (digits (n / 2))
unfolding digits
digits_half n h =
    in_fuel n (suc n) n (omega arith) (omega arith) ∙ in_some n n h ∙ ap suc (in_fuel n (n / 2) (n / 2) (omega arith) (omega arith))

-- a log of m entries has at most m digits
pub digits_le : (n : ℕ) → digits n ≤ n
unfolding digits
digits_le n = in_le n n

-- ---- what a get may still take

-- at most so many steps, where no log has more than m entries
abbrev pub left_of : ℕ → Reading → Hand → ℕ
left_of m Guess w = 3 + digits m
left_of m Version w = 2 + digits m
left_of m Length w = 1 + digits m
left_of m Probe w = digits (w.hi - w.lo)

-- the search is not over
abbrev pub Unsettled : Reading → Hand → Type 0
Unsettled Guess w = Unit
Unsettled Version w = Unit
Unsettled Length w = Unit
Unsettled Probe w = w.lo < w.hi

-- and at least one
pub left-some : (m : ℕ) (r : Reading) (w : Hand) → Unsettled r w → 0 < left_of m r w
left-some m Guess w o = omega arith
left-some m Version w o = omega arith
left-some m Length w o = omega arith
left-some m Probe w o = omega (arith, digits_half (w.hi - w.lo) (omega arith))

-- a step of a get takes one of them
abbrev pub Less : ℕ → ℕ → Progress → Type 0
Less m x (Going r w) = left_of m r w < x
Less m x (Settled w) = 0 < x

-- a probe takes one digit of what is left
pub probe_less : (l : List Entry) (n : ℕ) (w : Hand) → w.lo < w.hi → digits ((probed l n w).hi - (probed l n w).lo) < digits (w.hi - w.lo)
unfolding probed
probe_less l n w h =
    if_case (λ (q : Hand). digits (q.hi - q.lo) < digits (w.hi - w.lo)) (leb n (version_at l (middle w)))
    (λ e. omega (arith, digits_half (w.hi - w.lo) (omega arith), digits_mono (middle w - w.lo) ((w.hi - w.lo) / 2) (omega arith)))
    (λ e. omega (arith, digits_half (w.hi - w.lo) (omega arith), digits_mono (w.hi - (middle w + 1)) ((w.hi - w.lo) / 2) (omega arith)))

pub get-less : (r : Reading) (m : ℕ) (b : Block) (n : ℕ) (w : Hand) → length (log_at b w.cell) ≤ m → Unsettled r w → Less m (left_of m r w) (get_step r b n w)
unfolding get_step
get-less Guess m b n w few o = omega arith
get-less Version m b n w few o =
    if_case (Less m (2 + digits m)) (eqb b.version n) (λ e. omega arith) (λ e. omega arith)
get-less Length m b n w few o =
    if_case (Less m (1 + digits m)) (eqb (length (log_at b w.cell)) 0) (λ e. omega arith)
    (λ e. let z : digits (length (log_at b w.cell) - 0) < 1 + digits m = omega (arith, digits_mono (length (log_at b w.cell) - 0) m (omega arith)) in z)
get-less Probe m b n w few o =
    if_case (Less m (digits (w.hi - w.lo))) (eqb (probed (log_at b w.cell) n w).lo (probed (log_at b w.cell) n w).hi)
    (λ e. omega (arith, probe_less (log_at b w.cell) n w o)) (λ e. probe_less (log_at b w.cell) n w o)

-- a get in hand has a search that is not over
pub unsettled-good : (r : Reading) (l : List Entry) (n : ℕ) (w : Hand) (x : ℕ) → Good r l n w x → Unsettled r w
unsettled-good Guess l n w x g = tt
unsettled-good Version l n w x g = tt
unsettled-good Length l n w x g = tt
unsettled-good Probe l n w x g = g.left
