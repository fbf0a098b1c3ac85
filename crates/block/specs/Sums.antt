-- Laws of sums f 0 + .. + f (n - 1).
-- Rests on nothing.
use Rattle.std.specs.Prelude.{ℕ, zero, suc, ◌+◌, ◌*◌, ◌≤◌, ◌<◌, ◌≡◌, refl}
use Rattle.std.proofs.Common.{ap, ap₂, ⊎_elim, le_of_suc-le-suc, not-suc-le-zero, eq-or-lt_of_le, arith}
use Rattle.block.specs.Sound.{sum_to}

pub sum_same : (n : ℕ) (f g : ℕ → ℕ) → ((k : ℕ) → k < n → f k ≡ g k) → sum_to n f ≡ sum_to n g
sum_same zero f g h = refl
sum_same (suc n) f g h = ap₂ ◌+◌ (sum_same n f g (λ k l. h k (omega arith))) (h n (omega arith))

pub sum-none : (n : ℕ) (f : ℕ → ℕ) → ((k : ℕ) → k < n → f k ≡ 0) → sum_to n f ≡ 0
sum-none zero f h = refl
sum-none (suc n) f h =
    let s = sum-none n f (λ k l. h k (omega arith)) in
    let t = h n (omega arith) in
    omega arith

-- one summand changes
pub sum_one : (n i : ℕ) (f g : ℕ → ℕ) → i < n → ((k : ℕ) → k < n → (k ≡ i → ⊥) → g k ≡ f k) → sum_to n g + f i ≡ sum_to n f + g i
sum_one zero i f g l h = absurd (not-suc-le-zero l)
sum_one (suc n) i f g l h =
    ⊎_elim
    (λ (e : i ≡ n).
    let s : sum_to n g ≡ sum_to n f = sum_same n g f (λ k q. h k (omega arith) (λ r. omega arith)) in
    let a : f i ≡ f n = ap f e in
    let b : g i ≡ g n = ap g e in
    omega arith)
    (λ (q : i < n).
    let s : sum_to n g + f i ≡ sum_to n f + g i = sum_one n i f g q (λ k r. h k (omega arith)) in
    let t : g n ≡ f n = h n (omega arith) (λ r. omega arith) in
    omega arith)
    (eq-or-lt_of_le (le_of_suc-le-suc l))

pub sum-at : (n i : ℕ) (f : ℕ → ℕ) → i < n → f i ≤ sum_to n f
sum-at zero i f l = absurd (not-suc-le-zero l)
sum-at (suc n) i f l =
    ⊎_elim (λ (e : i ≡ n). let a : f i ≡ f n = ap f e in omega arith) (λ (q : i < n). let a = sum-at n i f q in omega arith)
    (eq-or-lt_of_le (le_of_suc-le-suc l))

-- summands that are at most twice others
pub sum_twice : (n : ℕ) (f g : ℕ → ℕ) → ((k : ℕ) → k < n → f k ≤ 2 * g k) → sum_to n f ≤ 2 * sum_to n g
sum_twice zero f g h = omega arith
sum_twice (suc n) f g h =
    let s = sum_twice n f g (λ k l. h k (omega arith)) in
    let t = h n (omega arith) in
    omega arith

-- the same, with what one summand leaves
pub sum_slack : (n i : ℕ) (f g : ℕ → ℕ) → i < n → ((k : ℕ) → k < n → f k ≤ 2 * g k) → sum_to n f + 2 * g i ≤ 2 * sum_to n g + f i
sum_slack zero i f g l h = absurd (not-suc-le-zero l)
sum_slack (suc n) i f g l h =
    ⊎_elim
    (λ (e : i ≡ n).
    let s = sum_twice n f g (λ k q. h k (omega arith)) in
    let a : f i ≡ f n = ap f e in
    let b : g i ≡ g n = ap g e in
    omega arith)
    (λ (q : i < n).
    let s = sum_slack n i f g q (λ k r. h k (omega arith)) in
    let t = h n (omega arith) in
    omega arith)
    (eq-or-lt_of_le (le_of_suc-le-suc l))
