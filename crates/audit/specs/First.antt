-- The number of the first rule of a list that is broken: what it says of every rule, and that it is determined.
-- Rests on nothing.
use Rattle.std.specs.Prelude.{◌+◌, ◌<◌, suc, zero, ℕ, Bool, false, not, true, List, [], ◌∷◌, ◌⊎◌, ◌≡◌, refl, if◌then◌else◌}
use Rattle.std.proofs.Common.{inl, inr, ◌∙◌, subst, sym, arith}
use Rattle.block.specs.Walk.{Decides}

-- r is the number of the first of the rules Rs that is broken, numbered from q on; 0 where none is
unfoldable pub First : ℕ → List (Type 0) → ℕ → Type 0
First q [] r = r ≡ 0
First q (R ∷ Rs) r = (R × First (q + 1) Rs r) ⊎ ((R → ⊥) × (r ≡ q))

-- every one of them holds
abbrev pub AllHold : List (Type 0) → Type 0
AllHold [] = Unit
AllHold (R ∷ Rs) = R × AllHold Rs

-- rule m of them; beyond the last, nothing
abbrev pub rule_of : List (Type 0) → ℕ → Type 0
rule_of [] m = Unit
rule_of (R ∷ Rs) zero = R
rule_of (R ∷ Rs) (suc m) = rule_of Rs m

pub first_one : (q : ℕ) (Rs : List (Type 0)) (r s : ℕ) → First q Rs r → First q Rs s → r ≡ s
unfolding First
first_one q [] r s a b = a ∙ sym b
first_one q (R ∷ Rs) r s (inl a) (inl b) = first_one (q + 1) Rs r s a.1 b.1
first_one q (R ∷ Rs) r s (inl a) (inr b) = absurd (b.0 a.0)
first_one q (R ∷ Rs) r s (inr a) (inl b) = absurd (a.0 b.0)
first_one q (R ∷ Rs) r s (inr a) (inr b) = a.1 ∙ sym b.1

-- 0: all hold
pub first-zero : (q : ℕ) (Rs : List (Type 0)) → 0 < q → First q Rs 0 → AllHold Rs
unfolding First
first-zero q [] l a = tt
first-zero q (R ∷ Rs) l (inl a) = (a.0, first-zero (q + 1) Rs (omega arith) a.1)
first-zero q (R ∷ Rs) l (inr a) = absurd (omega (arith, a.1))

pub first-all : (q : ℕ) (Rs : List (Type 0)) (r : ℕ) → AllHold Rs → First q Rs r → r ≡ 0
unfolding First
first-all q [] r h a = a
first-all q (R ∷ Rs) r h (inl a) = first-all (q + 1) Rs r h.1 a.1
first-all q (R ∷ Rs) r h (inr a) = absurd (a.0 h.0)

-- q + m: those before rule m hold, and rule m does not
pub first-before : (q m : ℕ) (Rs : List (Type 0)) → 0 < q → First q Rs (q + m) → (i : ℕ) → i < m → rule_of Rs i
unfolding First
first-before q m [] l a i h = absurd (omega arith)
first-before q m (R ∷ Rs) l (inr a) i h = absurd (omega (arith, a.1))
first-before q zero (R ∷ Rs) l (inl a) i h = absurd (omega arith)
first-before q (suc m) (R ∷ Rs) l (inl a) zero h = a.0
first-before q (suc m) (R ∷ Rs) l (inl a) (suc i) h =
    let e : q + suc m ≡ q + 1 + m = omega arith in
    first-before (q + 1) m Rs (omega arith) (subst (First (q + 1) Rs) e a.1) i (omega arith)

-- a number is 0, or that of one of the rules
pub first_least : (q : ℕ) (Rs : List (Type 0)) (r : ℕ) → 0 < q → First q Rs r → r < q → r ≡ 0
unfolding First
first_least q [] r l a h = a
first_least q (R ∷ Rs) r l (inl a) h = first_least (q + 1) Rs r (omega arith) a.1 (omega arith)
first_least q (R ∷ Rs) r l (inr a) h = absurd (omega (arith, a.1))

pub first-broken : (q m : ℕ) (Rs : List (Type 0)) → 0 < q → First q Rs (q + m) → rule_of Rs m → ⊥
unfolding First
first-broken q m [] l a = absurd (omega arith)
first-broken q zero (R ∷ Rs) l (inl a) = absurd (omega (arith, first_least (q + 1) Rs (q + zero) (omega arith) a.1 (omega arith)))
first-broken q zero (R ∷ Rs) l (inr a) = a.0
first-broken q (suc m) (R ∷ Rs) l (inr a) = absurd (omega (arith, a.1))
first-broken q (suc m) (R ∷ Rs) l (inl a) =
    let e : q + suc m ≡ q + 1 + m = omega arith in
    first-broken (q + 1) m Rs (omega arith) (subst (First (q + 1) Rs) e a.1)

-- one rule that a test decides, and the rest, which are asked where it holds
pub first_next : (q : ℕ) (R : Type 0) (Rs : List (Type 0)) (b : Bool) (r : ℕ) → Decides b R → (R → First (q + 1) Rs r) → First q (R ∷ Rs) (if not b then q else r)
unfolding First
first_next q R Rs true r x f = let h = x.yes refl in inl (h, f h)
first_next q R Rs false r x f = inr (x.no refl, refl)

pub first-end : (q : ℕ) → First q [] 0
unfolding First
first-end q = refl
