-- One more entry in a log gives an older handle what the shorter log gave it, whatever the cell holds by then.
-- Rests on value_in.
use Rattle.std.specs.Prelude.{◌+◌, ◌≤◌, suc, zero, ℕ, List, [], ◌++◌, ◌∷◌, ◌≡◌, leb}
use Rattle.std.proofs.Common.{arith, le-leb}
use Rattle.rulebook.specs.declared.Entry.{Entry}
use Rattle.rulebook.specs.Tests.{by_test}
use Rattle.theorems.specs.Reading.Search.{Below}
use Rattle.theorems.specs.Terms.{value_in}

abbrev pub entry : ℕ → ℕ → Entry
entry n c = record { version = n; old = c }

-- the log with one entry more gives an older handle what the shorter log gave it, whatever the cell holds now
pub value_snoc : (l : List Entry) (m c d n : ℕ) → n ≤ m → value_in (l ++ (entry m c ∷ [])) n d ≡ value_in l n c
unfolding value_in
value_snoc [] m c d n h = rw (le-leb n m h)
value_snoc (e ∷ l) m c d n h =
    by_test (leb n e.version) (λ t. rw t) (λ t. rw t (value_snoc l m c d n h))

pub below_snoc : (l : List Entry) (m c : ℕ) → Below l m → Below (l ++ (entry m c ∷ [])) (m + 1)
below_snoc [] m c h zero q = omega arith
below_snoc [] m c h (suc j) q = absurd (omega arith)
below_snoc (e ∷ l) m c h zero q = omega (arith, h 0 (omega arith))
below_snoc (e ∷ l) m c h (suc j) q = below_snoc l m c (λ k r. h (suc k) (omega arith)) j (omega arith)
