-- Tests of statements by numbers: one asked only where another is true, and whether one holds at some number below a bound.
-- Nothing is proved here.
use Prim.Native.Nat.{suc, zero, ℕ}
use Rattle.std.specs.Prelude.{Bool, ◌||◌, false, true}

infix 3 ◌implies◌
-- the second is asked only where the first is true
abbrev pub ◌implies◌ : Bool → Bool → Bool
true implies b = b
false implies b = true

-- p holds at one of 0, .. n - 1
unfoldable pub some_to : (ℕ → Bool) → ℕ → Bool
some_to p zero = false
some_to p (suc n) = some_to p n || p n
