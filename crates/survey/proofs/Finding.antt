-- A search for a row: what holds from row to row, and whether a block is stood on.
use Rattle.std.specs.Prelude.{◌+◌, ◌<◌, ◌≤◌, ℕ, Bool, ◌&&◌, false, true, List, ◌≡◌, eqb}
use Rattle.std.proofs.Common.{true≢false, ◌∙◌, ap, sym, add-one, arith}
use Rattle.std.proofs.Math.Path.{refl}
use Rattle.rulebook.specs.declared.Sizes.{Sizes}
use Rattle.rulebook.specs.declared.Slot.{Slot}
use Rattle.layout.specs.Places.{slot_part}
use Rattle.layout.specs.Rows.{slot_read}
use Rattle.layout.specs.View.{view_slot_at, view_slots}
use Rattle.rulebook.specs.State.{freed, is_live, stood}
use Rattle.rulebook.specs.Tests.{by_test}
use Rattle.survey.proofs.Deciding.{any_some-to, some_not}
use Rattle.survey.specs.Decide.{some_to}
use Rattle.survey.specs.Rules.{shown, slot}
use Rattle.survey.specs.Searches.{stands_on}

module _ (d : Sizes) (p : List ℕ) (k j : ℕ) (x : Slot) (e : x ≡ slot_read (slot_part p j)) (l : j < d.h) (b : Bool) (f : b ≡ is_live x.status) where
  same : slot d p j ≡ x
  same = view_slot_at d p j l ∙ sym e

  pub stands_live : b ≡ true → eqb x.block k ≡ stands_on d p k j
  unfolding stands_on
  stands_live g = rw (same, ← f, g)

  pub stands_not : b ≡ false → false ≡ stands_on d p k j
  unfolding stands_on
  stands_not g = rw (same, ← f, g)

-- ---- a search for a row

module _ (f : ℕ → Bool) where
  pub some-start : some_to f 0 ≡ false
  unfolding some_to
  some-start = refl

  module _ (j : ℕ) (x : Bool) (e : x ≡ f j) where
    pub some-on : some_to f j ≡ false → x ≡ false → some_to f (j + 1) ≡ false
    some-on so g = ap (some_to f) (add-one j) ∙ (unfold some_to in (rw (so, ← e, g)))

    pub some-stop : (m : ℕ) → j < m → x ≡ true → true ≡ some_to f m
    some-stop m l g = sym (by_test (some_to f m) (λ q. q) (λ q. absurd (true≢false (sym g ∙ e ∙ some_not f m q j l))))

  pub some_end : (j m : ℕ) → some_to f j ≡ false → j ≤ m → m ≤ j → false ≡ some_to f m
  some_end j m so l n = let e : j ≡ m = omega arith in sym so ∙ ap (some_to f) e

-- stood on is that some row stands on it
pub stood-is : (d : Sizes) (p : List ℕ) (k : ℕ) (r : Bool) → r ≡ some_to (stands_on d p k) d.h → r ≡ stood (shown d p) k
unfolding stood stands_on
stood-is d p k r e = e ∙ sym (any_some-to (λ (x : Slot). is_live x.status && eqb x.block k) (shown d p).slots (freed 0) refl d.h (view_slots d p))
