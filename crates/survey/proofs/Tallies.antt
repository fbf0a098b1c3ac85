-- Rule 4's count of a block's entries: what holds from cell to cell, and what each way out owes.
use Rattle.std.specs.Prelude.{◌*◌, ◌+◌, ◌<◌, ◌≤◌, min, suc, zero, ℕ, Bool, false, not, List, [], ◌++◌, ◌∷◌, ◌≡◌, length}
use Rattle.std.proofs.Math.Bool.{true}
use Rattle.std.proofs.Common.{◌∙◌, ap, sym, arith}
use Rattle.std.proofs.Math.Path.{refl}
use Rattle.std.proofs.Math.Nat.{le-min, min-le_left, min-le_right}
use Rattle.std.proofs.Math.Dec.{leb}
use borrow.Author.Tests.{le-leb, leb-false, leb-true, lt-leb, not-false, not-true}
use Rattle.rulebook.specs.declared.Entry.{Entry}
use Rattle.rulebook.specs.declared.Sizes.{Sizes}
use Rattle.block.specs.Layout.{entry_of, length_of, place_of, version_of}
use Rattle.block.specs.Sound.{block_of, log_of, sum_to, view_of}
use Rattle.block.specs.Sums.{sum_same}
use Rattle.layout.specs.Places.{Spans, block_part}
use Rattle.layout.specs.View.{view_block_at}
use Rattle.rulebook.specs.Lists.{list_to-length, list_to_snoc}
use Rattle.rulebook.specs.State.{Block, block_at, list_to, stood}
use Rattle.rulebook.specs.Tests.{by_test}
use Rattle.theorems.specs.Terms.{entries}
use Rattle.survey.specs.Broken.{rule4_at}
use Rattle.survey.specs.Decide.{◌implies◌}
use Rattle.survey.proofs.LogRules.{stood_walkable}
use Rattle.survey.specs.Rules.{Rule2, Rule3, shown}
use Rattle.survey.proofs.Ways.{version-here}
use Rattle.survey.specs.Tally.{Counts}

-- the entries of n logs are the sum of their lengths
entries-more : (l : List (List Entry)) (x : List Entry) → entries (l ++ (x ∷ [])) ≡ entries l + length x
unfolding entries
entries-more [] x = omega arith
entries-more (y ∷ l) x = omega (arith, entries-more l x)

entries-sum : (n : ℕ) (f : ℕ → List Entry) → entries (list_to n f) ≡ sum_to n (λ (i : ℕ). length (f i))
entries-sum zero f = unfold entries list_to in refl
entries-sum (suc n) f = ap entries (list_to_snoc n f) ∙ entries-more (list_to n f) (f n) ∙ ap (λ (m : ℕ). m + length (f n)) (entries-sum n f)

block-entries : (n : ℕ) (w : List ℕ) → entries (block_of n w).logs ≡ sum_to n (length_of n w)
unfolding block_of
block-entries n w =
    entries-sum n (log_of (view_of n w)) ∙ sum_same n _ (length_of n w) (λ i _. list_to-length (length_of n w i) (λ (j : ℕ). entry_of n w (place_of n w i j)))

module _ (d : Sizes) (p : List ℕ) where
  -- the lengths of the logs before log i are counted
  pub record TallyAt (k total i : ℕ) : Type 0 where
    pub on : Counts d p k
    pub most : i ≤ d.n
    pub is : total ≡ sum_to i (length_of d.n (block_part p d k))
    pub small : total ≤ 4097 * i

  pub counts-here : Spans d p → Rule2 d p → Rule3 d p → (k : ℕ) → k < d.b → (b : Bool) → b ≡ stood (shown d p) k → not b ≡ false → Counts d p k
  counts-here sp two three k l b e q =
      record { spans = sp; below = l; logs = stood_walkable d p two three k l (sym e ∙ not-false b q) }

  pub tally-end : (k total i : ℕ) → TallyAt k total i → d.n ≤ i → total ≡ entries (block_at (shown d p) k).logs
  tally-end k total i s l =
      let q : i ≡ d.n = (let m = s.most in omega arith) in
      s.is ∙ ap (λ (x : ℕ). sum_to x (length_of d.n (block_part p d k))) q ∙ sym (ap (λ (b : Block). entries b.logs) (view_block_at d p k s.on.below) ∙ block-entries d.n (block_part p d k))

  -- ---- rule 4 of a block

  module _ (k : ℕ) (b : Bool) (e : b ≡ stood (shown d p) k) where
    pub four_free : not b ≡ true → true ≡ rule4_at d p k
    unfolding rule4_at
    four_free q = rw (← e, not-true b q)

    module _ (q : not b ≡ false) (total : ℕ) (f : total ≡ entries (block_at (shown d p) k).logs) (l : k < d.b)
        (v : ℕ) (g : v ≡ version_of (block_part p d k)) where
      pub four-version : v < total → leb total v ≡ rule4_at d p k
      unfolding rule4_at
      four-version o =
          let z = min-le_left v d.n in
          rw (← e, not-false b q, ← f, version-here d p k l v g, lt-leb total v o, lt-leb total (min v d.n) (omega arith))

      pub four-last : total ≤ v → leb total d.n ≡ rule4_at d p k
      unfolding rule4_at
      four-last o = by_test (leb total d.n) (λ h. h ∙ yes (leb-true total d.n h)) (λ h. h ∙ not_so (leb-false total d.n h))
        where
          yes : total ≤ d.n → true ≡ (stood (shown d p) k implies leb (entries (block_at (shown d p) k).logs) (min (block_at (shown d p) k).version d.n))
          yes h = rw (← e, not-false b q, ← f, version-here d p k l v g, le-leb total (min v d.n) (le-min o h))

          not_so : d.n < total → false ≡ (stood (shown d p) k implies leb (entries (block_at (shown d p) k).logs) (min (block_at (shown d p) k).version d.n))
          not_so h = let z = min-le_right v d.n in rw (← e, not-false b q, ← f, version-here d p k l v g, lt-leb total (min v d.n) (omega arith))

pub ruleset tallies = (counts-here, tally-end, four_free, four-version, four-last)
