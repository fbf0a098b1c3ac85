-- What the check reads of a block's words, whatever they say: the version of an entry, and one law for each way out.
-- Rests on Layout and Chunks.
use Rattle.std.specs.Prelude.{◌<◌, ◌≤◌, ℕ, List, ◌≡◌, ltb, get_or, length, if◌then◌else◌}
use native.Mathlib.Omega.{arith}
use Rattle.std.proofs.Common.{le-ltb, lt-ltb}
use Rattle.rulebook.specs.Sizes.{block_words, directory_width, most_cells}
use Rattle.block.specs.Chunks.{chunk_lt}
use Rattle.block.specs.Layout.{Reach, Sized, arena, entry_ix, entry_of, length_ix, length_of, place_of}

-- a version that rule 3 allows no entry: V is at most N + 1
abbrev pub outside : ℕ
outside = 4294967295

-- the version of entry j of cell i's log, wherever the log ends
unfoldable pub stamp_in : ℕ → List ℕ → ℕ → ℕ → ℕ
stamp_in n w i j = if ltb (place_of n w i j) (arena n) then (entry_of n w (place_of n w i j)).version else outside

module _ (n : ℕ) (w : List ℕ) (s : Sized n w) where
  pub raw_few : n ≤ most_cells
  raw_few = s.few

  pub raw_inside : (x : ℕ) → x < block_words n → x < length w
  raw_inside x h = rw s.long h

  pub raw_head : (x : ℕ) → x < 2 → x < length w
  unfolding block_words
  raw_head x h = let l = s.long in omega arith

  pub raw_length : (i x : ℕ) → x ≡ length_ix n i → get_or w x 0 ≡ length_of n w i
  raw_length i x e = rw e

  module _ (i : ℕ) (c : i < n) (j : ℕ) (h : j ≤ n) where
    pub raw_reach : Reach n w i j
    unfolding directory_width
    raw_reach = let f = s.few in record { sized = s; cell = c; small = omega arith; chunk = chunk_lt 13 j (omega arith) (omega arith) }

    module _ (p a : ℕ) (at : p ≡ place_of n w i j) (all : a ≡ arena n) where
      pub raw_out : a ≤ p → outside ≡ stamp_in n w i j
      unfolding stamp_in
      raw_out g = rw (le-ltb (place_of n w i j) (arena n) (rw (at, all) at g))

      pub raw_found : p < a → (x : ℕ) → x ≡ entry_ix n p → get_or w x 0 ≡ stamp_in n w i j
      unfolding stamp_in
      raw_found g x y = rw (lt-ltb (place_of n w i j) (arena n) (rw (at, all) at g), y, at)

pub ruleset raws = (raw_few, raw_inside, raw_head, raw_length, raw_reach, raw_out, raw_found)
