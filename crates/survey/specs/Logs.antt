-- Rule 3 block by block, on a block's words: what the walk meets at each entry.
-- Rests on the block's layout; nothing is proved here.
use Rattle.std.specs.Prelude.{◌+◌, ◌-◌, ◌<◌, ◌≤◌, ℕ, List, ◌≡◌, length}
use Rattle.block.specs.Layout.{arena, entry_of, length_of, place_of, version_of}
use Rattle.rulebook.specs.State.{Block, log_at}
use Rattle.theorems.specs.Terms.{version_at}

-- the version of entry j of cell i's log
abbrev pub stamp_of : ℕ → List ℕ → ℕ → ℕ → ℕ
stamp_of n w i j = (entry_of n w (place_of n w i j)).version

-- entry j can be read, its version is below V, and above that of the entry before it
pub record EntryRule (n : ℕ) (w : List ℕ) (i j : ℕ) : Type 0 where
  pub inside : place_of n w i j < arena n
  pub below : stamp_of n w i j < version_of w
  pub rise : 0 < j → stamp_of n w i (j - 1) < stamp_of n w i j

pub record LogRule (n : ℕ) (w : List ℕ) (i : ℕ) : Type 0 where
  pub entries : (j : ℕ) → j < length_of n w i → EntryRule n w i j

pub record BlockRule (n : ℕ) (w : List ℕ) : Type 0 where
  pub logs : (i : ℕ) → i < n → LogRule n w i
  pub apart : (i k j t : ℕ) → i < n → k < n → j < length_of n w i → t < length_of n w k → stamp_of n w i j ≡ stamp_of n w k t → i ≡ k

-- the logs can be walked: none has more entries than there are versions, and every entry lies in the arena
pub record Walkable (n : ℕ) (w : List ℕ) : Type 0 where
  pub short : (i : ℕ) → i < n → length_of n w i ≤ n + 1
  pub inside : (i q : ℕ) → i < n → q < length_of n w i → place_of n w i q < arena n

-- ---- the same of the block that the words are

-- what rule 3 says of a block
pub record Kept (b : Block) : Type 0 where
  pub below_v : (i q : ℕ) → q < length (log_at b i) → version_at (log_at b i) q < b.version
  pub rising : (i q r : ℕ) → q < r → r < length (log_at b i) → version_at (log_at b i) q < version_at (log_at b i) r
  pub in_one_log : (i k q r : ℕ) → q < length (log_at b i) → r < length (log_at b k) → version_at (log_at b i) q ≡ version_at (log_at b k) r → i ≡ k
