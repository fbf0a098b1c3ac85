-- The machine's block that a block's words are, and when the words of its logs are sound. A view holds what matters of the words: what is
-- proved of views does not know how the words lie. Rests on Layout.
use Rattle.std.specs.Prelude.{ℕ, zero, suc, ◌+◌, ◌≤◌, ◌<◌, ◌≡◌, List, length}
use Rattle.rulebook.specs.State.{Block, log_at, list_to}
use Rattle.rulebook.specs.declared.Entry.{Entry}
use Rattle.block.specs.Layout.{arena, space_of, version_of, bump_of, cell_of, length_of, place_of, entry_of, Sized}

-- ---- the logs of a block

-- how many places of the arena are taken, each log's length, where entry j of cell i lies, and what lies at each place
pub record View : Type 0 where
  pub bump : ℕ
  pub len : ℕ → ℕ
  pub place : ℕ → ℕ → ℕ
  pub entry : ℕ → Entry

-- what the words of a block say
abbrev pub view_of : ℕ → List ℕ → View
view_of n w = record { bump = bump_of w; len = length_of n w; place = place_of n w; entry = entry_of n w }

-- cell i's log, oldest first
abbrev pub log_of : View → ℕ → List Entry
log_of v i = list_to (v.len i) (λ (j : ℕ). v.entry (v.place i j))

-- the machine's block
unfoldable pub block_of : ℕ → List ℕ → Block
block_of n w = record { version = version_of w; cells = list_to n (cell_of n w); logs = list_to n (log_of (view_of n w)) }

-- f 0 + .. + f (n - 1)
abbrev pub sum_to : ℕ → (ℕ → ℕ) → ℕ
sum_to zero f = 0
sum_to (suc n) f = sum_to n f + f n

-- how many entries the logs of a block have
unfoldable pub entries_in : ℕ → Block → ℕ
entries_in n b = sum_to n (λ (i : ℕ). length (log_at b i))

-- ---- soundness

-- a log of m entries holds the places of entries 0, .. space_of m - 1: those of its entries, and what is left of its last chunk
pub record Sound (n : ℕ) (v : View) : Type 0 where
  -- every log has at most n entries
  pub short : (i : ℕ) → i < n → v.len i ≤ n
  -- every place that is held lies below the bump
  pub below : (i j : ℕ) → i < n → j < space_of (v.len i) → v.place i j < v.bump
  -- no two of them are one
  pub once : (i j k t : ℕ) → i < n → k < n → j < space_of (v.len i) → t < space_of (v.len k) → v.place i j ≡ v.place k t → (i ≡ k) × (j ≡ t)
  -- the bump is how many there are
  pub tally : v.bump ≡ sum_to n (λ (i : ℕ). space_of (v.len i))
  -- and they are places of the arena
  pub fits : v.bump ≤ arena n

-- the words of a block whose logs are sound
pub record Laid (n : ℕ) (w : List ℕ) : Type 0 where
  pub sized : Sized n w
  pub sound : Sound n (view_of n w)

-- a block being filled, up to cell c: no place is taken, and the logs of the cells before c are empty
pub record Filling (c n : ℕ) (w : List ℕ) : Type 0 where
  pub sized : Sized n w
  pub bump : bump_of w ≡ 0
  pub empty : (i : ℕ) → i < c → i < n → length_of n w i ≡ 0

-- ---- a change

-- the words after a change, which block they are, and that they are sound if they were
pub record Done (n : ℕ) (w w' : List ℕ) (b : Block) : Type 0 where
  pub sized : Sized n w'
  pub block : block_of n w' ≡ b
  pub laid : Laid n w → Laid n w'
