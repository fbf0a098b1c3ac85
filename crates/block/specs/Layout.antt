-- Where each word of a block lies, what stands there, and when a slice is a block of n cells. Each start and width is written here alone.
-- Rests on the rule book's sizes.
use Rattle.std.specs.Prelude.{ℕ, ◌+◌, ◌-◌, ◌*◌, ◌^◌, ◌≤◌, ◌<◌, ◌≡◌, Bool, ◌&&◌, List, length, get_or, ltb, eqb}
use Rattle.std.specs.Int.Count.{count_leading_zeros}
use Rattle.rulebook.specs.Sizes.{most_cells, block_words, directory_width, within}
use Rattle.rulebook.specs.declared.Entry.{Entry}

-- ---- the parts of a block: V, the bump, words not used up to word 16; the cells, the lengths, the directory, the arena, and spare words

abbrev pub version_ix : ℕ
version_ix = 0

abbrev pub bump_ix : ℕ
bump_ix = 1

abbrev pub head_words : ℕ
head_words = 16

unfoldable pub cell_ix : ℕ → ℕ → ℕ
cell_ix n i = head_words + i

unfoldable pub length_ix : ℕ → ℕ → ℕ
length_ix n i = head_words + n + i

-- the directory: a word for each chunk c of each cell i's log
unfoldable pub base_ix : ℕ → ℕ → ℕ → ℕ
base_ix n i c = head_words + 2 * n + directory_width n * i + c

-- the arena: a version and an old value at each place p
unfoldable pub entry_ix : ℕ → ℕ → ℕ
entry_ix n p = head_words + 2 * n + directory_width n * n + 2 * p

-- how many places the arena has, and the most that it has in any block
unfoldable pub arena : ℕ → ℕ
arena n = 2 * n

abbrev pub most_places : ℕ
most_places = 2 * most_cells

-- ---- a log's chunks: chunk c holds the entries j with 2^c ≤ j + 1 < 2^(c + 1)

unfoldable pub chunk_of : ℕ → ℕ
chunk_of j = 31 - count_leading_zeros 32 (j + 1)

-- entry j's place in its chunk
unfoldable pub offset_of : ℕ → ℕ
offset_of j = j + 1 - 2 ^ chunk_of j

-- how many places the chunks of a log of m entries have: those with 2^c ≤ m, together 2^(binary digits of m) - 1
unfoldable pub space_of : ℕ → ℕ
space_of m = 2 ^ (32 - count_leading_zeros 32 m) - 1

-- ---- what stands there

abbrev pub version_of : List ℕ → ℕ
version_of w = get_or w version_ix 0

-- how many of the arena's places are taken
abbrev pub bump_of : List ℕ → ℕ
bump_of w = get_or w bump_ix 0

abbrev pub cell_of : ℕ → List ℕ → ℕ → ℕ
cell_of n w i = get_or w (cell_ix n i) 0

abbrev pub length_of : ℕ → List ℕ → ℕ → ℕ
length_of n w i = get_or w (length_ix n i) 0

-- the place at which chunk c of cell i's log begins
abbrev pub base_of : ℕ → List ℕ → ℕ → ℕ → ℕ
base_of n w i c = get_or w (base_ix n i c) 0

-- the place of entry j of cell i's log
abbrev pub place_of : ℕ → List ℕ → ℕ → ℕ → ℕ
place_of n w i j = base_of n w i (chunk_of j) + offset_of j

-- the entry at place p
abbrev pub entry_of : ℕ → List ℕ → ℕ → Entry
entry_of n w p = record { version = get_or w (entry_ix n p) 0; old = get_or w (entry_ix n p + 1) 0 }

-- ---- when a slice is a block

unfoldable pub is_block : ℕ → List ℕ → Bool
is_block n w = within 1 n most_cells && eqb (length w) (block_words n)

-- with a cell i
unfoldable pub has_cell : ℕ → List ℕ → ℕ → Bool
has_cell n w i = is_block n w && ltb i n

-- the same as statements
pub record Sized (n : ℕ) (w : List ℕ) : Type 0 where
  pub some : 1 ≤ n
  pub few : n ≤ most_cells
  pub long : length w ≡ block_words n

-- the chunk of entry j has a word for cell i in the directory
pub record Reach (n : ℕ) (w : List ℕ) (i j : ℕ) : Type 0 where
  pub sized : Sized n w
  pub cell : i < n
  pub small : j < most_places
  pub chunk : chunk_of j < directory_width n

-- r is where word x of a block of n cells lies
pub record Lies (n x r : ℕ) : Type 0 where
  pub is : r ≡ x
  pub inside : r < block_words n
  pub small : r < 4294967296
