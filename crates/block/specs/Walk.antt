-- What the walk over a block's places decides, and what holds from row to row and in a row.
-- Rests on Marks and Sound.
use Rattle.std.specs.Prelude.{ℕ, ◌+◌, ◌*◌, ◌≤◌, ◌<◌, ◌≡◌, Bool, true, false, List, None, Option, Some}
use Rattle.block.specs.Layout.{arena, most_places, space_of, bump_of, length_of, place_of, Sized}
use Rattle.block.specs.Sound.{view_of, sum_to, Sound}
use Rattle.block.specs.Marks.{Walked}

-- a function's answer decides P
pub record Decides (r : Bool) (P : Type 0) : Type 0 where
  pub yes : r ≡ true → P
  pub no : r ≡ false → P → ⊥

-- how many places cell k's log holds; and the walk over the places of all logs, at place j of cell i
abbrev pub count_of : ℕ → List ℕ → ℕ → ℕ
count_of n w k = space_of (length_of n w k)

abbrev pub Marks : ℕ → List ℕ → List ℕ → ℕ → ℕ → Type 0
Marks n w marks i j = Walked (count_of n w) (place_of n w) most_places marks i j

-- the block that is walked, and its bump, which is no more than there are marks
pub record Walks (n : ℕ) (w : List ℕ) (limit : ℕ) : Type 0 where
  pub sized : Sized n w
  pub bump : limit ≡ bump_of w
  pub room : limit ≤ arena n
  pub fits : limit ≤ most_places

-- ---- what `mark_row` asks and gives

pub record RowIn (n : ℕ) (w : List ℕ) (limit i : ℕ) (marks : List ℕ) : Type 0 where
  pub on : Walks n w limit
  pub cell : i < n
  pub walked : Marks n w marks i 0

-- row i has k places, all inside and none marked before
pub record RowDone (k n : ℕ) (w : List ℕ) (i : ℕ) (marks : List ℕ) : Type 0 where
  pub all : k ≡ count_of n w i
  pub few : k < most_places
  pub short : length_of n w i ≤ n
  pub below : (j : ℕ) → j < count_of n w i → place_of n w i j < bump_of w
  pub walked : Marks n w marks (i + 1) 0

pub record RowOut (r : Option ℕ) (n : ℕ) (w : List ℕ) (i : ℕ) (marks : List ℕ) : Type 0 where
  pub done : (k : ℕ) → r ≡ Some k → RowDone k n w i marks
  pub no : r ≡ None → Sound n (view_of n w) → ⊥

-- ---- the invariants of the two loops

-- in row i, at place j
pub record RowAt (n : ℕ) (w : List ℕ) (limit i m all : ℕ) (marks : List ℕ) (j : ℕ) : Type 0 where
  pub on : Walks n w limit
  pub cell : i < n
  pub is : m ≡ length_of n w i
  pub short : m ≤ n
  pub space : all ≡ space_of m
  pub few : all < most_places
  pub most : j ≤ all
  pub walked : Marks n w marks i j
  pub below : (t : ℕ) → t < j → place_of n w i t < bump_of w

-- before row i, with the places of the rows before it counted
pub record RowsAt (n : ℕ) (w : List ℕ) (bump : ℕ) (marks : List ℕ) (taken i : ℕ) : Type 0 where
  pub on : Walks n w bump
  pub most : i ≤ n
  pub walked : Marks n w marks i 0
  pub short : (k : ℕ) → k < i → length_of n w k ≤ n
  pub below : (k : ℕ) → k < i → (j : ℕ) → j < count_of n w k → place_of n w k j < bump_of w
  pub tally : taken ≡ sum_to i (count_of n w)
  pub small : taken ≤ most_places * i
