-- The live handles of each block, chained in one pass over the slots: from the last slot on the block to the first.
-- Rests on Searches; nothing is proved here.
use Rattle.std.specs.Prelude.{◌<◌, suc, zero, ℕ, Bool, true, List, ◌≡◌, get_or, length, if◌then◌else◌}
use Rattle.rulebook.specs.declared.Sizes.{Sizes}
use Rattle.layout.specs.Places.{Spans}
use Rattle.rulebook.specs.Sizes.{most_blocks, most_handles}
use Rattle.survey.specs.Searches.{stands_on}
use Rattle.survey.specs.Rules.{Rule2}

-- no slot and no block: where a chain ends, and the mark of a number that is not met
abbrev pub none : ℕ
none = 256

-- ---- the last number below m at which f holds, or none

unfoldable pub last_to : (ℕ → Bool) → ℕ → ℕ
last_to f zero = none
last_to f (suc m) = if f m then m else last_to f m

module _ (d : Sizes) (p : List ℕ) where
  -- the live handles in the slots before m are chained: first has the last slot on each block, next the slot before each on its block
  pub record ChainedTo (m : ℕ) (first next : List ℕ) : Type 0 where
    pub first_sized : length first ≡ most_blocks
    pub next_sized : length next ≡ most_handles
    pub firsts : (k : ℕ) → k < most_blocks → get_or first k 0 ≡ last_to (stands_on d p k) m
    pub nexts : (k j : ℕ) → j < m → stands_on d p k j ≡ true → get_or next j 0 ≡ last_to (stands_on d p k) j

  -- all are
  pub record Chained (first next : List ℕ) : Type 0 where
    pub spans : Spans d p
    pub two : Rule2 d p
    pub chains : ChainedTo d.h first next
