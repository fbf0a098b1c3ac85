-- The blocks on which live handles stand, marked in one pass over the slots: 0 where one stands.
-- Rests on Searches; nothing is proved here.
use Rattle.std.specs.Prelude.{◌<◌, ℕ, Bool, List, ◌≡◌, get_or, length}
use Rattle.std.proofs.Math.Dec.{eqb}
use Rattle.rulebook.specs.declared.Sizes.{Sizes}
use Rattle.rulebook.specs.Sizes.{most_blocks}
use Rattle.rulebook.specs.State.{stood}
use Rattle.survey.specs.Decide.{some_to}
use Rattle.survey.specs.Searches.{stands_on}
use Rattle.survey.specs.Rules.{shown}

-- block k is marked
abbrev pub marked : List ℕ → ℕ → Bool
marked m k = eqb (get_or m k 0) 0

module _ (d : Sizes) (p : List ℕ) where
  -- of the handles in the slots before j
  pub record MarkedTo (j : ℕ) (m : List ℕ) : Type 0 where
    pub sized : length m ≡ most_blocks
    pub met : (k : ℕ) → k < most_blocks → marked m k ≡ some_to (stands_on d p k) j

  -- of all
  pub record Marked (m : List ℕ) : Type 0 where
    pub sized : length m ≡ most_blocks
    pub tells : (k : ℕ) → k < most_blocks → marked m k ≡ stood (shown d p) k
