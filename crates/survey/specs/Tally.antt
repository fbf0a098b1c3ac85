-- Rule 4's count of a block's entries: what it rests on.
-- Rests on Logs; nothing is proved here.
use Rattle.std.specs.Prelude.{◌<◌, ℕ, List}
use Rattle.rulebook.specs.declared.Sizes.{Sizes}
use Rattle.layout.specs.Places.{Spans, block_part}
use Rattle.survey.specs.Logs.{Walkable}

module _ (d : Sizes) (p : List ℕ) where
  -- a block whose logs can be walked
  pub record Counts (k : ℕ) : Type 0 where
    pub spans : Spans d p
    pub below : k < d.b
    pub logs : Walkable d.n (block_part p d k)
