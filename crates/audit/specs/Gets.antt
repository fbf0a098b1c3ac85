-- A task that reads: the log of its cell as the words show it.
-- Rests on Logs; nothing is proved here.
use Rattle.std.specs.Prelude.{◌<◌, ℕ, Bool, ◌&&◌, List, eqb, leb, ltb}
use Rattle.std.proofs.Math.ListN.{length}
use Rattle.rulebook.specs.declared.Entry.{Entry}
use Rattle.rulebook.specs.declared.Hand.{Hand}
use Rattle.rulebook.specs.declared.Sizes.{Sizes}
use Rattle.layout.specs.Places.{Spans, block_part}
use Rattle.rulebook.specs.State.{block_at, log_at}
use Rattle.theorems.specs.Terms.{version_at}
use Rattle.survey.specs.Logs.{Walkable}
use Rattle.survey.specs.Rules.{shown}

-- the candidate of a search of the log l has the version of the entry at hi, which is not older than L
unfoldable pub candidate_in : List Entry → ℕ → Hand → Bool
candidate_in l L w = ltb w.hi (length l) && (eqb w.version (version_at l w.hi) && leb L (version_at l w.hi))

module _ (d : Sizes) (p : List ℕ) where
  -- the log of cell i of block k
  unfoldable pub log_in : ℕ → ℕ → List Entry
  log_in k i = log_at (block_at (shown d p) k) i

  -- its entry j is older than L
  unfoldable pub older_in : ℕ → ℕ → ℕ → ℕ → Bool
  older_in k i L j = ltb (version_at (log_in k i) j) L

  -- it can be read
  pub record Log (k i : ℕ) : Type 0 where
    pub spans : Spans d p
    pub block : k < d.b
    pub logs : Walkable d.n (block_part p d k)
    pub cell : i < d.n
