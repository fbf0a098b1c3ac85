-- What a set in place and a task that fills have done: what their functions ask of a block's logs.
-- Rests on Gets; nothing is proved here.
use Rattle.std.specs.Prelude.{ℕ, Bool, List, leb, length}
use Rattle.std.proofs.Math.Bool.{not}
use Rattle.std.proofs.Math.Dec.{eqb}
use Rattle.rulebook.specs.declared.Sizes.{Sizes}
use Rattle.theorems.specs.Terms.{all_to, version_at}
use Rattle.survey.specs.Decide.{◌implies◌, some_to}
use Rattle.audit.specs.Gets.{log_in, older_in}

-- ---- what is asked of the logs of block k

module _ (d : Sizes) (p : List ℕ) (k : ℕ) where
  unfoldable pub empty_at : ℕ → Bool
  empty_at i = eqb (length (log_in d p k i)) 0

  -- of every entry of the log of cell i: its version is below v
  unfoldable pub cell_below : ℕ → ℕ → Bool
  cell_below v i = all_to (older_in d p k i v) (length (log_in d p k i))

  -- the same, of a log that is not that of cell c
  unfoldable pub other_below : ℕ → ℕ → ℕ → Bool
  other_below c v i = not (eqb i c) implies cell_below v i

  -- of its entry q, and of some entry: its version is v or more
  unfoldable pub entry_from : ℕ → ℕ → ℕ → Bool
  entry_from v i q = leb v (version_at (log_in d p k i) q)

  unfoldable pub cell_from : ℕ → ℕ → Bool
  cell_from v i = some_to (entry_from v i) (length (log_in d p k i))
