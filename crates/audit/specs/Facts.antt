-- What each task at its stage has done, where the rules before tell the rest.
-- Rests on Holds and Rules; nothing is proved here.
use Rattle.std.specs.Prelude.{◌<◌, ◌≤◌, ℕ, Bool, true, List, ◌≡◌}
use Rattle.rulebook.specs.declared.Sizes.{Sizes}
use Rattle.rulebook.specs.declared.Stage.{Stage}
use Rattle.rulebook.specs.declared.Task.{Task}
use Rattle.layout.specs.Places.{Spans, block_part}
use Rattle.rulebook.specs.State.{names}
use Rattle.rules.specs.Paced.{Paced}
use Rattle.survey.specs.Holds.{task_holds}
use Rattle.survey.specs.Logs.{Walkable}
use Rattle.survey.specs.Rules.{Rule2, Rule3, Rule6, shown}

module _ (d : Sizes) (p : List ℕ) where
  -- what the rules before tell: the logs of blocks with a live handle can be walked, tasks stand where they name one, and numbers are in their ranges
  pub record Known : Type 0 where
    pub spans : Spans d p
    pub two : Rule2 d p
    pub three : Rule3 d p
    pub six : Rule6 d p
    pub paced : Paced (shown d p)

  -- what task k at stage g has done
  unfoldable pub done_at : Stage → Task → Bool
  done_at g k = task_holds (shown d p) g k

  -- the numbers of task k that are read through are in their ranges
  pub record Ranged (k : Task) : Type 0 where
    pub spans : Spans d p
    pub block : k.block < d.b
    pub cell : k.cell < d.n
    pub until : k.until ≤ d.n
    pub fresh : k.fresh < d.h
    pub target : k.target < d.b
    pub hand : k.hand.cell < d.n

  -- and where its stage names a handle, the logs of the block on which it stands can be walked
  pub record Stands (g : Stage) (k : Task) : Type 0 where
    pub ranged : Ranged k
    pub logs : names g ≡ true → Walkable d.n (block_part p d k.block)
