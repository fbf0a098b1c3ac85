-- Rule 7's task rows: a task's steps by its stage.
-- Rests on Holds; nothing is proved here.
use Rattle.std.specs.Prelude.{ℕ, Bool}
use Rattle.rulebook.specs.declared.Stage.{Stage}
use Rattle.rulebook.specs.declared.Task.{Task}
use Rattle.survey.specs.Holds.{pace_holds}

-- Broken's pace, shut: so the laws below find its stage
unfoldable pub pace_at : ℕ → Stage → Task → Bool
pace_at n g k = pace_holds n g k
