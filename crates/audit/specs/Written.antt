-- A set in place, past its exchange: the block that it writes.
-- Rests on Held; nothing is proved here.
use Rattle.std.specs.Prelude.{ℕ, Option}
use Rattle.rulebook.specs.declared.Task.{Task}
use Rattle.rulebook.specs.State.{writes}
use Rattle.survey.specs.Held.{held_by}

unfoldable pub written_by : Task → Option ℕ
written_by = held_by writes (λ x. x.block)
