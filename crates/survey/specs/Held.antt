-- What a task holds: a slot that it has reserved, a block that it fills; and that no other task holds it.
-- Rests on Rules and Decide; nothing is proved here.
use Rattle.std.specs.Prelude.{ℕ, Bool, List, Option, Some, None, eqb, if◌then◌else◌}
use Rattle.std.specs.Option.{option_eq}
use Rattle.rulebook.specs.declared.Sizes.{Sizes}
use Rattle.rulebook.specs.declared.Stage.{Stage}
use Rattle.rulebook.specs.declared.Task.{Task}
use Rattle.rulebook.specs.State.{fills, reserves}
use Rattle.survey.specs.Decide.{◌implies◌}
use Rattle.survey.specs.Rules.{task}

-- what a task holds at the stages that f tells: the thing that g tells
abbrev pub held_by : (Stage → Bool) → (Task → ℕ) → Task → Option ℕ
held_by f g x = if f x.stage then Some (g x) else None

unfoldable pub reserved_by : Task → Option ℕ
reserved_by = held_by reserves (λ x. x.fresh)

unfoldable pub filled_by : Task → Option ℕ
filled_by = held_by fills (λ x. x.target)

-- the task u does not hold the thing, or it is task t
unfoldable pub alone_at : Sizes → List ℕ → (Task → Option ℕ) → ℕ → ℕ → ℕ → Bool
alone_at d p held t thing u = option_eq eqb (held (task d p u)) (Some thing) implies eqb t u
