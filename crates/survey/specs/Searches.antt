-- Whether a live handle stands on a block.
-- Rests on Rules; nothing is proved here.
use Rattle.std.specs.Prelude.{ℕ, Bool, ◌&&◌, List, eqb}
use Rattle.rulebook.specs.declared.Sizes.{Sizes}
use Rattle.rulebook.specs.State.{is_live}
use Rattle.survey.specs.Rules.{slot}

-- the handle in slot j is live, and stands on block k
unfoldable pub stands_on : Sizes → List ℕ → ℕ → ℕ → Bool
stands_on d p k j = is_live (slot d p j).status && eqb (slot d p j).block k
