-- Rule 7's words of blocks being filled: what is known where they are asked.
-- Rests on Rules; nothing is proved here.
use Rattle.std.specs.Prelude.{ℕ, List}
use Rattle.rulebook.specs.declared.Sizes.{Sizes}
use Rattle.layout.specs.Places.{Spans}
use Rattle.rules.specs.Paced.{Paced}
use Rattle.rules.specs.Rules.{TaskRule}
use Rattle.survey.specs.Rules.{shown, task}

module _ (d : Sizes) (p : List ℕ) where
  -- what each task at its stage has done, and that its numbers are in their ranges
  pub record Facts : Type 0 where
    pub spans : Spans d p
    pub paced : Paced (shown d p)
    pub tasks : (t : ℕ) → TaskRule (shown d p) (task d p t).stage (task d p t)
