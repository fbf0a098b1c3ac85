-- Which number the check gives: that of the first broken rule, or 0. That it computes this number, proofs/Checks.antt shows.
-- Rests on First and the rules.
use Rattle.std.specs.Prelude.{ℕ, List, [], ◌∷◌, ◌≡◌, Some}
use Rattle.rulebook.specs.declared.Sizes.{Sizes}
use Rattle.layout.specs.Header.{header_of}
use Rattle.audit.specs.First.{First}
use Rattle.survey.specs.Rules.{Rule1, Rule2, Rule3, Rule4, Rule5, Rule6, Rule7}

-- rules 2 to 7 of a pool whose header gives the sizes d
abbrev pub rules_of : Sizes → List ℕ → List (Type 0)
rules_of d p = Rule2 d p ∷ (Rule3 d p ∷ (Rule4 d p ∷ (Rule5 d p ∷ (Rule6 d p ∷ (Rule7 d p ∷ [])))))

-- r is the number of the first of document 01's rules that the words p break; 0 where they break none
pub record FirstBroken (p : List ℕ) (r : ℕ) : Type 0 where
  pub at_one : (Rule1 p → ⊥) → r ≡ 1
  pub later : (d : Sizes) → header_of p ≡ Some d → First 2 (rules_of d p) r
