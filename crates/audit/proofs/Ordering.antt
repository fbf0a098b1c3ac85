-- The rules in their order: what the check owes where the header is bad, and where it gives the sizes; what each rule that holds tells those after it.
-- Rests on Broken and Decided.
use Rattle.std.specs.Prelude.{ℕ, true, List, ◌≡◌, None, Option, Some}
use Rattle.std.proofs.Common.{◌∙◌, ap, sym}
use Rattle.rulebook.specs.declared.Sizes.{Sizes}
use Rattle.layout.specs.Header.{header_of}
use Rattle.survey.specs.Broken.{broken_in, broken_of, broken_under, rule2, rule3, rule6}
use Rattle.survey.proofs.Decided.{decides_2, decides_3, decides_6}
use Rattle.survey.specs.Rules.{Rule2, Rule3, Rule6}

module _ (p : List ℕ) where
  pub header-broken : header_of p ≡ None → 1 ≡ broken_in p
  unfolding broken_in
  header-broken e = sym (ap (λ (x : Option Sizes). broken_under x p) e)

  pub rest-broken : (d : Sizes) (w : List ℕ) → header_of p ≡ Some d → w ≡ p → (r : ℕ) → r ≡ broken_of d w → r ≡ broken_in p
  unfolding broken_in
  rest-broken d w e f r g = g ∙ ap (broken_of d) f ∙ sym (ap (λ (x : Option Sizes). broken_under x p) e)

module _ (d : Sizes) (p : List ℕ) where
  pub two-holds : rule2 d p ≡ true → Rule2 d p
  two-holds = (decides_2 d p).yes

  pub three-holds : rule3 d p ≡ true → Rule3 d p
  three-holds = (decides_3 d p).yes

  pub six-holds : rule6 d p ≡ true → Rule6 d p
  six-holds = (decides_6 d p).yes

pub ruleset checks = (header-broken, rest-broken)

pub ruleset holds = (two-holds, three-holds, six-holds)
