-- Rule 5's marks by number: whether a block keeps the rule, and when the marks are ready for the next one.
-- Rests on Chains; nothing is proved here.
use Rattle.std.specs.Prelude.{◌+◌, ◌<◌, ◌≤◌, ℕ, Bool, true, List, ◌≡◌, get_or, length}
use Rattle.rulebook.specs.declared.Sizes.{Sizes}
use Rattle.block.specs.Walk.{Decides}
use Rattle.survey.specs.Searches.{stands_on}
use Rattle.survey.specs.Rules.{slot}
use Rattle.survey.specs.Chains.{none}

-- how many marks there are: one for each number of a handle
abbrev pub most_numbers : ℕ
most_numbers = 4097

-- no number is marked with block k or with one after it
pub record Unmet (k : ℕ) (seen : List ℕ) : Type 0 where
  pub sized : length seen ≡ most_numbers
  pub fresh : (x : ℕ) → x < most_numbers → k ≤ get_or seen x 0 → none ≤ get_or seen x 0

module _ (d : Sizes) (p : List ℕ) where
  -- rule 5 of block k
  pub record ApartOn (k : ℕ) : Type 0 where
    pub apart : (i l : ℕ) → stands_on d p k i ≡ true → stands_on d p k l ≡ true → (slot d p i).number ≡ (slot d p l).number → i ≡ l

  -- r tells whether block k keeps the rule, and the marks are ready for the next block
  pub record Told (k : ℕ) (seen : List ℕ) (r : Bool) : Type 0 where
    pub tells : Decides r (ApartOn k)
    pub unmet : Unmet (k + 1) seen
