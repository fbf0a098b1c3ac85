-- What the check reads of a block through the part that is lent on: rules for the proofs of those functions.
-- Rests on Lends and Keeps.
use Rattle.std.specs.Prelude.{◌<◌, ℕ, Bool, List, ◌≡◌}
use Rattle.std.proofs.Common.{◌∙◌, ap, subst, sym}
use Rattle.rulebook.specs.declared.Sizes.{Sizes}
use Rattle.block.specs.Layout.{Sized, bump_of, length_of, version_of}
use Rattle.block.specs.Raw.{stamp_in}
use Rattle.block.specs.Sound.{Laid}
use Rattle.block.specs.Walk.{Decides}
use Rattle.layout.specs.Keeps.{block-sized}
use Rattle.layout.specs.Lends.{block-got}
use Rattle.layout.specs.Parts.{part}
use Rattle.layout.specs.Places.{Place, Spans, block_part}

module _ (d : Sizes) (p : List ℕ) (k s e : ℕ) (q : Place d k s e) where
  pub place-sized : Spans d p → k < d.b → Sized d.n (part p s e)
  place-sized g h = subst (Sized d.n) (sym (block-got d p k s e q)) (block-sized g k h)

  pub laid-got : (r : Bool) → Decides r (Laid d.n (part p s e)) → Decides r (Laid d.n (block_part p d k))
  laid-got r f = subst (λ (w : List ℕ). Decides r (Laid d.n w)) (block-got d p k s e q) f

  module _ (r : ℕ) where
    pub version-got : r ≡ version_of (part p s e) → r ≡ version_of (block_part p d k)
    version-got f = f ∙ ap version_of (block-got d p k s e q)

    pub bump-got : r ≡ bump_of (part p s e) → r ≡ bump_of (block_part p d k)
    bump-got f = f ∙ ap bump_of (block-got d p k s e q)

    pub length_got : (i : ℕ) → r ≡ length_of d.n (part p s e) i → r ≡ length_of d.n (block_part p d k) i
    length_got i f = f ∙ ap (λ (w : List ℕ). length_of d.n w i) (block-got d p k s e q)

    pub stamp_got : (i j : ℕ) → r ≡ stamp_in d.n (part p s e) i j → r ≡ stamp_in d.n (block_part p d k) i j
    stamp_got i j f = f ∙ ap (λ (w : List ℕ). stamp_in d.n w i j) (block-got d p k s e q)

pub ruleset raws = (place-sized, laid-got, version-got, bump-got, length_got, stamp_got)
