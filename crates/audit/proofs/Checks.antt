-- The number that the check computes is that of the first broken rule, and is 0 exactly where the words are a sound store.
-- Rests on Check, Decided, First and Whole.
use Rattle.std.specs.Prelude.{◌+◌, ◌<◌, ℕ, List, ◌≡◌, refl, None, Option, Some}
use Rattle.std.proofs.Common.{◌∙◌, ap, subst, sym, arith}
use Rattle.rulebook.specs.declared.Sizes.{Sizes}
use Rattle.bridge.specs.Sound.{Sound}
use Rattle.layout.specs.Header.{header_of}
use Rattle.layout.specs.Places.{Spans}
use Rattle.layout.specs.Sizing.{header-spans}
use Rattle.survey.specs.Broken.{broken_in, broken_of, broken_under, rule2, rule3, rule4, rule5, rule6, rule7}
use Rattle.survey.proofs.Decided.{decides_2, decides_3, decides_4, decides_5, decides_6, decides_7}
use Rattle.audit.specs.First.{First, first-all, first-before, first-broken, first-end, first_least, first_next, first_one, first-zero, rule_of}
use Rattle.survey.specs.Rules.{Rule1, Rule2, Rule3, Rule4, Rule5, Rule6, Rule7}
use Rattle.survey.specs.Whole.{header-one, one-header, rest-sound, sound-rest}
use Rattle.audit.specs.Check.{rules_of, FirstBroken}

-- it determines the number
pub broken-one : (p : List ℕ) (r s : ℕ) → FirstBroken p r → FirstBroken p s → r ≡ s
broken-one p r s a b = at (header_of p) refl
  where
    at : (x : Option Sizes) → header_of p ≡ x → r ≡ s
    at None e = let out : Rule1 p → ⊥ = λ o. o.described e in a.at_one out ∙ sym (b.at_one out)
    at (Some d) e = first_one 2 (rules_of d p) r s (a.later d e) (b.later d e)

rest-first : (d : Sizes) (p : List ℕ) → Spans d p → First 2 (rules_of d p) (broken_of d p)
unfolding broken_of
rest-first d p sp =
    first_next 2 (Rule2 d p) _ (rule2 d p) _ (decides_2 d p) (λ two. first_next 3 (Rule3 d p) _ (rule3 d p) _ (decides_3 d p)
    (λ _. first_next 4 (Rule4 d p) _ (rule4 d p) _ (decides_4 d p two) (λ _. first_next 5 (Rule5 d p) _ (rule5 d p) _ (decides_5 d p)
    (λ _. first_next 6 (Rule6 d p) _ (rule6 d p) _ (decides_6 d p) (λ _. first_next 7 (Rule7 d p) _ (rule7 d p) _ (decides_7 d p sp) (λ _. first-end 8))))))

good : (p : List ℕ) (d : Sizes) → header_of p ≡ Some d → broken_in p ≡ broken_of d p
unfolding broken_in
good p d e = ap (λ (x : Option Sizes). broken_under x p) e

bad : (p : List ℕ) → header_of p ≡ None → broken_in p ≡ 1
unfolding broken_in
bad p e = ap (λ (x : Option Sizes). broken_under x p) e

pub broken-first : (p : List ℕ) → FirstBroken p (broken_in p)
broken-first p = record {
  at_one = λ out. at out (header_of p) refl;
  later = λ d e. subst (First 2 (rules_of d p)) (sym (good p d e)) (rest-first d p (header-spans p d e));
}
  where
    at : (Rule1 p → ⊥) → (x : Option Sizes) → header_of p ≡ x → broken_in p ≡ 1
    at out None e = bad p e
    at out (Some d) e = absurd (out (header-one d p e))

-- ---- 0 exactly where the store is sound

pub sound_passes : (d : Sizes) (p : List ℕ) → Sound d p → broken_in p ≡ 0
sound_passes d p s =
    let r = sound-rest s in
    first-all 2 (rules_of d p) (broken_in p) (r.two, (r.three, (r.four, (r.five, (r.six, (r.seven, tt)))))) ((broken-first p).later d s.header)

pub passes_sound : (p : List ℕ) → broken_in p ≡ 0 → (d : Sizes) × Sound d p
passes_sound p z = at (header_of p) refl
  where
    at : (x : Option Sizes) → header_of p ≡ x → (d : Sizes) × Sound d p
    at None e = absurd (omega (arith, bad p e))
    at (Some d) e =
        let h = first-zero 2 (rules_of d p) (omega arith) (subst (First 2 (rules_of d p)) z ((broken-first p).later d e)) in
        (d, rest-sound e (record { two = h.0; three = h.1.0; four = h.1.1.0; five = h.1.1.1.0; six = h.1.1.1.1.0; seven = h.1.1.1.1.1.0 }))

-- ---- and otherwise it is the number of a rule that is broken, those before it being kept

pub broken-at_one : (p : List ℕ) → broken_in p ≡ 1 → Rule1 p → ⊥
broken-at_one p z o =
    let s = one-header p o in
    let f = subst (First 2 (rules_of s.0 p)) z ((broken-first p).later s.0 s.1) in
    absurd (omega (arith, first_least 2 (rules_of s.0 p) 1 (omega arith) f (omega arith)))

module _ (p : List ℕ) (m : ℕ) (z : broken_in p ≡ 2 + m) where
  -- rule 1 holds
  pub broken-header : (d : Sizes) × (header_of p ≡ Some d)
  broken-header = one-header p (record { described = λ e. omega (arith, bad p e) })

  -- so do those between it and rule 2 + m, which does not
  module _ (d : Sizes) (e : header_of p ≡ Some d) where
    number : First 2 (rules_of d p) (2 + m)
    number = subst (First 2 (rules_of d p)) z ((broken-first p).later d e)

    pub broken-before : (i : ℕ) → i < m → rule_of (rules_of d p) i
    broken-before = first-before 2 m (rules_of d p) (omega arith) number

    pub broken-there : rule_of (rules_of d p) m → ⊥
    broken-there = first-broken 2 m (rules_of d p) (omega arith) number
