-- The marks of the blocks on which live handles stand: from slot to slot, and what they tell at the end.
use Rattle.std.specs.Prelude.{◌+◌, ◌<◌, ◌≤◌, ℕ, Bool, ◌||◌, false, true, List, ◌≡◌, refl, length, replicate, set}
use Rattle.std.proofs.Math.Bool.{or-false, or-true}
use Rattle.std.proofs.Common.{◌∙◌, sym, add-one, arith, length-set, get_or-set_other, get_or-set_same, eqb-true, ne_eqb}
use Rattle.std.proofs.Math.Path.{ap}
use Rattle.std.proofs.Math.Dec.{eqb}
use Rattle.std.proofs.lemmas.List.{get_or-replicate}
use Rattle.std.proofs.Math.ListN.{length-replicate}
use Rattle.std.proofs.lemmas.Bool.{eqb-false}
use Rattle.rulebook.specs.declared.Sizes.{Sizes}
use Rattle.rulebook.specs.declared.Slot.{Slot}
use Rattle.layout.specs.Places.{Spans, slot_part}
use Rattle.layout.specs.Rows.{slot_read}
use Rattle.rulebook.specs.Sizes.{most_blocks}
use Rattle.rulebook.specs.State.{is_live, stood}
use Rattle.rulebook.specs.Tests.{by_test}
use Rattle.survey.specs.Decide.{some_to}
use Rattle.survey.proofs.Finding.{stands_live, stands_not, stood-is}
use Rattle.survey.specs.Searches.{stands_on}
use Rattle.survey.specs.Rules.{shown}
use Rattle.survey.specs.Stands.{marked, MarkedTo, Marked}

module _ (d : Sizes) (p : List ℕ) where
  pub mark-start : MarkedTo d p 0 (replicate most_blocks 1)
  unfolding some_to
  mark-start = record {
    sized = length-replicate {A = ℕ} most_blocks 1;
    met = λ k l. ap (λ (x : ℕ). eqb x 0) (get_or-replicate {A = ℕ} most_blocks k 1 0 l);
  }

  next : (j k : ℕ) → some_to (stands_on d p k) (j + 1) ≡ (some_to (stands_on d p k) j || stands_on d p k j)
  next j k = ap (some_to (stands_on d p k)) (add-one j) ∙ (unfold some_to in refl)

  module _ (j : ℕ) (m : List ℕ) (s : MarkedTo d p j m) (x : Slot) (e : x ≡ slot_read (slot_part p j)) (l : j < d.h) (b : Bool) (f : b ≡ is_live x.status) where
    same : ((k : ℕ) → k < most_blocks → stands_on d p k j ≡ false) → MarkedTo d p (j + 1) m
    same h = record {
      sized = s.sized;
      met = λ k o. s.met k o ∙ sym (or-false (some_to (stands_on d p k) j)) ∙ ap (λ (y : Bool). some_to (stands_on d p k) j || y) (sym (h k o)) ∙ sym (next j k);
    }

    pub mark-idle : b ≡ false → MarkedTo d p (j + 1) m
    mark-idle q = same (λ k _. sym (stands_not d p k j x e l b f q))

    module _ (q : b ≡ true) where
      on : (k : ℕ) → eqb x.block k ≡ stands_on d p k j
      on k = stands_live d p k j x e l b f q

      pub mark-outside : most_blocks ≤ x.block → MarkedTo d p (j + 1) m
      mark-outside o = same (λ k i. sym (on k) ∙ ne_eqb x.block k (λ z. omega arith))

      pub mark_set : x.block < most_blocks → MarkedTo d p (j + 1) (set m x.block 0)
      mark_set o = record {
        sized = length-set m x.block 0 ∙ s.sized;
        met = λ k i.
            by_test (eqb x.block k)
            (λ z.
            let h = eqb-true x.block k z in
            rw (← h) (ap (λ (y : ℕ). eqb y 0) (get_or-set_same m x.block 0 0 (omega (arith, s.sized))))
            ∙ sym (or-true (some_to (stands_on d p k) j)) ∙ ap (λ (y : Bool). some_to (stands_on d p k) j || y) (sym z ∙ on k) ∙ sym (next j k))
            (λ z.
            ap (λ (y : ℕ). eqb y 0) (get_or-set_other m x.block k 0 0 (λ y. eqb-false x.block k z (sym y)))
            ∙ s.met k i ∙ sym (or-false (some_to (stands_on d p k) j)) ∙ ap (λ (y : Bool). some_to (stands_on d p k) j || y) (sym z ∙ on k) ∙ sym (next j k));
      }

  pub mark-end : (j : ℕ) (m : List ℕ) → MarkedTo d p j m → j ≤ d.h → d.h ≤ j → Marked d p m
  mark-end j m s l o =
      let e : j ≡ d.h = omega arith in
      record { sized = s.sized; tells = λ k i. stood-is d p k (marked m k) (s.met k i ∙ ap (some_to (stands_on d p k)) e) }

  module _ (m : List ℕ) (s : Marked d p m) (sp : Spans d p) (k : ℕ) (l : k < d.b) where
    pub marked-inside : k < length m
    marked-inside = let z = sp.blocks in omega (arith, s.sized)

    pub marked-stood : (b : Bool) → b ≡ marked m k → b ≡ stood (shown d p) k
    marked-stood b e = let z = sp.blocks in e ∙ s.tells k (omega arith)

pub ruleset marks = (mark-idle, mark-outside, mark_set)

pub ruleset told = (marked-inside, marked-stood)
