-- The chains of the live handles: the last slot below a bound, and what holds from slot to slot.
use Rattle.std.specs.Prelude.{◌+◌, ◌<◌, ◌≤◌, suc, zero, ℕ, Bool, ◌&&◌, false, true, List, ◌≡◌, refl, get_or, length, replicate, set}
use Rattle.std.proofs.Common.{true≢false, ◌∙◌, sym, not-suc-le-zero, add-one, arith, length-set, get_or-set_other, get_or-set_same}
use Rattle.std.proofs.Math.Path.{ap, subst}
use Rattle.std.proofs.Math.Dec.{eqb}
use Rattle.std.proofs.lemmas.List.{get_or-replicate, length-replicate}
use borrow.Author.Tests.{eq-eqb, eqb-false, eqb-true}
use Rattle.rulebook.specs.declared.Sizes.{Sizes}
use Rattle.rulebook.specs.declared.Slot.{Slot}
use Rattle.rulebook.specs.declared.Status.{Status}
use Rattle.layout.specs.Places.{Spans, slot_part}
use Rattle.layout.specs.Rows.{slot_read}
use Rattle.rulebook.specs.Sizes.{most_blocks, most_handles}
use Rattle.rulebook.specs.State.{is_live}
use Rattle.rulebook.specs.Tests.{and_both, by_test}
use Rattle.survey.proofs.Decided.{live_below}
use Rattle.survey.proofs.DecideTasks.{live_decides}
use Rattle.survey.proofs.Finding.{stands_live, stands_not}
use Rattle.survey.specs.Searches.{stands_on}
use Rattle.survey.specs.Rules.{Lives, Rule2, slot}
use Rattle.survey.specs.Chains.{none, last_to, ChainedTo}

module _ (f : ℕ → Bool) where
  -- j is the last below m
  pub record Last (m j : ℕ) : Type 0 where
    pub below : j < m
    pub holds : f j ≡ true
    pub between : (i : ℕ) → j < i → i < m → f i ≡ false

  last-hit : (m : ℕ) → f m ≡ true → last_to f (suc m) ≡ m
  unfolding last_to
  last-hit m e = rw e

  last-miss : (m : ℕ) → f m ≡ false → last_to f (suc m) ≡ last_to f m
  unfolding last_to
  last-miss m e = rw e

  pub last-is : (m : ℕ) → (last_to f m ≡ none → ⊥) → Last m (last_to f m)
  last-is zero o = absurd (o (unfold last_to in refl))
  last-is (suc m) o =
      by_test (f m)
      (λ e. subst (Last (suc m)) (sym (last-hit m e)) (record { below = omega arith; holds = e; between = λ i a b. absurd (omega arith) }))
      (λ e.
      let r = last-is m (λ z. o (last-miss m e ∙ z)) in
      subst (Last (suc m)) (sym (last-miss m e))
      (record {
        below = (let a = r.below in omega arith);
        holds = r.holds;
        between = λ i a b. by_test (eqb i m) (λ q. ap f (eqb-true i m q) ∙ e) (λ q. r.between i a (omega (arith, eqb-false i m q)));
      }))

  pub last_within : (m : ℕ) → m ≤ none → last_to f m ≤ none
  last_within m l =
      by_test (eqb (last_to f m) none)
      (λ q. let a = eqb-true (last_to f m) none q in omega arith)
      (λ q. let a = (last-is m (eqb-false (last_to f m) none q)).below in omega arith)

  pub last_none : (m : ℕ) → m ≤ none → last_to f m ≡ none → (i : ℕ) → i < m → f i ≡ false
  last_none zero l e i a = absurd (not-suc-le-zero a)
  last_none (suc m) l e i a =
      by_test (f m)
      (λ h. absurd (omega (arith, last-hit m h)))
      (λ h. by_test (eqb i m) (λ q. ap f (eqb-true i m q) ∙ h) (λ q. last_none m (omega arith) (sym (last-miss m h) ∙ e) i (omega (arith, eqb-false i m q))))

module _ (d : Sizes) (p : List ℕ) where
  -- ---- a handle that stands on a block

  pub stands-both : (k i : ℕ) → stands_on d p k i ≡ true → Lives d p i × ((slot d p i).block ≡ k)
  unfolding stands_on
  stands-both k i h =
      let b = and_both (is_live (slot d p i).status) (eqb (slot d p i).block k) h in
      ((live_decides (slot d p i).status).yes b.0, eqb-true (slot d p i).block k b.1)

  pub stands-yes : (k i : ℕ) → Lives d p i → (slot d p i).block ≡ k → stands_on d p k i ≡ true
  unfolding stands_on
  stands-yes k i l e = ap (λ (s : Status). is_live s && eqb (slot d p i).block k) l ∙ eq-eqb (slot d p i).block k e

  pub stands-below : (k i : ℕ) → stands_on d p k i ≡ true → i < d.h
  stands-below k i h = live_below d p i (stands-both k i h).0

  -- ---- from slot to slot

  pub chain_start : ChainedTo d p 0 (replicate most_blocks none) (replicate most_handles none)
  chain_start =
      record {
        first_sized = length-replicate {A = ℕ} most_blocks none;
        next_sized = length-replicate {A = ℕ} most_handles none;
        firsts = λ k l. get_or-replicate {A = ℕ} most_blocks k none 0 l ∙ (unfold last_to in refl);
        nexts = λ k j l. absurd (not-suc-le-zero l);
      }

  module _ (j : ℕ) (first next : List ℕ) (s : ChainedTo d p j first next) (x : Slot) (e : x ≡ slot_read (slot_part p j)) (l : j < d.h) (b : Bool) (f : b ≡ is_live x.status) where
    pub chain_idle : b ≡ false → ChainedTo d p (j + 1) first next
    chain_idle q =
        record {
          first_sized = s.first_sized;
          next_sized = s.next_sized;
          firsts = λ k o. s.firsts k o ∙ sym (ap (last_to (stands_on d p k)) (add-one j) ∙ last-miss (stands_on d p k) j (off k));
          nexts = λ k i o h.
              by_test (eqb i j)
              (λ z. absurd (true≢false (sym h ∙ ap (stands_on d p k) (eqb-true i j z) ∙ off k)))
              (λ z. s.nexts k i (omega (arith, eqb-false i j z)) h);
        }
      where
        off : (k : ℕ) → stands_on d p k j ≡ false
        off k = sym (stands_not d p k j x e l b f q)

    module _ (q : b ≡ true) where
      on : (k : ℕ) → eqb x.block k ≡ stands_on d p k j
      on k = stands_live d p k j x e l b f q

      module _ (sp : Spans d p) where
        chain_row : j < length next
        chain_row = let a = sp.handles in let c = s.next_sized in omega arith

        module _ (two : Rule2 d p) where
          small : x.block < most_blocks
          small =
              let h : stands_on d p x.block j ≡ true = sym (on x.block) ∙ eq-eqb x.block x.block refl in
              let a = stands-both x.block j h in
              let c = two.below_b j a.0 in
              omega (arith, a.1, sp.blocks)

          pub chain_block : x.block < length first
          chain_block = let a = small in let c = s.first_sized in omega arith

          pub chain_set : ChainedTo d p (j + 1) (set first x.block j) (set next j (get_or first x.block 0))
          chain_set =
              record {
                first_sized = length-set first x.block j ∙ s.first_sized;
                next_sized = length-set next j (get_or first x.block 0) ∙ s.next_sized;
                firsts = λ k o.
                    by_test (eqb x.block k)
                    (λ z.
                    ap (λ (y : ℕ). get_or (set first x.block j) y 0) (sym (eqb-true x.block k z)) ∙ get_or-set_same first x.block j 0 chain_block
                    ∙ sym (ap (last_to (stands_on d p k)) (add-one j) ∙ last-hit (stands_on d p k) j (sym (on k) ∙ z)))
                    (λ z.
                    get_or-set_other first x.block k j 0 (λ y. eqb-false x.block k z (sym y)) ∙ s.firsts k o
                    ∙ sym (ap (last_to (stands_on d p k)) (add-one j) ∙ last-miss (stands_on d p k) j (sym (on k) ∙ z)));
                nexts = λ k i o h.
                    by_test (eqb i j)
                    (λ z.
                    let c : i ≡ j = eqb-true i j z in
                    let g : x.block ≡ k = eqb-true x.block k (on k ∙ ap (stands_on d p k) (sym c) ∙ h) in
                    ap (λ (y : ℕ). get_or (set next j (get_or first x.block 0)) y 0) c ∙ get_or-set_same next j (get_or first x.block 0) 0 chain_row
                    ∙ s.firsts x.block small ∙ ap (λ (y : ℕ). last_to (stands_on d p y) j) g ∙ ap (last_to (stands_on d p k)) (sym c))
                    (λ z.
                    get_or-set_other next j i (get_or first x.block 0) 0 (eqb-false i j z) ∙ s.nexts k i (omega (arith, eqb-false i j z)) h);
              }

pub ruleset chains = (chain_idle, chain_set)
