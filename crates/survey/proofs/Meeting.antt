-- Rule 5's marks by number: what holds along the chain of a block and from block to block, and what each way out owes.
use Rattle.std.specs.Prelude.{◌+◌, ◌<◌, ◌≤◌, ℕ, Bool, false, not, true, List, ◌≡◌, refl, eqb, ltb, get_or, length, replicate, set, if◌then◌else◌}
use Rattle.std.proofs.lemmas.Bool.{false≢true}
use Rattle.std.proofs.Common.{true≢false, ◌∙◌, ap, subst, sym, arith, length-set, get_or-set_other, get_or-set_same}
use Rattle.std.proofs.lemmas.List.{get_or-replicate, length-replicate}
use borrow.Author.Tests.{eqb-false, eqb-true, ltb-false, ltb-true, ne_eqb, not-false, not-true}
use Rattle.rulebook.specs.declared.Sizes.{Sizes}
use Rattle.rulebook.specs.declared.Slot.{Slot}
use Rattle.layout.specs.Places.{slot_part}
use Rattle.layout.specs.Rows.{slot_read}
use Rattle.rulebook.specs.Tests.{by_test}
use Rattle.survey.specs.Broken.{rule5}
use Rattle.survey.proofs.Decided.{decides_5}
use Rattle.survey.specs.Searches.{stands_on}
use Rattle.survey.specs.Rules.{Rule5, slot}
use Rattle.survey.proofs.Ways.{slot_as}
use Rattle.survey.specs.Chains.{Chained, last_to, none}
use Rattle.survey.proofs.Chaining.{Last, last-is, last_none, last_within, stands-below, stands-both, stands-yes}
use Rattle.survey.specs.Apart.{most_numbers, Unmet, ApartOn, Told}

-- how many slots a chain may still have, from slot j on
unfoldable pub left : ℕ → ℕ
left j = if eqb j none then 0 else j + 1

module _ (d : Sizes) (p : List ℕ) where
  -- the chain of block k is gone down to slot j: the handles on it in the slots from to on are met, and no two have one number
  pub record Down (first next : List ℕ) (k j : ℕ) (seen : List ℕ) : Type 0 where
    pub on : Chained d p first next
    pub below : k < d.b
    pub to : ℕ
    pub most : to ≤ d.h
    pub is : j ≡ last_to (stands_on d p k) to
    pub within : j ≤ none
    pub unmet : Unmet (k + 1) seen
    pub met : (i : ℕ) → to ≤ i → stands_on d p k i ≡ true → get_or seen (slot d p i).number 0 ≡ k
    pub only : (x : ℕ) → x < most_numbers → get_or seen x 0 ≡ k → (i : ℕ) × (to ≤ i) × (stands_on d p k i ≡ true) × ((slot d p i).number ≡ x)
    pub apart : (i l : ℕ) → to ≤ i → to ≤ l → stands_on d p k i ≡ true → stands_on d p k l ≡ true → (slot d p i).number ≡ (slot d p l).number → i ≡ l

  -- the blocks before k keep the rule
  pub record ApartTo (k : ℕ) (seen : List ℕ) : Type 0 where
    pub most : k ≤ d.b
    pub blocks : (x : ℕ) → x < k → ApartOn d p x
    pub unmet : Unmet k seen

  -- ---- along a chain

  module _ (first next : List ℕ) (c : Chained d p first next) (k : ℕ) (l : k < d.b) where
    pub down_start : (seen : List ℕ) → Unmet k seen → Down first next k (get_or first k 0) seen
    down_start seen u =
        record {
          on = c;
          below = l;
          to = d.h;
          most = omega arith;
          is = is;
          within = (let a = last_within (stands_on d p k) d.h c.spans.handles in let b = is in omega arith);
          unmet = record { sized = u.sized; fresh = λ x o m. u.fresh x o (omega arith) };
          met = λ i o h. absurd (let a = stands-below d p k i h in omega arith);
          only = λ x o m. absurd (let a = u.fresh x o (omega arith) in let b = c.spans.blocks in omega arith);
          apart = λ i y o m g. absurd (let a = stands-below d p k i g in omega arith);
        }
      where
        is : get_or first k 0 ≡ last_to (stands_on d p k) d.h
        is = c.chains.firsts k (let a = c.spans.blocks in omega arith)

  module _ (first next : List ℕ) (k j : ℕ) (seen : List ℕ) (s : Down first next k j seen) where
    pub down_end : j ≡ none → Told d p k seen true
    down_end o =
        record {
          tells = record { yes = λ _. record { apart = λ i y g h. s.apart i y (all i g) (all y h) g h }; no = λ z. absurd (true≢false z) };
          unmet = s.unmet;
        }
      where
        all : (i : ℕ) → stands_on d p k i ≡ true → s.to ≤ i
        all i g =
            by_test (ltb i s.to)
            (λ q.
            let a : s.to ≤ none = (let m = s.most in let b = s.on.spans.handles in omega arith) in
            absurd (true≢false (sym g ∙ last_none (stands_on d p k) s.to a (sym s.is ∙ o) i (ltb-true i s.to q))))
            (λ q. ltb-false i s.to q)

    module _ (o : j ≡ none → ⊥) where
      here : Last (stands_on d p k) s.to j
      here = subst (Last (stands_on d p k) s.to) (sym s.is) (last-is (stands_on d p k) s.to (λ z. o (s.is ∙ z)))

      pub down_row : j < d.h
      down_row = let a = here.below in let b = s.most in omega arith

      on-next : get_or next j 0 ≡ last_to (stands_on d p k) j
      on-next = s.on.chains.nexts k j down_row here.holds

      pub down_less : left (get_or next j 0) < left j
      unfolding left
      down_less =
          by_test (eqb (get_or next j 0) none)
          (λ q. rw (q, ne_eqb j none o) (omega arith))
          (λ q.
          let a = (last-is (stands_on d p k) j (λ z. eqb-false (get_or next j 0) none q (on-next ∙ z))).below in
          let b = on-next in
          rw (q, ne_eqb j none o) (omega arith))

      module _ (x : Slot) (e : x ≡ slot_read (slot_part p j)) where
        number_is : (slot d p j).number ≡ x.number
        number_is = ap (λ (y : Slot). y.number) (slot_as d p j x e down_row)

        small : x.number < most_numbers
        small =
            let a = s.on.two.at_most_n j (stands-both d p k j here.holds).0 in
            omega (arith, number_is, s.on.spans.cells)

        pub down_number : x.number < length seen
        down_number = let a = small in let b = s.unmet.sized in omega arith

        pub down_twice : get_or seen x.number 0 ≡ k → Told d p k seen false
        down_twice f =
            let r = s.only x.number small f in
            record {
              tells = record {
                yes = λ z. absurd (false≢true z);
                no = λ _ h.
                    let a : j ≡ r.0 = h.apart j r.0 here.holds r.2 (number_is ∙ sym r.3) in
                    let b = here.below in
                    let m = r.1 in
                    omega arith;
              };
              unmet = s.unmet;
            }

        module _ (f : get_or seen x.number 0 ≡ k → ⊥) where
          -- of the handles on the block, in the slots after j, none has the number
          other : (i : ℕ) → s.to ≤ i → stands_on d p k i ≡ true → (slot d p i).number ≡ x.number → ⊥
          other i a h z = f (ap (λ (u : ℕ). get_or seen u 0) (sym z) ∙ s.met i a h)

          after : (i : ℕ) → j ≤ i → stands_on d p k i ≡ true → (i ≡ j → ⊥) → s.to ≤ i
          after i a h z =
              by_test (ltb i s.to)
              (λ q. absurd (true≢false (sym h ∙ here.between i (omega (arith, z)) (ltb-true i s.to q))))
              (λ q. ltb-false i s.to q)

          marked-here : (y : ℕ) → y ≡ x.number → get_or (set seen x.number k) y 0 ≡ k
          marked-here y z = ap (λ (u : ℕ). get_or (set seen x.number k) u 0) z ∙ get_or-set_same seen x.number k 0 down_number

          marked_else : (y : ℕ) → (y ≡ x.number → ⊥) → get_or (set seen x.number k) y 0 ≡ get_or seen y 0
          marked_else y z = get_or-set_other seen x.number y k 0 z

          pub down_step : Down first next k (get_or next j 0) (set seen x.number k)
          down_step =
              record {
                on = s.on;
                below = s.below;
                to = j;
                most = (let a = down_row in omega arith);
                is = on-next;
                within = (let a = last_within (stands_on d p k) j s.within in let b = on-next in omega arith);
                unmet = record {
                  sized = length-set seen x.number k ∙ s.unmet.sized;
                  fresh = λ y m g.
                      by_test (eqb y x.number)
                      (λ z. absurd (let a = marked-here y (eqb-true y x.number z) in omega arith))
                      (λ z.
                      let a = marked_else y (eqb-false y x.number z) in
                      let b = s.unmet.fresh y m (omega arith) in
                      omega arith);
                };
                met = λ i a h.
                    by_test (eqb (slot d p i).number x.number)
                    (λ z. marked-here (slot d p i).number (eqb-true (slot d p i).number x.number z))
                    (λ z.
                    let g = eqb-false (slot d p i).number x.number z in
                    marked_else (slot d p i).number g
                    ∙ s.met i (after i a h (λ y. g (ap (λ (u : ℕ). (slot d p u).number) y ∙ number_is))) h);
                only = λ y m g.
                    by_test (eqb y x.number)
                    (λ z. (j, omega arith, here.holds, number_is ∙ sym (eqb-true y x.number z)))
                    (λ z.
                    let r = s.only y m (sym (marked_else y (eqb-false y x.number z)) ∙ g) in
                    let a = here.below in
                    let b = r.1 in
                    (r.0, omega arith, r.2, r.3));
                apart = λ i y a b g h z.
                    by_test (eqb i j)
                    (λ u.
                    by_test (eqb y j)
                    (λ v. eqb-true i j u ∙ sym (eqb-true y j v))
                    (λ v. absurd (other y (after y b h (eqb-false y j v)) h (sym z ∙ ap (λ (w : ℕ). (slot d p w).number) (eqb-true i j u) ∙ number_is))))
                    (λ u.
                    by_test (eqb y j)
                    (λ v. absurd (other i (after i a g (eqb-false i j u)) g (z ∙ ap (λ (w : ℕ). (slot d p w).number) (eqb-true y j v) ∙ number_is)))
                    (λ v. s.apart i y (after i a g (eqb-false i j u)) (after y b h (eqb-false y j v)) g h z));
              }

  -- ---- from block to block

  five_not : (Rule5 d p → ⊥) → false ≡ rule5 d p
  five_not h = by_test (rule5 d p) (λ q. absurd (h ((decides_5 d p).yes q))) (λ q. sym q)

  five-yes : Rule5 d p → true ≡ rule5 d p
  five-yes h = by_test (rule5 d p) (λ q. sym q) (λ q. absurd ((decides_5 d p).no q h))

  five-on : Rule5 d p → (k : ℕ) → ApartOn d p k
  five-on r k =
      record {
        apart = λ i l g h.
            let a = stands-both d p k i g in
            let b = stands-both d p k l h in
            r.apart i l a.0 b.0 (a.1 ∙ sym b.1);
      }

  module _ (k : ℕ) (seen : List ℕ) (r : Bool) (t : Told d p k seen r) where
    pub apart-stop : not r ≡ true → false ≡ rule5 d p
    apart-stop q = five_not (λ h. t.tells.no (not-true r q) (five-on h k))

    pub apart_next : (old : List ℕ) → ApartTo k old → k < d.b → not r ≡ false → ApartTo (k + 1) seen
    apart_next old s l q =
        record {
          most = omega arith;
          blocks = λ x m.
              by_test (eqb x k)
              (λ z. subst (ApartOn d p) (sym (eqb-true x k z)) (t.tells.yes (not-false r q)))
              (λ z. s.blocks x (omega (arith, eqb-false x k z)));
          unmet = t.unmet;
        }

  pub apart-end : (first next : List ℕ) → Chained d p first next → (k : ℕ) (seen : List ℕ) → ApartTo k seen → d.b ≤ k → true ≡ rule5 d p
  apart-end first next c k seen s l =
      five-yes (record {
        apart = λ i j a b g h.
            let m = c.two.below_b i a in
            (s.blocks (slot d p i).block (omega arith)).apart i j (stands-yes d p (slot d p i).block i a refl) (stands-yes d p (slot d p i).block j b (sym g)) h;
      })

pub unmet-start : Unmet 0 (replicate most_numbers none)
unmet-start =
    record {
      sized = length-replicate {A = ℕ} most_numbers none;
      fresh = λ x l _. (let e = get_or-replicate {A = ℕ} most_numbers x none 0 l in omega arith);
    }

pub ruleset downs = (down_start, down_end, down_row, down_less, down_twice, down_step)

pub ruleset aparts = (apart-stop, apart_next, apart-end)
