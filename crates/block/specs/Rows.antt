-- What each way through the walk owes: rules for the proofs of `mark_row` and `laid`.
-- Rests on Walk, Chunks and Ways.
use Rattle.std.specs.Prelude.{ℕ, suc, ◌+◌, ◌≤◌, ◌<◌, ◌≡◌, refl, Bool, true, false, List, get_or, set, replicate, eqb, None, Option, Some}
use Rattle.std.proofs.Common.{sym, ap, ◌∙◌, subst, inl, ⊎_elim, true≢false, add-one, arith, eqb-true, below_more}
use Rattle.std.proofs.lemmas.Bool.{false≢true, eqb-false}
use Rattle.std.proofs.lemmas.List.{length-replicate, get_or-replicate}
use Rattle.block.specs.Layout.{length_ix, arena, most_places, space_of, bump_of, length_of, place_of, is_block, Sized, Reach}
use Rattle.block.specs.Sound.{view_of, sum_to, Sound, Laid}
use Rattle.block.specs.Ways.{sized-block}
use Rattle.block.specs.Chunks.{width_holds}
use Rattle.block.specs.Marks.{walk_start, walk_step, walk_row}
use Rattle.block.specs.Walk.{Decides, count_of, Marks, RowIn, RowOut, RowAt, RowsAt}

-- ---- a row

broken : {n : ℕ} {w : List ℕ} {i : ℕ} {marks : List ℕ} → (Sound n (view_of n w) → ⊥) → RowOut None n w i marks
broken h = record { done = λ k q. (let z : ◌≡◌ {A = ℕ} 0 1 = cc in absurd (omega arith)); no = λ _. h }

module _ {n : ℕ} {w : List ℕ} {limit i : ℕ} {marks : List ℕ} (r : RowIn n w limit i marks) where
  module _ (x : ℕ) (e : x ≡ length_ix n i) where
    pub row-long : n < get_or w x 0 → RowOut None n w i marks
    row-long h = broken (λ s. let a = s.short i r.cell in let l : n < length_of n w i = rw e at h in omega arith)

    pub row-start : (all : ℕ) → get_or w x 0 ≤ n → all ≡ space_of (get_or w x 0) → all < most_places → RowAt n w limit i (get_or w x 0) all marks 0
    row-start all h a f = record {
      on = r.on;
      cell = r.cell;
      is = ap (λ (y : ℕ). get_or w y 0) e;
      short = h;
      space = a;
      few = f;
      most = omega arith;
      walked = r.walked;
      below = λ t l. absurd (omega arith);
    }

module _ {n : ℕ} {w : List ℕ} {limit i m all : ℕ} {marks : List ℕ} {j : ℕ} (r : RowAt n w limit i m all marks j) where
  counted : all ≡ count_of n w i
  counted = r.space ∙ ap space_of r.is

  module _ (h : j < all) where
    pub row-reach : Reach n w i j
    row-reach =
        let f = r.few in
        record { sized = r.on.sized; cell = r.cell; small = omega arith; chunk = width_holds n m j r.on.sized.few r.short (subst (λ (x : ℕ). j < x) r.space h) }

    mine : j < count_of n w i
    mine = subst (λ (x : ℕ). j < x) counted h

    module _ (p : ℕ) (e : p ≡ place_of n w i j) where
      pub row-outside : limit ≤ p → RowOut None n w i marks
      row-outside l = broken (λ s. let a = s.below i j r.cell mine in let b = r.on.bump in omega arith)

      module _ (l : p < limit) where
        inside : place_of n w i j < most_places
        inside = let f = r.on.fits in omega arith

        pub row_twice : get_or marks p 0 ≡ 0 → RowOut None n w i marks
        row_twice z =
            let m = r.walked.marked (place_of n w i j) inside (sym (ap (λ (x : ℕ). get_or marks x 0) e) ∙ z) in
            broken (λ s.
            ⊎_elim
            (λ (x : m.0 < i).
            let c = r.cell in
            let o = s.once m.0 m.1 i j (omega arith) c m.2.0 mine m.3 in
            omega (arith, o.0))
            (λ (x : (m.0 ≡ i) × (m.1 < j)).
            let c = r.cell in
            let o = s.once m.0 m.1 i j (omega (arith, x.0)) c m.2.0 mine m.3 in
            omega (arith, o.1, x.1))
            m.2.1)

        pub row_step : (get_or marks p 0 ≡ 0 → ⊥) → RowAt n w limit i m all (set marks p 0) (j + 1)
        row_step z = record {
          on = r.on;
          cell = r.cell;
          is = r.is;
          short = r.short;
          space = r.space;
          few = r.few;
          most = omega arith;
          walked =
              subst (λ (x : ℕ). Marks n w (set marks x 0) i (j + 1)) (sym e)
              (walk_step (count_of n w) (place_of n w) r.walked mine inside (λ u. z (ap (λ (x : ℕ). get_or marks x 0) e ∙ u)));
          below = below_more (λ (t : ℕ). place_of n w i t < bump_of w) j r.below (let b = r.on.bump in omega arith);
        }

  pub row_done : all ≤ j → RowOut (Some all) n w i marks
  row_done l = record {
    done = λ k q.
        let e : k ≡ all = cc in
        rw e (record {
          all = counted;
          few = r.few;
          short = subst (λ (x : ℕ). x ≤ n) r.is r.short;
          below = λ t h. r.below t (let c = counted in omega arith);
          walked = walk_row (count_of n w) (place_of n w) r.walked (let c = counted in omega arith);
        });
    no = λ q. (let z : ◌≡◌ {A = ℕ} 0 1 = cc in absurd (omega arith));
  }

-- ---- the rows

undone : {P : Type 0} → (P → ⊥) → Decides false P
undone h = record { yes = λ q. absurd (false≢true q); no = λ _. h }

-- after the test of the slice
pub rows_unsized : (n : ℕ) (w : List ℕ) → false ≡ is_block n w → Decides false (Laid n w)
rows_unsized n w e = undone (λ L. true≢false (sym (sized-block n w L.sized) ∙ sym e))

module _ (n : ℕ) (w : List ℕ) (whole : Sized n w) where
  module _ (bump a : ℕ) (is : bump ≡ bump_of w) (all : a ≡ arena n) where
    pub rows_past : a < bump → Decides false (Laid n w)
    rows_past l = undone (λ L. let f = L.sound.fits in omega arith)

    pub rows_start : bump ≤ a → a ≤ most_places → RowsAt n w bump (replicate most_places 1) 0 0
    rows_start l f = record {
      on = record { sized = whole; bump = is; room = omega arith; fits = omega arith };
      most = omega arith;
      walked =
          walk_start (count_of n w) (place_of n w) most_places (replicate most_places 1) (length-replicate {A = ℕ} most_places 1)
          (λ p q z. omega (arith, get_or-replicate {A = ℕ} most_places p 1 0 q));
      short = λ k q. absurd (omega arith);
      below = λ k q. absurd (omega arith);
      tally = refl;
      small = omega arith;
    }

module _ {n : ℕ} {w : List ℕ} {bump : ℕ} {marks : List ℕ} {taken i : ℕ} (a : RowsAt n w bump marks taken i) where
  module _ (h : i < n) where
    pub rows_in : RowIn n w bump i marks
    rows_in = record { on = a.on; cell = h; walked = a.walked }

    module _ (marks' : List ℕ) (r : Option ℕ) (o : RowOut r n w i marks') where
      pub rows_broken : r ≡ None → Decides false (Laid n w)
      rows_broken q = undone (λ L. o.no q L.sound)

      module _ (k : ℕ) (q : r ≡ Some k) where
        pub rows_few-more : taken + k < 4294967296
        rows_few-more = let d = (o.done k q).few in let s = a.small in let f = a.on.sized.few in omega arith

        pub rows_step : RowsAt n w bump marks' (taken + k) (i + 1)
        rows_step =
            let d = o.done k q in
            record {
              on = a.on;
              most = omega arith;
              walked = d.walked;
              short = below_more (λ (k : ℕ). length_of n w k ≤ n) i a.short d.short;
              below = below_more (λ (k : ℕ). (j : ℕ) → j < count_of n w k → place_of n w k j < bump_of w) i a.below d.below;
              tally =
                  (let e : sum_to (i + 1) (count_of n w) ≡ sum_to (suc i) (count_of n w) = ap (λ (x : ℕ). sum_to x (count_of n w)) (add-one i) in
                  let t = a.tally in
                  let c = d.all in
                  omega arith);
              small = let s = a.small in let f = d.few in omega arith;
            }

  pub rows_done : n ≤ i → (t : ℕ) → t ≡ taken → Decides (eqb t bump) (Laid n w)
  rows_done h t e =
      let last : i ≡ n = (let m = a.most in omega arith) in
      let sum : taken ≡ sum_to n (count_of n w) = a.tally ∙ ap (λ (x : ℕ). sum_to x (count_of n w)) last in
      let b = a.on.bump in
      record {
        yes = λ q.
            let z : t ≡ bump = eqb-true t bump q in
            record {
              sized = a.on.sized;
              sound = record {
                short = λ k l. a.short k (omega arith);
                below = λ k j l. a.below k (omega arith) j;
                once = λ k j l u g g' c c'. a.walked.once k j l u (c, inl (omega arith)) (c', inl (omega arith));
                tally = omega arith;
                fits = let f = a.on.room in omega arith;
              };
            };
        no = λ q L. eqb-false t bump q (let y = L.sound.tally in omega arith);
      }

pub ruleset row_ways = (row-long, row-start, row-outside, row_twice, row_step, row_done)

pub ruleset rows_ways = (rows_unsized, rows_past, rows_start, rows_in, rows_broken, rows_few-more, rows_step, rows_done)

-- what decides the same has the same answer
pub decides_one : {P : Type 0} (r s : Bool) → Decides r P → Decides s P → r ≡ s
decides_one true true d e = refl
decides_one true false d e = absurd (e.no refl (d.yes refl))
decides_one false true d e = absurd (d.no refl (e.yes refl))
decides_one false false d e = refl
