-- What is written is what is read, and a row that the check has read lies in its ranges.
-- Rests on Codes and Rows.
use Rattle.std.specs.Prelude.{ℕ, refl, Bool, true, false, not, ◌&&◌, List, ◌++◌, get_or, ltb, leb, eqb, Err, Ok}
use Rattle.std.proofs.Math.Path.{◌≡◌, ap}
use Rattle.std.proofs.Common.{sym, ◌∙◌, arith}
use borrow.Author.Tests.{ltb-true, leb-true}
use Rattle.rulebook.specs.Tests.{by_test, and_both}
use Rattle.rulebook.specs.State.{freed, idle}
use Rattle.rulebook.specs.declared.Sizes.{Sizes}
use Rattle.rulebook.specs.declared.Slot.{Slot}
use Rattle.rulebook.specs.declared.Task.{Task}
use Rattle.rulebook.specs.Codes.{stage_of, stage_from, is_code, status_from}
use Rattle.rulebook.proofs.Back.{stage_from_lem, status_from_lem}
use Rattle.layout.specs.Rows.{slot_words, slot_read, slot_fits, slot_row_of, bit_of, task_words, task_read, stands_in, works_in, task_fits, task_row_of, Ranged}
use Rattle.rulebook.specs.Codes.{damaged}

-- ---- what is written is what is read

bit-read : (x : Bool) → not (eqb (bit_of x) 0) ≡ x
bit-read true = refl
bit-read false = refl

pub slot_read_lem : (x : Slot) → slot_read (slot_words x) ≡ x
unfolding slot_read slot_words
slot_read_lem x = λ i. record { serial = x.serial; status = status_from_lem x.status i; block = x.block; number = x.number }

pub task_read_lem : (k : Task) (l : List ℕ) → task_read (task_words k ++ l) ≡ k
unfolding task_read task_words
task_read_lem k l =
    λ i. record {
      stage = stage_from_lem k.stage i;
      slot = k.slot;
      block = k.block;
      number = k.number;
      cell = k.cell;
      value = k.value;
      until = k.until;
      fresh = k.fresh;
      target = k.target;
      hand = record {
        cell = k.hand.cell;
        guess = k.hand.guess;
        lo = k.hand.lo;
        hi = k.hand.hi;
        found = bit-read k.hand.found i;
        candidate = k.hand.candidate;
        version = k.hand.version;
      };
      steps = k.steps;
    }

-- ---- a row that was read

module _ (d : Sizes) (x : Slot) where
  pub slot_row : (w : List ℕ) → slot_row_of d w ≡ Ok x → (slot_read w ≡ x) × (slot_fits d x ≡ true)
  unfolding slot_row_of
  slot_row w e =
      by_test (ltb (get_or w 1 0) 3 && slot_fits d (slot_read w))
      (λ o.
      let q : Ok (slot_read w) ≡ Ok x = rw o at e in
      let i : slot_read w ≡ x = cc in
      (i, ap (slot_fits d) (sym i) ∙ (and_both (ltb (get_or w 1 0) 3) (slot_fits d (slot_read w)) o).1))
      (λ o. let q : (Err damaged) ≡ Ok x = rw o at e in let z : ◌≡◌ {A = ℕ} 0 1 = cc in absurd (omega arith))

module _ (d : Sizes) (k : Task) where
  pub task-ranged : task_fits d k ≡ true → Ranged d k
  unfolding task_fits stands_in works_in
  task-ranged e =
      let z = and_both (stands_in d k) (works_in d k) e in
      let a = and_both (ltb k.slot d.h) _ z.0 in
      let b = and_both (ltb k.block d.b) _ a.1 in
      let c = and_both (ltb k.cell d.n) _ z.1 in
      let u = and_both (leb k.until d.n) _ c.1 in
      let f = and_both (ltb k.fresh d.h) _ u.1 in
      let t = and_both (ltb k.target d.b) _ f.1 in
      let w = and_both (ltb k.hand.cell d.n) _ t.1 in
      record {
        slot = ltb-true _ _ a.0;
        block = ltb-true _ _ b.0;
        number = leb-true _ _ b.1;
        cell = ltb-true _ _ c.0;
        until = leb-true _ _ u.0;
        fresh = ltb-true _ _ f.0;
        target = ltb-true _ _ t.0;
        hand = ltb-true _ _ w.0;
        steps = ltb-true _ _ w.1;
      }

  pub task_row : (w : List ℕ) → task_row_of d w ≡ Ok k → (task_read w ≡ k) × (task_fits d k ≡ true)
  unfolding task_row_of
  task_row w e =
      by_test (is_code (get_or w 0 0) && task_fits d (task_read w))
      (λ o.
      let q : Ok (task_read w) ≡ Ok k = rw o at e in
      let i : task_read w ≡ k = cc in
      (i, ap (task_fits d) (sym i) ∙ (and_both (is_code (get_or w 0 0)) (task_fits d (task_read w)) o).1))
      (λ o. let q : (Err damaged) ≡ Ok k = rw o at e in let z : ◌≡◌ {A = ℕ} 0 1 = cc in absurd (omega arith))

-- ---- rows of 0

pub slot-zero : (w : List ℕ) → ((i : ℕ) → get_or w i 0 ≡ 0) → slot_read w ≡ freed 0
unfolding slot_read status_from
slot-zero w z = rw (z 0, z 1, z 2, z 3)

pub task-zero : (w : List ℕ) → ((i : ℕ) → get_or w i 0 ≡ 0) → task_read w ≡ idle
unfolding task_read stage_from stage_of
task-zero w z = rw (z 0, z 1, z 2, z 3, z 4, z 5, z 6, z 7, z 8, z 9, z 10, z 11, z 12, z 13, z 14, z 15, z 16)
