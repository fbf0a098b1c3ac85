-- Rule 7's functions on rows and blocks: what a task's ranges give, which rows can be read, and which words are laid out.
-- Rests on Broken, Ways and the deciding of each part.
use Rattle.std.specs.Prelude.{◌+◌, ◌<◌, ◌≤◌, ℕ, Bool, ◌&&◌, eqb, false, true, List, ltb, get_or, Err, None, Ok, Option, Result, Some}
use Rattle.std.proofs.Common.{◌∙◌, ap, sym}
use Rattle.std.proofs.Math.Path.{◌≡◌, subst}
use native.Mathlib.Omega.{arith}
use borrow.Author.Tests.{le-leb, lt-ltb, ltb-true}
use Rattle.rulebook.specs.declared.Sizes.{Sizes}
use Rattle.rulebook.specs.declared.Slot.{Slot}
use Rattle.rulebook.specs.declared.Task.{Task}
use Rattle.block.specs.Sound.{Laid}
use Rattle.block.specs.Walk.{Decides}
use Rattle.block.specs.Layout.{version_of}
use Rattle.layout.specs.Places.{Spans, block_part, slot_part, task_part}
use Rattle.layout.specs.Pool.{slot_in, view_of}
use Rattle.layout.specs.Ranges.{slot_row}
use Rattle.layout.specs.Rows.{slot_fits, slot_read, slot_row_of, task_read}
use Rattle.layout.specs.View.{view_slot_at}
use Rattle.rulebook.specs.Sizes.{last_serial}
use Rattle.rulebook.specs.State.{is_live, writes}
use Rattle.rulebook.specs.Tests.{by_test}
use Rattle.rules.specs.Paced.{Paced, SlotRange, TaskRange}
use Rattle.survey.specs.Broken.{not_above, slot_sound, writer_apart, writer_at}
use Rattle.survey.specs.Held.{alone_at}
use Rattle.survey.proofs.Holding.{alone_held}
use Rattle.theorems.specs.Terms.{all_to}
use Rattle.audit.specs.Written.{written_by}
use Rattle.survey.specs.Holds.{laid_in, slot_holds}
use Rattle.survey.proofs.Deciding.{same}
use Rattle.survey.proofs.DecideBlocks.{laid_decides}
use Rattle.survey.proofs.DecideTasks.{live_decides, slot_decides}
use Rattle.survey.specs.Rules.{Lives, Rule2, shown, slot}
use Rattle.survey.proofs.Ways.{slot_as, task_as, version-here}
use Rattle.rulebook.specs.declared.Status.TheVariants as status
use Rattle.rulebook.specs.Codes.{damaged}
use Rattle.rulebook.specs.declared.Damaged.{Damaged}

-- ---- writers

alone_writer : (d : Sizes) (p : List ℕ) (x : Task) (t n : ℕ) → all_to (alone_at d p written_by t x.block) n ≡ all_to (writer_apart d p x t) n
unfolding written_by writer_apart
alone_writer d p x t n = alone_held d p x t writes (λ y. y.block) n

module _ (d : Sizes) (p : List ℕ) (t : ℕ) (k : Task) (e : k ≡ task_read (task_part p d t)) (l : t < d.t) (pc : Paced (shown d p)) where
  in_range : TaskRange d k
  unfolding view_of
  in_range = subst (TaskRange d) (task_as d p t k e l) (pc.tasks t)

  pub writer-next : Spans d p → k.number + 1 < 4294967296
  writer-next sp = let z = in_range.number_within in let y = sp.cells in omega arith

  left : writes k.stage ≡ true → (v : ℕ) → v ≡ version_of (block_part p d k.block) → writer_at d p t ≡ (eqb v (k.number + 1) && (all_to (alone_at d p written_by t k.block) d.t && all_to (not_above d p k) d.h))
  unfolding writer_at
  left w v h = rw (task_as d p t k e l, w, version-here d p k.block in_range.block_below v h, alone_writer d p k t d.t)

  -- the block b that it writes, and what is left to ask of it
  module _ (r : Option ℕ) (f : r ≡ written_by k) (b : ℕ) (g : r ≡ Some b) where
    told : (writes k.stage ≡ true) × (k.block ≡ b)
    unfolding written_by
    told =
        by_test (writes k.stage)
        (λ w. let q : Some k.block ≡ Some b = rw w at (sym f ∙ g) in (w, cc))
        (λ w. let q : None ≡ Some b = rw w at (sym f ∙ g) in let z : ◌≡◌ {A = ℕ} 0 1 = cc in absurd (omega arith))

    pub writer-block : b < d.b
    writer-block = let z = in_range.block_below in let y = told.1 in omega arith

    pub writer-is : (v : ℕ) → v ≡ version_of (block_part p d b) → writer_at d p t ≡ (eqb v (k.number + 1) && (all_to (alone_at d p written_by t b) d.t && all_to (not_above d p k) d.h))
    writer-is v h =
        left told.0 v (h ∙ ap (λ (x : ℕ). version_of (block_part p d x)) (sym told.1))
        ∙ ap (λ (x : ℕ). eqb v (k.number + 1) && (all_to (alone_at d p written_by t x) d.t && all_to (not_above d p k) d.h)) told.1

pub ruleset writers = (task_as, writer-next, writer-block)

-- ---- slots

-- a row that was read has a status's code; a row with one, in its ranges, is read
row-code : (d : Sizes) (x : Slot) (w : List ℕ) → slot_row_of d w ≡ Ok x → get_or w 1 0 < 3
unfolding slot_row_of
row-code d x w e =
    by_test (ltb (get_or w 1 0) 3)
    (λ o. ltb-true (get_or w 1 0) 3 o)
    (λ o. let q : (Err damaged) ≡ Ok x = rw o at e in let z : ◌≡◌ {A = ℕ} 0 1 = cc in absurd (omega arith))

row_reads : (d : Sizes) (p : List ℕ) (j : ℕ) → ltb (get_or (slot_part p j) 1 0) 3 ≡ true → slot_fits d (slot_read (slot_part p j)) ≡ true → slot_in p d j ≡ Ok (slot_read (slot_part p j))
unfolding slot_in slot_row_of
row_reads d p j a b = rw (a, b)

fits-of : {p : List ℕ} (d : Sizes) (x : Slot) → Spans d p → SlotRange x → (x.status ≡ status.Live → x.block < d.b) → (x.status ≡ status.Live → x.number ≤ d.n) → slot_fits d x ≡ true
unfolding slot_fits
fits-of d x sp r below within =
    by_test (is_live x.status)
    (λ v. let s = (live_decides x.status).yes v in rw (lt-ltb x.block d.b (below s), le-leb x.number d.n (within s), le-leb x.serial last_serial r.serial_not_above))
    (λ v.
    let z = r.nowhere ((live_decides x.status).no v) in
    rw (lt-ltb x.block d.b (omega (arith, z.0, sp.some_blocks)), le-leb x.number d.n (omega (arith, z.1)), le-leb x.serial last_serial r.serial_not_above))

module _ (d : Sizes) (p : List ℕ) (j : ℕ) (l : j < d.h) (y : Result Slot Damaged) (e : y ≡ slot_in p d j) where
  pub slot_row-sound : (x : Slot) → y ≡ Ok x → (r : Bool) → r ≡ slot_holds x → r ≡ slot_sound d p j
  unfolding slot_sound slot_in
  slot_row-sound x f r g = g ∙ rw (lt-ltb (get_or (slot_part p j) 1 0) 3 code, view_slot_at d p j l, row.0)
    where
      row : (slot_read (slot_part p j) ≡ x) × (slot_fits d x ≡ true)
      row = slot_row d x (slot_part p j) (sym e ∙ f)

      code : get_or (slot_part p j) 1 0 < 3
      code = row-code d x (slot_part p j) (sym e ∙ f)

  -- a slot that keeps rules 2 and 7 can be read
  pub slot-bad-sound : Spans d p → Rule2 d p → y ≡ Err damaged → false ≡ slot_sound d p j
  unfolding slot_sound
  slot-bad-sound sp two f =
      by_test (ltb (get_or (slot_part p j) 1 0) 3)
      (λ a. by_test (slot_holds (slot d p j)) (λ b. absurd (bad-row (sym f ∙ e ∙ reads a b))) (λ b. rw (a, b)))
      (λ a. rw a)
    where
      bad-row : {x : Slot} → Err damaged ≡ Ok x → ⊥
      bad-row q = let z : ◌≡◌ {A = ℕ} 0 1 = cc in omega arith

      reads : ltb (get_or (slot_part p j) 1 0) 3 ≡ true → slot_holds (slot d p j) ≡ true → slot_in p d j ≡ Ok (slot_read (slot_part p j))
      reads a b = row_reads d p j a (fits-of d (slot_read (slot_part p j)) sp (subst SlotRange (view_slot_at d p j l) ((slot_decides (slot d p j)).yes b)) (λ v. place v) (λ v. number v))
        where
          lives : (slot_read (slot_part p j)).status ≡ status.Live → Lives d p j
          lives v = ap (λ (x : Slot). x.status) (view_slot_at d p j l) ∙ v

          place : (slot_read (slot_part p j)).status ≡ status.Live → (slot_read (slot_part p j)).block < d.b
          place v = subst (λ (x : Slot). x.block < d.b) (view_slot_at d p j l) (two.below_b j (lives v))

          number : (slot_read (slot_part p j)).status ≡ status.Live → (slot_read (slot_part p j)).number ≤ d.n
          number v = subst (λ (x : Slot). x.number ≤ d.n) (view_slot_at d p j l) (two.at_most_n j (lives v))

pub ruleset slots = (slot_row-sound, slot-bad-sound)

-- ---- blocks

pub laid_is : (n : ℕ) (w : List ℕ) (r : Bool) → Decides r (Laid n w) → r ≡ laid_in n w
laid_is n w r f = same r (laid_in n w) f (laid_decides n w)
