-- What writing a row or a block leaves as it was, and what it puts there.
-- Rests on Parts, Places, Sizing and Pool.
use Rattle.std.specs.Prelude.{ℕ, ◌+◌, ◌*◌, ◌≤◌, ◌<◌, ◌≡◌, ◌⊎◌, Bool, false, List, ◌++◌, length, get_or, drop, ltb, eqb}
use Rattle.std.proofs.Math.Path.{refl}
use Rattle.std.proofs.Common.{◌∙◌, inl, inr, ⊎_elim, ltb-true, ltb-false}
use native.Mathlib.Omega.{arith}
use Rattle.std.proofs.Math.ListN.{length-drop}
use Rattle.std.proofs.lemmas.Bool.{eqb-false}
use Rattle.rulebook.specs.Sizes.{header_words, handle_row, task_row, control_words, block_words}
use Rattle.rulebook.specs.Tests.{by_test}
use Rattle.rulebook.specs.declared.Sizes.{Sizes}
use Rattle.rulebook.specs.declared.Slot.{Slot}
use Rattle.rulebook.specs.declared.Task.{Task}
use Rattle.block.specs.Layout.{Sized}
use Rattle.layout.specs.Parts.{row_part, put_row, Fitting, length_part, splice-length, splice-before, splice-after, splice-part, part-before, part-after}
use Rattle.layout.specs.Rows.{slot_words, task_words, task_fields}
use Rattle.layout.specs.Places.{task_base, block_base, slot_part, task_part, block_part, Spans}
use Rattle.layout.specs.Header.{header_of}
use Rattle.layout.specs.Pool.{put_slot, put_task, put_block}
use Rattle.layout.specs.Lends.{row_ends}

-- ---- one row of many

-- w is put in row i of so many rows of one width
pub record Placed (p : List ℕ) (base width count i : ℕ) (w : List ℕ) : Type 0 where
  pub room : base + width * count ≤ length p
  pub row : i < count
  pub long : length w ≡ width

module _ {p : List ℕ} {base width count i : ℕ} {w : List ℕ} (r : Placed p base width count i w) where
  row_stops : base + width * i + width ≤ base + width * count
  row_stops = let e = row_ends width i count r.row in omega arith

  fitting : Fitting p (base + width * i) (base + width * i + width) w
  fitting = let e = row_stops in let l = r.room in let n = r.long in record { order = omega arith; within = omega arith; long = omega arith }

  pub row-long : length (put_row p base width i w) ≡ length p
  row-long = splice-length p _ _ w fitting

  pub row-own : row_part (put_row p base width i w) base width i ≡ w
  row-own = splice-part p _ _ w fitting

  pub row_other : (j : ℕ) → j < count → eqb j i ≡ false → row_part (put_row p base width i w) base width j ≡ row_part p base width j
  row_other j l d =
      let e = row_ends width j count l in
      let m = r.room in
      by_test (ltb j i)
      (λ b. let u = row_ends width j i (ltb-true j i b) in part-before p _ _ w fitting _ _ (omega arith) (omega arith))
      (λ b.
      let y : i < j = omega (arith, ltb-false j i b, eqb-false j i d) in
      let u = row_ends width i j y in
      part-after p _ _ w fitting _ _ (omega arith) (omega arith) (omega arith))

  pub word-before : (x : ℕ) → x < base → get_or (put_row p base width i w) x 0 ≡ get_or p x 0
  word-before x l = splice-before p _ _ w fitting x (omega arith)

  pub word_after : (x : ℕ) → base + width * count ≤ x → get_or (put_row p base width i w) x 0 ≡ get_or p x 0
  word_after x l = let e = row_stops in splice-after p _ _ w fitting x (omega arith)

  -- rows of another kind
  pub row-away : (base' width' count' : ℕ) → base' + width' * count' ≤ length p → (base' + width' * count' ≤ base) ⊎ (base + width * count ≤ base')
      → (j : ℕ) → j < count' → row_part (put_row p base width i w) base' width' j ≡ row_part p base' width' j
  row-away base' width' count' room apart j l =
      let e = row_stops in
      let f = row_ends width' j count' l in
      ⊎_elim
      (λ (a : base' + width' * count' ≤ base). part-before p _ _ w fitting _ _ (omega arith) (omega arith))
      (λ (a : base + width * count ≤ base'). part-after p _ _ w fitting _ _ (omega arith) (omega arith) (omega arith))
      apart

pub row-length : (p : List ℕ) (base width count : ℕ) → base + width * count ≤ length p → (j : ℕ) → j < count → length (row_part p base width j) ≡ width
row-length p base width count room j h =
    let e = row_ends width j count h in
    let l = length_part p (base + width * j) (base + width * j + width) (omega arith) (omega arith) in
    omega arith

-- ---- what stays

abbrev pub none : ℕ → Bool
none i = false

abbrev pub only : ℕ → ℕ → Bool
only j i = eqb i j

-- q has as many words as p, and but for some slots, tasks and blocks the same ones
pub record Keeps (d : Sizes) (p q : List ℕ) (slot task block : ℕ → Bool) : Type 0 where
  pub long : length q ≡ length p
  pub first : (i : ℕ) → i < header_words → get_or q i 0 ≡ get_or p i 0
  pub slots : (j : ℕ) → j < d.h → slot j ≡ false → slot_part q j ≡ slot_part p j
  pub tasks : (t : ℕ) → t < d.t → task t ≡ false → task_part q d t ≡ task_part p d t
  pub blocks : (k : ℕ) → k < d.b → block k ≡ false → block_part q d k ≡ block_part p d k
  -- the words after the last block
  pub rest : (i : ℕ) → block_base d + block_words d.n * d.b ≤ i → get_or q i 0 ≡ get_or p i 0

module _ {d : Sizes} {p q : List ℕ} {f g h : ℕ → Bool} (s : Keeps d p q f g h) where
  pub keeps-header : header_of q ≡ header_of p
  unfolding header_of
  keeps-header =
      rw (s.long, s.first 0 (omega arith), s.first 1 (omega arith), s.first 2 (omega arith), s.first 3 (omega arith), s.first 4 (omega arith), s.first 5 (omega arith))

  pub keeps-spans : Spans d p → Spans d q
  keeps-spans g = record {
    some_cells = g.some_cells;
    some_handles = g.some_handles;
    some_tasks = g.some_tasks;
    some_blocks = g.some_blocks;
    cells = g.cells;
    handles = g.handles;
    tasks = g.tasks;
    blocks = g.blocks;
    long = rw s.long g.long;
    room = rw s.long g.room;
  }

pub keeps-all : (d : Sizes) (p : List ℕ) (f g h : ℕ → Bool) → Keeps d p p f g h
keeps-all d p f g h =
    record { long = refl; first = λ i l. refl; slots = λ j l e. refl; tasks = λ t l e. refl; blocks = λ k l e. refl; rest = λ i l. refl }

-- one change after another
pub keeps-both : {d : Sizes} {p q r : List ℕ} {f g h : ℕ → Bool} → Keeps d p q f g h → Keeps d q r f g h → Keeps d p r f g h
keeps-both a b = record {
  long = b.long ∙ a.long;
  first = λ i l. b.first i l ∙ a.first i l;
  slots = λ j l e. b.slots j l e ∙ a.slots j l e;
  tasks = λ t l e. b.tasks t l e ∙ a.tasks t l e;
  blocks = λ k l e. b.blocks k l e ∙ a.blocks k l e;
  rest = λ i l. b.rest i l ∙ a.rest i l;
}

-- where one kind of thing is written only, the others may be named
module _ {d : Sizes} {p q : List ℕ} (f g h : ℕ → Bool) where
  pub slots-alone : Keeps d p q f none none → Keeps d p q f g h
  slots-alone s =
      record { long = s.long; first = s.first; slots = s.slots; tasks = λ t l e. s.tasks t l refl; blocks = λ k l e. s.blocks k l refl; rest = s.rest }

  pub tasks-alone : Keeps d p q none g none → Keeps d p q f g h
  tasks-alone s =
      record { long = s.long; first = s.first; slots = λ j l e. s.slots j l refl; tasks = s.tasks; blocks = λ k l e. s.blocks k l refl; rest = s.rest }

  pub blocks-alone : Keeps d p q none none h → Keeps d p q f g h
  blocks-alone s =
      record { long = s.long; first = s.first; slots = λ j l e. s.slots j l refl; tasks = λ t l e. s.tasks t l refl; blocks = s.blocks; rest = s.rest }

-- ---- the three writes

module _ {d : Sizes} {p : List ℕ} (g : Spans d p) where
  slots-room : header_words + handle_row * d.h ≤ length p
  unfolding control_words
  slots-room = let l = g.long in omega arith

  tasks-room : task_base d + task_row * d.t ≤ length p
  unfolding control_words
  tasks-room = let l = g.long in omega arith

  tasks-first : task_base d + task_row * d.t ≤ block_base d
  unfolding control_words
  tasks-first = omega arith

  slots-first : header_words + handle_row * d.h ≤ block_base d
  unfolding control_words
  slots-first = omega arith

  pub task-length : (t : ℕ) → t < d.t → length (task_part p d t) ≡ task_row
  unfolding task_part
  task-length t h = row-length p (task_base d) task_row d.t tasks-room t h

  pub block-length : (k : ℕ) → k < d.b → length (block_part p d k) ≡ block_words d.n
  unfolding block_part
  block-length k h = row-length p (block_base d) (block_words d.n) d.b g.long k h

  pub block-sized : (k : ℕ) → k < d.b → Sized d.n (block_part p d k)
  block-sized k h = record { some = g.some_cells; few = g.cells; long = block-length k h }

  module _ (j : ℕ) (h : j < d.h) (x : Slot) where
    placed-slot : Placed p header_words handle_row d.h j (slot_words x)
    unfolding slot_words
    placed-slot = record { room = slots-room; row = h; long = refl }

    pub slot-own : slot_part (put_slot p j x) j ≡ slot_words x
    unfolding slot_part put_slot
    slot-own = row-own placed-slot

    pub slot-keeps : Keeps d p (put_slot p j x) (only j) none none
    unfolding slot_part task_part block_part put_slot
    slot-keeps = record {
      long = row-long placed-slot;
      first = word-before placed-slot;
      slots = row_other placed-slot;
      tasks = λ t l e. row-away placed-slot (task_base d) task_row d.t tasks-room (inr (omega arith)) t l;
      blocks = λ k l e. row-away placed-slot (block_base d) (block_words d.n) d.b g.long (inr slots-first) k l;
      rest = λ i l. word_after placed-slot i (let a = slots-first in omega arith);
    }

  module _ (t : ℕ) (h : t < d.t) (k : Task) where
    placed-task : Placed p (task_base d) task_row d.t t (task_words k ++ drop task_fields (task_part p d t))
    unfolding task_words
    placed-task = record { room = tasks-room; row = h; long = simp length-drop (omega (arith, task-length t h)) }

    pub task-own : task_part (put_task p d t k) d t ≡ task_words k ++ drop task_fields (task_part p d t)
    unfolding put_task task_part
    task-own = row-own placed-task

    pub task-keeps : Keeps d p (put_task p d t k) none (only t) none
    unfolding slot_part task_part block_part put_task
    task-keeps = record {
      long = row-long placed-task;
      first = λ i l. word-before placed-task i (omega arith);
      slots = λ j l e. row-away placed-task header_words handle_row d.h slots-room (inl (omega arith)) j l;
      tasks = row_other placed-task;
      blocks = λ k l e. row-away placed-task (block_base d) (block_words d.n) d.b g.long (inr tasks-first) k l;
      rest = λ i l. word_after placed-task i (let a = tasks-first in omega arith);
    }

  module _ (k : ℕ) (h : k < d.b) (w : List ℕ) (long : length w ≡ block_words d.n) where
    placed-block : Placed p (block_base d) (block_words d.n) d.b k w
    placed-block = record { room = g.long; row = h; long = long }

    pub block-own : block_part (put_block p d k w) d k ≡ w
    unfolding put_block block_part
    block-own = row-own placed-block

    pub block-keeps : Keeps d p (put_block p d k w) none none (only k)
    unfolding slot_part task_part block_part put_block
    block-keeps = record {
      long = row-long placed-block;
      first = λ i l. word-before placed-block i (let a = slots-first in omega arith);
      slots = λ j l e. row-away placed-block header_words handle_row d.h slots-room (inl slots-first) j l;
      tasks = λ t l e. row-away placed-block (task_base d) task_row d.t tasks-room (inl tasks-first) t l;
      blocks = row_other placed-block;
      rest = word_after placed-block;
    }
