-- The machine's state that a pool shows: each row and block of it, and what a write does to it.
-- Rests on Keeps and Ranges.
use Rattle.std.specs.Prelude.{ℕ, ◌<◌, ◌≡◌, refl, Bool, List, length, drop}
use Rattle.std.proofs.Math.Path.{ap}
use Rattle.std.proofs.Common.{◌∙◌, ne_eqb}
use Rattle.rulebook.specs.Sizes.{block_words}
use Rattle.rulebook.specs.State.{Block, no_block, freed, idle, slot_at, task_at, block_at, with_slot, with_task, with_block, list_to}
use Rattle.rulebook.specs.Lists.{list_to-length, list_to-get, list_to-same, list_to-set}
use Rattle.rulebook.specs.declared.Sizes.{Sizes}
use Rattle.rulebook.specs.declared.Slot.{Slot}
use Rattle.rulebook.specs.declared.Task.{Task}
use Rattle.block.specs.Sound.{block_of}
use Rattle.layout.specs.Rows.{slot_read, task_fields, task_read}
use Rattle.layout.specs.Places.{slot_part, task_part, block_part, Spans}
use Rattle.layout.specs.Pool.{view_of, put_slot, put_task, put_block}
use Rattle.layout.specs.Keeps.{none, Keeps, slot-own, slot-keeps, task-own, task-keeps, block-own, block-keeps}
use Rattle.layout.specs.Ranges.{slot_read_lem, task_read_lem}

module _ (d : Sizes) (p : List ℕ) where
  abbrev slot_on : List ℕ → ℕ → Slot
  slot_on q j = slot_read (slot_part q j)

  abbrev task_on : List ℕ → ℕ → Task
  task_on q t = task_read (task_part q d t)

  abbrev block_on : List ℕ → ℕ → Block
  block_on q k = block_of d.n (block_part q d k)

  -- ---- what is read

  pub view_slots : length (view_of d p).slots ≡ d.h
  unfolding view_of
  view_slots = list_to-length d.h (slot_on p)

  pub view_tasks : length (view_of d p).tasks ≡ d.t
  unfolding view_of
  view_tasks = list_to-length d.t (task_on p)

  pub view_blocks : length (view_of d p).blocks ≡ d.b
  unfolding view_of
  view_blocks = list_to-length d.b (block_on p)

  pub view_slot_at : (j : ℕ) → j < d.h → slot_at (view_of d p) j ≡ slot_read (slot_part p j)
  unfolding view_of
  view_slot_at j h = list_to-get d.h (slot_on p) j (freed 0) h

  pub view_task_at : (t : ℕ) → t < d.t → task_at (view_of d p) t ≡ task_read (task_part p d t)
  unfolding view_of
  view_task_at t h = list_to-get d.t (task_on p) t idle h

  pub view_block_at : (k : ℕ) → k < d.b → block_at (view_of d p) k ≡ block_of d.n (block_part p d k)
  unfolding view_of
  view_block_at k h = list_to-get d.b (block_on p) k no_block h

  -- each block has a log for each of its N cells
  pub view_block-logs : (k : ℕ) → k < d.b → length (block_at (view_of d p) k).logs ≡ d.n
  unfolding block_of
  view_block-logs k h = rw (view_block_at k h) (list_to-length d.n _)

  -- ---- what is written

  -- what is not written shows the same
  module _ (q : List ℕ) where
    slots_same : {g h : ℕ → Bool} → Keeps d p q none g h → list_to d.h (slot_on q) ≡ list_to d.h (slot_on p)
    slots_same s = list_to-same d.h (slot_on q) (slot_on p) (λ j l. ap slot_read (s.slots j l refl))

    tasks-same : {f h : ℕ → Bool} → Keeps d p q f none h → list_to d.t (task_on q) ≡ list_to d.t (task_on p)
    tasks-same s = list_to-same d.t (task_on q) (task_on p) (λ t l. ap task_read (s.tasks t l refl))

    blocks-same : {f g : ℕ → Bool} → Keeps d p q f g none → list_to d.b (block_on q) ≡ list_to d.b (block_on p)
    blocks-same s = list_to-same d.b (block_on q) (block_on p) (λ k l. ap (block_of d.n) (s.blocks k l refl))

  module _ (g : Spans d p) where
    pub view_slot : (j : ℕ) → j < d.h → (x : Slot) → view_of d (put_slot p j x) ≡ with_slot (view_of d p) j x
    unfolding view_of with_slot
    view_slot j h x =
        let s = slot-keeps g j h x in
        let own = ap slot_read (slot-own g j h x) ∙ slot_read_lem x in
        λ i. record {
          sizes = d;
          slots = list_to-set (freed 0) d.h j (slot_on p) (slot_on (put_slot p j x)) x h own (λ k l e. ap slot_read (s.slots k l (ne_eqb k j e))) i;
          tasks = tasks-same _ s i;
          blocks = blocks-same _ s i;
        }

    pub view_task : (t : ℕ) → t < d.t → (k : Task) → view_of d (put_task p d t k) ≡ with_task (view_of d p) t k
    unfolding view_of with_task
    view_task t h k =
        let s = task-keeps g t h k in
        let own = ap task_read (task-own g t h k) ∙ task_read_lem k (drop task_fields (task_part p d t)) in
        λ i. record {
          sizes = d;
          slots = slots_same _ s i;
          tasks = list_to-set idle d.t t (task_on p) (task_on (put_task p d t k)) k h own (λ u l e. ap task_read (s.tasks u l (ne_eqb u t e))) i;
          blocks = blocks-same _ s i;
        }

    pub view_block : (k : ℕ) → k < d.b → (w : List ℕ) → length w ≡ block_words d.n
        → view_of d (put_block p d k w) ≡ with_block (view_of d p) k (block_of d.n w)
    unfolding view_of with_block
    view_block k h w long =
        let s = block-keeps g k h w long in
        let own = ap (block_of d.n) (block-own g k h w long) in
        λ i. record {
          sizes = d;
          slots = slots_same _ s i;
          tasks = tasks-same _ s i;
          blocks =
              list_to-set no_block d.b k (block_on p) (block_on (put_block p d k w)) (block_of d.n w) h own
              (λ m l e. ap (block_of d.n) (s.blocks m l (ne_eqb m k e))) i;
        }
