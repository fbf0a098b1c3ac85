-- What a call sees of a sound pool is the machine's state that the pool shows, wherever a call looks: its rows, and the words of its blocks.
-- Rests on layout's view, on block's reads and on the codes in the rows.
use Rattle.std.specs.Prelude.{◌<◌, ℕ, true, List, ◌≡◌, refl, Ok, Some}
use Rattle.std.proofs.Common.{◌∙◌, subst, sym}
use Rattle.std.proofs.Math.Path.{ap}
use Rattle.std.proofs.Math.ListN.{length}
use borrow.Author.Tests.{eq-eqb, lt-ltb}
use Rattle.rulebook.specs.declared.Sizes.{Sizes}
use Rattle.acts.specs.Sight.{Sight}
use Rattle.block.specs.Reads.{cell-reads, entry-reads, length-reads, version-reads}
use Rattle.block.specs.Sound.{block_of}
use Rattle.rulebook.specs.Codes.{is_code}
use Rattle.layout.specs.Header.{header_of}
use Rattle.layout.specs.Places.{Spans}
use Rattle.layout.specs.Pool.{cell_seen, entry_seen, length_seen, sight, slot_seen, task_seen, version_seen, view_of}
use Rattle.layout.specs.Rows.{slot_seen_of, task_read, task_seen_of}
use Rattle.layout.specs.Sizing.{header-spans}
use Rattle.layout.specs.View.{view_block_at, view_blocks, view_slot_at, view_slots, view_task_at, view_tasks}
use Rattle.rulebook.specs.Lists.{list_to-length}
use Rattle.rulebook.specs.State.{Block, State, block_at, cell_at, entry_at, log_at, slot_at, stood, task_at}
use Rattle.theorems.specs.Invariant.Shape.{Shape, every_list_to}
use Rattle.bridge.specs.Sound.{Sound}
use Rattle.layout.specs.Keeps.{block-sized}

-- when a sight shows a state: no row is bad, nor V or a cell of any block; nor a log of a block on which a live handle stands
pub record Shows (e : Sight) (s : State) : Type 0 where
  pub sizes : e.sizes ≡ s.sizes
  pub slot : (j : ℕ) → j < s.sizes.h → e.slot j ≡ Ok (slot_at s j)
  pub task : (t : ℕ) → t < s.sizes.t → e.task t ≡ Ok (task_at s t)
  pub version : (b : ℕ) → b < s.sizes.b → e.version b ≡ Ok (block_at s b).version
  pub cell : (b i : ℕ) → b < s.sizes.b → i < s.sizes.n → e.cell b i ≡ Ok (cell_at (block_at s b) i)
  pub log : (b i : ℕ) → b < s.sizes.b → i < s.sizes.n → stood s b ≡ true → e.log b i ≡ Ok (length (log_at (block_at s b) i))
  pub entry : (b i j : ℕ) → b < s.sizes.b → i < s.sizes.n → stood s b ≡ true → j < length (log_at (block_at s b) i) → e.entry b i j ≡ Ok (entry_at (log_at (block_at s b) i) j)

module _ (d : Sizes) (p : List ℕ) where
  abbrev s : State
  s = view_of d p

  -- ---- the shape of the state that a pool shows

  pub view_shape : header_of p ≡ Some d → Shape (view_of d p)
  unfolding view_of block_of
  view_shape h =
      let g = header-spans p d h in
      record {
        slots_len = view_slots d p;
        tasks_len = view_tasks d p;
        blocks_len = view_blocks d p;
        wide = every_list_to d.b _ (λ k. record { wide_cells = list_to-length d.n _; wide_logs = list_to-length d.n _ });
        some_cells_lem = λ _. g.some_cells;
        few_slots = g.handles;
      }

  module _ (S : Sound d p) where
    pub spans : Spans d p
    spans = header-spans p d S.header

    pub sound-shape : Shape (view_of d p)
    sound-shape = view_shape S.header

    -- ---- rows

    slot-shown : (j : ℕ) → j < d.h → slot_seen p d j ≡ Ok (slot_at s j)
    unfolding slot_seen slot_seen_of
    slot-shown j h = rw (lt-ltb _ _ h, lt-ltb _ _ (S.statuses j h)) (ap Ok (sym (view_slot_at d p j h)))

    task-shown : (t : ℕ) → t < d.t → task_seen p d t ≡ Ok (task_at s t)
    unfolding task_seen task_seen_of is_code task_read
    task-shown t h = rw (eq-eqb _ _ (S.codes t h)) (ap Ok (sym (view_task_at d p t h)))

    -- ---- blocks

    pub sight-shows : Shows (sight p d) (view_of d p)
    unfolding sight version_seen cell_seen length_seen entry_seen view_of
    sight-shows = record {
      sizes = refl;
      slot = slot-shown;
      task = task-shown;
      version = λ b h. rw (lt-ltb _ _ h) (version-reads (block-sized spans b h) ∙ ap (λ (x : Block). Ok x.version) (sym (view_block_at d p b h)));
      cell = λ b i h q. rw (lt-ltb _ _ h) (cell-reads i q (block-sized spans b h) ∙ ap (λ (x : Block). Ok (cell_at x i)) (sym (view_block_at d p b h)));
      log = λ b i h q l. rw (lt-ltb _ _ h) (length-reads i q (S.stood_laid b h l) ∙ ap (λ (x : Block). Ok (length (log_at x i))) (sym (view_block_at d p b h)));
      entry = λ b i j h q l m.
          let e = view_block_at d p b h in
          rw (lt-ltb _ _ h) (entry-reads i q (S.stood_laid b h l) j (subst (λ (x : Block). j < length (log_at x i)) e m) ∙ ap (λ (x : Block). Ok (entry_at (log_at x i) j)) (sym e));
    }
