-- What a call can see of a store: rows and words, each as it was read, or bad. The machine's state shows itself, and nothing in it is bad.
-- Rests on the rule book's definitions.
use Rattle.std.specs.Prelude.{ℕ, length, Ok, Result}
use Rattle.rulebook.specs.declared.Sizes.{Sizes}
use Rattle.rulebook.specs.State.{State, block_at, cell_at, entry_at, log_at, slot_at, task_at}
use Rattle.rulebook.specs.declared.Damaged.{Damaged}
use Rattle.rulebook.specs.declared.Entry.{Entry}
use Rattle.rulebook.specs.declared.Slot.{Slot}
use Rattle.rulebook.specs.declared.Task.{Task}

pub record Sight : Type 0 where
  pub sizes : Sizes
  -- the row of slot j, of task t
  pub slot : ℕ → Result Slot Damaged
  pub task : ℕ → Result Task Damaged
  -- of block b: V; cell i; the length of its log; entry j of it
  pub version : ℕ → Result ℕ Damaged
  pub cell : ℕ → ℕ → Result ℕ Damaged
  pub log : ℕ → ℕ → Result ℕ Damaged
  pub entry : ℕ → ℕ → ℕ → Result Entry Damaged

unfoldable pub sight_of : State → Sight
sight_of s =
    record {
      sizes = s.sizes;
      slot = λ j. Ok (slot_at s j);
      task = λ t. Ok (task_at s t);
      version = λ b. Ok (block_at s b).version;
      cell = λ b i. Ok (cell_at (block_at s b) i);
      log = λ b i. Ok (length (log_at (block_at s b) i));
      entry = λ b i j. Ok (entry_at (log_at (block_at s b) i) j);
    }
