-- Where the rows and the blocks of a pool lie, and when a pool holds them.
-- Rests on the rule book's sizes and on Parts.
use Rattle.std.specs.Prelude.{ℕ, ◌+◌, ◌*◌, ◌≤◌, ◌≡◌, List, length}
use Rattle.rulebook.specs.Sizes.{most_cells, most_handles, most_tasks, most_blocks, header_words, handle_row, task_row, control_words, block_words, room}
use Rattle.rulebook.specs.declared.Sizes.{Sizes}
use Rattle.layout.specs.Parts.{row_part}

-- where the task rows begin, and the blocks
abbrev pub task_base : Sizes → ℕ
task_base d = header_words + handle_row * d.h

abbrev pub block_base : Sizes → ℕ
block_base d = control_words d.h d.t

abbrev pub slot_start : ℕ → ℕ
slot_start j = header_words + handle_row * j

abbrev pub task_start : Sizes → ℕ → ℕ
task_start d t = task_base d + task_row * t

abbrev pub block_start : Sizes → ℕ → ℕ
block_start d k = block_base d + block_words d.n * k

unfoldable pub slot_part : List ℕ → ℕ → List ℕ
slot_part p j = row_part p header_words handle_row j

unfoldable pub task_part : List ℕ → Sizes → ℕ → List ℕ
task_part p d t = row_part p (task_base d) task_row t

unfoldable pub block_part : List ℕ → Sizes → ℕ → List ℕ
block_part p d k = row_part p (block_base d) (block_words d.n) k

-- the sizes are within their limits, and p has the words for them
pub record Spans (d : Sizes) (p : List ℕ) : Type 0 where
  pub some_cells : 1 ≤ d.n
  pub some_handles : 1 ≤ d.h
  pub some_tasks : 1 ≤ d.t
  pub some_blocks : 1 ≤ d.b
  pub cells : d.n ≤ most_cells
  pub handles : d.h ≤ most_handles
  pub tasks : d.t ≤ most_tasks
  pub blocks : d.b ≤ most_blocks
  pub long : block_base d + block_words d.n * d.b ≤ length p
  -- and no more blocks have room
  pub room : d.b ≡ room d.n d.h d.t (length p)

-- the numbers are small enough to compute where block k lies
pub record Small (d : Sizes) (k : ℕ) : Type 0 where
  pub cells : d.n ≤ most_cells
  pub handles : d.h ≤ most_handles
  pub tasks : d.t ≤ most_tasks
  pub before : block_words d.n * k ≤ block_words most_cells * most_blocks

-- s to e is where block k lies
pub record Place (d : Sizes) (k s e : ℕ) : Type 0 where
  pub start : s ≡ block_start d k
  pub stop : e ≡ block_start d k + block_words d.n
