-- When the words of a pool are a sound store: the check's rules 1 to 7. Rules 2 to 6 and the tasks' part of 7 speak of the machine's state that
-- the words show; the rest of 7 is the layout's own. Rests on rules, block and layout; nothing is proved here.
use Rattle.std.specs.Prelude.{◌<◌, ℕ, true, List, ◌≡◌, get_or, Some}
use Rattle.rulebook.specs.declared.Sizes.{Sizes}
use Rattle.rulebook.specs.declared.Stage.{Stage}
use Rattle.rulebook.specs.declared.Stage.TheVariants.{Append, Copying, Exchange, FillCopy, FillNew, Getting, Idle, Paging, Put, Read, TakeCopy, TakeNew, Write}
use Rattle.block.specs.Sound.{Filling, Laid}
use Rattle.rulebook.specs.Codes.{code_of}
use Rattle.layout.specs.Header.{header_of}
use Rattle.layout.specs.Pool.{view_of}
use Rattle.layout.specs.Places.{block_part, slot_part, task_part}
use Rattle.layout.specs.Rows.{task_read}
use Rattle.rulebook.specs.State.{fills, stood, task_at}
use Rattle.rules.specs.Paced.{Paced}
use Rattle.rules.specs.Rules.{Rules}

-- up to which cell a task at stage g, with cell i in hand, has filled its block
abbrev pub filled_to : Stage → ℕ → ℕ → ℕ
filled_to Idle n i = 0
filled_to TakeNew n i = 0
filled_to FillNew n i = i
filled_to (Getting r) n i = 0
filled_to Exchange n i = 0
filled_to Read n i = 0
filled_to Append n i = 0
filled_to Write n i = 0
filled_to TakeCopy n i = 0
filled_to (Copying r) n i = i
filled_to FillCopy n i = i
filled_to Put n i = n
filled_to (Paging r) n i = 0

pub record Sound (d : Sizes) (p : List ℕ) : Type 0 where
  -- 1: refusal 1 is not due
  pub header : header_of p ≡ Some d
  -- 7: each code of a status and of a stage is one
  pub statuses : (j : ℕ) → j < d.h → get_or (slot_part p j) 1 0 < 3
  pub codes : (t : ℕ) → t < d.t → code_of (task_read (task_part p d t)).stage ≡ get_or (task_part p d t) 0 0
  -- 2 to 6, and each task's own facts
  pub rules : Rules (view_of d p)
  -- 7: each number in its range
  pub paced : Paced (view_of d p)
  -- 7: the words of a block on which a live handle stands are laid out as docs/LAYOUT.md says
  pub stood_laid : (k : ℕ) → k < d.b → stood (view_of d p) k ≡ true → Laid d.n (block_part p d k)
  -- 7: and those of a block that a task fills, up to the cell that it has come to
  pub filling_laid : (t : ℕ) → fills (task_at (view_of d p) t).stage ≡ true
      → Filling (filled_to (task_at (view_of d p) t).stage d.n (task_at (view_of d p) t).hand.cell) d.n (block_part p d (task_at (view_of d p) t).target)
