-- The check's rules 2 to 7 as statements about the machine's state, by numbers and logs alone: no word about what a cell or an old value holds.
-- Rests on the rule book's definitions and on Valid, which has rules 2 to 6 and that writers exclude each other. Nothing is proved here.
use Rattle.std.specs.Prelude.{◌<◌, ◌≤◌, ℕ, false, true, List, [], ◌≡◌, length}
use Rattle.rulebook.specs.declared.Entry.{Entry}
use Rattle.rulebook.specs.declared.Hand.{Hand}
use Rattle.rulebook.specs.declared.Reading.{Reading}
use Rattle.rulebook.specs.declared.Reading.TheVariants.{Guess, Length, Probe, Version}
use Rattle.rulebook.specs.declared.Stage.{Stage}
use Rattle.rulebook.specs.declared.Stage.TheVariants.{Append, Copying, Exchange, FillCopy, FillNew, Getting, Idle, Paging, Put, Read, TakeCopy, TakeNew, Write}
use Rattle.rulebook.specs.declared.Task.{Task}
use Rattle.rulebook.specs.Sizes.{last_serial}
use Rattle.rulebook.specs.State.{State, block_at, log_at, slot_at, task_at}
use Rattle.rulebook.specs.Steps.{here_of}
use Rattle.theorems.specs.Terms.{Valid, entries, version_at}

-- ---- rule 7, task by task: the get in hand

-- a search of the log l for number L: it is not over and stays inside the log; every entry below lo is older than L; the candidate's version is
-- that of the entry at hi, L or more
pub record Seeks (l : List Entry) (L : ℕ) (w : Hand) : Type 0 where
  pub left : w.lo < w.hi
  pub inside : w.hi ≤ length l
  pub below : (j : ℕ) → j < w.lo → version_at l j < L
  pub candidate : w.found ≡ true → (w.hi < length l) × (w.version ≡ version_at l w.hi) × (L ≤ version_at l w.hi)

-- before its search a get has no candidate; at its guess nothing is asked, as that step clears the hand
abbrev pub InHand : Reading → List Entry → ℕ → Hand → Type 0
InHand Guess l L w = Unit
InHand Version l L w = w.found ≡ false
InHand Length l L w = w.found ≡ false
InHand Probe l L w = Seeks l L w

module _ (s : State) where
  -- the next step is r of a get of the cell in hand
  pub record Gets (r : Reading) (k : Task) : Type 0 where
    pub cell_in_n : k.hand.cell < s.sizes.n
    pub hand_holds : InHand r (log_at (here_of s k) k.hand.cell) k.number k.hand

  -- ---- a set in place, past its exchange (Valid has V = L + 1)

  -- no entry of its version is there yet
  pub record ToAppend (k : Task) : Type 0 where
    pub room : k.number < s.sizes.n
    pub all_older : (i p : ℕ) → p < length (log_at (here_of s k) i) → version_at (log_at (here_of s k) i) p < k.number
    pub few : entries (here_of s k).logs ≤ k.number

  -- only the log of its cell has one
  pub record ToWrite (k : Task) : Type 0 where
    pub room : k.number < s.sizes.n
    pub others_older : (i : ℕ) → (i ≡ k.cell → ⊥) → (p : ℕ) → p < length (log_at (here_of s k) i) → version_at (log_at (here_of s k) i) p < k.number
    pub appended : (p : ℕ) × (p < length (log_at (here_of s k) k.cell)) × (k.number ≤ version_at (log_at (here_of s k) k.cell) p)

  -- ---- a task that fills a block, of which the first c cells are written (Valid has that no other task and no live handle is there)

  pub record Fills (c : ℕ) (k : Task) : Type 0 where
    pub target_in_b : k.target < s.sizes.b
    pub at_zero : (block_at s k.target).version ≡ 0
    pub emptied : (i : ℕ) → i < c → log_at (block_at s k.target) i ≡ []

  -- ---- the slot that a task has reserved is not spent (Valid has that it is reserved, and for one task)

  abbrev pub Unspent : Task → Type 0
  Unspent k = (slot_at s k.fresh).serial < last_serial

  -- ---- every stage

  abbrev pub TaskRule : Stage → Task → Type 0
  TaskRule Idle k = Unit
  TaskRule TakeNew k = Unspent k × (0 < s.sizes.n)
  TaskRule FillNew k = Unspent k × Fills k.hand.cell k × (k.hand.cell < s.sizes.n)
  TaskRule (Getting r) k = Gets r k
  TaskRule Exchange k = Unspent k × (k.cell < s.sizes.n)
  TaskRule Read k = Unspent k × (k.cell < s.sizes.n) × ToAppend k
  TaskRule Append k = Unspent k × (k.cell < s.sizes.n) × ToAppend k
  TaskRule Write k = Unspent k × (k.cell < s.sizes.n) × ToWrite k
  TaskRule TakeCopy k = Unspent k × (k.cell < s.sizes.n) × (k.number < (here_of s k).version)
  TaskRule (Copying r) k = Unspent k × (k.cell < s.sizes.n) × (k.number < (here_of s k).version) × Fills k.hand.cell k × Gets r k
  TaskRule FillCopy k = Unspent k × (k.cell < s.sizes.n) × (k.number < (here_of s k).version) × Fills k.hand.cell k × (k.hand.cell < s.sizes.n)
  TaskRule Put k = Unspent k × (k.cell < s.sizes.n) × Fills s.sizes.n k
  TaskRule (Paging r) k = Gets r k × (k.hand.cell < k.until) × (k.until ≤ s.sizes.n)

  pub record Rules : Type 0 where
    -- 2 to 6
    pub valid : Valid s
    -- 7
    pub tasks : (t : ℕ) → TaskRule (task_at s t).stage (task_at s t)
