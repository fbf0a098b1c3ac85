-- Document 01, 'The check': rules 1 to 7, in its order, of the header, of the state that the words show, and of the words. A number that points
-- outside the pool or its block breaks the first rule that has to read through it. Rests on rules, block and layout; nothing is proved here.
use Rattle.std.specs.Prelude.{◌+◌, ◌<◌, ◌≤◌, min, ℕ, true, List, ◌≡◌, get_or, length, None}
use Rattle.rulebook.specs.declared.Sizes.{Sizes}
use Rattle.rulebook.specs.declared.Slot.{Slot}
use Rattle.rulebook.specs.declared.Task.{Task}
use Rattle.block.specs.Layout.{arena, length_of, place_of}
use Rattle.block.specs.Sound.{Filling, Laid}
use Rattle.bridge.specs.Sound.{filled_to}
use Rattle.rulebook.specs.Codes.{code_of}
use Rattle.layout.specs.Header.{header_of}
use Rattle.layout.specs.Places.{block_part, slot_part, task_part}
use Rattle.layout.specs.Pool.{view_of}
use Rattle.layout.specs.Rows.{task_read}
use Rattle.rulebook.specs.State.{Block, State, block_at, fills, log_at, names, reserves, slot_at, stood, task_at, writes}
use Rattle.rules.specs.Paced.{Paced}
use Rattle.rules.specs.Rules.{TaskRule}
use Rattle.theorems.specs.Terms.{entries, version_at}
use Rattle.rulebook.specs.declared.Status.TheVariants as status

-- 1: refusal 1 isn't due
pub record Rule1 (p : List ℕ) : Type 0 where
  pub described : header_of p ≡ None → ⊥

-- the logs of a block's words can be read: every entry lies in the arena
pub record Readable (n : ℕ) (w : List ℕ) : Type 0 where
  pub inside : (i q : ℕ) → i < n → q < length_of n w i → place_of n w i q < arena n

-- a pool of words p, whose header gives the sizes d
module _ (d : Sizes) (p : List ℕ) where
  -- the state that the words show; its slot j and task t; slot j is live, and the block on which its handle stands
  abbrev pub shown : State
  shown = view_of d p

  abbrev pub slot : ℕ → Slot
  slot j = slot_at shown j

  abbrev pub task : ℕ → Task
  task t = task_at shown t

  abbrev pub Lives : ℕ → Type 0
  Lives j = (slot j).status ≡ status.Live

  abbrev pub under : ℕ → Block
  under j = block_at shown (slot j).block

  -- 2: each live handle stands on a block below B, with L at most V and at most N, and V at most N + 1
  pub record Rule2 : Type 0 where
    pub below_b : (j : ℕ) → Lives j → (slot j).block < d.b
    pub at_most_v : (j : ℕ) → Lives j → (slot j).number ≤ (under j).version
    pub at_most_n : (j : ℕ) → Lives j → (slot j).number ≤ d.n
    pub v_at_most : (j : ℕ) → Lives j → (under j).version ≤ d.n + 1

  -- 3: in a block with a live handle, every entry's version is below V, versions rise strictly along a log, and no version stands in two logs
  pub record Rule3 : Type 0 where
    pub readable : (j : ℕ) → Lives j → Readable d.n (block_part p d (slot j).block)
    pub below_v : (j : ℕ) → Lives j → (i q : ℕ) → q < length (log_at (under j) i) → version_at (log_at (under j) i) q < (under j).version
    pub rising : (j : ℕ) → Lives j → (i q r : ℕ) → q < r → r < length (log_at (under j) i) → version_at (log_at (under j) i) q < version_at (log_at (under j) i) r
    pub in_one_log : (j : ℕ) → Lives j → (i k q r : ℕ) → q < length (log_at (under j) i) → r < length (log_at (under j) k) → version_at (log_at (under j) i) q ≡ version_at (log_at (under j) k) r → i ≡ k

  -- 4: such a block's entries are at most the smaller of V and N
  pub record Rule4 : Type 0 where
    pub few_entries : (j : ℕ) → Lives j → entries (under j).logs ≤ min (under j).version d.n

  -- 5: no two live handles share block and number
  pub record Rule5 : Type 0 where
    pub apart : (i j : ℕ) → Lives i → Lives j → (slot i).block ≡ (slot j).block → (slot i).number ≡ (slot j).number → i ≡ j

  -- 6: each busy task's handle, if it names one, is live (where the task found it), each reserved slot belongs to one task (and what a task has
  -- reserved is reserved), and a block being filled has one task and no live handle
  pub record Rule6 : Type 0 where
    pub named_live : (t : ℕ) → names (task t).stage ≡ true → Lives (task t).slot × ((slot (task t).slot).block ≡ (task t).block) × ((slot (task t).slot).number ≡ (task t).number)
    pub one_owner : (j : ℕ) → (slot j).status ≡ status.Reserved → (t : ℕ) × (reserves (task t).stage ≡ true) × ((task t).fresh ≡ j)
    pub own_slot : (t u : ℕ) → reserves (task t).stage ≡ true → reserves (task u).stage ≡ true → (task t).fresh ≡ (task u).fresh → t ≡ u
    pub slot_is_reserved : (t : ℕ) → reserves (task t).stage ≡ true → ((task t).fresh < d.h) × ((slot (task t).fresh).status ≡ status.Reserved)
    pub one_filler : (t u : ℕ) → fills (task t).stage ≡ true → fills (task u).stage ≡ true → (task t).target ≡ (task u).target → t ≡ u
    pub none_on_it : (t j : ℕ) → fills (task t).stage ≡ true → Lives j → (slot j).block ≡ (task t).target → ⊥

  -- 7: the layout's own rules (docs/LAYOUT.md, 'Rule 7')
  pub record Rule7 : Type 0 where
    -- each code of a status and of a stage is one
    pub statuses : (j : ℕ) → j < d.h → get_or (slot_part p j) 1 0 < 3
    pub codes : (t : ℕ) → t < d.t → code_of (task_read (task_part p d t)).stage ≡ get_or (task_part p d t) 0 0
    -- each number of a row in its range, and a task's steps by its stage
    pub paced : Paced shown
    -- sets in place, past their exchange: one on a block, V one above its number, and no live handle above that
    pub one_writer : (t u : ℕ) → writes (task t).stage ≡ true → writes (task u).stage ≡ true → (task t).block ≡ (task u).block → t ≡ u
    pub just_raised : (t : ℕ) → writes (task t).stage ≡ true → (block_at shown (task t).block).version ≡ (task t).number + 1
    pub none_above : (t j : ℕ) → writes (task t).stage ≡ true → Lives j → (slot j).block ≡ (task t).block → (slot j).number ≤ (task t).number
    -- what a task at its stage has done
    pub tasks : (t : ℕ) → TaskRule shown (task t).stage (task t)
    -- the words of a block on which a live handle stands are laid out; those of a block that a task fills, up to the cell that it has come to
    pub stood_laid : (k : ℕ) → k < d.b → stood shown k ≡ true → Laid d.n (block_part p d k)
    pub filling_laid : (t : ℕ) → fills (task t).stage ≡ true → Filling (filled_to (task t).stage d.n (task t).hand.cell) d.n (block_part p d (task t).target)
