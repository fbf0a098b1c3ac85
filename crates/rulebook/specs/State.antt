-- Document 01, 'Blocks, handles, tasks': what a store is, and which blocks, slots and handles are held, free, live and in use.
-- Rests on the types that the crate declares.
use Rattle.std.specs.Prelude.{ℕ, zero, suc, ◌+◌, Bool, true, false, not, ◌&&◌, ◌||◌, List, [], ◌∷◌, get_or, set, ltb, eqb, if◌then◌else◌}
use Rattle.rulebook.specs.declared.Sizes.{Sizes}
use Rattle.rulebook.specs.declared.Entry.{Entry}
use Rattle.rulebook.specs.declared.Status.{Status}
use Rattle.rulebook.specs.declared.Status.TheVariants.{Free, Reserved, Live}
use Rattle.rulebook.specs.declared.Slot.{Slot}
use Rattle.rulebook.specs.declared.Stage.{Stage}
use Rattle.rulebook.specs.declared.Stage.TheVariants.{Idle, TakeNew, FillNew, Getting, Exchange, Read, Append, Write, TakeCopy, Copying, FillCopy, Put, Paging}
use Rattle.rulebook.specs.declared.Hand.{Hand}
use Rattle.rulebook.specs.declared.Task.{Task}
use Rattle.rulebook.specs.declared.Reply.{Reply}
use Rattle.rulebook.specs.Sizes.{last_serial, slot_of, serial_of}

-- a block: its version V, its cells, and for each cell a log of entries, oldest first
pub record Block : Type 0 where
  pub version : ℕ
  pub cells : List ℕ
  pub logs : List (List Entry)

pub record State : Type 0 where
  pub sizes : Sizes
  pub slots : List Slot
  pub tasks : List Task
  pub blocks : List Block

-- what a call leads to: the next state, and the answer
abbrev pub Result : Type 0
Result = State × Reply

-- ---- reading it: what is not there reads as nothing

abbrev pub no_entry : Entry
no_entry = record { version = 0; old = 0 }

abbrev pub no_block : Block
no_block = record { version = 0; cells = []; logs = [] }

-- a slot that carries no handle, and has carried so many
abbrev pub freed : ℕ → Slot
freed serial = record { serial = serial; status = Free; block = 0; number = 0 }

-- a get of cell i that has read nothing
abbrev pub hand_of : ℕ → Hand
hand_of i = record { cell = i; guess = 0; lo = 0; hi = 0; found = false; candidate = 0; version = 0 }

abbrev pub idle : Task
idle = record { stage = Idle; slot = 0; block = 0; number = 0; cell = 0; value = 0; until = 0; fresh = 0; target = 0; hand = hand_of 0; steps = 0 }

abbrev pub cell_at : Block → ℕ → ℕ
cell_at b i = get_or b.cells i 0

abbrev pub log_at : Block → ℕ → List Entry
log_at b i = get_or b.logs i []

abbrev pub entry_at : List Entry → ℕ → Entry
entry_at l j = get_or l j no_entry

abbrev pub block_at : State → ℕ → Block
block_at s k = get_or s.blocks k no_block

abbrev pub slot_at : State → ℕ → Slot
slot_at s j = get_or s.slots j (freed 0)

abbrev pub task_at : State → ℕ → Task
task_at s t = get_or s.tasks t idle

-- ---- changing one thing

unfoldable pub with_block : State → ℕ → Block → State
with_block s k b = record { sizes = s.sizes; slots = s.slots; tasks = s.tasks; blocks = set s.blocks k b }

unfoldable pub with_slot : State → ℕ → Slot → State
with_slot s j x = record { sizes = s.sizes; slots = set s.slots j x; tasks = s.tasks; blocks = s.blocks }

unfoldable pub with_task : State → ℕ → Task → State
with_task s t k = record { sizes = s.sizes; slots = s.slots; tasks = set s.tasks t k; blocks = s.blocks }

unfoldable pub with_version : Block → ℕ → Block
with_version b v = record { version = v; cells = b.cells; logs = b.logs }

unfoldable pub with_cell : Block → ℕ → ℕ → Block
with_cell b i v = record { version = b.version; cells = set b.cells i v; logs = b.logs }

unfoldable pub with_log : Block → ℕ → List Entry → Block
with_log b i l = record { version = b.version; cells = b.cells; logs = set b.logs i l }

-- ---- looking for something

unfoldable pub any {ℓ} : {A : Type ℓ} → (A → Bool) → List A → Bool
any p [] = false
any p (x ∷ xs) = p x || any p xs

-- the first of k, k + 1 .. at which p holds, at most d of them tried; k + d where there is none
unfoldable pub lowest : (ℕ → Bool) → ℕ → ℕ → ℕ
lowest p zero k = k
lowest p (suc d) k = let r = lowest p d (suc k) in if p k then k else r

-- at how many of k, .. k + d - 1 p holds
unfoldable pub count : (ℕ → Bool) → ℕ → ℕ → ℕ
count p zero k = 0
count p (suc d) k = (if p k then 1 else 0) + count p d (suc k)

-- f 0, f 1, .. f (n - 1)
unfoldable pub list_to {ℓ} : {A : Type ℓ} → ℕ → (ℕ → A) → List A
list_to zero f = []
list_to (suc n) f = f 0 ∷ list_to n (λ (i : ℕ). f (suc i))

-- ---- what a stage is about

abbrev pub is_live : Status → Bool
is_live Free = false
is_live Reserved = false
is_live Live = true

abbrev pub is_free : Status → Bool
is_free Free = true
is_free Reserved = false
is_free Live = false

-- what holds of a task in each stage: it is busy; it names a handle; it has reserved a slot; its next step is the exchange; it is a set in
-- place, past its exchange; it is filling a block
pub record About : Type 0 where
  pub busy : Bool
  pub names : Bool
  pub reserves : Bool
  pub exchanges : Bool
  pub writes : Bool
  pub fills : Bool

abbrev about : Bool → Bool → Bool → Bool → Bool → Bool → About
about a b c d e f = record { busy = a; names = b; reserves = c; exchanges = d; writes = e; fills = f }

abbrev pub about_of : Stage → About
about_of Idle = about false false false false false false
about_of TakeNew = about true false true false false false
about_of FillNew = about true false true false false true
about_of (Getting r) = about true true false false false false
about_of Exchange = about true true true true false false
about_of Read = about true true true false true false
about_of Append = about true true true false true false
about_of Write = about true true true false true false
about_of TakeCopy = about true true true false false false
about_of (Copying r) = about true true true false false true
about_of FillCopy = about true true true false false true
about_of Put = about true true true false false true
about_of (Paging r) = about true true false false false false

abbrev pub busy : Stage → Bool
busy g = (about_of g).busy

abbrev pub names : Stage → Bool
names g = (about_of g).names

abbrev pub reserves : Stage → Bool
reserves g = (about_of g).reserves

abbrev pub exchanges : Stage → Bool
exchanges g = (about_of g).exchanges

abbrev pub writes : Stage → Bool
writes g = (about_of g).writes

abbrev pub fills : Stage → Bool
fills g = (about_of g).fills

-- ---- held, free, live, in use

-- a live handle stands on block k
unfoldable pub stood : State → ℕ → Bool
stood s k = any (λ (x : Slot). is_live x.status && eqb x.block k) s.slots

-- a task is filling block k
unfoldable pub filling : State → ℕ → Bool
filling s k = any (λ (x : Task). fills x.stage && eqb x.target k) s.tasks

unfoldable pub held : State → ℕ → Bool
held s k = stood s k || filling s k

-- the lowest free block; B where there is none
unfoldable pub free_block : State → ℕ
free_block s = lowest (λ (k : ℕ). not (held s k)) s.sizes.b 0

-- the lowest slot that is neither live, reserved nor spent; H where there is none
unfoldable pub free_slot : State → ℕ
free_slot s = lowest (λ (j : ℕ). is_free (slot_at s j).status && ltb (slot_at s j).serial last_serial) s.sizes.h 0

-- the slot that h names is live with that serial
unfoldable pub live_handle : State → ℕ → Bool
live_handle s h =
    ltb (slot_of h) s.sizes.h && (is_live (slot_at s (slot_of h)).status && eqb (slot_at s (slot_of h)).serial (serial_of h))

-- a busy task names the handle of slot j
unfoldable pub in_use : State → ℕ → Bool
in_use s j = any (λ (x : Task). names x.stage && eqb x.slot j) s.tasks
