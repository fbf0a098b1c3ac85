-- The words of a handle row and of a task row; what a call sees of them, and the ranges that the check tests.
-- Rests on Codes.
use Rattle.std.specs.Prelude.{ℕ, ◌≤◌, ◌<◌, Bool, true, false, not, ◌&&◌, List, [], ◌∷◌, get_or, ltb, leb, eqb, if◌then◌else◌, Err, Ok, Result}
use Rattle.rulebook.specs.Sizes.{last_serial}
use Rattle.rulebook.specs.declared.Sizes.{Sizes}
use Rattle.rulebook.specs.declared.Stage.{Stage}
use Rattle.rulebook.specs.declared.Slot.{Slot}
use Rattle.rulebook.specs.declared.Task.{Task}
use Rattle.rulebook.specs.Codes.{code_of, stage_from, is_code, status_code, status_from}
use Rattle.rulebook.specs.Codes.{damaged}
use Rattle.rulebook.specs.declared.Damaged.{Damaged}

-- ---- a handle row

unfoldable pub slot_words : Slot → List ℕ
slot_words x = x.serial ∷ status_code x.status ∷ x.block ∷ x.number ∷ []

unfoldable pub slot_read : List ℕ → Slot
slot_read w = record { serial = get_or w 0 0; status = status_from (get_or w 1 0); block = get_or w 2 0; number = get_or w 3 0 }

-- as a call sees it: its code is tested, and its numbers where they are used
unfoldable pub slot_seen_of : List ℕ → Result Slot Damaged
slot_seen_of w = if ltb (get_or w 1 0) 3 then Ok (slot_read w) else Err damaged

-- as the check reads it: each number in its range
unfoldable pub slot_fits : Sizes → Slot → Bool
slot_fits d x = ltb x.block d.b && (leb x.number d.n && leb x.serial last_serial)

unfoldable pub slot_row_of : Sizes → List ℕ → Result Slot Damaged
slot_row_of d w = if ltb (get_or w 1 0) 3 && slot_fits d (slot_read w) then Ok (slot_read w) else Err damaged

-- ---- a task row

abbrev pub bit_of : Bool → ℕ
bit_of true = 1
bit_of false = 0

-- how many words of its row a task has
abbrev pub task_fields : ℕ
task_fields = 17

unfoldable pub task_words : Task → List ℕ
task_words k =
    code_of k.stage ∷ k.slot ∷ k.block ∷ k.number ∷ k.cell ∷ k.value ∷ k.until ∷ k.fresh ∷ k.target
    ∷ k.hand.cell ∷ k.hand.guess ∷ k.hand.lo ∷ k.hand.hi ∷ bit_of k.hand.found ∷ k.hand.candidate ∷ k.hand.version ∷ k.steps ∷ []

-- the task of a row, but for its stage
abbrev pub task_with : Stage → List ℕ → Task
task_with g w =
    record {
      stage = g;
      slot = get_or w 1 0;
      block = get_or w 2 0;
      number = get_or w 3 0;
      cell = get_or w 4 0;
      value = get_or w 5 0;
      until = get_or w 6 0;
      fresh = get_or w 7 0;
      target = get_or w 8 0;
      hand = record {
        cell = get_or w 9 0;
        guess = get_or w 10 0;
        lo = get_or w 11 0;
        hi = get_or w 12 0;
        found = not (eqb (get_or w 13 0) 0);
        candidate = get_or w 14 0;
        version = get_or w 15 0;
      };
      steps = get_or w 16 0;
    }

unfoldable pub task_read : List ℕ → Task
task_read w = task_with (stage_from (get_or w 0 0)) w

-- as a call sees it: its code is tested, and its numbers where they are used
unfoldable pub task_seen_of : List ℕ → Result Task Damaged
task_seen_of w = if is_code (get_or w 0 0) then Ok (task_read w) else Err damaged

-- as the check reads it. A task's steps stay below this
abbrev pub most_steps : ℕ
most_steps = 1000000000

-- of the handle that it names: slot, block and number
unfoldable pub stands_in : Sizes → Task → Bool
stands_in d k = ltb k.slot d.h && (ltb k.block d.b && leb k.number d.n)

-- of what it does: cells, the slot and the block in hand, steps
unfoldable pub works_in : Sizes → Task → Bool
works_in d k =
    ltb k.cell d.n && (leb k.until d.n && (ltb k.fresh d.h && (ltb k.target d.b && (ltb k.hand.cell d.n && ltb k.steps most_steps))))

unfoldable pub task_fits : Sizes → Task → Bool
task_fits d k = stands_in d k && works_in d k

unfoldable pub task_row_of : Sizes → List ℕ → Result Task Damaged
task_row_of d w = if is_code (get_or w 0 0) && task_fits d (task_read w) then Ok (task_read w) else Err damaged

-- its stage
abbrev pub stage_seen : Result Task Damaged → Result Stage Damaged
stage_seen (Err _) = Err damaged
stage_seen (Ok k) = Ok k.stage

-- ---- what the tests of a task say

pub record Ranged (d : Sizes) (k : Task) : Type 0 where
  pub slot : k.slot < d.h
  pub block : k.block < d.b
  pub number : k.number ≤ d.n
  pub cell : k.cell < d.n
  pub until : k.until ≤ d.n
  pub fresh : k.fresh < d.h
  pub target : k.target < d.b
  pub hand : k.hand.cell < d.n
  pub steps : k.steps < most_steps
