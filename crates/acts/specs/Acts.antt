-- What a call does to a store, as a value: one block touched, a slot and a task changed; and what a search of rows has come to.
-- Rests on the types that the rule book and the crate declare.
use Rattle.std.specs.Prelude.{ℕ, Result, Option, Bool, Err, None, Ok, Some, false, true}
use Rattle.acts.specs.Touch.{Touch}
use Rattle.rulebook.specs.declared.Damaged.{Damaged}
use Rattle.rulebook.specs.declared.Reply.{Reply}
use Rattle.rulebook.specs.declared.Slot.{Slot}
use Rattle.rulebook.specs.declared.Task.{Task}

-- a row: the same, or the one of that index becomes another
pub data Change (A : Type 0) : Type 0 where
  Same : Change A
  To : ℕ → A → Change A

abbrev pub SlotChange : Type 0
SlotChange = Change Slot

abbrev pub TaskChange : Type 0
TaskChange = Change Task

pub record Act : Type 0 where
  pub touch : Touch
  pub slot : SlotChange
  pub task : TaskChange
  pub reply : Reply

-- what a search of rows has come to: a row, none, or a damaged row before either
abbrev pub Found : Type 0
Found = Result (Option ℕ) Damaged

-- nothing was found
abbrev pub is_none : Found → Bool
is_none (Err _) = false
is_none (Ok (Some j)) = false
is_none (Ok None) = true
