-- What a call does to one block.
-- Rests on the rule book's entries.
use Rattle.std.specs.Prelude.{ℕ}
use Rattle.rulebook.specs.declared.Entry.{Entry}

pub data Touch : Type 0 where
  Nothing : Touch
  -- block, L: V becomes L + 1
  Exchange : ℕ → ℕ → Touch
  -- block, cell, entry
  Append : ℕ → ℕ → Entry → Touch
  -- block, cell, value
  Write : ℕ → ℕ → ℕ → Touch
  -- block: V becomes 0
  Take : ℕ → Touch
  -- block, cell, value: the cell's log is emptied too
  Fill : ℕ → ℕ → ℕ → Touch
