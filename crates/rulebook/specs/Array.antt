-- The functional array of source 000: a table is a list of amounts; new, get and set.
-- Rests on nothing.
use Rattle.std.specs.Prelude.{ℕ, List, get_or, set, replicate}

abbrev pub Table : Type 0
Table = List ℕ

-- n cells, each v
abbrev pub new_table : ℕ → ℕ → Table
new_table n v = replicate n v

-- the amount in cell i
abbrev pub get_table : Table → ℕ → ℕ
get_table x i = get_or x i 0

-- a table of the same length that has v in cell i, and what x has in every other; x is unchanged
abbrev pub set_table : Table → ℕ → ℕ → Table
set_table x i v = set x i v
