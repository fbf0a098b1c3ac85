-- What words 0 to 5 say: the sizes of a store, where they describe the pool.
-- Rests on the rule book's sizes.
use Rattle.std.specs.Prelude.{ℕ, Bool, ◌&&◌, List, [], ◌∷◌, length, get_or, leb, eqb, if◌then◌else◌, None, Option, Some}
use Rattle.rulebook.specs.Sizes.{most_cells, most_handles, most_tasks, header_words, room, within, opens}
use Rattle.rulebook.specs.declared.Sizes.{Sizes}

abbrev pub mark : ℕ
mark = 0x00494B56

-- the number in word 5
abbrev pub form : ℕ
form = 1

-- N, H and T within their limits
unfoldable pub limited : ℕ → ℕ → ℕ → Bool
limited n h t = within 1 n most_cells && (within 1 h most_handles && within 1 t most_tasks)

abbrev pub sizes_of : ℕ → ℕ → ℕ → ℕ → Sizes
sizes_of n h t words = record { n = n; h = h; t = t; b = room n h t words }

-- the sizes of a store in a pool of so many words, where it may be opened
unfoldable pub sizes_in : ℕ → ℕ → ℕ → ℕ → Option Sizes
sizes_in n h t words = if opens n h t words then Some (sizes_of n h t words) else None

-- words 0 to 5
abbrev pub header_fields : ℕ
header_fields = 6

unfoldable pub headed : ℕ → ℕ → ℕ → ℕ → List ℕ
headed n h t words = mark ∷ n ∷ h ∷ t ∷ words ∷ form ∷ []

-- the names that the promises say it by
abbrev pub Header : Type 0
Header = Option Sizes

pattern abbrev pub Good : Sizes → Header
Good d = Some d

pattern abbrev pub Bad : Header
Bad = None

-- refusal 1 is due where it is Bad
unfoldable pub header_of : List ℕ → Option Sizes
header_of p =
    if leb header_words (length p) && (eqb (get_or p 0 0) mark && (eqb (get_or p 5 0) form && eqb (get_or p 4 0) (length p)))
    then sizes_in (get_or p 1 0) (get_or p 2 0) (get_or p 3 0) (length p)
    else None
