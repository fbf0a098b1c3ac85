-- What each function of the crate answers and leaves, for every content of the slice and every number.
-- Rests on Layout.
use Rattle.std.specs.Prelude.{ℕ, ◌+◌, Bool, true, false, List, set, ltb, leb, eqb, if◌then◌else◌, Err, None, Ok, Option, Result, Some}
use Rattle.block.specs.declared.change.Spot.{Spot}
use Rattle.block.specs.Layout.{version_ix, bump_ix, cell_ix, length_ix, base_ix, entry_ix, arena, chunk_of, offset_of, version_of, bump_of, cell_of, length_of, base_of, place_of, entry_of, is_block, has_cell}
use Rattle.rulebook.specs.Codes.{damaged}
use Rattle.rulebook.specs.declared.Damaged.{Damaged}
use Rattle.rulebook.specs.declared.Entry.{Entry}

-- ---- reading

-- V
unfoldable pub version_in : ℕ → List ℕ → Result ℕ Damaged
version_in n w = if is_block n w then Ok (version_of w) else Err damaged

-- cell i
unfoldable pub cell_in : ℕ → List ℕ → ℕ → Result ℕ Damaged
cell_in n w i = if has_cell n w i then Ok (cell_of n w i) else Err damaged

-- the length of cell i's log, which is at most n
unfoldable pub length_in : ℕ → List ℕ → ℕ → Result ℕ Damaged
length_in n w i =
    if has_cell n w i then (if leb (length_of n w i) n then Ok (length_of n w i) else Err damaged) else Err damaged

-- entry j of a log whose length was asked for
unfoldable pub entry_under : Result ℕ Damaged → ℕ → List ℕ → ℕ → ℕ → Result Entry Damaged
entry_under (Ok m) n w i j =
    if ltb j m then (if ltb (place_of n w i j) (arena n) then Ok (entry_of n w (place_of n w i j)) else Err damaged) else Err damaged
entry_under (Err _) n w i j = Err damaged

-- entry j of cell i's log
unfoldable pub entry_in : ℕ → List ℕ → ℕ → ℕ → Result Entry Damaged
entry_in n w i j = entry_under (length_in n w i) n w i j

-- ---- writing: the words that are left, and the answer

-- if V = l and l is at most n, V becomes l + 1; if V differs, nothing
unfoldable pub exchange_in : ℕ → List ℕ → ℕ → List ℕ × Result Bool Damaged
exchange_in n w l =
    if is_block n w
    then (if eqb (version_of w) l then (if leb l n then (set w version_ix (l + 1), Ok true) else (w, Err damaged)) else (w, Ok false))
    else (w, Err damaged)

-- cell i is v
unfoldable pub write_in : ℕ → List ℕ → ℕ → ℕ → List ℕ × Bool
write_in n w i v = if has_cell n w i then (set w (cell_ix n i) v, true) else (w, false)

-- V = 0 and no place is taken
unfoldable pub take_in : ℕ → List ℕ → List ℕ × Bool
take_in n w = if is_block n w then (set (set w version_ix 0) bump_ix 0, true) else (w, false)

-- cell i is v and its log is empty
unfoldable pub fill_in : ℕ → List ℕ → ℕ → ℕ → List ℕ × Bool
fill_in n w i v = if has_cell n w i then (set (set w (cell_ix n i) v) (length_ix n i) 0, true) else (w, false)

-- ---- appending

-- a new chunk of m + 1 places, at the bump
abbrev pub fresh_spot : List ℕ → ℕ → Spot
fresh_spot w m = record { chunk = chunk_of m; base = bump_of w; bump = bump_of w + (m + 1); place = bump_of w; length = m + 1 }

unfoldable pub fresh_room : ℕ → List ℕ → ℕ → Option Spot
fresh_room n w m = if leb (bump_of w + (m + 1)) (arena n) then Some (fresh_spot w m) else None

-- a place in the log's last chunk
abbrev pub held_spot : ℕ → List ℕ → ℕ → ℕ → Spot
held_spot n w i m = record { chunk = chunk_of m; base = base_of n w i (chunk_of m); bump = bump_of w; place = place_of n w i m; length = m + 1 }

unfoldable pub held_room : ℕ → List ℕ → ℕ → ℕ → Option Spot
held_room n w i m = if ltb (place_of n w i m) (arena n) then Some (held_spot n w i m) else None

-- where the next entry of a log goes, whose length was asked for
unfoldable pub room_under : Result ℕ Damaged → ℕ → List ℕ → ℕ → Option Spot
room_under (Ok m) n w i =
    if ltb m n then (if eqb (offset_of m) 0 then fresh_room n w m else held_room n w i m) else None
room_under (Err _) n w i = None

-- where the next entry of cell i's log goes
unfoldable pub room_in : ℕ → List ℕ → ℕ → Option Spot
room_in n w i = room_under (length_in n w i) n w i

-- the words with an entry (v, o) at the spot s
unfoldable pub stored : ℕ → List ℕ → ℕ → Spot → ℕ → ℕ → List ℕ
stored n w i s v o =
    set (set (set (set (set w (base_ix n i s.chunk) s.base) bump_ix s.bump) (entry_ix n s.place) v) (entry_ix n s.place + 1) o) (length_ix n i) s.length

unfoldable pub append_at : Option Spot → ℕ → List ℕ → ℕ → ℕ → ℕ → List ℕ × Bool
append_at (Some s) n w i v o = (stored n w i s v o, true)
append_at None n w i v o = (w, false)

-- one entry more in cell i's log
unfoldable pub append_in : ℕ → List ℕ → ℕ → ℕ → ℕ → List ℕ × Bool
append_in n w i v o = append_at (room_in n w i) n w i v o
