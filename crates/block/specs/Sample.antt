-- One block of four cells, computed: it is taken from a slice full of old numbers, filled with 7, and set in place four times.
-- Rests on Words and Sound; no law is used.
use Rattle.std.specs.Prelude.{ℕ, ◌≡◌, refl, false, List, [], ◌∷◌, replicate, Err, Ok}
use Rattle.std.specs.Int.Count.{count_leading_zeros}
use Rattle.rulebook.specs.Sizes.{block_words, directory_width}
use Rattle.rulebook.specs.State.{list_to}
use Rattle.rulebook.specs.declared.Entry.{Entry}
use Rattle.block.specs.Layout.{cell_ix, length_ix, base_ix, entry_ix, arena, chunk_of, offset_of, bump_of, is_block, has_cell}
use Rattle.block.specs.Words.{length_in, entry_under, entry_in, exchange_in, write_in, take_in, fill_in, fresh_room, held_room, room_under, room_in, stored, append_at, append_in}
use Rattle.block.specs.Sound.{block_of}
use Rattle.rulebook.specs.Codes.{damaged}

abbrev old : List ℕ
old = replicate 96 99

abbrev filled : List ℕ
filled = (fill_in 4 (fill_in 4 (fill_in 4 (fill_in 4 (take_in 4 old).0 0 7).0 1 7).0 2 7).0 3 7).0

-- a set in place: V is l and becomes l + 1; (l, old value) is appended; the cell is written
abbrev put : List ℕ → ℕ → ℕ → ℕ → ℕ → List ℕ
put w l i was v = (write_in 4 (append_in 4 (exchange_in 4 w l).0 i l was).0 i v).0

abbrev four : List ℕ
four = put (put (put (put filled 0 0 7 9) 1 0 9 4) 2 3 7 5) 3 0 4 6

abbrev entry : ℕ → ℕ → Entry
entry v o = record { version = v; old = o }

filled_is : block_of 4 filled ≡ record { version = 0; cells = 7 ∷ 7 ∷ 7 ∷ 7 ∷ []; logs = [] ∷ [] ∷ [] ∷ [] ∷ [] }
unfolding take_in fill_in is_block has_cell block_words directory_width cell_ix length_ix base_ix entry_ix block_of list_to
filled_is = refl

four_is : block_of 4 four ≡ record {
  version = 4;
  cells = 6 ∷ 7 ∷ 7 ∷ 5 ∷ [];
  logs = (entry 0 7 ∷ entry 1 9 ∷ entry 3 4 ∷ []) ∷ [] ∷ [] ∷ (entry 2 7 ∷ []) ∷ [];
}
unfolding take_in fill_in exchange_in write_in append_in append_at stored room_in room_under fresh_room held_room length_in is_block has_cell block_words directory_width cell_ix length_ix base_ix entry_ix arena chunk_of offset_of count_leading_zeros block_of list_to
four_is = refl

-- cell 0 holds chunks of 1 and 2 places, cell 3 one of 1
bump-is : bump_of four ≡ 4
unfolding take_in fill_in exchange_in write_in append_in append_at stored room_in room_under fresh_room held_room length_in is_block has_cell block_words directory_width cell_ix length_ix base_ix entry_ix arena chunk_of offset_of count_leading_zeros
bump-is = refl

-- a number outside the block or the layout is answered, and changes nothing
entry_past : entry_in 4 filled 0 0 ≡ Err damaged
unfolding entry_in entry_under take_in fill_in length_in is_block has_cell block_words cell_ix length_ix
entry_past = refl

append-to-old : append_in 4 old 0 0 7 ≡ (old, false)
unfolding append_in append_at room_in room_under length_in is_block has_cell block_words length_ix
append-to-old = refl

exchange-other : exchange_in 4 filled 1 ≡ (filled, Ok false)
unfolding exchange_in take_in fill_in is_block has_cell block_words cell_ix length_ix
exchange-other = refl

exchange-short : exchange_in 5 old 99 ≡ (old, Err damaged)
unfolding exchange_in is_block block_words
exchange-short = refl
