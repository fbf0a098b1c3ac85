-- Document 01, 'Sizes': the limits, the words of each part of a pool, and when a pool may be opened. Later changes of a size are made here alone.
-- Rests on nothing.
use Rattle.std.specs.Prelude.{ℕ, ◌+◌, ◌-◌, ◌*◌, ◌/◌, ◌%◌, min, Bool, ◌&&◌, leb}

-- ---- the table of sizes

abbrev pub most_cells : ℕ
most_cells = 4096

abbrev pub most_handles : ℕ
most_handles = 256

abbrev pub most_tasks : ℕ
most_tasks = 16

abbrev pub most_blocks : ℕ
most_blocks = 256

abbrev pub most_words : ℕ
most_words = 4294967295

-- ---- the pool's parts

abbrev pub header_words : ℕ
header_words = 16

abbrev pub handle_row : ℕ
handle_row = 4

abbrev pub task_row : ℕ
task_row = 32

unfoldable pub control_words : ℕ → ℕ → ℕ
control_words h t = header_words + handle_row * h + task_row * t

unfoldable pub block_words : ℕ → ℕ
block_words n = 20 * n + 16

-- how many chunks a cell's log may have: of our layout (docs/LAYOUT.md), not of document 01
unfoldable pub directory_width : ℕ → ℕ
directory_width n = 13

-- B: the smaller of 256 and floor((length - control) / block)
unfoldable pub room : ℕ → ℕ → ℕ → ℕ → ℕ
room n h t words = min most_blocks ((words - control_words h t) / block_words n)

abbrev pub within : ℕ → ℕ → ℕ → Bool
within a x b = leb a x && leb x b

-- N, H and T within their limits, the pool not too long, room for one block: open is not refused 3
unfoldable pub opens : ℕ → ℕ → ℕ → ℕ → Bool
opens n h t words =
    within 1 n most_cells && (within 1 h most_handles && (within 1 t most_tasks && (leb words most_words && leb 1 (room n h t words))))

-- ---- public numbers

-- the serial of a slot's last handle; after it the slot is spent
unfoldable pub last_serial : ℕ
last_serial = 16777215

-- a handle's public number, and the slot and the serial that a public number names
abbrev pub public_number : ℕ → ℕ → ℕ
public_number j serial = j + 256 * serial

abbrev pub slot_of : ℕ → ℕ
slot_of h = h % 256

abbrev pub serial_of : ℕ → ℕ
serial_of h = h / 256
