-- Document 01's ten starred sessions, all of their figures, as one list under one claim; then sessions that it lacks.
-- Rests on nothing: both sides are computed.
use Rattle.std.specs.Prelude.{ℕ, zero, suc, ◌≡◌, refl, List, [], ◌∷◌, ◌++◌, replicate}
use Rattle.rulebook.specs.declared.Reply.{Reply}
use Rattle.rulebook.specs.declared.Reply.TheVariants.{Refused, Full, Quiet, Opened, HandedLast, Got, Made, Shown, ShownEntry, Reported}
use Rattle.rulebook.specs.Sizes.{control_words, block_words, room, opens, last_serial}
use Rattle.rulebook.specs.State.{State, with_block, with_slot, with_task, with_version, with_cell, with_log, any, lowest, count, list_to, stood, filling, held, free_block, free_slot, live_handle, in_use}
use Rattle.rulebook.specs.Answers.{words}
use Rattle.rulebook.specs.Starts.{Lie, opened, opening, startable, reserve, begun, start_new, start_get, start_set, start_page}
use Rattle.rulebook.specs.Steps.{moved, aimed, counted, probed, get_step, finished, no_room, taken, filled, got_get, got_page, got_copy, exchanged, step_at, step}
use Rattle.rulebook.specs.Machine.{Call, Open, New, Get, Set, Page, Step, Release, LookVersion, LookCell, LookLog, LookEntry, Report, call, release, look_version, look_cell, look_log, look_entry, look_task, report}
use Rattle.rulebook.specs.History.{Past, fresh, table_of, stepped, started, released, noted, next, onward, run, sets_bound}

-- a session goes on where the one before it stopped
pub record Session : Type 0 where
  pub calls : List Call
  pub answers : List Reply

-- no store yet
abbrev nothing : State
nothing = record { sizes = record { n = 0; h = 0; t = 0; b = 0 }; slots = []; tasks = []; blocks = [] }

-- a pool whose blocks are full of old numbers
abbrev used : Lie
used = record { version = λ k. 3; cell = λ k i. 99; log = λ k i. record { version = 1; old = 88 } ∷ [] }

-- N = 2, H = 4, T = 2, pool of 208 words
abbrev store : Call
store = Open 2 4 2 208 used

-- n steps of task t
abbrev steps : ℕ → ℕ → List Call
steps n t = replicate n (Step t)

-- n answers that tell nothing
abbrev quiet : ℕ → List Reply
quiet n = replicate n Quiet

-- the answers to a start and to the steps after it, of which only the last, number n + 1, tells something
abbrev ends : ℕ → Reply → List Reply
ends n r = quiet (suc n) ++ (r ∷ [])

-- the sessions, one after the other, from a past p: what has happened, and the answers of each
unfoldable pub played : Past → List Session → Past
played p [] = p
played p (x ∷ xs) = played (onward p x.calls) xs

unfoldable pub answered : State → List Session → List (List Reply)
answered s [] = []
answered s (x ∷ xs) = let r = run s x.calls in r.1 ∷ answered r.0 xs

unfoldable pub expected : List Session → List (List Reply)
expected [] = []
expected (x ∷ xs) = x.answers ∷ expected xs

abbrev one-to_nine : List Session
one-to_nine =
    -- 1
    record { calls = store ∷ New 0 7 ∷ steps 3 0 ++ (LookCell 0 0 ∷ LookCell 0 1 ∷ []); answers = Opened 2 ∷ ends 2 (Made 3 256) ++ (Shown 7 ∷ Shown 7 ∷ []) } ∷
    -- 2
    record { calls = Get 0 256 1 ∷ steps 2 0; answers = ends 1 (Got 2 1 7) } ∷
    -- 3
    record { calls = Set 0 256 0 9 ∷ steps 4 0 ++ (LookVersion 0 ∷ LookLog 0 0 ∷ LookEntry 0 0 0 ∷ []); answers = ends 3 (Made 4 257) ++ (Shown 1 ∷ Shown 1 ∷ ShownEntry (record { version = 0; old = 7 }) ∷ []) } ∷
    -- 4
    record { calls = (Get 0 256 0 ∷ steps 4 0) ++ (Get 0 256 1 ∷ steps 3 0) ++ (Get 0 257 0 ∷ steps 2 0); answers = ends 3 (Got 4 0 7) ++ ends 2 (Got 3 1 7) ++ ends 1 (Got 2 0 9) } ∷
    -- 5
    record { calls = Set 0 256 1 5 ∷ steps 12 0 ++ (LookCell 1 0 ∷ LookCell 1 1 ∷ []); answers = ends 11 (Made 12 258) ++ (Shown 7 ∷ Shown 5 ∷ []) } ∷
    -- 6
    record { calls = Set 0 257 0 4 ∷ steps 4 0 ++ (LookVersion 0 ∷ Set 0 259 0 1 ∷ []); answers = ends 3 (Made 4 259) ++ (Shown 2 ∷ Refused 9 ∷ []) } ∷
    -- 7
    record { calls = (Get 0 256 0 ∷ steps 5 0) ++ (Get 0 257 0 ∷ steps 5 0); answers = ends 4 (Got 5 0 7) ++ ends 4 (Got 5 0 9) } ∷
    -- 8
    record { calls = Release 258 ∷ Set 0 259 1 6 ∷ steps 12 0 ++ (LookVersion 0 ∷ LookCell 1 0 ∷ LookCell 1 1 ∷ []); answers = Quiet ∷ ends 11 (Made 12 514) ++ (Shown 3 ∷ Shown 4 ∷ Shown 6 ∷ []) } ∷
    -- 9
    record { calls = Release 256 ∷ Set 0 259 0 1 ∷ steps 2 0 ++ (Get 0 259 0 ∷ steps 4 0); answers = quiet 3 ++ (Full 2 ∷ []) ++ ends 3 (Got 4 0 4) } ∷ []

abbrev ten : Session
ten =
    record { calls = (store ∷ New 0 7 ∷ steps 3 0) ++ (Get 0 256 0 ∷ Step 0 ∷ Set 1 256 0 9 ∷ steps 4 1 ++ steps 3 0); answers = Opened 2 ∷ ends 2 (Made 3 256) ++ quiet 2 ++ ends 3 (Made 4 257) ++ quiet 2 ++ (Got 4 0 7 ∷ []) }

abbrev all : List Session
all = one-to_nine ++ (ten ∷ [])

-- what document 01 counts after session 9: first sets, later sets, steps, the bound
abbrev figures : Past → List ℕ
figures p = p.firsts ∷ p.laters ∷ p.set_steps ∷ sets_bound p.store.sizes.n p.firsts p.laters ∷ []

-- a get of the older version between a set's append and its write: the ten pass where the cell is written before the entry is appended, this does not
abbrev between : Session
between =
    record { calls = (store ∷ New 0 7 ∷ steps 3 0) ++ (Set 1 256 0 9 ∷ steps 3 1) ++ (Get 0 256 0 ∷ steps 4 0) ++ steps 1 1; answers = Opened 2 ∷ ends 2 (Made 3 256) ++ quiet 4 ++ ends 3 (Got 4 0 7) ++ (Made 4 257 ∷ []) }

-- a store of one cell, whose copying set takes 5N + 3 = 8 steps; pages of one cell of an older version and of the newest
abbrev single : Session
single =
    record { calls = (Open 1 3 2 164 used ∷ New 0 5 ∷ steps 2 0) ++ (Set 0 256 0 6 ∷ steps 4 0) ++ (Page 1 256 0 1 ∷ steps 4 1) ++ (Set 0 257 0 7 ∷ steps 8 0) ++ (Page 1 258 0 1 ∷ steps 2 1) ++ (Report ∷ []); answers = Opened 2 ∷ ends 1 (Made 2 256) ++ ends 3 (Made 4 257) ++ ends 3 (HandedLast 4 0 5) ++ ends 7 (Made 8 258) ++ ends 1 (HandedLast 2 0 7) ++ (Reported 3 2 ∷ []) }

-- a look at task t after each of n steps of it: the words that it shows
unfoldable pub watched : State → ℕ → ℕ → List (List ℕ)
watched s t zero = []
watched s t (suc n) = let q = (step s t).0 in words (look_task q t) ∷ watched q t n

-- a set that copies the older version of two (its cells 7, 7; the log of cell 0 has one entry), watched from its exchange to its last step
abbrev copy : State
copy = (run nothing (store ∷ New 0 7 ∷ steps 3 0 ++ (Set 0 256 0 9 ∷ steps 4 0 ++ (Set 0 256 1 5 ∷ [])))).0

-- operation, stage, cell in hand, lo, hi, guess, candidate, whether there is one
abbrev shown : List (List ℕ)
shown =
    (3 ∷ 1 ∷ 0 ∷ 0 ∷ 0 ∷ 0 ∷ 0 ∷ 0 ∷ []) ∷ (3 ∷ 3 ∷ 0 ∷ 0 ∷ 0 ∷ 0 ∷ 0 ∷ 0 ∷ []) ∷
    (3 ∷ 4 ∷ 0 ∷ 0 ∷ 0 ∷ 9 ∷ 0 ∷ 0 ∷ []) ∷ (3 ∷ 5 ∷ 0 ∷ 0 ∷ 0 ∷ 9 ∷ 0 ∷ 0 ∷ []) ∷ (3 ∷ 6 ∷ 0 ∷ 0 ∷ 1 ∷ 9 ∷ 0 ∷ 0 ∷ []) ∷ (3 ∷ 2 ∷ 0 ∷ 0 ∷ 0 ∷ 9 ∷ 7 ∷ 1 ∷ []) ∷
    (3 ∷ 3 ∷ 1 ∷ 0 ∷ 0 ∷ 0 ∷ 0 ∷ 0 ∷ []) ∷ (3 ∷ 4 ∷ 1 ∷ 0 ∷ 0 ∷ 7 ∷ 0 ∷ 0 ∷ []) ∷ (3 ∷ 5 ∷ 1 ∷ 0 ∷ 0 ∷ 7 ∷ 0 ∷ 0 ∷ []) ∷ (3 ∷ 2 ∷ 1 ∷ 0 ∷ 0 ∷ 7 ∷ 0 ∷ 0 ∷ []) ∷
    (3 ∷ 11 ∷ 1 ∷ 0 ∷ 0 ∷ 0 ∷ 0 ∷ 0 ∷ []) ∷ (0 ∷ 0 ∷ 0 ∷ 0 ∷ 0 ∷ 0 ∷ 0 ∷ 0 ∷ []) ∷ []

-- ---- the claims

-- every answer of the ten, and the figures after session 9
abbrev Claim : Type 0
Claim = (answered nothing all ≡ expected all) × (figures (played (fresh nothing) one-to_nine) ≡ 3 ∷ 2 ∷ 34 ∷ 62 ∷ [])

pub sessions : Claim
unfolding played answered expected run call opening opened opens room control_words block_words last_serial with_block with_slot with_task with_version with_cell with_log any lowest count list_to stood filling held free_block free_slot live_handle in_use startable reserve begun start_new start_get start_set start_page moved aimed counted probed get_step finished no_room taken filled got_get got_page got_copy exchanged step_at step release look_version look_cell look_log look_entry look_task report table_of stepped started released noted next onward
sessions = (refl, refl)

-- the sessions that document 01 lacks
abbrev Beside : Type 0
Beside = (answered nothing (between ∷ single ∷ []) ≡ expected (between ∷ single ∷ [])) × (watched copy 0 12 ≡ shown)

pub beside : Beside
unfolding watched played answered expected run call opening opened opens room control_words block_words last_serial with_block with_slot with_task with_version with_cell with_log any lowest count list_to stood filling held free_block free_slot live_handle in_use startable reserve begun start_new start_get start_set start_page moved aimed counted probed get_step finished no_room taken filled got_get got_page got_copy exchanged step_at step release look_version look_cell look_log look_entry look_task report table_of stepped started released noted next onward
beside = (refl, refl)
