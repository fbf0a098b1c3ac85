-- Release, the looks, the report; and every call of document 01 as one function from a state to the next state and an answer.
-- Rests on Starts and Steps; refusals stand in document 01's order.
use Rattle.std.specs.Prelude.{ℕ, not, ◌||◌, length, leb, if◌then◌else◌}
use Rattle.rulebook.specs.declared.Reply.{Reply}
use Rattle.rulebook.specs.declared.Reply.TheVariants.{Refused, Quiet, Shown, ShownEntry, ShownTask, Reported}
use Rattle.rulebook.specs.Sizes.{slot_of}
use Rattle.rulebook.specs.State.{State, Result, freed, cell_at, log_at, entry_at, block_at, slot_at, task_at, with_slot, count, is_live, stood, live_handle, in_use}
use Rattle.rulebook.specs.Starts.{Lie, opening, start_new, start_get, start_set, start_page}
use Rattle.rulebook.specs.Steps.{step}

unfoldable pub release : State → ℕ → Result
release s h =
    if not (live_handle s h) then (s, Refused 7) else
    if in_use s (slot_of h) then (s, Refused 11) else
    (with_slot s (slot_of h) (freed (slot_at s (slot_of h)).serial), Quiet)

-- ---- the looks: 12 where no live handle stands on that block, or there is no such cell or entry

unfoldable pub look_version : State → ℕ → Reply
look_version s b = if not (stood s b) then Refused 12 else Shown (block_at s b).version

unfoldable pub look_cell : State → ℕ → ℕ → Reply
look_cell s b i = if not (stood s b) || leb s.sizes.n i then Refused 12 else Shown (cell_at (block_at s b) i)

unfoldable pub look_log : State → ℕ → ℕ → Reply
look_log s b i = if not (stood s b) || leb s.sizes.n i then Refused 12 else Shown (length (log_at (block_at s b) i))

unfoldable pub look_entry : State → ℕ → ℕ → ℕ → Reply
look_entry s b i j =
    let l = log_at (block_at s b) i in
    if not (stood s b) || (leb s.sizes.n i || leb (length l) j) then Refused 12 else ShownEntry (entry_at l j)

unfoldable pub look_task : State → ℕ → Reply
look_task s t = if leb s.sizes.t t then Refused 4 else ShownTask (task_at s t)

-- the number of live handles, and of the blocks on which live handles stand
unfoldable pub report : State → Reply
report s = Reported (count (λ (j : ℕ). is_live (slot_at s j).status) s.sizes.h 0) (count (stood s) s.sizes.b 0)

-- ---- every call

pub data Call : Type 0 where
  -- cells, handles, tasks, the pool's words, and what lies in its blocks
  Open : ℕ → ℕ → ℕ → ℕ → Lie → Call
  -- task, value
  New : ℕ → ℕ → Call
  -- task, handle, cell
  Get : ℕ → ℕ → ℕ → Call
  -- task, handle, cell, value
  Set : ℕ → ℕ → ℕ → ℕ → Call
  -- task, handle, from, count
  Page : ℕ → ℕ → ℕ → ℕ → Call
  -- task
  Step : ℕ → Call
  -- handle
  Release : ℕ → Call
  -- block; block, cell; block, cell; block, cell, index; task
  LookVersion : ℕ → Call
  LookCell : ℕ → ℕ → Call
  LookLog : ℕ → ℕ → Call
  LookEntry : ℕ → ℕ → ℕ → Call
  LookTask : ℕ → Call
  Report : Call

unfoldable pub call : Call → State → Result
call (Open n h t words lie) s = opening s n h t words lie
call (New t v) s = start_new s t v
call (Get t h i) s = start_get s t h i
call (Set t h i v) s = start_set s t h i v
call (Page t h from count) s = start_page s t h from count
call (Step t) s = step s t
call (Release h) s = release s h
call (LookVersion b) s = (s, look_version s b)
call (LookCell b i) s = (s, look_cell s b i)
call (LookLog b i) s = (s, look_log s b i)
call (LookEntry b i j) s = (s, look_entry s b i j)
call (LookTask t) s = (s, look_task s t)
call Report s = (s, report s)
