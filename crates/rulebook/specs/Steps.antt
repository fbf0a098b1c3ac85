-- Document 01, 'One step each': what one step of a task does to the store, and what it answers.
-- Rests on State. Each function is given the task k with this step counted.
use Rattle.std.specs.Prelude.{ℕ, ◌+◌, ◌-◌, ◌/◌, true, false, List, [], ◌∷◌, ◌++◌, length, ltb, leb, eqb, if◌then◌else◌}
use Rattle.rulebook.specs.declared.Entry.{Entry}
use Rattle.rulebook.specs.declared.Status.TheVariants.{Live}
use Rattle.rulebook.specs.declared.Reading.{Reading}
use Rattle.rulebook.specs.declared.Reading.TheVariants.{Guess, Version, Length, Probe}
use Rattle.rulebook.specs.declared.Stage.{Stage}
use Rattle.rulebook.specs.declared.Stage.TheVariants.{Idle, TakeNew, FillNew, Getting, Exchange, Read, Append, Write, TakeCopy, Copying, FillCopy, Put, Paging}
use Rattle.rulebook.specs.declared.Hand.{Hand}
use Rattle.rulebook.specs.declared.Progress.{Progress}
use Rattle.rulebook.specs.declared.Progress.TheVariants.{Going, Settled}
use Rattle.rulebook.specs.declared.Task.{Task}
use Rattle.rulebook.specs.declared.Reply.TheVariants.{Refused, Full, Quiet, Handed, HandedLast, Got, Made}
use Rattle.rulebook.specs.Sizes.{public_number}
use Rattle.rulebook.specs.State.{Block, State, Result, freed, hand_of, idle, cell_at, log_at, entry_at, block_at, slot_at, task_at, with_block, with_slot, with_task, with_version, with_cell, with_log, free_block}

-- ---- a task that goes on

-- the same task, at another stage, with another get in hand
unfoldable pub moved : Task → Stage → Hand → Task
moved k g w = record { stage = g; slot = k.slot; block = k.block; number = k.number; cell = k.cell; value = k.value; until = k.until; fresh = k.fresh; target = k.target; hand = w; steps = k.steps }

-- the task with the block that it has taken
unfoldable pub aimed : Task → ℕ → Task
aimed k b = record { stage = k.stage; slot = k.slot; block = k.block; number = k.number; cell = k.cell; value = k.value; until = k.until; fresh = k.fresh; target = b; hand = k.hand; steps = k.steps }

-- the task with one step more
unfoldable pub counted : Task → Task
counted k = record { stage = k.stage; slot = k.slot; block = k.block; number = k.number; cell = k.cell; value = k.value; until = k.until; fresh = k.fresh; target = k.target; hand = k.hand; steps = k.steps + 1 }

-- ---- get: one step

-- the answer is the candidate, or the guess if there is none
abbrev pub answer : Hand → ℕ
answer w = if w.found then w.candidate else w.guess

-- the get has read its guess
abbrev pub guessed : Hand → ℕ → Hand
guessed w v = record { cell = w.cell; guess = v; lo = 0; hi = 0; found = false; candidate = 0; version = 0 }

-- the get searches a log of m entries
abbrev pub searching : Hand → ℕ → Hand
searching w m = record { cell = w.cell; guess = w.guess; lo = 0; hi = m; found = false; candidate = 0; version = 0 }

abbrev pub middle : Hand → ℕ
middle w = w.lo + (w.hi - w.lo) / 2

-- an entry kept as the candidate
abbrev pub kept : Entry → Hand → Hand
kept e w = record { cell = w.cell; guess = w.guess; lo = w.lo; hi = w.hi; found = true; candidate = e.old; version = e.version }

-- hi = mid
abbrev pub lowered : ℕ → Hand → Hand
lowered mid w = record { cell = w.cell; guess = w.guess; lo = w.lo; hi = mid; found = w.found; candidate = w.candidate; version = w.version }

-- lo = mid + 1
abbrev pub raised : ℕ → Hand → Hand
raised mid w = record { cell = w.cell; guess = w.guess; lo = mid + 1; hi = w.hi; found = w.found; candidate = w.candidate; version = w.version }

-- one probe for number L in the log l: if entry mid's version is at least L it is the candidate and hi = mid, else lo = mid + 1
abbrev pub probed_at : ℕ → Entry → ℕ → Hand → Hand
probed_at mid e L w = if leb L e.version then lowered mid (kept e w) else raised mid w

unfoldable pub probed : List Entry → ℕ → Hand → Hand
probed l L w = probed_at (middle w) (entry_at l (middle w)) L w

-- the first step reads the cell, the guess; the second reads V, and if V = L the guess is the answer
abbrev pub first_two : Block → ℕ → Hand → Progress × Progress
first_two b L w = (Going Version (guessed w (cell_at b w.cell)), if eqb b.version L then Settled w else Going Length w)

-- a step of a get on block b for number L
unfoldable pub get_step : Reading → Block → ℕ → Hand → Progress
get_step Guess b L w = (first_two b L w).0
get_step Version b L w = (first_two b L w).1
get_step Length b L w =
    let m = length (log_at b w.cell) in
    if eqb m 0 then Settled w else Going Probe (searching w m)
get_step Probe b L w =
    let q = probed (log_at b w.cell) L w in
    if eqb q.lo q.hi then Settled q else Going Probe q

-- ---- how a task ends

-- the task is idle; its slot carries a handle on block b with number L
unfoldable pub finished : State → ℕ → Task → ℕ → ℕ → Result
finished s t k b L =
    let serial = (slot_at s k.fresh).serial + 1 in
    (with_task (with_slot s k.fresh (record { serial = serial; status = Live; block = b; number = L })) t idle, Made k.steps (public_number k.fresh serial))

-- refused 10: the task is idle, its slot is free, and no serial is raised
unfoldable pub no_room : State → ℕ → Task → Result
no_room s t k = (with_task (with_slot s k.fresh (freed (slot_at s k.fresh).serial)) t idle, Full k.steps)

-- ---- taking and filling a block

-- take the lowest free block, which then has V = 0, and go on at stage g with cell 0; or refuse 10
unfoldable pub taken : State → ℕ → Task → Stage → Result
taken s t k g =
    let b = free_block s in
    if leb s.sizes.b b then no_room s t k else
    (with_task (with_block s b (with_version (block_at s b) 0)) t (aimed (moved k g (hand_of 0)) b), Quiet)

-- write a cell of the block being filled, and empty that cell's log
unfoldable pub filled : State → Task → ℕ → ℕ → State
filled s k i v = with_block s k.target (with_log (with_cell (block_at s k.target) i v) i [])

-- ---- what a get's progress means for a get, a page, and a copy's reading

unfoldable pub got_get : Progress → State → ℕ → Task → Result
got_get (Going r w) s t k = (with_task s t (moved k (Getting r) w), Quiet)
got_get (Settled w) s t k = (with_task s t idle, Got k.steps w.cell (answer w))

unfoldable pub got_page : Progress → State → ℕ → Task → Result
got_page (Going r w) s t k = (with_task s t (moved k (Paging r) w), Quiet)
got_page (Settled w) s t k =
    if eqb (w.cell + 1) k.until
    then (with_task s t idle, HandedLast k.steps w.cell (answer w))
    else (with_task s t (moved k (Paging Guess) (hand_of (w.cell + 1))), Handed w.cell (answer w))

unfoldable pub got_copy : Progress → State → ℕ → Task → Result
got_copy (Going r w) s t k = (with_task s t (moved k (Copying r) w), Quiet)
got_copy (Settled w) s t k = (with_task s t (moved k FillCopy w), Quiet)

-- ---- set

abbrev pub here_of : State → Task → Block
here_of s k = block_at s k.block

-- if V = L, V becomes L + 1, a first set; with L < N it goes on in place, every other set copies
unfoldable pub exchanged : State → ℕ → Task → Result
exchanged s t k =
    if eqb (here_of s k).version k.number
    then (with_task (with_block s k.block (with_version (here_of s k) (k.number + 1))) t (if ltb k.number s.sizes.n then moved k Read k.hand else moved k TakeCopy (hand_of 0)), Quiet)
    else (with_task s t (moved k TakeCopy (hand_of 0)), Quiet)

-- one entry more in the log of cell i
abbrev pub appended : Block → ℕ → ℕ → ℕ → Block
appended b i L v = with_log b i (log_at b i ++ (record { version = L; old = v } ∷ []))

-- the last two steps in place: append (L, value read), then write the cell
abbrev pub last_two : Block → Task → Block × Block
last_two b k = (appended b k.cell k.number k.hand.guess, with_cell b k.cell k.value)

-- ---- every stage

unfoldable pub step_at : Stage → State → ℕ → Task → Result
step_at Idle s t k = (s, Refused 6)
step_at TakeNew s t k = taken s t k FillNew
step_at FillNew s t k =
    let i = k.hand.cell in
    let q = filled s k i k.value in
    if eqb (i + 1) s.sizes.n then finished q t k k.target 0 else (with_task q t (moved k FillNew (hand_of (i + 1))), Quiet)
step_at (Getting r) s t k = got_get (get_step r (here_of s k) k.number k.hand) s t k
step_at Exchange s t k = exchanged s t k
step_at Read s t k = (with_task s t (moved k Append (guessed k.hand (cell_at (here_of s k) k.cell))), Quiet)
step_at Append s t k = (with_task (with_block s k.block (last_two (here_of s k) k).0) t (moved k Write k.hand), Quiet)
step_at Write s t k = finished (with_block s k.block (last_two (here_of s k) k).1) t k k.block (k.number + 1)
step_at TakeCopy s t k = taken s t k (Copying Guess)
step_at (Copying r) s t k = got_copy (get_step r (here_of s k) k.number k.hand) s t k
step_at FillCopy s t k =
    let i = k.hand.cell in
    (with_task (filled s k i (answer k.hand)) t (if eqb (i + 1) s.sizes.n then moved k Put (hand_of k.cell) else moved k (Copying Guess) (hand_of (i + 1))), Quiet)
step_at Put s t k = finished (filled s k k.cell k.value) t k k.target 0
step_at (Paging r) s t k = got_page (get_step r (here_of s k) k.number k.hand) s t k

unfoldable pub step : State → ℕ → Result
step s t = if leb s.sizes.t t then (s, Refused 4) else step_at (task_at s t).stage s t (counted (task_at s t))
