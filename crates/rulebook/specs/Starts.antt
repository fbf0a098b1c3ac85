-- Opening a store, and starting a task: new, get, set and page.
-- Rests on State; refusals stand in document 01's order.
use Rattle.std.specs.Prelude.{ℕ, ◌+◌, Bool, not, ◌||◌, List, replicate, ltb, leb, eqb, if◌then◌else◌}
use Rattle.rulebook.specs.declared.Entry.{Entry}
use Rattle.rulebook.specs.declared.Status.TheVariants.{Reserved}
use Rattle.rulebook.specs.declared.Reading.TheVariants.{Guess}
use Rattle.rulebook.specs.declared.Stage.{Stage}
use Rattle.rulebook.specs.declared.Stage.TheVariants.{TakeNew, Getting, Exchange, Paging}
use Rattle.rulebook.specs.declared.Task.{Task}
use Rattle.rulebook.specs.declared.Reply.TheVariants.{Refused, Quiet, Opened}
use Rattle.rulebook.specs.Sizes.{room, opens, slot_of}
use Rattle.rulebook.specs.State.{State, Result, freed, hand_of, idle, slot_at, task_at, with_slot, with_task, list_to, busy, free_slot, live_handle}

-- ---- open

-- what lies in the pool's blocks before open: the version of block k, its cell i, and the log of its cell i
pub record Lie : Type 0 where
  pub version : ℕ → ℕ
  pub cell : ℕ → ℕ → ℕ
  pub log : ℕ → ℕ → List Entry

-- open makes every slot and task free and leaves the blocks as they lie
unfoldable pub opened : ℕ → ℕ → ℕ → ℕ → Lie → State
opened n h t words lie =
    let b = room n h t words in
    record {
      sizes = record { n = n; h = h; t = t; b = b };
      slots = replicate h (freed 0);
      tasks = replicate t idle;
      blocks = list_to b (λ (k : ℕ). record { version = lie.version k; cells = list_to n (lie.cell k); logs = list_to n (lie.log k) });
    }

-- a refused open leaves what was there
unfoldable pub opening : State → ℕ → ℕ → ℕ → ℕ → Lie → Result
opening s n h t words lie =
    if opens n h t words then (opened n h t words lie, Opened (room n h t words)) else (s, Refused 3)

-- ---- the starts

-- 4 where there is no such task, 5 where it is busy, 0 where it may start
unfoldable pub startable : State → ℕ → ℕ
startable s t = if leb s.sizes.t t then 4 else if busy (task_at s t).stage then 5 else 0

-- no slot to reserve
abbrev pub no_slot : State → Bool
no_slot s = leb s.sizes.h (free_slot s)

unfoldable pub reserve : State → State
reserve s = with_slot s (free_slot s) (record { serial = (slot_at s (free_slot s)).serial; status = Reserved; block = 0; number = 0 })

-- a task on the handle h: it takes the handle's block and number
unfoldable pub begun : State → ℕ → Stage → ℕ → ℕ → ℕ → ℕ → Task
begun s h g i v until fresh =
    let x = slot_at s (slot_of h) in
    record { stage = g; slot = slot_of h; block = x.block; number = x.number; cell = i; value = v; until = until; fresh = fresh; target = 0; hand = hand_of i; steps = 0 }

unfoldable pub start_new : State → ℕ → ℕ → Result
start_new s t v =
    if not (eqb (startable s t) 0) then (s, Refused (startable s t)) else
    if no_slot s then (s, Refused 9) else
    (with_task (reserve s) t (record { stage = TakeNew; slot = 0; block = 0; number = 0; cell = 0; value = v; until = 0; fresh = free_slot s; target = 0; hand = hand_of 0; steps = 0 }), Quiet)

unfoldable pub start_get : State → ℕ → ℕ → ℕ → Result
start_get s t h i =
    if not (eqb (startable s t) 0) then (s, Refused (startable s t)) else
    if not (live_handle s h) then (s, Refused 7) else
    if leb s.sizes.n i then (s, Refused 8) else
    (with_task s t (begun s h (Getting Guess) i 0 0 0), Quiet)

unfoldable pub start_set : State → ℕ → ℕ → ℕ → ℕ → Result
start_set s t h i v =
    if not (eqb (startable s t) 0) then (s, Refused (startable s t)) else
    if not (live_handle s h) then (s, Refused 7) else
    if leb s.sizes.n i then (s, Refused 8) else
    if no_slot s then (s, Refused 9) else
    (with_task (reserve s) t (begun s h Exchange i v 0 (free_slot s)), Quiet)

unfoldable pub start_page : State → ℕ → ℕ → ℕ → ℕ → Result
start_page s t h from count =
    if not (eqb (startable s t) 0) then (s, Refused (startable s t)) else
    if not (live_handle s h) then (s, Refused 7) else
    if eqb count 0 || ltb s.sizes.n (from + count) then (s, Refused 8) else
    (with_task s t (begun s h (Paging Guess) from 0 (from + count) 0), Quiet)
