-- What is asked of a pool: every call, as numbers; what it does to the words and answers; and the machine's call that it stands for.
-- Rests on layout's definition of each call and on the machine. Nothing is proved here.
use Rattle.std.specs.Prelude.{ℕ, List, [], ◌∷◌, ◌≡◌, length, if◌then◌else◌}
use Rattle.rulebook.specs.declared.Reply.{Reply}
use Rattle.rulebook.specs.declared.Sizes.{Sizes}
use Rattle.layout.specs.Calls.{look_cell_in, look_entry_in, look_log_in, look_task_in, look_version_in, release_in, report_in, start_get_in, start_new_in, start_page_in, start_set_in, step_in}
use Rattle.layout.specs.Header.{sizes_of}
use Rattle.layout.specs.Pool.{lie_of, open_in, view_of}
use Rattle.rulebook.specs.Machine.{Call}
use Rattle.rulebook.specs.Sizes.{opens}
use Rattle.rulebook.specs.State.{State}
use Rattle.bridge.specs.Sound.{Sound}
use Rattle.rulebook.specs.Machine as machine

-- words and an answer, beside the machine's state and answer: the words show the state, the answers are equal, and the words are sound
pub record Bridged {A : Type 0} (d : Sizes) (z : List ℕ × A) (r : State × A) : Type 0 where
  pub state : view_of d z.0 ≡ r.0
  pub reply : z.1 ≡ r.1
  pub sound : Sound d z.0

-- ---- every call

pub data Asked : Type 0 where
  -- cells, handles, tasks
  Open : ℕ → ℕ → ℕ → Asked
  -- task, value
  New : ℕ → ℕ → Asked
  -- task, handle, cell
  Get : ℕ → ℕ → ℕ → Asked
  -- task, handle, cell, value
  Set : ℕ → ℕ → ℕ → ℕ → Asked
  -- task, handle, from, count
  Page : ℕ → ℕ → ℕ → ℕ → Asked
  -- task
  Step : ℕ → Asked
  -- handle
  Release : ℕ → Asked
  -- block; block, cell; block, cell; block, cell, index; task
  LookVersion : ℕ → Asked
  LookCell : ℕ → ℕ → Asked
  LookLog : ℕ → ℕ → Asked
  LookEntry : ℕ → ℕ → ℕ → Asked
  LookTask : ℕ → Asked
  Report : Asked

-- the words that it leaves, and its answer
unfoldable pub asked : Asked → List ℕ → List ℕ × Reply
asked (Open n h t) p = open_in p n h t
asked (New t v) p = start_new_in p t v
asked (Get t h i) p = start_get_in p t h i
asked (Set t h i v) p = start_set_in p t h i v
asked (Page t h from m) p = start_page_in p t h from m
asked (Step t) p = step_in p t
asked (Release h) p = release_in p h
asked (LookVersion b) p = (p, look_version_in p b)
asked (LookCell b i) p = (p, look_cell_in p b i)
asked (LookLog b i) p = (p, look_log_in p b i)
asked (LookEntry b i j) p = (p, look_entry_in p b i j)
asked (LookTask t) p = (p, look_task_in p t)
asked Report p = (p, report_in p)

-- the machine's call: open finds in the blocks what the pool's words are there
unfoldable pub call_of : Asked → List ℕ → Call
call_of (Open n h t) p = machine.Open n h t (length p) (lie_of (sizes_of n h t (length p)) p)
call_of (New t v) p = machine.New t v
call_of (Get t h i) p = machine.Get t h i
call_of (Set t h i v) p = machine.Set t h i v
call_of (Page t h from m) p = machine.Page t h from m
call_of (Step t) p = machine.Step t
call_of (Release h) p = machine.Release h
call_of (LookVersion b) p = machine.LookVersion b
call_of (LookCell b i) p = machine.LookCell b i
call_of (LookLog b i) p = machine.LookLog b i
call_of (LookEntry b i j) p = machine.LookEntry b i j
call_of (LookTask t) p = machine.LookTask t
call_of Report p = machine.Report

-- the store's sizes afterwards: an accepted open sets them, and nothing else does
unfoldable pub sizes_after : Asked → List ℕ → Sizes → Sizes
sizes_after (Open n h t) p d = if opens n h t (length p) then sizes_of n h t (length p) else d
sizes_after (New t v) p d = d
sizes_after (Get t h i) p d = d
sizes_after (Set t h i v) p d = d
sizes_after (Page t h from m) p d = d
sizes_after (Step t) p d = d
sizes_after (Release h) p d = d
sizes_after (LookVersion b) p d = d
sizes_after (LookCell b i) p d = d
sizes_after (LookLog b i) p d = d
sizes_after (LookEntry b i j) p d = d
sizes_after (LookTask t) p d = d
sizes_after Report p d = d

-- ---- one after another

unfoldable pub asked_all : List Asked → List ℕ → List ℕ × List Reply
asked_all [] p = (p, [])
asked_all (x ∷ xs) p = let z = asked x p in let q = asked_all xs z.0 in (q.0, z.1 ∷ q.1)

unfoldable pub calls_of : List Asked → List ℕ → List Call
calls_of [] p = []
calls_of (x ∷ xs) p = call_of x p ∷ calls_of xs (asked x p).0

unfoldable pub sizes_after_all : List Asked → List ℕ → Sizes → Sizes
sizes_after_all [] p d = d
sizes_after_all (x ∷ xs) p d = sizes_after_all xs (asked x p).0 (sizes_after x p d)
