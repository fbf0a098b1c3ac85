-- Bridge A. On a sound pool every call answers what the rule book's machine answers in the state that the pool shows, leaves a pool that shows the
-- machine's next state, and leaves it sound. Rests on Asked for what this says; on Starting, Stepping, Looking and Opening for why.
use Rattle.std.specs.Prelude.{ℕ, true, List, [], ◌∷◌, ◌≡◌, refl, length}
use Rattle.std.proofs.Common.{ap₂, subst}
use Rattle.rulebook.specs.declared.Reply.{Reply}
use Rattle.rulebook.specs.declared.Sizes.{Sizes}
use Rattle.layout.specs.Header.{sizes_of}
use Rattle.layout.specs.Opened.{open_view}
use Rattle.layout.specs.Pool.{lie_of, open_in, view_of}
use Rattle.rulebook.specs.History.{run}
use Rattle.rulebook.specs.Machine.{call}
use Rattle.rulebook.specs.Sizes.{opens}
use Rattle.rulebook.specs.Starts.{opened}
use Rattle.rulebook.specs.State.{State}
use Rattle.bridge.specs.Asked.{Asked, Bridged, Get, LookCell, LookEntry, LookLog, LookTask, LookVersion, New, Open, Page, Release, Report, Set, Step, asked, asked_all, call_of, calls_of, sizes_after, sizes_after_all}
use Rattle.bridge.specs.Looking.{look_cell_lem, look_entry_lem, look_log_lem, look_task_lem, look_version_lem, the_report}
use Rattle.bridge.specs.Opening.{open_bridged, open-sound}
use Rattle.bridge.specs.Sound.{Sound}
use Rattle.bridge.specs.Starting.{get_bridged, new_bridged, page_bridged, release_bridged, set_bridged}
use Rattle.bridge.specs.Stepping.{step_bridged}

-- one call
pub bridge : (x : Asked) {d : Sizes} {p : List ℕ} → Sound d p → Bridged (sizes_after x p d) (asked x p) (call (call_of x p) (view_of d p))
unfolding asked call_of sizes_after call
bridge (Open n h t) S = open_bridged S n h t
bridge (New t v) S = new_bridged S t v
bridge (Get t h i) S = get_bridged S t h i
bridge (Set t h i v) S = set_bridged S t h i v
bridge (Page t h from m) S = page_bridged S t h from m
bridge (Step t) S = step_bridged S t
bridge (Release h) S = release_bridged S h
bridge (LookVersion b) S = record { state = refl; reply = look_version_lem S b; sound = S }
bridge (LookCell b i) S = record { state = refl; reply = look_cell_lem S b i; sound = S }
bridge (LookLog b i) S = record { state = refl; reply = look_log_lem S b i; sound = S }
bridge (LookEntry b i j) S = record { state = refl; reply = look_entry_lem S b i j; sound = S }
bridge (LookTask t) S = record { state = refl; reply = look_task_lem S t; sound = S }
bridge Report S = record { state = refl; reply = the_report S; sound = S }

-- any list of calls
pub bridge-all : (xs : List Asked) {d : Sizes} {p : List ℕ} → Sound d p
    → Bridged (sizes_after_all xs p d) (asked_all xs p) (run (view_of d p) (calls_of xs p))
unfolding asked_all calls_of sizes_after_all run
bridge-all [] S = record { state = refl; reply = refl; sound = S }
bridge-all (x ∷ xs) {d} {p} S =
    let a = bridge x S in
    let b = subst (λ (s : State). Bridged (sizes_after_all xs (asked x p).0 (sizes_after x p d)) (asked_all xs (asked x p).0) (run s (calls_of xs (asked x p).0))) a.state (bridge-all xs a.sound) in
    record { state = b.state; reply = ap₂ (λ (r : Reply) (rs : List Reply). r ∷ rs) a.reply b.reply; sound = b.sound }

-- a kept store: any words, an accepted open, and then any list of calls. Its pool is sound, and it has gone through what the machine goes
-- through from the opened state, whatever lay in the blocks
pub kept : (p : List ℕ) (n h t : ℕ) → opens n h t (length p) ≡ true → (xs : List Asked)
    → let d = sizes_of n h t (length p) in let q = (open_in p n h t).0 in
    Bridged (sizes_after_all xs q d) (asked_all xs q) (run (opened n h t (length p) (lie_of d p)) (calls_of xs q))
kept p n h t o xs =
    let d = sizes_of n h t (length p) in let q = (open_in p n h t).0 in
    subst (λ (s : State). Bridged (sizes_after_all xs q d) (asked_all xs q) (run s (calls_of xs q))) (open_view p n h t o) (bridge-all xs (open-sound p n h t o))
