-- Calls as C makes them: what a call leaves of the pool and the answer slice, the number that it returns, and what a caller notes of it.
-- Each clause of `spoken` is the right side of that C function's contract. Rests on winchclover, audit, bridge's Asked and the rule book's histories.
use Rattle.std.specs.Prelude.{◌+◌, ℕ, Bool, ◌&&◌, ◌||◌, false, not, true, List, [], ◌++◌, ◌∷◌, eqb, ltb, get_or, length, take, if◌then◌else◌}
use Rattle.survey.specs.Broken.{broken_in}
use Rattle.bridge.specs.Asked.{Asked, Get, LookCell, LookEntry, LookLog, LookTask, LookVersion, New, Open, Page, Release, Report, Set, Step, call_of}
use Rattle.layout.specs.Calls.{look_cell_in, look_entry_in, look_log_in, look_task_in, look_version_in, release_in, report_in, start_get_in, start_new_in, start_page_in, start_set_in, step_in}
use Rattle.layout.specs.Header as header
use Rattle.layout.specs.Header.{Header, header_of, sizes_in}
use Rattle.layout.specs.Pool.{open_in, view_of}
use Rattle.rulebook.specs.Answers.{refusal, word}
use Rattle.rulebook.specs.Array.{new_table, set_table}
use Rattle.rulebook.specs.declared.Reply.{Reply}
use Rattle.rulebook.specs.declared.Reply.TheVariants as reply
use Rattle.rulebook.specs.declared.Stage.{Stage}
use Rattle.rulebook.specs.History.{Ended, Numbered, Past, Value, Work, change, fresh, is_set, making, not_yet_set, one, paging, probing, reading, released, resting, setting, started, table_of}
use Rattle.rulebook.specs.Machine.{Call}
use Rattle.rulebook.specs.State.{State, exchanges, list_to, task_at}
use Rattle.winchclover.specs.Answered.{answered_in, shown_in}

-- ---- one call

-- pool and answer slice as they come back, and the number that is returned
abbrev pub Outcome : Type 0
Outcome = (List ℕ × List ℕ) × ℕ

-- what C may ask: a call that the machine has too, or the check
pub data Request : Type 0 where
  Ask : Asked → Request
  Check : Request

-- a build of the C functions: what is asked, pool and answer slice as they are lent, and what comes of it
abbrev pub Build : Type 0
Build = Request → List ℕ → List ℕ → Outcome

-- a call that only looks leaves the pool
abbrev looks : List ℕ → List ℕ × ℕ → Outcome
looks p z = ((p, z.0), z.1)

-- the product's build
unfoldable pub spoken : Request → List ℕ → List ℕ → Outcome
spoken (Ask (Open n h t)) p a = answered_in (λ q. open_in q n h t) p a
spoken (Ask (New t v)) p a = answered_in (λ q. start_new_in q t v) p a
spoken (Ask (Get t h i)) p a = answered_in (λ q. start_get_in q t h i) p a
spoken (Ask (Set t h i v)) p a = answered_in (λ q. start_set_in q t h i v) p a
spoken (Ask (Page t h from m)) p a = answered_in (λ q. start_page_in q t h from m) p a
spoken (Ask (Step t)) p a = answered_in (λ q. step_in q t) p a
spoken (Ask (Release h)) p a = answered_in (λ q. release_in q h) p a
spoken (Ask (LookVersion b)) p a = looks p (shown_in (λ q. look_version_in q b) p a)
spoken (Ask (LookCell b i)) p a = looks p (shown_in (λ q. look_cell_in q b i) p a)
spoken (Ask (LookLog b i)) p a = looks p (shown_in (λ q. look_log_in q b i) p a)
spoken (Ask (LookEntry b i j)) p a = looks p (shown_in (λ q. look_entry_in q b i j) p a)
spoken (Ask (LookTask t)) p a = looks p (shown_in (λ q. look_task_in q t) p a)
spoken (Ask Report) p a = looks p (shown_in report_in p a)
spoken Check p a = looks p (shown_in (λ q. reply.Shown (broken_in q)) p a)

abbrev pub pool_after : Build → Request → List ℕ → List ℕ → List ℕ
pool_after f x p a = (f x p a).0.0

abbrev pub answer_after : Build → Request → List ℕ → List ℕ → List ℕ
answer_after f x p a = (f x p a).0.1

abbrev pub number_of : Build → Request → List ℕ → List ℕ → ℕ
number_of f x p a = (f x p a).1

-- what is told: the number, and the first 16 words of the slice
abbrev pub told : Outcome → ℕ × List ℕ
told z = (z.1, take 16 z.0.1)

-- the sizes of the store that a call is about: open's are those that it opens, the others' stand in words 0 to 5
unfoldable pub store_of : Request → List ℕ → Header
store_of (Ask (Open n h t)) p = sizes_in n h t (length p)
store_of (Ask (New t v)) p = header_of p
store_of (Ask (Get t h i)) p = header_of p
store_of (Ask (Set t h i v)) p = header_of p
store_of (Ask (Page t h from m)) p = header_of p
store_of (Ask (Step t)) p = header_of p
store_of (Ask (Release h)) p = header_of p
store_of (Ask (LookVersion b)) p = header_of p
store_of (Ask (LookCell b i)) p = header_of p
store_of (Ask (LookLog b i)) p = header_of p
store_of (Ask (LookEntry b i j)) p = header_of p
store_of (Ask (LookTask t)) p = header_of p
store_of (Ask Report) p = header_of p
store_of Check p = header_of p

abbrev pub is_open : Asked → Bool
is_open (Open n h t) = true
is_open (New t v) = false
is_open (Get t h i) = false
is_open (Set t h i v) = false
is_open (Page t h from m) = false
is_open (Step t) = false
is_open (Release h) = false
is_open (LookVersion b) = false
is_open (LookCell b i) = false
is_open (LookLog b i) = false
is_open (LookEntry b i j) = false
is_open (LookTask t) = false
is_open Report = false

-- word j of an answer slice
abbrev pub word_of : List ℕ → ℕ → ℕ
word_of a j = get_or a j 0

-- under 16 words
abbrev pub short : List ℕ → Bool
short a = ltb (length a) 16

-- the state that the words of a pool show; an empty one where words 0 to 5 do not describe the pool
unfoldable pub state_under : Header → List ℕ → State
state_under header.Bad p = record { sizes = record { n = 0; h = 0; t = 0; b = 0 }; slots = []; tasks = []; blocks = [] }
state_under (header.Good d) p = view_of d p

unfoldable pub state_in : List ℕ → State
state_in p = state_under (header_of p) p

-- ---- what a caller notes of one call: by the number that it returned, the answer slice that came back, and the state that the pool then shows

-- a step's answer: it hands out a cell; the task ends
abbrev pub hands : List ℕ → Bool
hands a = eqb (word_of a 0) 1 || eqb (word_of a 0) 3

abbrev pub ends : List ℕ → Bool
ends a = eqb (word_of a 0) 2 || eqb (word_of a 0) 3

-- a version, where a new or a set ends and is not refused 10; word 2 is its public number
abbrev pub made : ℕ → List Numbered → Work → ℕ → List ℕ → List Numbered
made n vs resting k a = []
made n vs (making v) k a = if ends a && eqb k 0 then record { handle = word_of a 2; table = new_table n v } ∷ [] else []
made n vs (reading h i) k a = []
made n vs (setting h i v) k a = if ends a && eqb k 0 then record { handle = word_of a 2; table = set_table (table_of vs h) i v } ∷ [] else []
made n vs (paging h from m) k a = []

-- a value, where a get ends: word 4
abbrev pub got : Work → List ℕ → List Value
got resting a = []
got (making v) a = []
got (reading h i) a = if ends a then record { handle = h; cell = i; value = word_of a 4 } ∷ [] else []
got (setting h i v) a = []
got (paging h from m) a = []

-- a value, where a page hands out a cell: words 3 and 4
abbrev pub paged : Work → List ℕ → List Value
paged resting a = []
paged (making v) a = []
paged (reading h i) a = []
paged (setting h i v) a = []
paged (paging h from m) a = if hands a then record { handle = h; cell = word_of a 3; value = word_of a 4 } ∷ [] else []

-- the task's end: word 1 tells its steps; m accepted steps were counted, q of them probes
abbrev pub over : ℕ → ℕ → List Value → Stage → Work → List ℕ → List Ended
over m q l g w a =
    if ends a then record { work = w; last = g; given = l; told = word_of a 1; counted = m; probes = q } ∷ [] else []

-- an accepted step of task t, started for w
unfoldable pub stepped_by : Work → ℕ → State → ℕ → List ℕ → Past → Past
stepped_by w t s k a p =
    let g = (task_at p.store t).stage in
    let m = p.counts t + 1 in
    let q = p.probes t + one (probing g) in
    let l = p.given t ++ (got w a ++ paged w a) in
    record {
      store = s;
      versions = made p.store.sizes.n p.versions w k a ++ p.versions;
      works = p.works;
      counts = change p.counts t m;
      probes = change p.probes t q;
      given = change p.given t l;
      gets = got w a ++ p.gets;
      pages = paged w a ++ p.pages;
      ends = over m q l g w a ++ p.ends;
      set_steps = p.set_steps + one (is_set w);
      firsts = p.firsts + one (exchanges g && not_yet_set p.store t);
      laters = p.laters + one (exchanges g && not (not_yet_set p.store t));
    }

unfoldable pub noted_by : Asked → State → ℕ → List ℕ → Past → Past
noted_by (Open n h t) s k a p = fresh s
noted_by (New t v) s k a p = started (making v) t s p
noted_by (Get t h i) s k a p = started (reading h i) t s p
noted_by (Set t h i v) s k a p = started (setting h i v) t s p
noted_by (Page t h from m) s k a p = started (paging h from m) t s p
noted_by (Step t) s k a p = stepped_by (p.works t) t s k a p
noted_by (Release h) s k a p = released s p
noted_by (LookVersion b) s k a p = p
noted_by (LookCell b i) s k a p = p
noted_by (LookLog b i) s k a p = p
noted_by (LookEntry b i j) s k a p = p
noted_by (LookTask t) s k a p = p
noted_by Report s k a p = p

-- a refused call is not noted, but for 10; nor is the check
unfoldable pub notes : Request → State → ℕ → List ℕ → Past → Past
notes (Ask x) s k a p = if eqb k 0 || eqb k 10 then noted_by x s k a p else p
notes Check s k a p = p

-- ---- calls one after another, each with an answer slice of its own

pub record Spoken : Type 0 where
  pub call : Request
  pub slice : List ℕ

-- the machine has no such call: the slice is short, or it is the check
abbrev pub aside : Request → List ℕ → Bool
aside (Ask x) a = short a
aside Check a = true

-- the pool after them
unfoldable pub pool_all : Build → List Spoken → List ℕ → List ℕ
pool_all f [] p = p
pool_all f (c ∷ cs) p = pool_all f cs (pool_after f c.call p c.slice)

-- what they told, of each that the machine has
unfoldable pub told_all : Build → List Spoken → List ℕ → List (ℕ × List ℕ)
told_all f [] p = []
told_all f (c ∷ cs) p =
    let z = f c.call p c.slice in
    let r = told_all f cs z.0.0 in
    if aside c.call c.slice then r else told z ∷ r

-- what a caller has noted after them, on top of y
unfoldable pub noted_all : Build → List Spoken → List ℕ → Past → Past
noted_all f [] p y = y
noted_all f (c ∷ cs) p y =
    let z = f c.call p c.slice in noted_all f cs z.0.0 (notes c.call (state_in z.0.0) z.1 z.0.1 y)

-- the machine's call that a request amounts to, before those that follow; a call with a short slice is none
abbrev pub amounts : Request → List ℕ → List ℕ → List Call → List Call
amounts (Ask x) a p r = if short a then r else call_of x p ∷ r
amounts Check a p r = r

-- the machine's calls that they amount to
unfoldable pub calls_in : Build → List Spoken → List ℕ → List Call
calls_in f [] p = []
calls_in f (c ∷ cs) p = amounts c.call c.slice p (calls_in f cs (pool_after f c.call p c.slice))

-- what an answer of the machine tells: its number and its 16 words
abbrev pub tells : Reply → ℕ × List ℕ
tells r = (refusal r, list_to 16 (λ (j : ℕ). word j r))

-- what each of the machine's answers tells
unfoldable pub tellings : List Reply → List (ℕ × List ℕ)
tellings [] = []
tellings (r ∷ rs) = tells r ∷ tellings rs
