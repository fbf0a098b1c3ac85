-- Histories: what has happened over a list of calls, in any order and with any arguments, from an opened state.
-- Rests on the machine and the functional array. What is noted is read off the calls and their answers, as the caller sees them.
use Rattle.std.specs.Prelude.{ℕ, ◌+◌, ◌*◌, ◌≡◌, Bool, true, not, ◌&&◌, ◌||◌, List, [], ◌∷◌, ◌++◌, eqb, if◌then◌else◌}
use Rattle.rulebook.specs.declared.Stage.{Stage}
use Rattle.rulebook.specs.declared.Reply.{Reply}
use Rattle.rulebook.specs.Sizes.{opens}
use Rattle.rulebook.specs.State.{State, block_at, task_at, exchanges}
use Rattle.rulebook.specs.Answers.{stage_code, refusal, word}
use Rattle.rulebook.specs.Starts.{Lie, opened}
use Rattle.rulebook.specs.Machine.{Call, Open, New, Get, Set, Page, Step, Release, LookVersion, LookCell, LookLog, LookEntry, LookTask, Report, call}
use Rattle.rulebook.specs.Array.{Table, new_table, set_table}

-- ---- what is noted

-- what a task was started for: nothing yet; new v; get h i; set h i v; page h from count
pub data Work : Type 0 where
  resting : Work
  making : ℕ → Work
  reading : ℕ → ℕ → Work
  setting : ℕ → ℕ → ℕ → Work
  paging : ℕ → ℕ → ℕ → Work

-- a version: the public number that it was given, and its table
pub record Numbered : Type 0 where
  pub handle : ℕ
  pub table : Table

-- a value handed out: for which version, for which cell
pub record Value : Type 0 where
  pub handle : ℕ
  pub cell : ℕ
  pub value : ℕ

-- a task that has ended: what it was started for, the stage of its last step, what it handed out, oldest first, the steps that its final answer
-- tells, the accepted steps that were counted here since its start, and how many of them were probes
pub record Ended : Type 0 where
  pub work : Work
  pub last : Stage
  pub given : List Value
  pub told : ℕ
  pub counted : ℕ
  pub probes : ℕ

pub record Past : Type 0 where
  -- the machine's state
  pub store : State
  -- every public number ever given, with its table, newest first
  pub versions : List Numbered
  -- of each task since its last start: what it was started for, its accepted steps, the probes among them, what it handed out, oldest first
  pub works : ℕ → Work
  pub counts : ℕ → ℕ
  pub probes : ℕ → ℕ
  pub given : ℕ → List Value
  -- the values that gets ended with, that pages handed out, and the tasks that ended, newest first
  pub gets : List Value
  pub pages : List Value
  pub ends : List Ended
  -- all accepted steps of sets; the sets that found V = L at their exchange, and those that did not
  pub set_steps : ℕ
  pub firsts : ℕ
  pub laters : ℕ

-- a store to which nothing has happened
abbrev pub fresh : State → Past
fresh s =
    record { store = s; versions = []; works = λ t. resting; counts = λ t. 0; probes = λ t. 0; given = λ t. []; gets = []; pages = []; ends = []; set_steps = 0; firsts = 0; laters = 0 }

-- the table of the version with that number
unfoldable pub table_of : List Numbered → ℕ → Table
table_of [] h = []
table_of (v ∷ vs) h = if eqb h v.handle then v.table else table_of vs h

-- f, but x at t
abbrev pub change : {A : Type 0} → (ℕ → A) → ℕ → A → ℕ → A
change f t x u = if eqb u t then x else f u

-- ---- what a step adds, by what its task was started for and by its answer

-- no refusal, or 10
abbrev pub accepted : Reply → Bool
accepted a = eqb (refusal a) 0 || eqb (refusal a) 10

-- a step's answer: it hands out a cell; the task ends
abbrev pub hands : Reply → Bool
hands a = eqb (word 0 a) 1 || eqb (word 0 a) 3

abbrev pub ends : Reply → Bool
ends a = eqb (word 0 a) 2 || eqb (word 0 a) 3

-- a version, where a new or a set ends and is not refused 10; n is the number of cells
abbrev pub made : ℕ → List Numbered → Work → Reply → List Numbered
made n vs resting a = []
made n vs (making v) a =
    if ends a && eqb (refusal a) 0 then record { handle = word 2 a; table = new_table n v } ∷ [] else []
made n vs (reading h i) a = []
made n vs (setting h i v) a =
    if ends a && eqb (refusal a) 0 then record { handle = word 2 a; table = set_table (table_of vs h) i v } ∷ [] else []
made n vs (paging h from m) a = []

-- a value, where a get ends: for the cell that it was started for
abbrev pub got : Work → Reply → List Value
got resting a = []
got (making v) a = []
got (reading h i) a = if ends a then record { handle = h; cell = i; value = word 4 a } ∷ [] else []
got (setting h i v) a = []
got (paging h from m) a = []

-- a value, where a page hands out a cell
abbrev pub paged : Work → Reply → List Value
paged resting a = []
paged (making v) a = []
paged (reading h i) a = []
paged (setting h i v) a = []
paged (paging h from m) a = if hands a then record { handle = h; cell = word 3 a; value = word 4 a } ∷ [] else []

-- the task's end, where it ends, refused 10 too: n accepted steps, q probes, l handed out, the last step in stage g
abbrev pub over : ℕ → ℕ → List Value → Stage → Work → Reply → List Ended
over n q l g w a =
    if ends a then record { work = w; last = g; given = l; told = word 1 a; counted = n; probes = q } ∷ [] else []

-- the operation that a task was started for, as a look shows it
abbrev pub work_code : Work → ℕ
work_code resting = 0
work_code (making v) = 1
work_code (reading h i) = 2
work_code (setting h i v) = 3
work_code (paging h from m) = 4

abbrev pub is_set : Work → Bool
is_set w = eqb (work_code w) 3

-- the step is a probe
abbrev pub probing : Stage → Bool
probing g = eqb (stage_code g) 6

-- V = L for the handle that task t names: its version is not yet set
abbrev pub not_yet_set : State → ℕ → Bool
not_yet_set s t = eqb (block_at s (task_at s t).block).version (task_at s t).number

abbrev pub one : Bool → ℕ
one b = if b then 1 else 0

-- ---- over a list of calls

-- task t, started for w, has made a step that led to s and was answered a
unfoldable pub stepped : Work → ℕ → State → Reply → Past → Past
stepped w t s a p =
    let g = (task_at p.store t).stage in
    let n = p.counts t + 1 in
    let q = p.probes t + one (probing g) in
    let l = p.given t ++ (got w a ++ paged w a) in
    record {
      store = s;
      versions = made p.store.sizes.n p.versions w a ++ p.versions;
      works = p.works;
      counts = change p.counts t n;
      probes = change p.probes t q;
      given = change p.given t l;
      gets = got w a ++ p.gets;
      pages = paged w a ++ p.pages;
      ends = over n q l g w a ++ p.ends;
      set_steps = p.set_steps + one (is_set w);
      firsts = p.firsts + one (exchanges g && not_yet_set p.store t);
      laters = p.laters + one (exchanges g && not (not_yet_set p.store t));
    }

-- task t was started for w, which led to s
unfoldable pub started : Work → ℕ → State → Past → Past
started w t s p =
    record { store = s; versions = p.versions; works = change p.works t w; counts = change p.counts t 0; probes = change p.probes t 0; given = change p.given t []; gets = p.gets; pages = p.pages; ends = p.ends; set_steps = p.set_steps; firsts = p.firsts; laters = p.laters }

-- a release led to s
unfoldable pub released : State → Past → Past
released s p =
    record { store = s; versions = p.versions; works = p.works; counts = p.counts; probes = p.probes; given = p.given; gets = p.gets; pages = p.pages; ends = p.ends; set_steps = p.set_steps; firsts = p.firsts; laters = p.laters }

-- an accepted call led to s and was answered a; an accepted open begins anew
unfoldable pub noted : Call → State → Reply → Past → Past
noted (Open n h t words lie) s a p = fresh s
noted (New t v) s a p = started (making v) t s p
noted (Get t h i) s a p = started (reading h i) t s p
noted (Set t h i v) s a p = started (setting h i v) t s p
noted (Page t h from m) s a p = started (paging h from m) t s p
noted (Step t) s a p = stepped (p.works t) t s a p
noted (Release h) s a p = released s p
noted (LookVersion b) s a p = p
noted (LookCell b i) s a p = p
noted (LookLog b i) s a p = p
noted (LookEntry b i j) s a p = p
noted (LookTask t) s a p = p
noted Report s a p = p

-- one call more; a refused one is not noted
unfoldable pub next : Call → Past → Past
next c p = let r = call c p.store in if accepted r.1 then noted c r.0 r.1 p else p

unfoldable pub onward : Past → List Call → Past
onward p [] = p
onward p (c ∷ cs) = onward (next c p) cs

-- what has happened after the calls cs from the state s
abbrev pub past : State → List Call → Past
past s cs = onward (fresh s) cs

-- the state that an accepted open leads to
pub record IsOpened (s : State) : Type 0 where
  pub n : ℕ
  pub h : ℕ
  pub t : ℕ
  pub words : ℕ
  pub lie : Lie
  pub allowed : opens n h t words ≡ true
  pub state : s ≡ opened n h t words lie

-- the state and the answers after a list of calls
unfoldable pub run : State → List Call → State × List Reply
run s [] = (s, [])
run s (c ∷ cs) = let r = call c s in let q = run r.0 cs in (q.0, r.1 ∷ q.1)

-- ---- demand 3: what all sets may spend, by the numbers of first and later sets in a store of n cells
abbrev pub sets_bound : ℕ → ℕ → ℕ → ℕ
sets_bound n firsts laters = 12 * firsts + (5 * n + 3) * laters
