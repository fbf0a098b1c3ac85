-- The promises: the three demands, stated of the calls that C makes. No proof stands here; each statement is proved in proofs/ under its own name.
-- Rests on Said for what a call is and what a caller notes of it, and on theorems' Terms for what is right for a value, a page and a price.
use Rattle.std.specs.Prelude.{◌*◌, ◌+◌, ◌<◌, ◌≤◌, ℕ, false, true, List, ◌∷◌, ◌≡◌, get_or, length, replicate, take, if◌then◌else◌}
use Rattle.audit.specs.Check.{FirstBroken}
use Rattle.bridge.specs.Asked.{Asked, Open, Step, call_of}
use Rattle.bridge.specs.Sound.{Sound}
use Rattle.layout.specs.Header as header
use Rattle.layout.specs.Header.{header_of, sizes_of}
use Rattle.layout.specs.Places.{block_base}
use Rattle.layout.specs.Pool.{lie_of, view_of}
use Rattle.rulebook.specs.Answers.{operation}
use Rattle.rulebook.specs.declared.Sizes.{Sizes}
use Rattle.rulebook.specs.History.{Ended, Past, Value, fresh, past, run, sets_bound, table_of, work_code}
use Rattle.rulebook.specs.Machine.{Call, call}
use Rattle.rulebook.specs.Sizes.{block_words, opens, room}
use Rattle.rulebook.specs.Starts.{opened}
use Rattle.rulebook.specs.State.{State, busy, live_handle, task_at}
use Rattle.theorems.specs.Terms.{Every, Harmless, HasGiven, In, IsRead, Once, Spent, by_cell, causes, cells_of, due, on_version, price, shown, up_to, values_of}
use Rattle.promises.specs.Said.{Ask, Build, Check, Request, Spoken, answer_after, calls_in, is_open, noted_all, number_of, pool_after, pool_all, state_in, store_of, tellings, tells, told, told_all, word_of}

-- f is a build of the C functions; the promises are made of `spoken`
module _ (f : Build) where
  -- ---- demand 1: of every call, every pool, every argument and every answer slice

  -- The pool comes back as long as it was lent.
  abbrev pub PoolLength : Type 0
  PoolLength = (x : Request) (p a : List ℕ) → length (pool_after f x p a) ≡ length p

  -- No word after the last block is written; an open counts the blocks of the store that it opens.
  abbrev pub PoolRest : Type 0
  PoolRest = (x : Request) (p a : List ℕ) (d : Sizes) → store_of x p ≡ header.Good d → (i : ℕ) → block_base d + block_words d.n * d.b ≤ i → get_or (pool_after f x p a) i 0 ≡ get_or p i 0

  -- The answer slice comes back as long as it was lent.
  abbrev pub AnswerLength : Type 0
  AnswerLength = (x : Request) (p a : List ℕ) → length (answer_after f x p a) ≡ length a

  -- No word of the answer slice after its first 16 is written.
  abbrev pub AnswerRest : Type 0
  AnswerRest = (x : Request) (p a : List ℕ) (j : ℕ) → 16 ≤ j → word_of (answer_after f x p a) j ≡ word_of a j

  -- A call with an answer slice under 16 words returns 15 and leaves pool and slice as they are, whatever else is wrong.
  abbrev pub ShortSlice : Type 0
  ShortSlice = (x : Request) (p a : List ℕ) → length a < 16 → f x p a ≡ ((p, a), 15)

  -- A refusal other than 10 changes no word of the pool.
  abbrev pub RefusalKeeps : Type 0
  RefusalKeeps = (x : Request) (p a : List ℕ) → (number_of f x p a ≡ 0 → ⊥) → (number_of f x p a ≡ 10 → ⊥) → pool_after f x p a ≡ p

  -- A refusal other than 10 answers 16 zeros.
  abbrev pub RefusalZeros : Type 0
  RefusalZeros = (x : Request) (p a : List ℕ) → 16 ≤ length a → (number_of f x p a ≡ 0 → ⊥) → (number_of f x p a ≡ 10 → ⊥) → (j : ℕ) → j < 16 → word_of (answer_after f x p a) j ≡ 0

  -- On any pool, whatever its words are, open returns 3 where N, H or T is beyond its limits, the pool is above 4,294,967,295 words or there is no room for a
  -- block; else 0, and tells B.
  abbrev pub OpenDue : Type 0
  OpenDue = (n h t : ℕ) (p a : List ℕ) → 16 ≤ length a → let o = opens n h t (length p) in let x = Ask (Open n h t) in (number_of f x p a ≡ (if o then 0 else 3)) × (take 16 (answer_after f x p a) ≡ (if o then room n h t (length p) else 0) ∷ replicate 15 0)

  -- Every other call but the check returns 1 where words 0 to 5 do not describe the pool, whatever its arguments are.
  abbrev pub Undescribed : Type 0
  Undescribed = (x : Asked) (p a : List ℕ) → is_open x ≡ false → 16 ≤ length a → header_of p ≡ header.Bad → number_of f (Ask x) p a ≡ 1

  -- On a pool that passes the check, each number is returned exactly when document 01's table says, in its order, and 0 where no row applies.
  abbrev pub RefusalDue : Type 0
  RefusalDue = (x : Asked) (p a : List ℕ) (d : Sizes) → Sound d p → 16 ≤ length a → number_of f (Ask x) p a ≡ due (causes (call_of x p) (view_of d p))

  -- On a pool that passes the check, only a step is refused 10: it found every block held, and leaves its task idle, its slot free, every block as it was
  -- (so an exchange stays), and every live version live with the values that it had.
  abbrev pub TenHarmless : Type 0
  TenHarmless = (x : Request) (p a : List ℕ) (d : Sizes) → Sound d p → number_of f x p a ≡ 10 → (t : ℕ) × (x ≡ Ask (Step t)) × Harmless (view_of d p) t (view_of d (pool_after f x p a))

  -- The check returns 0 and changes no word of the pool; it tells the number of the first of document 01's rules that is broken, 0 where none is.
  abbrev pub CheckTells : Type 0
  CheckTells = (p a : List ℕ) → 16 ≤ length a → (number_of f Check p a ≡ 0) × (pool_after f Check p a ≡ p) × (r : ℕ) × (take 16 (answer_after f Check p a) ≡ r ∷ replicate 15 0) × FirstBroken p r

  -- The check tells 0 exactly where the pool is a sound store.
  abbrev pub CheckSound : Type 0
  CheckSound = (p a : List ℕ) → 16 ≤ length a → let r = word_of (answer_after f Check p a) 0 in (r ≡ 0 → (d : Sizes) × Sound d p) × ((d : Sizes) → Sound d p → r ≡ 0)

  -- ---- demand 2: of every pool that passes the check, kept or not

  -- Each call but the check does what the rule book's machine does in the state that the pool shows: the pool then shows the machine's next state and passes the
  -- check with that state's sizes, after an accepted open the new ones; the number and all 16 words are the machine's answer.
  abbrev pub MachineCall : Type 0
  MachineCall = (x : Asked) (p a : List ℕ) (d : Sizes) → Sound d p → 16 ≤ length a → let r = call (call_of x p) (state_in p) in let q = pool_after f (Ask x) p a in (state_in q ≡ r.0) × (told (f (Ask x) p a) ≡ tells r.1) × Sound r.0.sizes q

  -- ---- a kept store: any pool, an open that returned 0, and then any calls with any arguments and answer slices, and nothing else

  pub record Kept : Type 0 where
    pub words : List ℕ
    pub cells : ℕ
    pub handles : ℕ
    pub tasks : ℕ
    pub slice : List ℕ
    pub accepted : number_of f (Ask (Open cells handles tasks)) words slice ≡ 0
    pub calls : List Spoken

  module _ (k : Kept) where
    -- the pool as open left it, and as it is after the calls
    abbrev pub pool_first : List ℕ
    pool_first = pool_after f (Ask (Open k.cells k.handles k.tasks)) k.words k.slice

    abbrev pub pool_last : List ℕ
    pool_last = pool_all f k.calls pool_first

    -- what the caller has noted: from the numbers returned, the answer slices, and what the pool shows
    abbrev pub diary : Past
    diary = noted_all f k.calls pool_first (fresh (state_in pool_first))

    -- the cells of a table
    abbrev pub N : ℕ
    N = diary.store.sizes.n

    -- the machine's opened state, and the machine's calls; a call with a short slice is none, nor is the check
    abbrev pub machine_first : State
    machine_first = opened k.cells k.handles k.tasks (length k.words) (lie_of (sizes_of k.cells k.handles k.tasks (length k.words)) k.words)

    abbrev pub machine_calls : List Call
    machine_calls = calls_in f k.calls pool_first

    -- ---- demand 2: of every kept store

    -- Each call does to the store what the rule book's machine does: the pool shows the machine's state.
    abbrev pub MachineState : Type 0
    MachineState = state_in pool_last ≡ (run machine_first machine_calls).0

    -- Each call answers what the machine answers: the number, and all 16 words.
    abbrev pub MachineAnswers : Type 0
    MachineAnswers = told_all f k.calls pool_first ≡ tellings (run machine_first machine_calls).1

    -- What the caller has noted is the machine's history, to the last figure.
    abbrev pub MachineHistory : Type 0
    MachineHistory = diary ≡ past machine_first machine_calls

    -- The pool is a sound store.
    abbrev pub StaysSound : Type 0
    StaysSound = (d : Sizes) × Sound d pool_last

    -- The check tells 0, after any calls.
    abbrev pub CheckPasses : Type 0
    CheckPasses = (a : List ℕ) → 16 ≤ length a → (number_of f Check pool_last a ≡ 0) × (take 16 (answer_after f Check pool_last a) ≡ replicate 16 0)

    -- Every value that a get ended with, and every value that a page handed out, is the functional array's value of that version at that cell.
    abbrev pub Reads : Type 0
    Reads = Every (IsRead diary) diary.gets × Every (IsRead diary) diary.pages

    -- Each get and page that has ended has handed out its cells, each once, in rising order, and nothing else.
    abbrev pub ReadsInOrder : Type 0
    ReadsInOrder = Every (λ (e : Ended). HasGiven diary e.work e.given) diary.ends

    -- Where the pages on one version have handed out each cell once, their values by cell are exactly that version's table, whatever was called between.
    abbrev pub PagesJoin : Type 0
    PagesJoin = (h : ℕ) → let l = by_cell (on_version h diary.pages) in cells_of l ≡ up_to N → values_of l ≡ table_of diary.versions h

    -- So for any choice of hand-outs of one version that covers each cell once.
    abbrev pub PagesJoinAny : Type 0
    PagesJoinAny = (h : ℕ) (l : List Value) → Every (λ (r : Value). In r diary.pages × (r.handle ≡ h)) l → cells_of l ≡ up_to N → values_of l ≡ table_of diary.versions h

    -- What a live handle shows is its version's table, as the functional array's new and set have made it.
    abbrev pub Tables : Type 0
    Tables = (h : ℕ) → live_handle diary.store h ≡ true → shown diary.store h ≡ table_of diary.versions h

    -- No public number was given to two versions.
    abbrev pub NumbersOnce : Type 0
    NumbersOnce = Once diary.versions

    -- ---- demand 3: of every kept store

    -- All steps spent by sets, unfinished ones too, are at most 12 for each set that found its version not yet set and 5N + 3 for each later one.
    abbrev pub SetsBound : Type 0
    SetsBound = diary.set_steps ≤ sets_bound N diary.firsts diary.laters

    -- No get took more than 3 steps and the binary digits of N, no page more than so many for each cell; a set at most 5N + 3, a new N + 1.
    abbrev pub Priced : Type 0
    Priced = Every (λ (e : Ended). e.told ≤ price N e.work) diary.ends

    -- A busy task has always taken fewer steps than its price, in any order of the tasks' steps.
    abbrev pub BusyBelow : Type 0
    BusyBelow = (t : ℕ) → busy (task_at diary.store t).stage ≡ true → diary.counts t < price N (diary.works t)

    -- The steps that a final answer tells are the accepted step calls of that task since its start, one refused 10 counted.
    abbrev pub StepsCounted : Type 0
    StepsCounted = Every (λ (e : Ended). e.told ≡ e.counted) diary.ends

    -- Exactly: new takes N + 1, a set in place 4, a copying set 3 + 4N and its probes; 10 comes at step 1 of a new and at step 2 of a set.
    abbrev pub StepsExact : Type 0
    StepsExact = Every (λ (e : Ended). (operation e.last ≡ work_code e.work) × Spent N e.last e.told e.probes) diary.ends
