-- Builds that do nothing useful, as document 01 lists them, and a check that always says yes: each breaks a promise, whatever else it does.
-- Rests on Promises and on the machine's answers to a few calls, which are computed.
use Rattle.std.specs.Prelude.{◌+◌, ◌≤◌, ℕ, false, true, List, [], ◌++◌, ◌∷◌, ◌⊎◌, ◌≡◌, refl, get_or, length, replicate, None, Option, Some}
use Rattle.std.proofs.Common.{⊎_elim, ◌∙◌, ap, sym, arith}
use Rattle.std.proofs.lemmas.List.{length-replicate}
use Rattle.bridge.specs.Asked.{Asked, Get, LookTask, New, Open, Set, Step, call_of}
use Rattle.bridge.specs.Sound.{Sound}
use Rattle.block.specs.Layout.{cell_ix}
use Rattle.layout.specs.Header.{header_of, sizes_of}
use Rattle.layout.specs.Parts.{part}
use Rattle.layout.specs.Places.{block_part}
use Rattle.layout.specs.Pool.{lie_of}
use Rattle.rulebook.specs.Answers.{stage_code}
use Rattle.rulebook.specs.declared.Sizes.{Sizes}
use Rattle.rulebook.specs.History.{Ended, run}
use Rattle.rulebook.specs.Machine.{Call, call, look_task}
use Rattle.rulebook.specs.Sizes.{block_words, control_words, last_serial, opens, room}
use Rattle.rulebook.specs.Starts.{Lie, begun, opened, reserve, start_get, start_new, start_set, startable}
use Rattle.rulebook.specs.State.{State, any, block_at, cell_at, count, filling, free_block, free_slot, held, in_use, list_to, live_handle, lowest, stood, task_at, with_block, with_cell, with_log, with_slot, with_task, with_version}
use Rattle.rulebook.specs.Steps.{aimed, counted, exchanged, filled, finished, get_step, got_copy, got_get, got_page, moved, no_room, probed, step, step_at, taken}
use Rattle.theorems.specs.Proofs.Lists.{every_in}
use Rattle.theorems.specs.Terms.{In}
use Rattle.promises.specs.Promised.{Promised}
use Rattle.promises.specs.Promises.{Kept, diary, machine_calls, machine_first, pool_first, pool_last}
use Rattle.promises.specs.Said.{Ask, Build, Check, Spoken, answer_after, calls_in, is_open, number_of, pool_after, pool_all, state_in, tellings, told, told_all, word_of}
use Rattle.rulebook.specs.Machine as machine

-- ---- a few calls

-- with an answer slice of 16 words
abbrev slice : List ℕ
slice = replicate 16 0

abbrev said : Asked → Spoken
said x = record { call = Ask x; slice = slice }

-- new 7, and n steps of its task
abbrev making : ℕ → List Spoken
making n = said (New 0 7) ∷ replicate n (said (Step 0))

-- new 7; it is set to 9; a get of the older version, with a look after its first step
abbrev watching : List Spoken
watching = making 2 ++ (said (Set 0 256 0 9) ∷ replicate 4 (said (Step 0))) ++ (said (Get 0 256 0) ∷ said (Step 0) ∷ said (LookTask 0) ∷ replicate 3 (said (Step 0)))

-- new 7 of n cells; its cell 1 is set to 9; a set of the older version, which copies it, up to the first step that writes to the copy
abbrev copying : ℕ → List Spoken
copying n = making (n + 1) ++ (said (Set 0 256 1 9) ∷ replicate 4 (said (Step 0))) ++ (said (Set 0 256 0 5) ∷ replicate 6 (said (Step 0)))

-- the machine's
abbrev makes : ℕ → List Call
makes n = machine.New 0 7 ∷ replicate n (machine.Step 0)

abbrev watches : List Call
watches =
    makes 2 ++ (machine.Set 0 256 0 9 ∷ replicate 4 (machine.Step 0)) ++ (machine.Get 0 256 0 ∷ machine.Step 0 ∷ machine.LookTask 0 ∷ replicate 3 (machine.Step 0))

abbrev copies : ℕ → List Call
copies n = makes (n + 1) ++ (machine.Set 0 256 1 9 ∷ replicate 4 (machine.Step 0)) ++ (machine.Set 0 256 0 5 ∷ replicate 6 (machine.Step 0))

-- word j of what call i told
abbrev told_word : List (ℕ × List ℕ) → ℕ → ℕ → ℕ
told_word l i j = word_of (get_or l i (0, [])).1 j

abbrev stage_in : State → ℕ
stage_in s = stage_code (task_at s 0).stage

-- what the machine does, whatever lies in the blocks
pub record Does (lie : Lie) : Type 0 where
  -- a new that may start is accepted
  pub accepts_new : (get_or (tellings (run (opened 1 1 1 88 lie) (makes 0)).1) 0 (0, [])).0 ≡ 0
  -- the first step of a new tells nothing, its last that it ends
  pub tells_nothing : told_word (tellings (run (opened 1 1 1 88 lie) (makes 2)).1) 1 0 ≡ 0
  pub tells_end : told_word (tellings (run (opened 1 1 1 88 lie) (makes 2)).1) 2 0 ≡ 2
  -- the first step goes from stage 1, take a block, to stage 2, fill
  pub stage_takes : stage_in (run (opened 1 1 1 88 lie) (makes 0)).0 ≡ 1
  pub stage_fills : stage_in (run (opened 1 1 1 88 lie) (makes 1)).0 ≡ 2
  -- of two cells, the first filling step of a new writes the first and leaves the second as it lay; so does that of a copy
  pub fills_first : cell_at (block_at (run (opened 2 1 1 108 lie) (makes 2)).0 0) 0 ≡ 7
  pub fills_no_other : cell_at (block_at (run (opened 2 1 1 108 lie) (makes 2)).0 0) 1 ≡ lie.cell 0 1
  pub copies_first : cell_at (block_at (run (opened 2 3 1 172 lie) (copies 2)).0 1) 0 ≡ 7
  pub copies_no_other : cell_at (block_at (run (opened 2 3 1 172 lie) (copies 2)).0 1) 1 ≡ lie.cell 1 1
  -- after its first step the get has guess 9 and no candidate; it ends with 7
  pub guess : told_word (tellings (run (opened 1 2 1 92 lie) watches).1) 10 5 ≡ 9
  pub candidate : told_word (tellings (run (opened 1 2 1 92 lie) watches).1) 10 6 ≡ 0
  pub ends_with : told_word (tellings (run (opened 1 2 1 92 lie) watches).1) 13 4 ≡ 7

does : (lie : Lie) → Does lie
unfolding run call opened opens room control_words block_words last_serial with_block with_slot with_task with_version with_cell with_log any lowest count list_to stood filling held free_block free_slot live_handle in_use startable reserve begun start_new start_get start_set moved aimed counted probed get_step finished no_room taken filled got_get got_page got_copy exchanged step_at step look_task tellings
does lie =
    record { accepts_new = refl; tells_nothing = refl; tells_end = refl; stage_takes = refl; stage_fills = refl; fills_first = refl; fills_no_other = refl; copies_first = refl; copies_no_other = refl; guess = refl; candidate = refl; ends_with = refl }

-- a store of n cells, h handles and one task that was opened in a pool of so many zeros, and the calls
abbrev kept : (f : Build) → Promised f → (n h words : ℕ) → opens n h 1 words ≡ true → List Spoken → Kept f
kept f P n h words o cs =
    record { words = replicate words 0; cells = n; handles = h; tasks = 1; slice = slice; accepted = (P.open_due n h 1 (replicate words 0) slice (omega arith)).0 ∙ rw (length-replicate {A = ℕ} words 0, o); calls = cs }

-- what lies in its blocks
abbrev lies : ℕ → ℕ → ℕ → Lie
lies n h words = lie_of (sizes_of n h 1 (length (replicate {A = ℕ} words 0))) (replicate words 0)

-- ---- refusing always: every open returns a number other than 0, or every other call does

abbrev pub RefusingOpens : Build → Type 0
RefusingOpens f = (n h t : ℕ) (p a : List ℕ) → number_of f (Ask (Open n h t)) p a ≡ 0 → ⊥

pub not_refusing_opens : (f : Build) → RefusingOpens f → Promised f → ⊥
unfolding opens room control_words block_words
not_refusing_opens f r P = r 1 1 1 (replicate 88 0) slice (P.open_due 1 1 1 (replicate 88 0) slice (omega arith)).0

abbrev pub Refusing : Build → Type 0
Refusing f = (x : Asked) (p a : List ℕ) → is_open x ≡ false → number_of f (Ask x) p a ≡ 0 → ⊥

pub not_refusing : (f : Build) → Refusing f → Promised f → ⊥
unfolding opens room control_words block_words told_all calls_in call_of
not_refusing f r P =
    r (New 0 7) _ slice refl (ap (λ (l : List (ℕ × List ℕ)). (get_or l 0 (0, [])).0) (P.machine_answers (kept f P 1 1 88 refl (making 0))) ∙ (does (lies 1 1 88)).accepts_new)

-- ---- one constant reply to every step

abbrev pub Constant : Build → Type 0
Constant f = (r : ℕ × List ℕ) × ((t : ℕ) (p a : List ℕ) → 16 ≤ length a → told (f (Ask (Step t)) p a) ≡ r)

pub not_constant : (f : Build) → Constant f → Promised f → ⊥
unfolding opens room control_words block_words told_all calls_in call_of
not_constant f c P =
    let k = kept f P 1 1 88 refl (making 2) in
    let told = P.machine_answers k in
    let same : told_word (told_all f (making 2) (pool_first f k)) 1 0 ≡ told_word (told_all f (making 2) (pool_first f k)) 2 0 = ap (λ (z : ℕ × List ℕ). word_of z.1 0) (c.1 0 _ slice (omega arith) ∙ sym (c.1 0 _ slice (omega arith))) in
    let z : ◌≡◌ {A = ℕ} 0 2 =
    sym (ap (λ (l : List (ℕ × List ℕ)). told_word l 1 0) told ∙ (does (lies 1 1 88)).tells_nothing)
    ∙ same
    ∙ ap (λ (l : List (ℕ × List ℕ)). told_word l 2 0) told ∙ (does (lies 1 1 88)).tells_end in
    omega arith

-- ---- a step that does nothing: it leaves the pool as it was

abbrev pub Idle : Build → Type 0
Idle f = (t : ℕ) (p a : List ℕ) → pool_after f (Ask (Step t)) p a ≡ p

pub not_idle : (f : Build) → Idle f → Promised f → ⊥
unfolding opens room control_words block_words pool_all calls_in call_of
not_idle f c P =
    let z : ◌≡◌ {A = ℕ} 2 1 =
    sym (ap stage_in (P.machine_state (kept f P 1 1 88 refl (making 1))) ∙ (does (lies 1 1 88)).stage_fills)
    ∙ ap (λ (p : List ℕ). stage_in (state_in p)) (c 0 _ slice)
    ∙ ap stage_in (P.machine_state (kept f P 1 1 88 refl (making 0))) ∙ (does (lies 1 1 88)).stage_takes in
    omega arith

-- ---- the whole read in the first step: a look after it shows, as guess or as candidate, the value that the get ends with

abbrev pub AtOnce : Build → Type 0
AtOnce f = (k : Kept f) → k.calls ≡ watching → 2 ≤ k.handles → let l = told_all f watching (pool_first f k) in (told_word l 10 5 ≡ told_word l 13 4) ⊎ (told_word l 10 6 ≡ told_word l 13 4)

pub not_at-once : (f : Build) → AtOnce f → Promised f → ⊥
unfolding opens room control_words block_words calls_in call_of
not_at-once f c P =
    let k = kept f P 1 2 92 refl watching in
    let l = told_all f watching (pool_first f k) in
    let is : (i j : ℕ) → told_word l i j ≡ _ = λ i j. ap (λ (m : List (ℕ × List ℕ)). told_word m i j) (P.machine_answers k) in
    let w = does (lies 1 2 92) in
    ⊎_elim
    (λ (e : told_word l 10 5 ≡ told_word l 13 4). let z : ◌≡◌ {A = ℕ} 9 7 = sym (is 10 5 ∙ w.guess) ∙ e ∙ is 13 4 ∙ w.ends_with in omega arith)
    (λ (e : told_word l 10 6 ≡ told_word l 13 4). let z : ◌≡◌ {A = ℕ} 0 7 = sym (is 10 6 ∙ w.candidate) ∙ e ∙ is 13 4 ∙ w.ends_with in omega arith)
    (c k refl (omega arith))

-- ---- a block filled, or copied, in one step: where the machine has written 7 to its first cell only, none is written yet or the second is 7 too

-- cell i of block b
abbrev cell_in : List ℕ → ℕ → ℕ → ℕ
cell_in p b i = cell_at (block_at (state_in p) b) i

abbrev pub InOneStep : (f : Build) → Kept f → ℕ → Type 0
InOneStep f k b = (cell_in (pool_last f k) b 0 ≡ cell_in (pool_first f k) b 0) ⊎ (cell_in (pool_last f k) b 1 ≡ 7)

-- after the first filling step of new 7
abbrev pub Filled : Build → Type 0
Filled f = (k : Kept f) → k.calls ≡ making 2 → 2 ≤ k.cells → InOneStep f k 0

-- after the first step of a copying set that writes to the copy, where there are handles and blocks enough
abbrev pub Copied : Build → Type 0
Copied f =
    (k : Kept f) → k.calls ≡ copying k.cells → 2 ≤ k.cells → 3 ≤ k.handles → 2 ≤ room k.cells k.handles k.tasks (length k.words) → InOneStep f k 1

-- in a pool of zeros the cells are 0 before they are written
lay : ((lies 2 1 108).cell 0 0 ≡ 0) × ((lies 2 1 108).cell 0 1 ≡ 0) × ((lies 2 3 172).cell 1 0 ≡ 0) × ((lies 2 3 172).cell 1 1 ≡ 0)
unfolding lie_of block_part part cell_ix control_words block_words room
lay = (refl, refl, refl, refl)

-- a store in whose block b 0 lay in the first cell; the machine has written 7 to it, and not yet to the second
not_in_one-step : (f : Build) → Promised f → (k : Kept f) (b : ℕ) → cell_at (block_at (machine_first f k) b) 0 ≡ 0 → let x = block_at (run (machine_first f k) (machine_calls f k)).0 b in cell_at x 0 ≡ 7 → cell_at x 1 ≡ 0 → InOneStep f k b → ⊥
unfolding pool_all calls_in run
not_in_one-step f P k b before first second =
    let new : Kept f = record { words = k.words; cells = k.cells; handles = k.handles; tasks = k.tasks; slice = k.slice; accepted = k.accepted; calls = [] } in
    let was : cell_in (pool_first f k) b 0 ≡ 0 = ap (λ (s : State). cell_at (block_at s b) 0) (P.machine_state new) ∙ before in
    let is : (i : ℕ) → cell_in (pool_last f k) b i ≡ _ = λ i. ap (λ (s : State). cell_at (block_at s b) i) (P.machine_state k) in
    ⊎_elim
    (λ (e : cell_in (pool_last f k) b 0 ≡ cell_in (pool_first f k) b 0). let z : ◌≡◌ {A = ℕ} 7 0 = sym (is 0 ∙ first) ∙ e ∙ was in omega arith)
    (λ (e : cell_in (pool_last f k) b 1 ≡ 7). let z : ◌≡◌ {A = ℕ} 0 7 = sym (is 1 ∙ second) ∙ e in omega arith)

pub not_filled : (f : Build) → Filled f → Promised f → ⊥
unfolding opens room control_words block_words calls_in call_of opened list_to
not_filled f c P =
    let k = kept f P 2 1 108 refl (making 2) in
    let w = does (lies 2 1 108) in
    not_in_one-step f P k 0 lay.0 w.fills_first (w.fills_no_other ∙ lay.1) (c k refl (omega arith))

pub not_copied : (f : Build) → Copied f → Promised f → ⊥
unfolding opens room control_words block_words calls_in call_of opened list_to
not_copied f c P =
    let k = kept f P 2 3 172 refl (copying 2) in
    let w = does (lies 2 3 172) in
    not_in_one-step f P k 1 lay.2 w.copies_first (w.copies_no_other ∙ lay.3) (c k refl (omega arith) (omega arith) (omega arith))

-- ---- a made-up count: a final answer tells other than the accepted steps of its task

abbrev pub MadeUp : Build → Type 0
MadeUp f = (k : Kept f) × (e : Ended) × In e (diary f k).ends × (e.told ≡ e.counted → ⊥)

pub not_made-up : (f : Build) → MadeUp f → Promised f → ⊥
not_made-up f m P = m.3 (every_in (P.steps_counted m.0) m.2)

-- ---- a check that always says yes

abbrev pub AlwaysYes : Build → Type 0
AlwaysYes f = (p a : List ℕ) → 16 ≤ length a → word_of (answer_after f Check p a) 0 ≡ 0

-- a pool of no words is no store
no_store : (d : Sizes) → Sound d [] → ⊥
unfolding header_of
no_store d S = let z : ◌≡◌ {A = ℕ} 0 1 = ap good S.header in omega arith
  where
    good : Option Sizes → ℕ
    good None = 0
    good (Some c) = 1

pub not_always_yes : (f : Build) → AlwaysYes f → Promised f → ⊥
not_always_yes f c P = let s = (P.check_sound [] slice (omega arith)).0 (c [] slice (omega arith)) in no_store s.0 s.1
