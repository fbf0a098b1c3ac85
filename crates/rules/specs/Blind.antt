-- No call looks at an amount: to erase the amounts after a call or before it gives the same state.
-- Rests on Erase.
use Rattle.std.specs.Prelude.{◌+◌, ℕ, Bool, ◌||◌, false, not, true, List, [], ◌++◌, ◌∷◌, ◌≡◌, refl, eqb, leb, ltb, length, replicate, if◌then◌else◌}
use Rattle.std.proofs.Common.{◌∙◌, ap, ap₂, sym}
use Rattle.std.proofs.Math.Path.{fun_ext}
use Rattle.std.proofs.lemmas.List.{length-map}
use Rattle.rulebook.specs.declared.Entry.{Entry}
use Rattle.rulebook.specs.declared.Hand.{Hand}
use Rattle.rulebook.specs.declared.Progress.{Progress}
use Rattle.rulebook.specs.declared.Progress.TheVariants.{Going, Settled}
use Rattle.rulebook.specs.declared.Reading.{Reading}
use Rattle.rulebook.specs.declared.Reading.TheVariants.{Guess, Length, Probe, Version}
use Rattle.rulebook.specs.declared.Stage.{Stage}
use Rattle.rulebook.specs.declared.Stage.TheVariants.{Append, Copying, Exchange, FillCopy, FillNew, Getting, Idle, Paging, Put, Read, TakeCopy, TakeNew, Write}
use Rattle.rulebook.specs.declared.Task.{Task}
use Rattle.rulebook.specs.Machine.{Call, Get, LookCell, LookEntry, LookLog, LookTask, LookVersion, New, Open, Page, Release, Report, Set, Step, call, release}
use Rattle.rulebook.specs.Sizes.{opens, room, slot_of}
use Rattle.rulebook.specs.Starts.{Lie, begun, no_slot, opened, opening, reserve, start_get, start_new, start_page, start_set, startable}
use Rattle.rulebook.specs.State.{Block, Result, State, block_at, cell_at, entry_at, free_block, free_slot, freed, hand_of, idle, in_use, list_to, live_handle, log_at, slot_at, task_at, with_block, with_cell, with_log, with_slot, with_task, with_version}
use Rattle.rulebook.specs.Steps.{aimed, answer, appended, counted, exchanged, filled, finished, get_step, got_copy, got_get, got_page, guessed, here_of, kept, lowered, middle, moved, no_room, probed, searching, step, step_at, taken}
use Rattle.rules.specs.Erase.{erase, erase-answer, erase_block_lem, erase-cell, erase-change, erase_entry_lem, erase_free, erase_log_lem, erase-startable, erase_task_lem, erase-used, erase-with_cell, erase-with_log, erase-with_task, erase_block, erase_call, erase_entry, erase_hand, erase_lie, erase_log, erase_task, map_append, map_list_to, map_replicate}

-- ---- a get's step

abbrev pub erase_progress : Progress → Progress
erase_progress (Going r w) = Going r (erase_hand w)
erase_progress (Settled w) = Settled (erase_hand w)

-- the branches of two tests that are one
both : {A B : Type 0} (P : A → B → Type 0) (b : Bool) {c : Bool} {x y : A} {x' y' : B} → c ≡ b → P x x' → P y y' → P (if b then x else y) (if c then x' else y')
both P true e p q = rw e p
both P false e p q = rw e q

erase-probed : (l : List Entry) (n : ℕ) (w : Hand) → erase_hand (probed l n w) ≡ probed (erase_log l) n (erase_hand w)
unfolding probed
erase-probed l n w =
    both (λ (p q : Hand). erase_hand p ≡ q) (leb n (entry_at l (middle w)).version) (ap (λ (e : Entry). leb n e.version) (erase_entry_lem l (middle w)))
    (ap (λ (e : Entry). lowered (middle w) (kept e (erase_hand w))) (sym (erase_entry_lem l (middle w)))) refl

-- a get's progress p becomes q
abbrev Same : Progress → Progress → Type 0
Same p q = erase_progress p ≡ q

pub erase-get_step : (r : Reading) (b : Block) (n : ℕ) (w : Hand) → erase_progress (get_step r b n w) ≡ get_step r (erase_block b) n (erase_hand w)
unfolding get_step
erase-get_step Guess b n w = ap (λ (v : ℕ). Going Version (guessed (erase_hand w) v)) (sym (erase-cell b w.cell))
erase-get_step Version b n w = both Same (eqb b.version n) refl refl refl
erase-get_step Length b n w =
    both Same (eqb (length (log_at b w.cell)) 0) (ap (λ (m : ℕ). eqb m 0) long) refl (ap (λ (m : ℕ). Going Probe (searching (erase_hand w) m)) (sym long))
  where
    long : length (log_at (erase_block b) w.cell) ≡ length (log_at b w.cell)
    long = ap length (erase_log_lem b w.cell) ∙ length-map (log_at b w.cell) erase_entry
erase-get_step Probe b n w =
    let q = probed (log_at b w.cell) n w in
    both Same (eqb q.lo q.hi) (ap (λ (x : Hand). eqb x.lo x.hi) (sym found)) (ap Settled found) (ap (Going Probe) found)
  where
    found : erase_hand (probed (log_at b w.cell) n w) ≡ probed (log_at (erase_block b) w.cell) n (erase_hand w)
    found = erase-probed (log_at b w.cell) n w ∙ ap (λ (l : List Entry). probed l n (erase_hand w)) (sym (erase_log_lem b w.cell))

-- ---- the ways of a step

-- a result's state, erased, is the other's
abbrev Blind : Result → Result → Type 0
Blind x y = erase x.0 ≡ y.0

erase-filled : (s : State) (k : Task) (i v : ℕ) → erase (filled s k i v) ≡ filled (erase s) (erase_task k) i 0
unfolding filled
erase-filled s k i v =
    erase-change s k.target (λ (b : Block). with_log (with_cell b i v) i []) (λ (b : Block). with_log (with_cell b i 0) i [])
    (λ b. erase-with_log (with_cell b i v) i [] ∙ ap (λ (c : Block). with_log c i []) (erase-with_cell b i v))

-- a change of the state, then of the task
erase_then : (s s' : State) (t : ℕ) (k : Task) → erase s ≡ s' → erase (with_task s t k) ≡ with_task s' t (erase_task k)
erase_then s s' t k e = erase-with_task s t k ∙ ap (λ (z : State). with_task z t (erase_task k)) e

-- and the task goes one of two ways
erase_either : (s s' : State) (t : ℕ) (b : Bool) (k j : Task) → erase s ≡ s' → erase (with_task s t (if b then k else j)) ≡ with_task s' t (if b then erase_task k else erase_task j)
erase_either s s' t true k j e = erase_then s s' t k e
erase_either s s' t false k j e = erase_then s s' t j e

-- a task goes on by a get's progress
erase-got : (s : State) (t : ℕ) (k : Task) (q : Progress) → Blind (got_get q s t k) (got_get (erase_progress q) (erase s) t (erase_task k)) × Blind (got_page q s t k) (got_page (erase_progress q) (erase s) t (erase_task k)) × Blind (got_copy q s t k) (got_copy (erase_progress q) (erase s) t (erase_task k))
unfolding got_get got_page got_copy moved
erase-got s t k (Going r w) = (erase-with_task s t _, erase-with_task s t _, erase-with_task s t _)
erase-got s t k (Settled w) =
    (erase-with_task s t _, both Blind (eqb (w.cell + 1) k.until) refl (erase-with_task s t _) (erase-with_task s t _), erase-with_task s t _)

-- it ends with a handle
erase-finished : (s s' : State) (t : ℕ) (k : Task) (b n : ℕ) → erase s ≡ s' → Blind (finished s t k b n) (finished s' t (erase_task k) b n)
unfolding finished with_slot
erase-finished s s' t k b n e = erase-with_task (with_slot s k.fresh _) t idle ∙ ap (λ (z : State). (finished z t (erase_task k) b n).0) e

-- it takes a block, or is refused 10
erase-taken : (s : State) (t : ℕ) (k : Task) (g : Stage) → Blind (taken s t k g) (taken (erase s) t (erase_task k) g)
unfolding taken no_room with_slot aimed moved with_version
erase-taken s t k g =
    both Blind (leb s.sizes.b (free_block s)) (ap (leb s.sizes.b) (erase_free s))
    (erase-with_task (with_slot s k.fresh (freed (slot_at s k.fresh).serial)) t idle)
    (erase_then (with_block s (free_block s) (with_version (block_at s (free_block s)) 0)) _ t (aimed (moved k g (hand_of 0)) (free_block s)) (erase-change s (free_block s) (λ (b : Block). with_version b 0) (λ (b : Block). with_version b 0) (λ b. refl))
    ∙ ap (λ (b : ℕ). with_task (with_block (erase s) b (with_version (block_at (erase s) b) 0)) t (aimed (moved (erase_task k) g (hand_of 0)) b)) (sym (erase_free s)))

-- the get in hand, on the erased block
erase-reads : (r : Reading) (s : State) (k : Task) → erase_progress (get_step r (here_of s k) k.number k.hand) ≡ get_step r (here_of (erase s) k) k.number (erase_hand k.hand)
erase-reads r s k = erase-get_step r (here_of s k) k.number k.hand ∙ ap (λ (b : Block). get_step r b k.number (erase_hand k.hand)) (sym (erase_block_lem s k.block))

erase-appended : (b : Block) (i n v : ℕ) → erase_block (appended b i n v) ≡ appended (erase_block b) i n 0
erase-appended b i n v =
    erase-with_log b i (log_at b i ++ (record { version = n; old = v } ∷ []))
    ∙ ap (λ (l : List Entry). with_log (erase_block b) i l) (map_append erase_entry (log_at b i) (record { version = n; old = v } ∷ []) ∙ ap (λ (l : List Entry). l ++ (record { version = n; old = 0 } ∷ [])) (sym (erase_log_lem b i)))

-- ---- every stage

pub erase-step_at : (g : Stage) (s : State) (t : ℕ) (k : Task) → Blind (step_at g s t k) (step_at g (erase s) t (erase_task k))
unfolding step_at exchanged moved with_version
erase-step_at Idle s t k = refl
erase-step_at TakeNew s t k = erase-taken s t k FillNew
erase-step_at FillNew s t k =
    both Blind (eqb (k.hand.cell + 1) s.sizes.n) refl
    (erase-finished _ _ t k k.target 0 (erase-filled s k k.hand.cell k.value))
    (erase_then _ _ t _ (erase-filled s k k.hand.cell k.value))
erase-step_at (Getting r) s t k = (erase-got s t k (get_step r (here_of s k) k.number k.hand)).0 ∙ ap (λ (q : Progress). (got_get q (erase s) t (erase_task k)).0) (erase-reads r s k)
erase-step_at Exchange s t k =
    both Blind (eqb (here_of s k).version k.number) (ap (λ (b : Block). eqb b.version k.number) (erase_block_lem s k.block))
    (erase_either _ _ t (ltb k.number s.sizes.n) (moved k Read k.hand) (moved k TakeCopy (hand_of 0))
    (erase-change s k.block (λ (b : Block). with_version b (k.number + 1)) (λ (b : Block). with_version b (k.number + 1)) (λ b. refl)))
    (erase-with_task s t _)
erase-step_at Read s t k = erase-with_task s t _ ∙ ap (λ (v : ℕ). with_task (erase s) t (moved (erase_task k) Append (guessed k.hand v))) (sym (ap (λ (b : Block). cell_at b k.cell) (erase_block_lem s k.block) ∙ erase-cell (here_of s k) k.cell))
erase-step_at Append s t k =
    erase_then _ _ t _
    (erase-change s k.block (λ (b : Block). appended b k.cell k.number k.hand.guess) (λ (b : Block). appended b k.cell k.number 0) (λ b. erase-appended b k.cell k.number k.hand.guess))
erase-step_at Write s t k =
    erase-finished _ _ t k k.block (k.number + 1)
    (erase-change s k.block (λ (b : Block). with_cell b k.cell k.value) (λ (b : Block). with_cell b k.cell 0) (λ b. erase-with_cell b k.cell k.value))
erase-step_at TakeCopy s t k = erase-taken s t k (Copying Guess)
erase-step_at (Copying r) s t k = (erase-got s t k (get_step r (here_of s k) k.number k.hand)).2 ∙ ap (λ (q : Progress). (got_copy q (erase s) t (erase_task k)).0) (erase-reads r s k)
erase-step_at FillCopy s t k =
    erase_either _ _ t (eqb (k.hand.cell + 1) s.sizes.n) (moved k Put (hand_of k.cell)) (moved k (Copying Guess) (hand_of (k.hand.cell + 1)))
    (erase-filled s k k.hand.cell (answer k.hand) ∙ ap (λ (v : ℕ). filled (erase s) (erase_task k) k.hand.cell v) (sym (erase-answer k.hand)))
erase-step_at Put s t k = erase-finished _ _ t k k.target 0 (erase-filled s k k.cell k.value)
erase-step_at (Paging r) s t k = (erase-got s t k (get_step r (here_of s k) k.number k.hand)).1 ∙ ap (λ (q : Progress). (got_page q (erase s) t (erase_task k)).0) (erase-reads r s k)

-- ---- every call

pub erase-opened : (n h t w : ℕ) (lie : Lie) → erase (opened n h t w lie) ≡ opened n h t w (erase_lie lie)
unfolding opened
erase-opened n h t w lie =
    ap₂ (λ (ks : List Task) (bs : List Block). record { sizes = record { n = n; h = h; t = t; b = room n h t w }; slots = replicate h (freed 0); tasks = ks; blocks = bs })
    (map_replicate erase_task t idle)
    (map_list_to erase_block (room n h t w) (λ (k : ℕ). record { version = lie.version k; cells = list_to n (lie.cell k); logs = list_to n (lie.log k) })
    ∙ ap (list_to (room n h t w)) (fun_ext (λ k. ap₂ (λ (cs : List ℕ) (ls : List (List Entry)). record { version = lie.version k; cells = cs; logs = ls }) (map_list_to (λ (v : ℕ). 0) n (lie.cell k)) (map_list_to erase_log n (lie.log k)))))

may-start : (s : State) (t : ℕ) → not (eqb (startable (erase s) t) 0) ≡ not (eqb (startable s t) 0)
may-start s t = ap (λ (n : ℕ). not (eqb n 0)) (erase-startable s t)

pub erase_call_lem : (c : Call) (s : State) → erase (call c s).0 ≡ (call (erase_call c) (erase s)).0
unfolding call opening start_new start_get start_set start_page release step begun reserve with_slot counted free_slot live_handle
erase_call_lem (Open n h t w lie) s = both Blind (opens n h t w) refl (erase-opened n h t w lie) refl
erase_call_lem (New t v) s = both Blind (not (eqb (startable s t) 0)) (may-start s t) refl (both Blind (no_slot s) refl refl (erase-with_task (reserve s) t _))
erase_call_lem (Get t h i) s =
    both Blind (not (eqb (startable s t) 0)) (may-start s t) refl
    (both Blind (not (live_handle s h)) refl refl (both Blind (leb s.sizes.n i) refl refl (erase-with_task s t _)))
erase_call_lem (Set t h i v) s =
    both Blind (not (eqb (startable s t) 0)) (may-start s t) refl
    (both Blind (not (live_handle s h)) refl refl (both Blind (leb s.sizes.n i) refl refl (both Blind (no_slot s) refl refl (erase-with_task (reserve s) t _))))
erase_call_lem (Page t h from m) s =
    both Blind (not (eqb (startable s t) 0)) (may-start s t) refl
    (both Blind (not (live_handle s h)) refl refl (both Blind (eqb m 0 || ltb s.sizes.n (from + m)) refl refl (erase-with_task s t _)))
erase_call_lem (Step t) s =
    both Blind (leb s.sizes.t t) refl refl
    (erase-step_at (task_at s t).stage s t (counted (task_at s t)) ∙ ap (λ (k : Task). (step_at k.stage (erase s) t (counted k)).0) (sym (erase_task_lem s t)))
erase_call_lem (Release h) s = both Blind (not (live_handle s h)) refl refl (both Blind (in_use s (slot_of h)) (erase-used s (slot_of h)) refl refl)
erase_call_lem (LookVersion b) s = refl
erase_call_lem (LookCell b i) s = refl
erase_call_lem (LookLog b i) s = refl
erase_call_lem (LookEntry b i j) s = refl
erase_call_lem (LookTask t) s = refl
erase_call_lem Report s = refl
