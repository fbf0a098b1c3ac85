-- Every call keeps the lengths of a store's lists.
-- Rests on the machine's definitions.
use Rattle.std.specs.Prelude.{◌%◌, ◌+◌, ◌<◌, ◌≤◌, suc, zero, ℕ, ◌||◌, not, true, List, [], ◌++◌, ◌∷◌, ◌≡◌, eqb, leb, ltb, get_or, length, set}
use Rattle.std.proofs.Common.{◌∙◌, length-set, leb-true}
use Rattle.std.proofs.lemmas.List.{length-replicate}
use Rattle.rulebook.specs.declared.Entry.{Entry}
use Rattle.rulebook.specs.declared.Progress.{Progress}
use Rattle.rulebook.specs.declared.Progress.TheVariants.{Going, Settled}
use Rattle.rulebook.specs.declared.Reading.TheVariants.{Guess}
use Rattle.rulebook.specs.declared.Slot.{Slot}
use Rattle.rulebook.specs.declared.Stage.{Stage}
use Rattle.rulebook.specs.declared.Stage.TheVariants.{Append, Copying, Exchange, FillCopy, FillNew, Getting, Idle, Paging, Put, Read, TakeCopy, TakeNew, Write}
use Rattle.rulebook.specs.declared.Task.{Task}
use Rattle.rulebook.specs.Lists.{list_to-length}
use Rattle.rulebook.specs.Machine.{Call, Get, LookCell, LookEntry, LookLog, LookTask, LookVersion, New, Open, Page, Release, Report, Set, Step, call, release}
use Rattle.rulebook.specs.Sizes.{most_cells, most_handles, opens, room, within}
use Rattle.rulebook.specs.Starts.{Lie, no_slot, opened, opening, reserve, start_get, start_new, start_page, start_set, startable}
use Rattle.rulebook.specs.State.{Block, Result, State, block_at, free_block, free_slot, idle, in_use, list_to, live_handle, log_at, no_block, with_block, with_cell, with_log, with_slot, with_task, with_version}
use Rattle.rulebook.specs.Steps.{answer, exchanged, filled, finished, got_copy, got_get, got_page, here_of, no_room, step, step_at, taken}
use Rattle.rulebook.specs.Tests.{and_both, if_case}
use Rattle.theorems.specs.Terms.{Every, more, none}

module _ {A : Type 0} {P : A → Type 0} where
  -- one element changed by a function that keeps P
  pub every_change : (f : A → A) → ((x : A) → P x → P (f x)) → {l : List A} → Every P l → (k : ℕ) (d : A) → Every P (set l k (f (get_or l k d)))
  every_change f keeps none k d = none
  every_change f keeps (more p e) zero d = more (keeps _ p) e
  every_change f keeps (more p e) (suc k) d = more p (every_change f keeps e k d)

pub record Wide (n : ℕ) (b : Block) : Type 0 where
  pub wide_cells : length b.cells ≡ n
  pub wide_logs : length b.logs ≡ n

pub record Shape (s : State) : Type 0 where
  pub slots_len : length s.slots ≡ s.sizes.h
  pub tasks_len : length s.tasks ≡ s.sizes.t
  pub blocks_len : length s.blocks ≡ s.sizes.b
  pub wide : Every (Wide s.sizes.n) s.blocks
  pub some_cells_lem : 0 < s.sizes.t → 0 < s.sizes.n
  pub few_slots : s.sizes.h ≤ 256

pub wide_ver : (n v : ℕ) (b : Block) → Wide n b → Wide n (with_version b v)
unfolding with_version
wide_ver n v b h = record { wide_cells = h.wide_cells; wide_logs = h.wide_logs }

pub wide-cell : (n i v : ℕ) (b : Block) → Wide n b → Wide n (with_cell b i v)
unfolding with_cell
wide-cell n i v b h = record { wide_cells = length-set b.cells i v ∙ h.wide_cells; wide_logs = h.wide_logs }

pub wide-log : (n i : ℕ) (l : List Entry) (b : Block) → Wide n b → Wide n (with_log b i l)
unfolding with_log
wide-log n i l b h = record { wide_cells = h.wide_cells; wide_logs = length-set b.logs i l ∙ h.wide_logs }

pub shape-task : (s : State) (t : ℕ) (k : Task) → Shape s → Shape (with_task s t k)
unfolding with_task
shape-task s t k h =
    record { slots_len = h.slots_len; tasks_len = length-set s.tasks t k ∙ h.tasks_len; blocks_len = h.blocks_len; wide = h.wide; some_cells_lem = h.some_cells_lem; few_slots = h.few_slots }

pub shape-slot : (s : State) (j : ℕ) (x : Slot) → Shape s → Shape (with_slot s j x)
unfolding with_slot
shape-slot s j x h =
    record { slots_len = length-set s.slots j x ∙ h.slots_len; tasks_len = h.tasks_len; blocks_len = h.blocks_len; wide = h.wide; some_cells_lem = h.some_cells_lem; few_slots = h.few_slots }

pub shape-block : (s : State) (k : ℕ) (f : Block → Block) → ((b : Block) → Wide s.sizes.n b → Wide s.sizes.n (f b)) → Shape s → Shape (with_block s k (f (block_at s k)))
unfolding with_block
shape-block s k f keeps h =
    record { slots_len = h.slots_len; tasks_len = h.tasks_len; blocks_len = length-set s.blocks k (f (block_at s k)) ∙ h.blocks_len; wide = every_change f keeps h.wide k no_block; some_cells_lem = h.some_cells_lem; few_slots = h.few_slots }

-- a result whose state has its shape
abbrev Shaped : Result → Type 0
Shaped r = Shape r.0

pub shape-filled : (s : State) (k : Task) (i v : ℕ) → Shape s → Shape (filled s k i v)
unfolding filled
shape-filled s k i v h =
    shape-block s k.target (λ (b : Block). with_log (with_cell b i v) i []) (λ b w. wide-log s.sizes.n i [] (with_cell b i v) (wide-cell s.sizes.n i v b w)) h

pub shape-finished : (s : State) (t : ℕ) (k : Task) (b n : ℕ) → Shape s → Shape (finished s t k b n).0
unfolding finished
shape-finished s t k b n h = shape-task _ t idle (shape-slot s k.fresh _ h)

pub shape-taken : (s : State) (t : ℕ) (k : Task) (g : Stage) → Shape s → Shape (taken s t k g).0
unfolding taken no_room
shape-taken s t k g h =
    if_case Shaped (leb s.sizes.b (free_block s))
    (λ e. shape-task _ t idle (shape-slot s k.fresh _ h))
    (λ e. shape-task _ t _ (shape-block s (free_block s) (λ (b : Block). with_version b 0) (wide_ver s.sizes.n 0) h))

pub shape-get : (g : Progress) (s : State) (t : ℕ) (k : Task) → Shape s → Shape (got_get g s t k).0
unfolding got_get
shape-get (Going r w) s t k h = shape-task s t _ h
shape-get (Settled w) s t k h = shape-task s t idle h

pub shape-page : (g : Progress) (s : State) (t : ℕ) (k : Task) → Shape s → Shape (got_page g s t k).0
unfolding got_page
shape-page (Going r w) s t k h = shape-task s t _ h
shape-page (Settled w) s t k h =
    if_case Shaped (eqb (w.cell + 1) k.until) (λ e. shape-task s t idle h) (λ e. shape-task s t _ h)

pub shape-copy : (g : Progress) (s : State) (t : ℕ) (k : Task) → Shape s → Shape (got_copy g s t k).0
unfolding got_copy
shape-copy (Going r w) s t k h = shape-task s t _ h
shape-copy (Settled w) s t k h = shape-task s t _ h

pub shape-step_at : (g : Stage) (s : State) (t : ℕ) (k : Task) → Shape s → Shape (step_at g s t k).0
unfolding step_at exchanged
shape-step_at Idle s t k h = h
shape-step_at (Getting r) s t k h = shape-get _ s t k h
shape-step_at (Paging r) s t k h = shape-page _ s t k h
shape-step_at Exchange s t k h =
    if_case Shaped (eqb (here_of s k).version k.number)
    (λ e. shape-task _ t _ (shape-block s k.block (λ (b : Block). with_version b (k.number + 1)) (wide_ver s.sizes.n (k.number + 1)) h))
    (λ e. shape-task s t _ h)
shape-step_at Read s t k h = shape-task s t _ h
shape-step_at Append s t k h =
    shape-task _ t _ (shape-block s k.block (λ (b : Block). with_log b k.cell (log_at b k.cell ++ (record { version = k.number; old = k.hand.guess } ∷ []))) (λ b w. wide-log s.sizes.n k.cell _ b w) h)
shape-step_at Write s t k h =
    shape-finished _ t k k.block (k.number + 1) (shape-block s k.block (λ (b : Block). with_cell b k.cell k.value) (wide-cell s.sizes.n k.cell k.value) h)
shape-step_at TakeCopy s t k h = shape-taken s t k (Copying Guess) h
shape-step_at (Copying r) s t k h = shape-copy _ s t k h
shape-step_at FillCopy s t k h = shape-task _ t _ (shape-filled s k k.hand.cell (answer k.hand) h)
shape-step_at Put s t k h = shape-finished _ t k k.target 0 (shape-filled s k k.cell k.value h)
shape-step_at TakeNew s t k h = shape-taken s t k FillNew h
shape-step_at FillNew s t k h =
    if_case Shaped (eqb (k.hand.cell + 1) s.sizes.n)
    (λ e. shape-finished _ t k k.target 0 (shape-filled s k k.hand.cell k.value h))
    (λ e. shape-task _ t _ (shape-filled s k k.hand.cell k.value h))

pub shape-step : (s : State) (t : ℕ) → Shape s → Shape (step s t).0
unfolding step
shape-step s t h = if_case Shaped (leb s.sizes.t t) (λ e. h) (λ e. shape-step_at _ s t _ h)

pub shape-reserve : (s : State) → Shape s → Shape (reserve s)
unfolding reserve
shape-reserve s h = shape-slot s (free_slot s) _ h

pub every_list_to : {A : Type 0} {P : A → Type 0} (n : ℕ) (f : ℕ → A) → ((k : ℕ) → P (f k)) → Every P (list_to n f)
unfolding list_to
every_list_to zero f h = none
every_list_to (suc n) f h = more (h 0) (every_list_to n (λ (k : ℕ). f (suc k)) (λ k. h (suc k)))

pub shape-opened : (n a t words : ℕ) (lie : Lie) → opens n a t words ≡ true → Shape (opened n a t words lie)
unfolding opened opens
shape-opened n a t words lie ok =
    let p = and_both (within 1 n most_cells) _ ok in
    record {
      slots_len = length-replicate a _;
      tasks_len = length-replicate t idle;
      blocks_len = list_to-length (room n a t words) _;
      wide = every_list_to (room n a t words) _ (λ k. record { wide_cells = list_to-length n _; wide_logs = list_to-length n _ });
      some_cells_lem = λ _. leb-true 1 n (and_both (leb 1 n) _ p.0).0;
      few_slots = leb-true a most_handles (and_both (leb 1 a) _ (and_both (within 1 a most_handles) _ p.1).0).1;
    }

pub shape-call : (c : Call) (s : State) → Shape s → Shape (call c s).0
unfolding call opening start_new start_get start_set start_page release
shape-call (Open n a t words lie) s h = if_case Shaped (opens n a t words) (λ e. shape-opened n a t words lie e) (λ e. h)
shape-call (New t v) s h =
    if_case Shaped (not (eqb (startable s t) 0)) (λ e. h) (λ e.
    if_case Shaped (no_slot s) (λ e. h) (λ e.
    shape-task _ t _ (shape-reserve s h)))
shape-call (Get t a i) s h =
    if_case Shaped (not (eqb (startable s t) 0)) (λ e. h) (λ e.
    if_case Shaped (not (live_handle s a)) (λ e. h) (λ e.
    if_case Shaped (leb s.sizes.n i) (λ e. h) (λ e. shape-task s t _ h)))
shape-call (Set t a i v) s h =
    if_case Shaped (not (eqb (startable s t) 0)) (λ e. h) (λ e.
    if_case Shaped (not (live_handle s a)) (λ e. h) (λ e.
    if_case Shaped (leb s.sizes.n i) (λ e. h) (λ e.
    if_case Shaped (no_slot s) (λ e. h) (λ e. shape-task _ t _ (shape-reserve s h)))))
shape-call (Page t a from n) s h =
    if_case Shaped (not (eqb (startable s t) 0)) (λ e. h) (λ e.
    if_case Shaped (not (live_handle s a)) (λ e. h) (λ e.
    if_case Shaped (eqb n 0 || ltb s.sizes.n (from + n)) (λ e. h) (λ e. shape-task s t _ h)))
shape-call (Step t) s h = shape-step s t h
shape-call (Release a) s h =
    if_case Shaped (not (live_handle s a)) (λ e. h) (λ e.
    if_case Shaped (in_use s (a % 256)) (λ e. h) (λ e. shape-slot s (a % 256) _ h))
shape-call Report s h = h
shape-call (LookVersion b) s h = h
shape-call (LookCell b i) s h = h
shape-call (LookLog b i) s h = h
shape-call (LookTask t) s h = h
shape-call (LookEntry b i j) s h = h
