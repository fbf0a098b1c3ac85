-- A store with every amount set to 0: cells, old values, what a set is to write, guesses and candidates. All else stays as it is.
-- Rests on the rule book's definitions.
use Prim.Native.Nat.{suc, zero, ℕ}
use Rattle.std.specs.Prelude.{Bool, ◌&&◌, ◌||◌, not, ◌≡◌, eqb, replicate, set}
use mathlib.Core.List.{List, [], ◌++◌, ◌∷◌, map}
use Rattle.std.proofs.Common.{◌∙◌, sym}
use Rattle.std.proofs.Math.Path.{ap, fun_ext, refl}
use Rattle.std.proofs.Math.ListN.{get_or-map}
use Rattle.std.proofs.lemmas.List.{length-map}
use Rattle.rulebook.specs.declared.Entry.{Entry}
use Rattle.rulebook.specs.declared.Hand.{Hand}
use Rattle.rulebook.specs.declared.Task.{Task}
use Rattle.rulebook.specs.Machine.{Call, Get, LookCell, LookEntry, LookLog, LookTask, LookVersion, New, Open, Page, Release, Report, Set, Step}
use Rattle.rulebook.specs.Starts.{Lie, startable}
use Rattle.rulebook.specs.State.{Block, State, any, block_at, cell_at, entry_at, filling, fills, free_block, held, idle, in_use, list_to, log_at, lowest, names, no_block, no_entry, stood, task_at, with_block, with_cell, with_log, with_task}
use Rattle.rulebook.specs.Steps.{answer}
use Rattle.rulebook.specs.Tests.{if_case}
use Rattle.theorems.specs.Invariant.Shape.{Shape, Wide}
use Rattle.theorems.specs.Terms.{Every, more, none}

abbrev pub erase_entry : Entry → Entry
erase_entry e = record { version = e.version; old = 0 }

abbrev pub erase_log : List Entry → List Entry
erase_log l = map erase_entry l

abbrev pub erase_block : Block → Block
erase_block b = record { version = b.version; cells = map (λ (v : ℕ). 0) b.cells; logs = map erase_log b.logs }

abbrev pub erase_hand : Hand → Hand
erase_hand w = record { cell = w.cell; guess = 0; lo = w.lo; hi = w.hi; found = w.found; candidate = 0; version = w.version }

abbrev pub erase_task : Task → Task
erase_task k =
    record { stage = k.stage; slot = k.slot; block = k.block; number = k.number; cell = k.cell; value = 0; until = k.until; fresh = k.fresh; target = k.target; hand = erase_hand k.hand; steps = k.steps }

abbrev pub erase : State → State
erase s = record { sizes = s.sizes; slots = s.slots; tasks = map erase_task s.tasks; blocks = map erase_block s.blocks }

-- what lies in a pool, and a call, without their amounts
abbrev pub erase_lie : Lie → Lie
erase_lie lie = record { version = lie.version; cell = λ k i. 0; log = λ k i. erase_log (lie.log k i) }

abbrev pub erase_call : Call → Call
erase_call (Open n h t w lie) = Open n h t w (erase_lie lie)
erase_call (New t v) = New t 0
erase_call (Get t h i) = Get t h i
erase_call (Set t h i v) = Set t h i 0
erase_call (Page t h from m) = Page t h from m
erase_call (Step t) = Step t
erase_call (Release h) = Release h
erase_call (LookVersion b) = LookVersion b
erase_call (LookCell b i) = LookCell b i
erase_call (LookLog b i) = LookLog b i
erase_call (LookEntry b i j) = LookEntry b i j
erase_call (LookTask t) = LookTask t
erase_call Report = Report

-- ---- lists

module _ {A B : Type 0} (f : A → B) where
  pub map_set : (l : List A) (i : ℕ) (x : A) → map f (set l i x) ≡ set (map f l) i (f x)
  map_set [] i x = refl
  map_set (y ∷ l) zero x = refl
  map_set (y ∷ l) (suc i) x = ap (λ (m : List B). f y ∷ m) (map_set l i x)

  pub map_append : (l m : List A) → map f (l ++ m) ≡ map f l ++ map f m
  map_append [] m = refl
  map_append (y ∷ l) m = ap (λ (x : List B). f y ∷ x) (map_append l m)

  pub map_replicate : (n : ℕ) (x : A) → map f (replicate n x) ≡ replicate n (f x)
  map_replicate zero x = refl
  map_replicate (suc n) x = ap (λ (m : List B). f x ∷ m) (map_replicate n x)

  pub map_list_to : (n : ℕ) (g : ℕ → A) → map f (list_to n g) ≡ list_to n (λ (i : ℕ). f (g i))
  unfolding list_to
  map_list_to zero g = refl
  map_list_to (suc n) g = ap (λ (m : List B). f (g 0) ∷ m) (map_list_to n (λ (i : ℕ). g (suc i)))

  pub any_map : (p : B → Bool) (l : List A) → any p (map f l) ≡ any (λ (x : A). p (f x)) l
  unfolding any
  any_map p [] = refl
  any_map p (x ∷ l) = ap (λ (y : Bool). p (f x) || y) (any_map p l)

-- ---- reading an erased store

pub erase_block_lem : (s : State) (k : ℕ) → block_at (erase s) k ≡ erase_block (block_at s k)
erase_block_lem s k = get_or-map erase_block s.blocks k no_block

pub erase_task_lem : (s : State) (t : ℕ) → task_at (erase s) t ≡ erase_task (task_at s t)
erase_task_lem s t = get_or-map erase_task s.tasks t idle

pub erase_log_lem : (b : Block) (i : ℕ) → log_at (erase_block b) i ≡ erase_log (log_at b i)
erase_log_lem b i = get_or-map erase_log b.logs i []

pub erase_entry_lem : (l : List Entry) (j : ℕ) → entry_at (erase_log l) j ≡ erase_entry (entry_at l j)
erase_entry_lem l j = get_or-map erase_entry l j no_entry

pub erase-cell : (b : Block) (i : ℕ) → cell_at (erase_block b) i ≡ 0
erase-cell b i = get_or-map (λ (v : ℕ). 0) b.cells i 0

pub erase-answer : (w : Hand) → answer (erase_hand w) ≡ 0
erase-answer w = if_case (λ (x : ℕ). x ≡ 0) w.found (λ e. refl) (λ e. refl)

pub erase-shape : (s : State) → Shape s → Shape (erase s)
erase-shape s h =
    record {
      slots_len = h.slots_len;
      tasks_len = length-map s.tasks erase_task ∙ h.tasks_len;
      blocks_len = length-map s.blocks erase_block ∙ h.blocks_len;
      wide = every_map h.wide;
      some_cells_lem = h.some_cells_lem;
      few_slots = h.few_slots;
    }
  where
    every_map : {l : List Block} → Every (Wide s.sizes.n) l → Every (Wide s.sizes.n) (map erase_block l)
    every_map none = none
    every_map (more {x = b} w e) =
        more (record { wide_cells = length-map b.cells _ ∙ w.wide_cells; wide_logs = length-map b.logs _ ∙ w.wide_logs }) (every_map e)

-- ---- changing it

pub erase-with_task : (s : State) (t : ℕ) (k : Task) → erase (with_task s t k) ≡ with_task (erase s) t (erase_task k)
unfolding with_task
erase-with_task s t k =
    ap (λ (l : List Task). record { sizes = s.sizes; slots = s.slots; tasks = l; blocks = map erase_block s.blocks }) (map_set erase_task s.tasks t k)

erase-with_block : (s : State) (k : ℕ) (b : Block) → erase (with_block s k b) ≡ with_block (erase s) k (erase_block b)
unfolding with_block
erase-with_block s k b =
    ap (λ (l : List Block). record { sizes = s.sizes; slots = s.slots; tasks = map erase_task s.tasks; blocks = l }) (map_set erase_block s.blocks k b)

-- a block changed by f, which erased is f'
pub erase-change : (s : State) (k : ℕ) (f f' : Block → Block) → ((b : Block) → erase_block (f b) ≡ f' (erase_block b)) → erase (with_block s k (f (block_at s k))) ≡ with_block (erase s) k (f' (block_at (erase s) k))
erase-change s k f f' h =
    erase-with_block s k (f (block_at s k)) ∙ ap (λ (b : Block). with_block (erase s) k b) (h (block_at s k) ∙ ap f' (sym (erase_block_lem s k)))

pub erase-with_cell : (b : Block) (i v : ℕ) → erase_block (with_cell b i v) ≡ with_cell (erase_block b) i 0
unfolding with_cell
erase-with_cell b i v =
    ap (λ (l : List ℕ). record { version = b.version; cells = l; logs = map erase_log b.logs }) (map_set (λ (x : ℕ). 0) b.cells i v)

pub erase-with_log : (b : Block) (i : ℕ) (l : List Entry) → erase_block (with_log b i l) ≡ with_log (erase_block b) i (erase_log l)
unfolding with_log
erase-with_log b i l =
    ap (λ (m : List (List Entry)). record { version = b.version; cells = map (λ (v : ℕ). 0) b.cells; logs = m }) (map_set erase_log b.logs i l)

-- ---- looking for something

pub erase-held : (s : State) (k : ℕ) → held (erase s) k ≡ held s k
unfolding held filling stood
erase-held s k =
    ap (λ (x : Bool). stood s k || x) (any_map erase_task (λ (x : Task). fills x.stage && eqb x.target k) s.tasks)

pub erase_free : (s : State) → free_block (erase s) ≡ free_block s
unfolding free_block
erase_free s = ap (λ (p : ℕ → Bool). lowest p s.sizes.b 0) (fun_ext (λ k. ap not (erase-held s k)))

pub erase-used : (s : State) (j : ℕ) → in_use (erase s) j ≡ in_use s j
unfolding in_use
erase-used s j = any_map erase_task (λ (x : Task). names x.stage && eqb x.slot j) s.tasks

pub erase-startable : (s : State) (t : ℕ) → startable (erase s) t ≡ startable s t
unfolding startable
erase-startable s t = rw (erase_task_lem s t)
