-- The words of the demands: what a handle shows, what is right for a value, a page and a price, and when a store is valid.
-- Rests on the rule book's definitions; nothing is proved here.
use Rattle.std.specs.Prelude.{◌*◌, ◌+◌, ◌/◌, ◌<◌, ◌≤◌, min, suc, zero, ℕ, Bool, ◌&&◌, false, not, true, List, [], ◌∷◌, ◌≡◌, eqb, leb, ltb, length, if◌then◌else◌}
use Rattle.rulebook.specs.declared.Entry.{Entry}
use Rattle.rulebook.specs.declared.Stage.{Stage}
use Rattle.rulebook.specs.declared.Stage.TheVariants.{Append, Copying, Exchange, FillCopy, FillNew, Getting, Idle, Paging, Put, Read, TakeCopy, TakeNew, Write}
use Rattle.rulebook.specs.declared.Status.TheVariants.{Free, Live, Reserved}
use Rattle.rulebook.specs.Answers.{stage_code}
use Rattle.rulebook.specs.Array.{Table, get_table}
use Rattle.rulebook.specs.History.{Numbered, Past, Value, Work, making, next, one, paging, reading, resting, setting, table_of}
use Rattle.rulebook.specs.Machine.{Call, Get, LookCell, LookEntry, LookLog, LookTask, LookVersion, New, Open, Page, Release, Report, Set, Step}
use Rattle.rulebook.specs.Sizes.{opens, slot_of}
use Rattle.rulebook.specs.Starts.{no_slot}
use Rattle.rulebook.specs.State.{Block, State, block_at, busy, cell_at, entry_at, fills, held, idle, in_use, list_to, live_handle, log_at, names, reserves, slot_at, stood, task_at, writes}

-- ---- lists

pub data Every {A : Type 0} (P : A → Type 0) : List A → Type 0 where
  none : Every P []
  more : {x : A} {l : List A} → P x → Every P l → Every P (x ∷ l)

pub data In {A : Type 0} (x : A) : List A → Type 0 where
  here : {l : List A} → In x (x ∷ l)
  there : {y : A} {l : List A} → In x l → In x (y ∷ l)

-- 0, 1, .. n - 1
abbrev pub up_to : ℕ → List ℕ
up_to n = list_to n (λ (i : ℕ). i)

-- p holds at 0, .. n - 1
unfoldable pub all_to : (ℕ → Bool) → ℕ → Bool
all_to p zero = true
all_to p (suc n) = all_to p n && p n

-- ---- what a handle shows

-- the old value of the first entry of version L or more; where there is none, the cell's
unfoldable pub value_in : List Entry → ℕ → ℕ → ℕ
value_in [] L c = c
value_in (e ∷ l) L c = if leb L e.version then e.old else value_in l L c

-- cell i of block b, for a handle with number L
unfoldable pub value_at : Block → ℕ → ℕ → ℕ
value_at b L i = value_in (log_at b i) L (cell_at b i)

-- the table that the handle with public number h shows, by its block and number
unfoldable pub shown : State → ℕ → Table
shown s h =
    list_to s.sizes.n (λ (i : ℕ). value_at (block_at s (slot_at s (slot_of h)).block) (slot_at s (slot_of h)).number i)

-- ---- values handed out

-- the functional array's value, of that version at that cell, and the version has that cell
abbrev pub IsRead : Past → Value → Type 0
IsRead p r = let x = table_of p.versions r.handle in (r.cell < length x) × (r.value ≡ get_table x r.cell)

-- the m cells from i on of version h, whose table is x
unfoldable pub page_of : ℕ → Table → ℕ → ℕ → List Value
page_of h x i zero = []
page_of h x i (suc m) = record { handle = h; cell = i; value = get_table x i } ∷ page_of h x (i + 1) m

-- what a task that ends has handed out, in this order: a get its cell, a page its m cells from `from` on. No task ends that was not started
abbrev pub HasGiven : Past → Work → List Value → Type 0
HasGiven p resting l = ⊥
HasGiven p (making v) l = Unit
HasGiven p (reading h i) l = l ≡ page_of h (table_of p.versions h) i 1
HasGiven p (setting h i v) l = Unit
HasGiven p (paging h from m) l = l ≡ page_of h (table_of p.versions h) from m

unfoldable pub cells_of : List Value → List ℕ
cells_of [] = []
cells_of (r ∷ l) = r.cell ∷ cells_of l

unfoldable pub values_of : List Value → List ℕ
values_of [] = []
values_of (r ∷ l) = r.value ∷ values_of l

-- those of version h
unfoldable pub on_version : ℕ → List Value → List Value
on_version h [] = []
on_version h (r ∷ l) = if eqb r.handle h then r ∷ on_version h l else on_version h l

-- r put before the first whose cell is not smaller
unfoldable pub insert : Value → List Value → List Value
insert r [] = r ∷ []
insert r (x ∷ l) = if leb r.cell x.cell then r ∷ x ∷ l else x ∷ insert r l

-- ordered by cell
unfoldable pub by_cell : List Value → List Value
by_cell [] = []
by_cell (r ∷ l) = insert r (by_cell l)

-- no public number was given to two versions
abbrev pub Once : List Numbered → Type 0
Once [] = Unit
Once (v ∷ vs) = Every (λ (u : Numbered). u.handle ≡ v.handle → ⊥) vs × Once vs

-- ---- prices

-- the number of binary digits, 0 for 0; f bounds how many are counted
unfoldable pub digits_in : ℕ → ℕ → ℕ
digits_in zero n = 0
digits_in (suc f) n = let r = suc (digits_in f (n / 2)) in if eqb n 0 then 0 else r

unfoldable pub digits : ℕ → ℕ
digits n = digits_in n n

-- the steps that a task may take at most, by what it was started for, in a store of n cells
abbrev pub price : ℕ → Work → ℕ
price n resting = 0
price n (making v) = n + 1
price n (reading h i) = 3 + digits n
price n (setting h i v) = 5 * n + 3
price n (paging h from m) = m * (3 + digits n)

-- the steps x of a task whose last step was in stage g, q of them probes; it ends in no other stage
abbrev pub Spent : ℕ → Stage → ℕ → ℕ → Type 0
Spent n Idle x q = ⊥
-- a new, refused 10 and not
Spent n TakeNew x q = x ≡ 1
Spent n FillNew x q = x ≡ n + 1
Spent n (Getting r) x q = x ≤ 3 + digits n
Spent n Exchange x q = ⊥
Spent n Read x q = ⊥
Spent n Append x q = ⊥
-- a set in place; a set that copies, refused 10 and not
Spent n Write x q = x ≡ 4
Spent n TakeCopy x q = x ≡ 2
Spent n (Copying r) x q = ⊥
Spent n FillCopy x q = ⊥
Spent n Put x q = x ≡ 3 + 4 * n + q
Spent n (Paging r) x q = Unit

-- the call is a step of task t
abbrev pub is_step : ℕ → Call → Bool
is_step t (Open n h u words lie) = false
is_step t (New u v) = false
is_step t (Get u h i) = false
is_step t (Set u h i v) = false
is_step t (Page u h from m) = false
is_step t (Step u) = eqb t u
is_step t (Release h) = false
is_step t (LookVersion b) = false
is_step t (LookCell b i) = false
is_step t (LookLog b i) = false
is_step t (LookEntry b i j) = false
is_step t (LookTask u) = false
is_step t Report = false

-- how many steps of task t a list of calls has
unfoldable pub steps_in : ℕ → List Call → ℕ
steps_in t [] = 0
steps_in t (c ∷ cs) = one (is_step t c) + steps_in t cs

-- after some first part of the calls cs from p, task t is idle
pub data Ends (t : ℕ) : Past → List Call → Type 0 where
  now : {p : Past} {cs : List Call} → busy (task_at p.store t).stage ≡ false → Ends t p cs
  later : {p : Past} {c : Call} {cs : List Call} → Ends t (next c p) cs → Ends t p (c ∷ cs)

-- ---- refusals

-- the number of the first cause that holds, 0 where none does
unfoldable pub due : List (Bool × ℕ) → ℕ
due [] = 0
due (c ∷ cs) = if c.0 then c.1 else due cs

-- no block is free
abbrev pub full : State → Bool
full s = all_to (held s) s.sizes.b

-- the rows of document 01's table that may apply to a call, in its order
abbrev pub causes : Call → State → List (Bool × ℕ)
causes (Open n h t words lie) s = (not (opens n h t words), 3) ∷ []
causes (New t v) s = (leb s.sizes.t t, 4) ∷ (busy (task_at s t).stage, 5) ∷ (no_slot s, 9) ∷ []
causes (Get t h i) s =
    (leb s.sizes.t t, 4) ∷ (busy (task_at s t).stage, 5) ∷ (not (live_handle s h), 7) ∷ (leb s.sizes.n i, 8) ∷ []
causes (Set t h i v) s =
    (leb s.sizes.t t, 4) ∷ (busy (task_at s t).stage, 5) ∷ (not (live_handle s h), 7) ∷ (leb s.sizes.n i, 8) ∷ (no_slot s, 9) ∷ []
causes (Page t h from m) s =
    (leb s.sizes.t t, 4) ∷ (busy (task_at s t).stage, 5) ∷ (not (live_handle s h), 7) ∷ (eqb m 0, 8) ∷ (ltb s.sizes.n (from + m), 8) ∷ []
causes (Step t) s =
    (leb s.sizes.t t, 4) ∷ (not (busy (task_at s t).stage), 6) ∷ (eqb (stage_code (task_at s t).stage) 1 && full s, 10) ∷ []
causes (Release h) s = (not (live_handle s h), 7) ∷ (in_use s (slot_of h), 11) ∷ []
causes (LookVersion b) s = (not (stood s b), 12) ∷ []
causes (LookCell b i) s = (not (stood s b), 12) ∷ (leb s.sizes.n i, 12) ∷ []
causes (LookLog b i) s = (not (stood s b), 12) ∷ (leb s.sizes.n i, 12) ∷ []
causes (LookEntry b i j) s =
    (not (stood s b), 12) ∷ (leb s.sizes.n i, 12) ∷ (leb (length (log_at (block_at s b) i)) j, 12) ∷ []
causes (LookTask t) s = (leb s.sizes.t t, 4) ∷ []
causes Report s = []

-- a step of task t from s to x that is refused 10: every block was held; the task is idle, its slot free, no block has changed (so an exchange
-- stays), and every live handle is live with the table that it had
pub record Harmless (s : State) (t : ℕ) (x : State) : Type 0 where
  pub all_held : (k : ℕ) → k < s.sizes.b → held s k ≡ true
  pub is_idle : task_at x t ≡ idle
  pub slot_is_free : (slot_at x (task_at s t).fresh).status ≡ Free
  pub same_blocks : x.blocks ≡ s.blocks
  pub still_live : (h : ℕ) → live_handle s h ≡ true → live_handle x h ≡ true
  pub still_shows : (h : ℕ) → live_handle s h ≡ true → shown x h ≡ shown s h

-- ---- a valid store: rules 2 to 6 of the check

abbrev pub version_at : List Entry → ℕ → ℕ
version_at l j = (entry_at l j).version

-- how many entries a block's logs hold together
unfoldable pub entries : List (List Entry) → ℕ
entries [] = 0
entries (l ∷ ls) = length l + entries ls

pub record Valid (s : State) : Type 0 where
  -- 2: each live handle stands on a block below B, with L at most V and at most N, and V at most N + 1
  pub below_b : (j : ℕ) → (slot_at s j).status ≡ Live → (slot_at s j).block < s.sizes.b
  pub at_most_v : (j : ℕ) → (slot_at s j).status ≡ Live → (slot_at s j).number ≤ (block_at s (slot_at s j).block).version
  pub at_most_n : (j : ℕ) → (slot_at s j).status ≡ Live → (slot_at s j).number ≤ s.sizes.n
  pub v_at_most : (j : ℕ) → (slot_at s j).status ≡ Live → (block_at s (slot_at s j).block).version ≤ s.sizes.n + 1
  -- 3: in a block with a live handle, every entry's version is below V, versions rise strictly along a log, and no version stands in two logs
  pub below_v : (j : ℕ) → (slot_at s j).status ≡ Live → let b = block_at s (slot_at s j).block in (i p : ℕ) → p < length (log_at b i) → version_at (log_at b i) p < b.version
  pub rising : (j : ℕ) → (slot_at s j).status ≡ Live → let b = block_at s (slot_at s j).block in (i p q : ℕ) → p < q → q < length (log_at b i) → version_at (log_at b i) p < version_at (log_at b i) q
  pub in_one_log : (j : ℕ) → (slot_at s j).status ≡ Live → let b = block_at s (slot_at s j).block in (i k p q : ℕ) → p < length (log_at b i) → q < length (log_at b k) → version_at (log_at b i) p ≡ version_at (log_at b k) q → i ≡ k
  -- 4: such a block's entries are at most the smaller of V and N
  pub few_entries : (j : ℕ) → (slot_at s j).status ≡ Live → let b = block_at s (slot_at s j).block in entries b.logs ≤ min b.version s.sizes.n
  -- 5: no two live handles share block and number
  pub apart : (i j : ℕ) → (slot_at s i).status ≡ Live → (slot_at s j).status ≡ Live → (slot_at s i).block ≡ (slot_at s j).block → (slot_at s i).number ≡ (slot_at s j).number → i ≡ j
  -- 6: each busy task's handle, if it names one, is live (where the task found it)
  pub named_live : (t : ℕ) → names (task_at s t).stage ≡ true → let x = slot_at s (task_at s t).slot in (x.status ≡ Live) × (x.block ≡ (task_at s t).block) × (x.number ≡ (task_at s t).number)
  -- each reserved slot belongs to one task, and what a task has reserved is reserved
  pub one_owner : (j : ℕ) → (slot_at s j).status ≡ Reserved → (t : ℕ) × (reserves (task_at s t).stage ≡ true) × ((task_at s t).fresh ≡ j)
  pub own_slot : (t u : ℕ) → reserves (task_at s t).stage ≡ true → reserves (task_at s u).stage ≡ true → (task_at s t).fresh ≡ (task_at s u).fresh → t ≡ u
  pub slot_is_reserved : (t : ℕ) → reserves (task_at s t).stage ≡ true → ((task_at s t).fresh < s.sizes.h) × ((slot_at s (task_at s t).fresh).status ≡ Reserved)
  -- a block being filled has one task and no live handle
  pub one_filler : (t u : ℕ) → fills (task_at s t).stage ≡ true → fills (task_at s u).stage ≡ true → (task_at s t).target ≡ (task_at s u).target → t ≡ u
  pub none_on_it : (t j : ℕ) → fills (task_at s t).stage ≡ true → (slot_at s j).status ≡ Live → (slot_at s j).block ≡ (task_at s t).target → ⊥
  -- writers exclude each other: of two sets in place past their exchange, no two are on one block; V is one above the writer's number, and no
  -- live handle stands above it
  pub one_writer : (t u : ℕ) → writes (task_at s t).stage ≡ true → writes (task_at s u).stage ≡ true → (task_at s t).block ≡ (task_at s u).block → t ≡ u
  pub just_raised : (t : ℕ) → writes (task_at s t).stage ≡ true → (block_at s (task_at s t).block).version ≡ (task_at s t).number + 1
  pub none_above : (t j : ℕ) → writes (task_at s t).stage ≡ true → (slot_at s j).status ≡ Live → (slot_at s j).block ≡ (task_at s t).block → (slot_at s j).number ≤ (task_at s t).number
