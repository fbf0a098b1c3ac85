-- What is noted agrees with the state: each live handle shows its version's table, each task does what it was started for, its steps are those counted.
-- Rests on the invariant and the prices.
use Rattle.std.specs.Prelude.{◌%◌, ◌*◌, ◌+◌, ◌/◌, ◌<◌, ◌≤◌, ℕ, true, List, [], ◌≡◌, refl, eqb, ltb, get_or, length, set}
use Rattle.std.proofs.Common.{◌∙◌, ap, ap₂, subst, sym, arith, get_or-set_other, get_or-set_same, eq-eqb, eqb-true, ltb-false, ltb-true}
use Rattle.std.proofs.Math.ListN.{get_or-eq_default}
use Rattle.std.proofs.lemmas.Bool.{eqb-false}
use Rattle.rulebook.specs.declared.Reading.{Reading}
use Rattle.rulebook.specs.declared.Slot.{Slot}
use Rattle.rulebook.specs.declared.Stage.{Stage}
use Rattle.rulebook.specs.declared.Stage.TheVariants.{Append, Copying, Exchange, FillCopy, FillNew, Getting, Idle, Paging, Put, Read, TakeCopy, TakeNew, Write}
use Rattle.rulebook.specs.declared.Status.TheVariants.{Live}
use Rattle.rulebook.specs.declared.Task.{Task}
use Rattle.rulebook.specs.Array.{get_table}
use Rattle.rulebook.specs.History.{Numbered, Past, Value, Work, change, making, paging, reading, setting, table_of}
use Rattle.rulebook.specs.Sizes.{public_number}
use Rattle.rulebook.specs.State.{State, block_at, busy, freed, idle, log_at, names, slot_at, task_at}
use Rattle.rulebook.specs.Steps.{here_of}
use Rattle.rulebook.specs.Tests.{by_test}
use Rattle.theorems.specs.Invariant.Blocks.{free≢live}
use Rattle.theorems.specs.Invariant.Moves.{Goes, InvS, Same}
use Rattle.theorems.specs.Invariant.Readings.{u_named}
use Rattle.theorems.specs.Invariant.Shape.{Shape}
use Rattle.theorems.specs.Prices.Budget.{Within, within-grows}
use Rattle.theorems.specs.Prices.Digits.{left_of}
use Rattle.theorems.specs.Terms.{Every, Once, digits, more, none, page_of, value_at}

-- the public number of the handle in slot j
abbrev pub number_of : State → ℕ → ℕ
number_of s j = public_number j (slot_at s j).serial

-- a number_of that its slot has carried already
abbrev pub Old : State → ℕ → Type 0
Old s h = h / 256 ≤ (slot_at s (h % 256)).serial

-- a version whose number_of was given, and whose table has a value for each cell
abbrev pub Known : State → Numbered → Type 0
Known s v = Old s v.handle × (length v.table ≡ s.sizes.n)

-- the handle in slot j has the table x
pub record Shows (s : State) (j : ℕ) (x : List ℕ) : Type 0 where
  pub long : length x ≡ s.sizes.n
  pub sees : (i : ℕ) → i < s.sizes.n → value_at (block_at s (slot_at s j).block) (slot_at s j).number i ≡ get_table x i

-- what a get may take at most
abbrev pub most : ℕ → ℕ
most n = 3 + digits n

-- a page that has handed out `done` of its `size` cells
pub record PageFor (n : ℕ) (r : Reading) (w : Work) (m : ℕ) (k : Task) (l : List Value) (x : List ℕ) : Type 0 where
  pub from : ℕ
  pub size : ℕ
  pub done : ℕ
  pub is : w ≡ paging m from size
  pub at : k.hand.cell ≡ from + done
  pub until_is : k.until ≡ from + size
  pub price : k.steps + left_of n r k.hand ≤ done * most n + most n
  pub so_far : l ≡ page_of m x from done

-- the task k at stage g does what it was started for, w; m is the number_of of the handle that it names, x that version's table, and l what the
-- task has handed out
abbrev pub For : ℕ → Stage → Work → ℕ → Task → List Value → List ℕ → Type 0
For n Idle w m k l x = Unit
For n (Getting r) w m k l x = (w ≡ reading m k.hand.cell) × (k.steps + left_of n r k.hand ≤ most n) × (l ≡ [])
For n (Paging r) w m k l x = PageFor n r w m k l x
For n Exchange w m k l x = w ≡ setting m k.cell k.value
For n Read w m k l x = w ≡ setting m k.cell k.value
For n Append w m k l x = w ≡ setting m k.cell k.value
For n Write w m k l x = w ≡ setting m k.cell k.value
For n TakeCopy w m k l x = w ≡ setting m k.cell k.value
For n (Copying r) w m k l x = w ≡ setting m k.cell k.value
For n FillCopy w m k l x = w ≡ setting m k.cell k.value
For n Put w m k l x = w ≡ setting m k.cell k.value
For n TakeNew w m k l x = w ≡ making k.value
For n FillNew w m k l x = w ≡ making k.value

pub record Told (p : Past) : Type 0 where
  pub shape : Shape p.store
  pub inv : InvS p.store
  pub shown : (j : ℕ) → (slot_at p.store j).status ≡ Live → Shows p.store j (table_of p.versions (number_of p.store j))
  pub fors : (t : ℕ) → For p.store.sizes.n (task_at p.store t).stage (p.works t) (number_of p.store (task_at p.store t).slot) (task_at p.store t) (p.given t) (table_of p.versions (number_of p.store (task_at p.store t).slot))
  pub count : (t : ℕ) → busy (task_at p.store t).stage ≡ true → (task_at p.store t).steps ≡ p.counts t
  pub within : (t : ℕ) → Within p.store.sizes.n (task_at p.store t).stage (task_at p.store t) (here_of p.store (task_at p.store t)) (p.probes t)
  pub olds : Every (Known p.store) p.versions
  pub once : Once p.versions

-- ---- small facts

pub every_map : {A : Type 0} {P Q : A → Type 0} {l : List A} → ((x : A) → P x → Q x) → Every P l → Every Q l
every_map f none = none
every_map f (more p e) = more (f _ p) (every_map f e)

pub live_slot : (s : State) → Shape s → (j : ℕ) → (slot_at s j).status ≡ Live → j < s.sizes.h
live_slot s sh j l =
    by_test (ltb j s.sizes.h) (λ e. ltb-true j s.sizes.h e)
    (λ e. absurd (free≢live (ap (λ (z : Slot). z.status) (sym (get_or-eq_default s.slots (freed 0) (omega (arith, ltb-false j s.sizes.h e, sh.slots_len)))) ∙ l)))

pub number-old : (s : State) (j : ℕ) → j < 256 → Old s (number_of s j)
number-old s j small =
    let r : number_of s j % 256 ≡ j = omega arith in
    subst (λ (x : ℕ). number_of s j / 256 ≤ (slot_at s x).serial) (sym r) (omega arith)

pub change-same : {A : Type 0} (f : ℕ → A) (t : ℕ) (x : A) → change f t x t ≡ x
change-same f t x = rw (eq-eqb t t refl)

pub change-other : {A : Type 0} (f : ℕ → A) (t : ℕ) (x : A) (u : ℕ) → (u ≡ t → ⊥) → change f t x u ≡ f u
change-other f t x u d = by_test (eqb u t) (λ e. absurd (d (eqb-true u t e))) (λ e. rw e)

pub for_on : (n : ℕ) (g : Stage) (w : Work) (m m' : ℕ) (k : Task) (l : List Value) (x x' : List ℕ) → (names g ≡ true → m' ≡ m) → (names g ≡ true → x' ≡ x) → For n g w m k l x → For n g w m' k l x'
for_on n Idle w m m' k l x x' e d h = tt
for_on n (Getting r) w m m' k l x x' e d h = (h.0 ∙ ap (λ (y : ℕ). reading y k.hand.cell) (sym (e refl)), h.1, h.2)
for_on n (Paging r) w m m' k l x x' e d h =
    record { from = h.from; size = h.size; done = h.done; is = h.is ∙ ap (λ (y : ℕ). paging y h.from h.size) (sym (e refl)); at = h.at; until_is = h.until_is; price = h.price; so_far = h.so_far ∙ ap₂ (λ (y : ℕ) (z : List ℕ). page_of y z h.from h.done) (sym (e refl)) (sym (d refl)) }
for_on n Exchange w m m' k l x x' e d h = h ∙ ap (λ (y : ℕ). setting y k.cell k.value) (sym (e refl))
for_on n Read w m m' k l x x' e d h = h ∙ ap (λ (y : ℕ). setting y k.cell k.value) (sym (e refl))
for_on n Append w m m' k l x x' e d h = h ∙ ap (λ (y : ℕ). setting y k.cell k.value) (sym (e refl))
for_on n Write w m m' k l x x' e d h = h ∙ ap (λ (y : ℕ). setting y k.cell k.value) (sym (e refl))
for_on n TakeCopy w m m' k l x x' e d h = h ∙ ap (λ (y : ℕ). setting y k.cell k.value) (sym (e refl))
for_on n (Copying r) w m m' k l x x' e d h = h ∙ ap (λ (y : ℕ). setting y k.cell k.value) (sym (e refl))
for_on n FillCopy w m m' k l x x' e d h = h ∙ ap (λ (y : ℕ). setting y k.cell k.value) (sym (e refl))
for_on n Put w m m' k l x x' e d h = h ∙ ap (λ (y : ℕ). setting y k.cell k.value) (sym (e refl))
for_on n TakeNew w m m' k l x x' e d h = h
for_on n FillNew w m m' k l x x' e d h = h

-- ---- a call that only task t takes part in

module _ (p : Past) (told : Told p) (q : Past) where
  -- the slots that are live afterwards were so before, and no serial falls
  pub record Slots : Type 0 where
    pub back : (j : ℕ) → (slot_at q.store j).status ≡ Live → slot_at q.store j ≡ slot_at p.store j
    pub rises : (j : ℕ) → (slot_at p.store j).serial ≤ (slot_at q.store j).serial

  -- what is asked of the tasks: all but t are as they were, and do what they did
  pub record Tasks (t : ℕ) (k : Task) : Type 0 where
    pub cells : q.store.sizes.n ≡ p.store.sizes.n
    pub tasks : q.store.tasks ≡ set p.store.tasks t k
    pub in_t : t < p.store.sizes.t
    pub works : (u : ℕ) → (u ≡ t → ⊥) → q.works u ≡ p.works u
    pub counts : (u : ℕ) → (u ≡ t → ⊥) → q.counts u ≡ p.counts u
    pub probes : (u : ℕ) → (u ≡ t → ⊥) → q.probes u ≡ p.probes u
    pub lives : names k.stage ≡ true → (slot_at p.store k.slot).status ≡ Live
    pub given : (u : ℕ) → (u ≡ t → ⊥) → q.given u ≡ p.given u
    pub own : For p.store.sizes.n k.stage (q.works t) (number_of p.store k.slot) k (q.given t) (table_of p.versions (number_of p.store k.slot))
    pub own_count : busy k.stage ≡ true → k.steps ≡ q.counts t
    pub own_within : Within p.store.sizes.n k.stage k (here_of q.store k) (q.probes t)

  pub told-on : (t : ℕ) (k : Task) → Shape q.store → Goes p.store q.store → Tasks t k → ((h : ℕ) → Old p.store h → table_of q.versions h ≡ table_of p.versions h)
      → ((j : ℕ) → (slot_at q.store j).status ≡ Live → Shows q.store j (table_of q.versions (number_of q.store j)))
      → Every (Known q.store) q.versions → Once q.versions → Told q
  told-on t k sh goes c keeps shown olds once =
      record {
        shape = sh;
        inv = goes.0;
        shown = shown;
        fors = λ u. by_test (eqb u t)
            (λ e. subst Does (sym (eqb-true u t e)) (at-task (Doing t) t k mine
            (subst (λ (n : ℕ). For n k.stage (q.works t) (number_of q.store k.slot) k (q.given t) (table_of q.versions (number_of q.store k.slot))) (sym c.cells)
            (for_on p.store.sizes.n k.stage (q.works t) (number_of p.store k.slot) (number_of q.store k.slot) k (q.given t) (table_of p.versions (number_of p.store k.slot)) (table_of q.versions (number_of q.store k.slot))
            (λ n. same_number k.slot (c.lives n)) (λ n. same-table k.slot (c.lives n)) c.own))))
            (λ e. let d = eqb-false u t e in
            at-task (Doing u) u (task_at p.store u) (other u d)
            (subst (λ (n : ℕ). For n (task_at p.store u).stage (q.works u) (number_of q.store (task_at p.store u).slot) (task_at p.store u) (q.given u) (table_of q.versions (number_of q.store (task_at p.store u).slot))) (sym c.cells)
            (subst (λ (w : Work). For p.store.sizes.n (task_at p.store u).stage w (number_of q.store (task_at p.store u).slot) (task_at p.store u) (q.given u) (table_of q.versions (number_of q.store (task_at p.store u).slot))) (sym (c.works u d))
            (subst (λ (l : List Value). For p.store.sizes.n (task_at p.store u).stage (p.works u) (number_of q.store (task_at p.store u).slot) (task_at p.store u) l (table_of q.versions (number_of q.store (task_at p.store u).slot))) (sym (c.given u d))
            (for_on p.store.sizes.n (task_at p.store u).stage (p.works u) (number_of p.store (task_at p.store u).slot) (number_of q.store (task_at p.store u).slot) (task_at p.store u) (p.given u) (table_of p.versions (number_of p.store (task_at p.store u).slot)) (table_of q.versions (number_of q.store (task_at p.store u).slot))
            (λ n. same_number _ (u_lives u n)) (λ n. same-table _ (u_lives u n)) (told.fors u))))));
        count = λ u. by_test (eqb u t)
            (λ e. subst Counts (sym (eqb-true u t e)) (at-task (λ (x : Task). busy x.stage ≡ true → x.steps ≡ q.counts t) t k mine c.own_count))
            (λ e. let d = eqb-false u t e in
            at-task (λ (x : Task). busy x.stage ≡ true → x.steps ≡ q.counts u) u (task_at p.store u) (other u d) (λ i. told.count u i ∙ sym (c.counts u d)));
        within = λ u. by_test (eqb u t)
            (λ e. subst Keeps-to (sym (eqb-true u t e)) (at-task (λ (x : Task). Within q.store.sizes.n x.stage x (here_of q.store x) (q.probes t)) t k mine
            (subst (λ (n : ℕ). Within n k.stage k (here_of q.store k) (q.probes t)) (sym c.cells) c.own_within)))
            (λ e. let d = eqb-false u t e in
            at-task (λ (x : Task). Within q.store.sizes.n x.stage x (here_of q.store x) (q.probes u)) u (task_at p.store u) (other u d)
            (subst (λ (n : ℕ). Within n (task_at p.store u).stage (task_at p.store u) (here_of q.store (task_at p.store u)) (q.probes u)) (sym c.cells)
            (within-grows p.store.sizes.n (task_at p.store u).stage (task_at p.store u) (here_of p.store (task_at p.store u)) (here_of q.store (task_at p.store u)) (q.probes u)
            (λ n i. let h = u_named p.store told.shape told.inv t c.in_t u n in
            subst (λ (b : ℕ). length (log_at (block_at p.store b) i) ≤ length (log_at (block_at q.store b) i)) h.on ((goes.1 (task_at p.store u).slot h.lives).2 i))
            (subst (Within p.store.sizes.n (task_at p.store u).stage (task_at p.store u) (here_of p.store (task_at p.store u))) (sym (c.probes u d)) (told.within u)))));
        olds = olds;
        once = once;
      }
    where
      Keeps-to : ℕ → Type 0
      Keeps-to u = Within q.store.sizes.n (task_at q.store u).stage (task_at q.store u) (here_of q.store (task_at q.store u)) (q.probes u)

      Doing : ℕ → Task → Type 0
      Doing u x = For q.store.sizes.n x.stage (q.works u) (number_of q.store x.slot) x (q.given u) (table_of q.versions (number_of q.store x.slot))

      Does : ℕ → Type 0
      Does u = Doing u (task_at q.store u)

      u_lives : (u : ℕ) → names (task_at p.store u).stage ≡ true → (slot_at p.store (task_at p.store u).slot).status ≡ Live
      u_lives u n = (u_named p.store told.shape told.inv t c.in_t u n).lives

      same_number : (j : ℕ) → (slot_at p.store j).status ≡ Live → number_of q.store j ≡ number_of p.store j
      same_number j l = ap (λ (z : Slot). public_number j z.serial) (goes.1 j l).0

      same-table : (j : ℕ) → (slot_at p.store j).status ≡ Live → table_of q.versions (number_of q.store j) ≡ table_of p.versions (number_of p.store j)
      same-table j l =
          ap (table_of q.versions) (same_number j l) ∙ keeps (number_of p.store j) (number-old p.store j (omega (arith, live_slot p.store told.shape j l, told.shape.few_slots)))

      Counts : ℕ → Type 0
      Counts u = busy (task_at q.store u).stage ≡ true → (task_at q.store u).steps ≡ q.counts u

      mine : task_at q.store t ≡ k
      mine = ap (λ (l : List Task). get_or l t idle) c.tasks ∙ get_or-set_same p.store.tasks t k idle (omega (arith, c.in_t, told.shape.tasks_len))

      other : (u : ℕ) → (u ≡ t → ⊥) → task_at q.store u ≡ task_at p.store u
      other u d = ap (λ (l : List Task). get_or l u idle) c.tasks ∙ get_or-set_other p.store.tasks t u k idle d

      at-task : (P : Task → Type 0) (u : ℕ) (x : Task) → task_at q.store u ≡ x → P x → P (task_at q.store u)
      at-task P u x e h = subst P (sym e) h

  -- a version's table, seen as before
  pub shown-on : (j : ℕ) (x : List ℕ) → q.store.sizes.n ≡ p.store.sizes.n → Same p.store q.store → (slot_at p.store j).status ≡ Live → slot_at q.store j ≡ slot_at p.store j
      → Shows p.store j x → Shows q.store j x
  shown-on j x cells same l e h =
      record {
        long = h.long ∙ sym cells;
        sees = λ i b. ap (λ (z : Slot). value_at (block_at q.store z.block) z.number i) e ∙ (same j l).1 i ∙ h.sees i (omega (arith, cells));
      }

  pub old-on : ((j : ℕ) → (slot_at p.store j).serial ≤ (slot_at q.store j).serial) → (h : ℕ) → Old p.store h → Old q.store h
  old-on rises h o = omega (arith, rises (h % 256))

  -- no new version
  pub told_same : (t : ℕ) (k : Task) → Shape q.store → Goes p.store q.store → Tasks t k → Slots → q.versions ≡ p.versions → Told q
  told_same t k sh goes c sl vs =
      told-on t k sh goes c (λ h o. ap (λ (y : List Numbered). table_of y h) vs)
      (λ j l. let e = sl.back j l in
      let was : (slot_at p.store j).status ≡ Live = ap (λ (z : Slot). z.status) (sym e) ∙ l in
      shown-on j _ c.cells goes.1 was e
      (subst (λ (y : List Numbered). Shows p.store j (table_of y (number_of q.store j))) (sym vs)
      (subst (λ (z : Slot). Shows p.store j (table_of p.versions (public_number j z.serial))) (sym e) (told.shown j was))))
      (subst (Every (Known q.store)) (sym vs) (every_map (λ v o. (old-on sl.rises v.handle o.0, o.1 ∙ sym c.cells)) told.olds))
      (subst Once (sym vs) told.once)
