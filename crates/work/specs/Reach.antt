-- Whatever a pool holds, what a plan names is there: the slot and the task that it changes.
-- Rests on the ranges of the rows that were read.
use Rattle.std.specs.Prelude.{◌+◌, ◌<◌, suc, zero, ℕ, Bool, ◌&&◌, ◌||◌, false, true, List, eqb, leb, get_or, if◌then◌else◌, Err, None, Ok, Result, Some}
use Rattle.std.proofs.Common.{arith}
use Rattle.std.proofs.Math.Path.{◌≡◌, refl}
use Rattle.std.proofs.Math.Dec.{ltb}
use borrow.Author.Tests.{leb-false, lt-ltb, ltb-true}
use Rattle.acts.specs.Acts.{Act, Found}
use Rattle.acts.specs.Touch.{Touch}
use Rattle.rulebook.specs.declared.Reply.{Reply}
use Rattle.rulebook.specs.declared.Sizes.{Sizes}
use Rattle.rulebook.specs.declared.Slot.{Slot}
use Rattle.rulebook.specs.declared.Stage.{Stage}
use Rattle.rulebook.specs.declared.Task.{Task}
use Rattle.acts.specs.Plans.{after, ends, first_of, found_if, free_in, get_on, goes, live_in, new_on, or_else, page_on, plan_get, plan_new, plan_page, plan_release, plan_set, ready_in, refused, release_at, release_on, reserves_for, set_at, set_on, ticked, unless, user_in, vacant, vacant_at, vacant_in}
use Rattle.acts.specs.StepPlans.{appends_entry, copy_goes, exchanges_on, fills_copy, fills_new, finishes, get_goes, gives_up, page_goes, page_settles, plan_at, plan_row, plan_step, puts, read_in, reads_old, takes, writes_new}
use Rattle.acts.specs.Sight.{Sight}
use Rattle.layout.specs.Places.{Spans, slot_part}
use Rattle.layout.specs.Pool.{InReach, sight, slot_seen, slot_near, task_seen, task_near}
use Rattle.layout.specs.Rows.{slot_seen_of}
use Rattle.rulebook.specs.Sizes.{last_serial, slot_of}
use Rattle.rulebook.specs.State.{idle, is_free}
use Rattle.rulebook.specs.Tests.{by_test, if_case}
use Rattle.acts.specs.Touch as touch
use Rattle.rulebook.specs.declared.Stage.TheVariants as stage
use Rattle.rulebook.specs.declared.Reading.TheVariants as reading
use Rattle.rulebook.specs.declared.Progress.TheVariants as progress
use Rattle.rulebook.specs.declared.Reply.TheVariants as reply
use Rattle.rulebook.specs.declared.Damaged.{Damaged}
use Rattle.rulebook.specs.declared.Progress.{Progress}
use Rattle.acts.specs.declared.Refusal.{Refusal}
use Rattle.acts.specs.declared.Refusal.TheVariants as refusal

-- ---- what is found is among the rows that were tried

-- a place that was found is below m
abbrev pub FoundBelow : Found → ℕ → Type 0
FoundBelow (Err _) m = Unit
FoundBelow (Ok (Some j)) m = j < m
FoundBelow (Ok None) m = Unit

-- a row's answer names the row
abbrev pub Names : Found → ℕ → Type 0
Names (Err _) i = Unit
Names (Ok (Some j)) i = j ≡ i
Names (Ok None) i = Unit

pub names_if : (b : Bool) (j : ℕ) → Names (found_if b j) j
names_if true j = refl
names_if false j = tt

or_below : (x y : Found) (m : ℕ) → FoundBelow x m → Names y m → FoundBelow (or_else x y) (suc m)
unfolding or_else
or_below (Err _) y m h n = tt
or_below (Ok (Some j)) y m h n = omega arith
or_below (Ok None) (Err _) m h n = tt
or_below (Ok None) (Ok (Some j)) m h n = omega arith
or_below (Ok None) (Ok None) m h n = tt

pub first_below : (f : ℕ → Found) → ((i : ℕ) → Names (f i) i) → (m : ℕ) → FoundBelow (first_of f m) m
unfolding first_of
first_below f h zero = tt
first_below f h (suc m) = or_below (first_of f m) (f m) m (first_below f h m) (h m)

module _ (p : List ℕ) (d : Sizes) where
  vacant-names : (x : Result Slot Damaged) (j : ℕ) → Names (vacant x j) j
  unfolding vacant
  vacant-names (Err _) j = tt
  vacant-names (Ok y) j = names_if (is_free y.status && ltb y.serial last_serial) j

  pub vacant-below : FoundBelow (vacant_in (sight p d)) d.h
  unfolding vacant_in vacant_at sight
  vacant-below = first_below (λ (j : ℕ). vacant (slot_seen p d j) j) (λ j. vacant-names (slot_seen p d j) j) d.h

-- ---- acts

module _ (d : Sizes) where
  -- a slot whose row was read is there
  abbrev Within : Result Slot Damaged → ℕ → Type 0
  Within (Err _) j = Unit
  Within (Ok y) j = j < d.h

  pub reach-refused : (n : Refusal) → InReach d (refused n)
  unfolding slot_near task_near
  reach-refused n = record { slot = refl; task = refl }

  reach-goes : (x : Touch) (t : ℕ) (k : Task) (r : Reply) → t < d.t → InReach d (goes x t k r)
  unfolding slot_near task_near
  reach-goes x t k r h = record { slot = refl; task = lt-ltb t d.t h }

  reach-ends : (x : Touch) (j : ℕ) (y : Slot) (t : ℕ) (k : Task) (r : Reply) → j < d.h → t < d.t → InReach d (ends x j y t k r)
  unfolding slot_near task_near
  reach-ends x j y t k r i h = record { slot = lt-ltb j d.h i; task = lt-ltb t d.t h }

  reach_if : (b : Bool) (x y : Act) → (b ≡ true → InReach d x) → (b ≡ false → InReach d y) → InReach d (if b then x else y)
  reach_if b x y f g = if_case (InReach d) b f g

  module _ (t : ℕ) (in_t : t < d.t) where
    reach-reserve : (y : Result Slot Damaged) (j : ℕ) (k : Task) → j < d.h → InReach d (reserves_for y j t k)
    unfolding reserves_for
    reach-reserve (Err _) j k h = reach-refused refusal.Damaged
    reach-reserve (Ok x) j k h = reach-ends touch.Nothing j _ t k reply.Quiet h in_t

    reach-get : (q : Result Progress Damaged) (k : Task) → InReach d (get_goes q t k) × InReach d (page_goes q t k) × InReach d (copy_goes q t k)
    unfolding get_goes page_goes page_settles copy_goes
    reach-get (Err _) k = (reach-refused refusal.Damaged, reach-refused refusal.Damaged, reach-refused refusal.Damaged)
    reach-get (Ok (progress.Going r w)) k = (reach-goes touch.Nothing t _ _ in_t, reach-goes touch.Nothing t _ _ in_t, reach-goes touch.Nothing t _ _ in_t)
    reach-get (Ok (progress.Settled w)) k =
        (reach-goes touch.Nothing t _ _ in_t, reach_if (eqb (after w.cell) k.until) _ _ (λ _. reach-goes touch.Nothing t _ _ in_t) (λ _. reach-goes touch.Nothing t _ _ in_t), reach-goes touch.Nothing t _ _ in_t)

    reach-finish : (y : Result Slot Damaged) (x : Touch) (k : Task) (b L : ℕ) → Within y k.fresh → InReach d (finishes y x t k b L)
    unfolding finishes
    reach-finish (Err _) x k b L h = reach-refused refusal.Damaged
    reach-finish (Ok y) x k b L h = reach_if (leb last_serial y.serial) _ _ (λ _. reach-refused refusal.Damaged) (λ _. reach-ends x k.fresh _ t idle _ h in_t)

    reach_give : (y : Result Slot Damaged) (k : Task) → Within y k.fresh → InReach d (gives_up y t k)
    unfolding gives_up
    reach_give (Err _) k h = reach-refused refusal.Damaged
    reach_give (Ok y) k h = reach-ends touch.Nothing k.fresh _ t idle _ h in_t

    reach-take : (x : Found) (e : Sight) (k : Task) (g : Stage) → Within (e.slot k.fresh) k.fresh → InReach d (takes x e t k g)
    unfolding takes
    reach-take (Err _) e k g h = reach-refused refusal.Damaged
    reach-take (Ok (Some b)) e k g h = reach-goes (touch.Take b) t _ _ in_t
    reach-take (Ok None) e k g h = reach_give (e.slot k.fresh) k h

    reach-exchange : (x : Result ℕ Damaged) (n : ℕ) (k : Task) → InReach d (exchanges_on x n t k)
    unfolding exchanges_on
    reach-exchange (Err _) n k = reach-refused refusal.Damaged
    reach-exchange (Ok v) n k = reach_if (eqb v k.number) _ _ (λ _. reach-goes _ t _ _ in_t) (λ _. reach-goes touch.Nothing t _ _ in_t)

    reach-old : (x : Result ℕ Damaged) (k : Task) → InReach d (reads_old x t k)
    unfolding reads_old
    reach-old (Err _) k = reach-refused refusal.Damaged
    reach-old (Ok v) k = reach-goes touch.Nothing t _ _ in_t

    reach-at : (g : Stage) (e : Sight) (k : Task) → Within (e.slot k.fresh) k.fresh → InReach d (plan_at g e t k)
    unfolding plan_at fills_new appends_entry writes_new fills_copy puts
    reach-at stage.Idle e k h = reach-refused refusal.Idle
    reach-at stage.TakeNew e k h = reach-take (free_in e) e k stage.FillNew h
    reach-at stage.FillNew e k h =
        reach_if (eqb (after k.hand.cell) e.sizes.n) _ _
        (λ _. reach-finish (e.slot k.fresh) (touch.Fill k.target k.hand.cell k.value) k k.target 0 h)
        (λ _. reach-goes (touch.Fill k.target k.hand.cell k.value) t _ _ in_t)
    reach-at (stage.Getting r) e k h = (reach-get (read_in r e k) k).0
    reach-at stage.Exchange e k h = reach-exchange (e.version k.block) e.sizes.n k
    reach-at stage.Read e k h = reach-old (e.cell k.block k.cell) k
    reach-at stage.Append e k h = reach-goes _ t _ _ in_t
    reach-at stage.Write e k h = reach-finish (e.slot k.fresh) (touch.Write k.block k.cell k.value) k k.block (after k.number) h
    reach-at stage.TakeCopy e k h = reach-take (free_in e) e k (stage.Copying reading.Guess) h
    reach-at (stage.Copying r) e k h = (reach-get (read_in r e k) k).2
    reach-at stage.FillCopy e k h = reach-goes (touch.Fill k.target k.hand.cell _) t _ _ in_t
    reach-at stage.Put e k h = reach-finish (e.slot k.fresh) (touch.Fill k.target k.cell k.value) k k.target 0 h
    reach-at (stage.Paging r) e k h = (reach-get (read_in r e k) k).1

-- ---- plans

module _ (p : List ℕ) (d : Sizes) (sp : Spans d p) where
  slot-within : (j : ℕ) → Within d (slot_seen p d j) j
  unfolding slot_seen slot_seen_of
  slot-within j =
      if_case (λ (y : Result Slot Damaged). Within d y j) (ltb j d.h)
      (λ o. if_case (λ (y : Result Slot Damaged). Within d y j) (ltb (get_or (slot_part p j) 1 0) 3) (λ _. ltb-true j d.h o) (λ _. tt)) (λ o. tt)

  ready-below : (t : ℕ) → ready_in (sight p d) t ≡ Ok tt → t < d.t
  unfolding ready_in sight
  ready-below t h =
      by_test (leb d.t t)
      (λ b. let q : ◌≡◌ {A = Result Unit Refusal} (Err refusal.NoTask) (Ok tt) = (rw b at h) in let z : ◌≡◌ {A = ℕ} 0 1 = cc in absurd (omega arith))
      (λ b. leb-false d.t t b)

  module _ (t : ℕ) where
    starts : (a : Act) → (t < d.t → InReach d a) → InReach d (unless (ready_in (sight p d) t) a)
    unfolding unless
    starts a h = at (ready_in (sight p d) t) refl
      where
        at : (r : Result Unit Refusal) → ready_in (sight p d) t ≡ r → InReach d (unless r a)
        at (Ok tt) e = h (ready-below t e)
        at (Err x) e = reach-refused d x

    reach-new : (x : Found) (v : ℕ) → FoundBelow x d.h → t < d.t → InReach d (new_on x (sight p d) t v)
    unfolding new_on
    reach-new (Err _) v n h = reach-refused d refusal.Damaged
    reach-new (Ok (Some j)) v n h = reach-reserve d t h ((sight p d).slot j) j _ n
    reach-new (Ok None) v n h = reach-refused d refusal.NoSlot

    reach-set : (x : Found) (y : Slot) (g i v : ℕ) → FoundBelow x d.h → t < d.t → InReach d (set_at x (sight p d) y t g i v)
    unfolding set_at
    reach-set (Err _) y g i v n h = reach-refused d refusal.Damaged
    reach-set (Ok (Some j)) y g i v n h = reach-reserve d t h ((sight p d).slot j) j _ n
    reach-set (Ok None) y g i v n h = reach-refused d refusal.NoSlot

    pub new_reaches : (v : ℕ) → InReach d (plan_new (sight p d) t v)
    unfolding plan_new
    new_reaches v = starts _ (reach-new (vacant_in (sight p d)) v (vacant-below p d))

    module _ (g i v : ℕ) where
      get_on_lem : (x : Result Slot Refusal) → t < d.t → InReach d (get_on x (sight p d) t g i)
      unfolding get_on
      get_on_lem (Err n) h = reach-refused d n
      get_on_lem (Ok y) h = reach_if d (leb (sight p d).sizes.n i) _ _ (λ _. reach-refused d refusal.NoCell) (λ _. reach-goes d touch.Nothing t _ _ h)

      set_on_lem : (x : Result Slot Refusal) → t < d.t → InReach d (set_on x (sight p d) t g i v)
      unfolding set_on
      set_on_lem (Err n) h = reach-refused d n
      set_on_lem (Ok y) h = reach_if d (leb (sight p d).sizes.n i) _ _ (λ _. reach-refused d refusal.NoCell) (λ _. reach-set (vacant_in (sight p d)) y g i v (vacant-below p d) h)

      page_on_lem : (x : Result Slot Refusal) → t < d.t → InReach d (page_on x (sight p d) t g i v)
      unfolding page_on
      page_on_lem (Err n) h = reach-refused d n
      page_on_lem (Ok y) h = reach_if d (eqb v 0 || ltb (sight p d).sizes.n (i + v)) _ _ (λ _. reach-refused d refusal.NoCell) (λ _. reach-goes d touch.Nothing t _ _ h)

      pub get_reaches : InReach d (plan_get (sight p d) t g i)
      unfolding plan_get
      get_reaches = starts _ (get_on_lem (live_in (sight p d) g))

      pub set_reaches : InReach d (plan_set (sight p d) t g i v)
      unfolding plan_set
      set_reaches = starts _ (set_on_lem (live_in (sight p d) g))

      pub page_reaches : InReach d (plan_page (sight p d) t g i v)
      unfolding plan_page
      page_reaches = starts _ (page_on_lem (live_in (sight p d) g))

    row_on : (x : Result Task Damaged) → t < d.t → InReach d (plan_row x (sight p d) t)
    unfolding plan_row sight ticked
    row_on (Err _) h = reach-refused d refusal.Damaged
    row_on (Ok k) h = reach-at d t h k.stage (sight p d) (ticked k) (slot-within k.fresh)

    pub step_reaches : InReach d (plan_step (sight p d) t)
    unfolding plan_step sight
    step_reaches = reach_if d (leb d.t t) _ _ (λ _. reach-refused d refusal.NoTask) (λ e. row_on (task_seen p d t) (leb-false d.t t e))

  release_at_lem : (x : Found) (y : Slot) (h : ℕ) → slot_of h < d.h → InReach d (release_at x y h)
  unfolding release_at slot_near task_near
  release_at_lem (Err _) y h n = reach-refused d refusal.Damaged
  release_at_lem (Ok (Some t)) y h n = reach-refused d refusal.InUse
  release_at_lem (Ok None) y h n = record { slot = lt-ltb (slot_of h) d.h n; task = refl }

  live_below : (h : ℕ) (x : Result Slot Refusal) → live_in (sight p d) h ≡ x → InReach d (release_on x (sight p d) h)
  unfolding live_in release_on sight
  live_below h (Err n) e = reach-refused d n
  live_below h (Ok y) e =
      by_test (leb d.h (slot_of h))
      (λ b. let q : Err refusal.Dead ≡ Ok y = rw b at e in let z : ◌≡◌ {A = ℕ} 0 1 = cc in absurd (omega arith))
      (λ b. release_at_lem (user_in (sight p d) (slot_of h)) y h (leb-false d.h (slot_of h) b))

  pub release_reaches : (h : ℕ) → InReach d (plan_release (sight p d) h)
  unfolding plan_release
  release_reaches h = live_below h (live_in (sight p d) h) refl
