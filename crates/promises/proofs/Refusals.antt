-- Every plan either does nothing and refuses, or is answered 0 or 10; so a refusal other than 10 changes no word, whatever the pool's words are.
-- Rests on the plans.
use Rattle.std.specs.Prelude.{◌+◌, ℕ, ◌||◌, true, ◌⊎◌, ◌≡◌, eqb, leb, Err, None, Ok, Result, Some}
use Rattle.std.proofs.Math.Logic.{inl}
use Rattle.std.proofs.Common.{inr}
use Rattle.std.proofs.Math.Path.{refl}
use Rattle.std.proofs.Math.Dec.{ltb}
use Rattle.acts.specs.Acts.{Act, Found}
use Rattle.acts.specs.Touch.{Touch}
use Rattle.acts.specs.declared.Refusal.{Refusal}
use Rattle.acts.specs.declared.Refusal.TheVariants as refusal
use Rattle.acts.specs.Plans.{after, free_in, get_on, live_in, new_on, page_on, plan_get, plan_new, plan_page, plan_release, plan_set, ready_in, refused, release_at, release_on, reserves_for, set_at, set_on, ticked, unless, user_in, vacant_in}
use Rattle.acts.specs.StepPlans.{appends_entry, copy_goes, exchanges_on, fills_copy, fills_new, finishes, get_goes, gives_up, page_goes, page_settles, plan_at, plan_row, plan_step, puts, read_in, reads_old, takes, writes_new}
use Rattle.acts.specs.Sight.{Sight}
use Rattle.rulebook.specs.declared.Damaged.{Damaged}
use Rattle.rulebook.specs.declared.Progress.{Progress}
use Rattle.rulebook.specs.declared.Progress.TheVariants as progress
use Rattle.rulebook.specs.declared.Reading.TheVariants as reading
use Rattle.rulebook.specs.declared.Slot.{Slot}
use Rattle.rulebook.specs.declared.Stage.{Stage}
use Rattle.rulebook.specs.declared.Stage.TheVariants as stage
use Rattle.rulebook.specs.declared.Task.{Task}
use Rattle.rulebook.specs.History.{accepted}
use Rattle.rulebook.specs.Sizes.{last_serial, slot_of}
use Rattle.rulebook.specs.Tests.{if_case}

-- answered 0 or 10, or nothing is done and a refusal is given
abbrev pub Fair : Act → Type 0
Fair a = (accepted a.reply ≡ true) ⊎ ((r : Refusal) × (a ≡ refused r))

no : (r : Refusal) → Fair (refused r)
no r = inr (r, refl)

-- ---- the parts of plans

module _ (t : ℕ) where
  fair-reserve : (y : Result Slot Damaged) (j : ℕ) (k : Task) → Fair (reserves_for y j t k)
  unfolding reserves_for
  fair-reserve (Err _) j k = no refusal.Damaged
  fair-reserve (Ok y) j k = inl refl

  fair-get : (q : Result Progress Damaged) (k : Task) → Fair (get_goes q t k)
  unfolding get_goes
  fair-get (Err _) k = no refusal.Damaged
  fair-get (Ok (progress.Going r w)) k = inl refl
  fair-get (Ok (progress.Settled w)) k = inl refl

  fair-copy : (q : Result Progress Damaged) (k : Task) → Fair (copy_goes q t k)
  unfolding copy_goes
  fair-copy (Err _) k = no refusal.Damaged
  fair-copy (Ok (progress.Going r w)) k = inl refl
  fair-copy (Ok (progress.Settled w)) k = inl refl

  fair-page : (q : Result Progress Damaged) (k : Task) → Fair (page_goes q t k)
  unfolding page_goes page_settles
  fair-page (Err _) k = no refusal.Damaged
  fair-page (Ok (progress.Going r w)) k = inl refl
  fair-page (Ok (progress.Settled w)) k = if_case Fair (eqb (after w.cell) k.until) (λ _. inl refl) (λ _. inl refl)

  fair-finish : (y : Result Slot Damaged) (x : Touch) (k : Task) (b L : ℕ) → Fair (finishes y x t k b L)
  unfolding finishes
  fair-finish (Err _) x k b L = no refusal.Damaged
  fair-finish (Ok y) x k b L = if_case Fair (leb last_serial y.serial) (λ _. no refusal.Damaged) (λ _. inl refl)

  fair_give : (y : Result Slot Damaged) (k : Task) → Fair (gives_up y t k)
  unfolding gives_up
  fair_give (Err _) k = no refusal.Damaged
  fair_give (Ok y) k = inl refl

  fair-take : (x : Found) (e : Sight) (k : Task) (g : Stage) → Fair (takes x e t k g)
  unfolding takes
  fair-take (Err _) e k g = no refusal.Damaged
  fair-take (Ok (Some b)) e k g = inl refl
  fair-take (Ok None) e k g = fair_give (e.slot k.fresh) k

  fair-exchange : (x : Result ℕ Damaged) (n : ℕ) (k : Task) → Fair (exchanges_on x n t k)
  unfolding exchanges_on
  fair-exchange (Err _) n k = no refusal.Damaged
  fair-exchange (Ok v) n k = if_case Fair (eqb v k.number) (λ _. inl refl) (λ _. inl refl)

  fair-old : (x : Result ℕ Damaged) (k : Task) → Fair (reads_old x t k)
  unfolding reads_old
  fair-old (Err _) k = no refusal.Damaged
  fair-old (Ok v) k = inl refl

  -- ---- a step

  fair-at : (g : Stage) (e : Sight) (k : Task) → Fair (plan_at g e t k)
  unfolding plan_at fills_new appends_entry writes_new fills_copy puts
  fair-at stage.Idle e k = no refusal.Idle
  fair-at stage.TakeNew e k = fair-take (free_in e) e k stage.FillNew
  fair-at stage.FillNew e k =
      if_case Fair (eqb (after k.hand.cell) e.sizes.n) (λ _. fair-finish (e.slot k.fresh) _ k k.target 0) (λ _. inl refl)
  fair-at (stage.Getting r) e k = fair-get (read_in r e k) k
  fair-at stage.Exchange e k = fair-exchange (e.version k.block) e.sizes.n k
  fair-at stage.Read e k = fair-old (e.cell k.block k.cell) k
  fair-at stage.Append e k = inl refl
  fair-at stage.Write e k = fair-finish (e.slot k.fresh) _ k k.block (after k.number)
  fair-at stage.TakeCopy e k = fair-take (free_in e) e k (stage.Copying reading.Guess)
  fair-at (stage.Copying r) e k = fair-copy (read_in r e k) k
  fair-at stage.FillCopy e k = inl refl
  fair-at stage.Put e k = fair-finish (e.slot k.fresh) _ k k.target 0
  fair-at (stage.Paging r) e k = fair-page (read_in r e k) k

  fair-row : (x : Result Task Damaged) (e : Sight) → Fair (plan_row x e t)
  unfolding plan_row
  fair-row (Err _) e = no refusal.Damaged
  fair-row (Ok k) e = fair-at k.stage e (ticked k)

  pub step-fair : (e : Sight) → Fair (plan_step e t)
  unfolding plan_step
  step-fair e = if_case Fair (leb e.sizes.t t) (λ _. no refusal.NoTask) (λ _. fair-row (e.task t) e)

  -- ---- the starts

  fair-unless : (x : Result Unit Refusal) (a : Act) → Fair a → Fair (unless x a)
  unfolding unless
  fair-unless (Err r) a h = no r
  fair-unless (Ok _) a h = h

  fair-start : (e : Sight) (a : Act) → Fair a → Fair (unless (ready_in e t) a)
  fair-start e a h = fair-unless (ready_in e t) a h

  fair-new : (x : Found) (e : Sight) (v : ℕ) → Fair (new_on x e t v)
  unfolding new_on
  fair-new (Err _) e v = no refusal.Damaged
  fair-new (Ok (Some j)) e v = fair-reserve (e.slot j) j _
  fair-new (Ok None) e v = no refusal.NoSlot

  pub new-fair : (v : ℕ) (e : Sight) → Fair (plan_new e t v)
  unfolding plan_new
  new-fair v e = fair-start e _ (fair-new (vacant_in e) e v)

  module _ (h i : ℕ) where
    fair-get_on : (x : Result Slot Refusal) (e : Sight) → Fair (get_on x e t h i)
    unfolding get_on
    fair-get_on (Err r) e = no r
    fair-get_on (Ok x) e = if_case Fair (leb e.sizes.n i) (λ _. no refusal.NoCell) (λ _. inl refl)

    pub get-fair : (e : Sight) → Fair (plan_get e t h i)
    unfolding plan_get
    get-fair e = fair-start e _ (fair-get_on (live_in e h) e)

    fair-set : (x : Found) (e : Sight) (y : Slot) (v : ℕ) → Fair (set_at x e y t h i v)
    unfolding set_at
    fair-set (Err _) e y v = no refusal.Damaged
    fair-set (Ok (Some j)) e y v = fair-reserve (e.slot j) j _
    fair-set (Ok None) e y v = no refusal.NoSlot

    fair-set_on : (x : Result Slot Refusal) (e : Sight) (v : ℕ) → Fair (set_on x e t h i v)
    unfolding set_on
    fair-set_on (Err r) e v = no r
    fair-set_on (Ok x) e v = if_case Fair (leb e.sizes.n i) (λ _. no refusal.NoCell) (λ _. fair-set (vacant_in e) e x v)

    pub set-fair : (v : ℕ) (e : Sight) → Fair (plan_set e t h i v)
    unfolding plan_set
    set-fair v e = fair-start e _ (fair-set_on (live_in e h) e v)

    fair-page_on : (x : Result Slot Refusal) (e : Sight) (m : ℕ) → Fair (page_on x e t h i m)
    unfolding page_on
    fair-page_on (Err r) e m = no r
    fair-page_on (Ok x) e m = if_case Fair (eqb m 0 || ltb e.sizes.n (i + m)) (λ _. no refusal.NoCell) (λ _. inl refl)

    pub page-fair : (m : ℕ) (e : Sight) → Fair (plan_page e t h i m)
    unfolding plan_page
    page-fair m e = fair-start e _ (fair-page_on (live_in e h) e m)

-- ---- release

fair-release : (x : Found) (y : Slot) (h : ℕ) → Fair (release_at x y h)
unfolding release_at
fair-release (Err _) y h = no refusal.Damaged
fair-release (Ok (Some t)) y h = no refusal.InUse
fair-release (Ok None) y h = inl refl

fair-release_on : (x : Result Slot Refusal) (e : Sight) (h : ℕ) → Fair (release_on x e h)
unfolding release_on
fair-release_on (Err r) e h = no r
fair-release_on (Ok y) e h = fair-release (user_in e (slot_of h)) y h

pub release-fair : (h : ℕ) (e : Sight) → Fair (plan_release e h)
unfolding plan_release
release-fair h e = fair-release_on (live_in e h) e h
