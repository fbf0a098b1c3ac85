-- From a sight that shows a state every call plans what it plans from the state itself.
-- Rests on Shown, and for a step on the rules and ranges of its task.
use Rattle.std.specs.Prelude.{◌<◌, ℕ, true, ◌≡◌, ltb, if◌then◌else◌, Err, None, Ok, Result, Some}
use Rattle.std.proofs.Common.{◌∙◌, leb-false, ltb-true}
use Rattle.std.proofs.Math.Path.{ap, ap₂, refl, subst⁻¹}
use Rattle.std.proofs.Math.Dec.{eqb, leb}
use Rattle.acts.specs.Acts.{Act, Found}
use Rattle.acts.specs.Touch.{Touch}
use Rattle.rulebook.specs.declared.Reading.{Reading}
use Rattle.rulebook.specs.declared.Sizes.{Sizes}
use Rattle.rulebook.specs.declared.Slot.{Slot}
use Rattle.rulebook.specs.declared.Stage.{Stage}
use Rattle.rulebook.specs.declared.Task.{Task}
use Rattle.acts.specs.Plans.{after, begun_on, filler, filler_in, fills_at, first_of, free_at, free_in, get_on, goes, holder_in, live_in, maker, names_at, naming, new_on, or_else, page_on, plan_get, plan_new, plan_page, plan_release, plan_set, ready_in, refused, release_at, release_on, reserves_for, set_at, set_on, stander_in, standing, stands_at, ticked, unheld, unless, user_in, vacant, vacant_at, vacant_in}
use Rattle.acts.specs.StepPlans.{copy_goes, fills_new, finishes, get_goes, gives_up, page_goes, plan_at, plan_row, plan_step, puts, read_entry, read_guess, read_in, read_length, read_version, reads_old, takes, writes_new}
use Rattle.acts.specs.Sight.{Sight, sight_of}
use Rattle.rulebook.specs.Sizes.{slot_of}
use Rattle.rulebook.specs.State.{State, free_slot, hand_of, names, stood, task_at}
use Rattle.rulebook.specs.Steps.{moved}
use Rattle.rulebook.specs.Tests.{by_test, if_case}
use Rattle.rules.proofs.Facts.{Doing, a_copy, a_get, a_page, doing_names, probes-inside}
use Rattle.rules.specs.Paced.{Paced, TaskRange}
use Rattle.rules.specs.Rules.{Rules}
use Rattle.theorems.specs.Invariant.Facts.{stood_by}
use Rattle.theorems.specs.Invariant.Shape.{Shape}
use Rattle.bridge.specs.Planned.{vacant-is}
use Rattle.bridge.specs.Searches.{first-same}
use Rattle.bridge.specs.Shown.{Shows}
use Rattle.rulebook.specs.declared.Stage.TheVariants as stage
use Rattle.rulebook.specs.declared.Reading.TheVariants as reading
use Rattle.rulebook.specs.declared.Reply.TheVariants as reply
use Rattle.acts.specs.Touch as touch
use Rattle.rulebook.specs.Codes.{damaged}
use Rattle.rulebook.specs.declared.Damaged.{Damaged}
use Rattle.rulebook.specs.declared.Entry.{Entry}
use Rattle.rulebook.specs.declared.Progress.{Progress}
use Rattle.acts.specs.declared.Refusal.{Refusal}
use Rattle.acts.specs.declared.Refusal.TheVariants as refusal

-- a live handle stands on the block of the handle that a task names
pub named-on : (s : State) → Rules s → (t : ℕ) → names (task_at s t).stage ≡ true → stood s (task_at s t).block ≡ true
named-on s r t n = let l = r.valid.named_live t n in stood_by s (task_at s t).slot (task_at s t).block l.0 l.1

-- what holds of every slot that may be reserved, and of none
pub vacant_case : (s : State) → Shape s → (P : Found → Type 0) → ((j : ℕ) → j < s.sizes.h → P (Ok (Some j))) → P (Ok None) → P (vacant_in (sight_of s))
vacant_case s sh P some absent =
    subst⁻¹ P (vacant-is s sh) (if_case P (ltb (free_slot s) s.sizes.h) (λ q. some (free_slot s) (ltb-true _ _ q)) (λ q. absent))

module _ {e : Sight} {s : State} (W : Shows e s) (sh : Shape s) where
  abbrev f : Sight
  f = sight_of s

  -- ---- searches

  slots-alike : (g : Result Slot Damaged → ℕ → Found) → first_of (λ (j : ℕ). g (e.slot j) j) e.sizes.h ≡ first_of (λ (j : ℕ). g (f.slot j) j) s.sizes.h
  unfolding sight_of
  slots-alike g = rw W.sizes (first-same _ _ s.sizes.h (λ j l. ap (λ (x : Result Slot Damaged). g x j) (W.slot j l)))

  tasks-alike : (g : Result Task Damaged → ℕ → Found) → first_of (λ (t : ℕ). g (e.task t) t) e.sizes.t ≡ first_of (λ (t : ℕ). g (f.task t) t) s.sizes.t
  unfolding sight_of
  tasks-alike g = rw W.sizes (first-same _ _ s.sizes.t (λ t l. ap (λ (x : Result Task Damaged). g x t) (W.task t l)))

  pub stander-alike : (b : ℕ) → stander_in e b ≡ stander_in (sight_of s) b
  unfolding stander_in stands_at sight_of
  stander-alike b = slots-alike (λ (x : Result Slot Damaged) (j : ℕ). standing x b j)

  vacant-alike : vacant_in e ≡ vacant_in f
  unfolding vacant_in vacant_at sight_of
  vacant-alike = slots-alike vacant

  user-alike : (j : ℕ) → user_in e j ≡ user_in f j
  unfolding user_in names_at sight_of
  user-alike j = tasks-alike (λ (x : Result Task Damaged) (t : ℕ). naming x j t)

  filler-alike : (b : ℕ) → filler_in e b ≡ filler_in f b
  unfolding filler_in fills_at sight_of
  filler-alike b = tasks-alike (λ (x : Result Task Damaged) (t : ℕ). filler x b t)

  free_alike : free_in e ≡ free_in f
  unfolding free_in free_at holder_in sight_of
  free_alike =
      ap (λ (z : Sizes). first_of (free_at e) z.b) W.sizes
      ∙ first-same (free_at e) (free_at f) s.sizes.b (λ b l. ap₂ (λ (x : Found) (y : Found). unheld (or_else x y) b) (stander-alike b) (filler-alike b))

  -- ---- starts

  ready-alike : (t : ℕ) → ready_in e t ≡ ready_in f t
  unfolding ready_in sight_of
  ready-alike t = rw W.sizes (by_test (leb s.sizes.t t) (λ q. rw q) (λ q. rw (q, W.task t (leb-false _ _ q))))

  live_alike : (h : ℕ) → live_in e h ≡ live_in f h
  unfolding live_in sight_of
  live_alike h = rw W.sizes (by_test (leb s.sizes.h (slot_of h)) (λ q. rw q) (λ q. rw (q, W.slot (slot_of h) (leb-false _ _ q))))

  start-alike : (t : ℕ) {a b : Act} → a ≡ b → unless (ready_in e t) a ≡ unless (ready_in f t) b
  start-alike t h = ap₂ unless (ready-alike t) h

  module _ (t h i v : ℕ) where
    pub new-alike : plan_new e t v ≡ plan_new (sight_of s) t v
    unfolding plan_new new_on
    new-alike = start-alike t (ap (λ (x : Found). new_on x e t v) vacant-alike ∙ on)
      where
        on : new_on (vacant_in f) e t v ≡ new_on (vacant_in f) f t v
        on = unfold sight_of new_on in vacant_case s sh (λ (x : Found). new_on x e t v ≡ new_on x f t v) (λ j l. ap (λ (x : Result Slot Damaged). reserves_for x j t (maker v j)) (W.slot j l)) refl

    get_on_lem : (x : Result Slot Refusal) → get_on x e t h i ≡ get_on x f t h i
    unfolding get_on sight_of
    get_on_lem (Err n) = refl
    get_on_lem (Ok x) = rw W.sizes

    pub get_alike : plan_get e t h i ≡ plan_get (sight_of s) t h i
    unfolding plan_get
    get_alike = start-alike t (ap (λ (x : Result Slot Refusal). get_on x e t h i) (live_alike h) ∙ get_on_lem (live_in f h))

    page_on_lem : (x : Result Slot Refusal) → page_on x e t h i v ≡ page_on x f t h i v
    unfolding page_on sight_of
    page_on_lem (Err n) = refl
    page_on_lem (Ok x) = rw W.sizes

    pub page-alike : plan_page e t h i v ≡ plan_page (sight_of s) t h i v
    unfolding plan_page
    page-alike = start-alike t (ap (λ (x : Result Slot Refusal). page_on x e t h i v) (live_alike h) ∙ page_on_lem (live_in f h))

    set_at_lem : (y : Slot) → set_at (vacant_in f) e y t h i v ≡ set_at (vacant_in f) f y t h i v
    unfolding set_at sight_of
    set_at_lem y = vacant_case s sh (λ (x : Found). set_at x e y t h i v ≡ set_at x f y t h i v) (λ j l. ap (λ (x : Result Slot Damaged). reserves_for x j t (begun_on y h stage.Exchange i v 0 j)) (W.slot j l)) refl

    set_on_lem : (x : Result Slot Refusal) → set_on x e t h i v ≡ set_on x f t h i v
    unfolding set_on sight_of
    set_on_lem (Err n) = refl
    set_on_lem (Ok y) =
        ap₂ (λ (z : Sizes) (a : Act). if leb z.n i then refused refusal.NoCell else a) W.sizes (ap (λ (x : Found). set_at x e y t h i v) vacant-alike ∙ set_at_lem y)

    pub set-alike : plan_set e t h i v ≡ plan_set (sight_of s) t h i v
    unfolding plan_set
    set-alike = start-alike t (ap (λ (x : Result Slot Refusal). set_on x e t h i v) (live_alike h) ∙ set_on_lem (live_in f h))

  release_on_lem : (h : ℕ) (x : Result Slot Refusal) → release_on x e h ≡ release_on x f h
  unfolding release_on
  release_on_lem h (Err n) = refl
  release_on_lem h (Ok x) = ap (λ (y : Found). release_at y x h) (user-alike (slot_of h))

  pub release-alike : (h : ℕ) → plan_release e h ≡ plan_release (sight_of s) h
  unfolding plan_release
  release-alike h = ap (λ (x : Result Slot Refusal). release_on x e h) (live_alike h) ∙ release_on_lem h (live_in f h)

  -- ---- a step

  module _ (r : Rules s) (p : Paced s) (t : ℕ) where
    abbrev k : Task
    k = ticked (task_at s t)

    abbrev range : TaskRange s.sizes (task_at s t)
    range = p.tasks t

    read_alike : (x : Reading) {g : Stage} → Doing x g → (task_at s t).stage ≡ g → read_in x e k ≡ read_in x f k
    unfolding read_in sight_of ticked
    read_alike reading.Guess o q = ap (λ (z : Result ℕ Damaged). read_guess z k.hand) (W.cell _ _ range.block_below range.hand_below)
    read_alike reading.Version o q = ap (λ (z : Result ℕ Damaged). read_version z k.number k.hand) (W.version _ range.block_below)
    read_alike reading.Length o q =
        ap (λ (z : Result ℕ Damaged). read_length z k.hand) (W.log _ _ range.block_below range.hand_below (named-on s r t (ap names q ∙ doing_names o)))
    read_alike reading.Probe o q =
        ap (λ (z : Result Entry Damaged). if leb k.hand.hi k.hand.lo then Err damaged else read_entry z k.number k.hand)
        (W.entry _ _ _ range.block_below range.hand_below (named-on s r t (ap names q ∙ doing_names o)) (probes-inside s r t o q).1)

    -- the row of the slot that it has reserved
    finish-alike : (x : Touch) (b L : ℕ) → finishes (e.slot k.fresh) x t k b L ≡ finishes (f.slot k.fresh) x t k b L
    unfolding sight_of ticked
    finish-alike x b L = ap (λ (y : Result Slot Damaged). finishes y x t k b L) (W.slot _ range.fresh_below)

    take_on : (x : Found) (g : Stage) → takes x e t k g ≡ takes x f t k g
    unfolding takes sight_of ticked
    take_on (Err _) g = refl
    take_on (Ok (Some b)) g = refl
    take_on (Ok None) g = ap (λ (y : Result Slot Damaged). gives_up y t k) (W.slot _ range.fresh_below)

    take-alike : (g : Stage) → takes (free_in e) e t k g ≡ takes (free_in f) f t k g
    take-alike g = ap (λ (x : Found). takes x e t k g) free_alike ∙ take_on (free_in f) g

    fill-alike : fills_new e t k ≡ fills_new f t k
    unfolding fills_new sight_of
    fill-alike =
        rw W.sizes (ap (λ (a : Act). if eqb (after k.hand.cell) s.sizes.n then a else goes (touch.Fill k.target k.hand.cell k.value) t (moved k stage.FillNew (hand_of (after k.hand.cell))) reply.Quiet) (finish-alike _ k.target 0))

    at-alike : (g : Stage) → (task_at s t).stage ≡ g → plan_at g e t k ≡ plan_at g f t k
    unfolding plan_at ticked
    at-alike stage.Idle q = refl
    at-alike stage.TakeNew q = take-alike stage.FillNew
    at-alike stage.FillNew q = fill-alike
    at-alike (stage.Getting x) q = ap (λ (z : Result Progress Damaged). get_goes z t k) (read_alike x a_get q)
    at-alike stage.Exchange q = unfold sight_of in rw (W.sizes, W.version _ range.block_below)
    at-alike stage.Read q = unfold sight_of in ap (λ (z : Result ℕ Damaged). reads_old z t k) (W.cell _ _ range.block_below range.cell_below)
    at-alike stage.Append q = refl
    at-alike stage.Write q = unfold writes_new in finish-alike _ k.block (after k.number)
    at-alike stage.TakeCopy q = take-alike (stage.Copying reading.Guess)
    at-alike (stage.Copying x) q = ap (λ (z : Result Progress Damaged). copy_goes z t k) (read_alike x a_copy q)
    at-alike stage.FillCopy q = unfold sight_of in rw W.sizes
    at-alike stage.Put q = unfold puts in finish-alike _ k.target 0
    at-alike (stage.Paging x) q = ap (λ (z : Result Progress Damaged). page_goes z t k) (read_alike x a_page q)

    pub step-alike : plan_step e t ≡ plan_step (sight_of s) t
    unfolding plan_step plan_row sight_of
    step-alike =
        ap (λ (z : Sizes). if leb z.t t then refused refusal.NoTask else plan_row (e.task t) e t) W.sizes ∙ by_test (leb s.sizes.t t)
        (λ q. rw q)
        (λ q. rw q (ap (λ (x : Result Task Damaged). plan_row x e t) (W.task t (leb-false _ _ q)) ∙ at-alike (task_at s t).stage refl))
