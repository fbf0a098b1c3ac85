-- On the machine's state, what a call plans is what the machine does: doing the plan gives the machine's next state and answer.
-- Rests on Searches and on the store's shape; PlannedStep has the step.
use Rattle.std.specs.Prelude.{◌+◌, ℕ, Bool, ◌&&◌, ◌||◌, ◌≡◌, if◌then◌else◌, Err, None, Ok, Result, Some}
use Rattle.std.proofs.Math.Bool.{false, not, true}
use Rattle.std.proofs.lemmas.Bool.{false≢true}
use Rattle.std.proofs.Common.{true≢false, ◌∙◌}
use Rattle.std.proofs.Math.Path.{ap, refl}
use Rattle.std.proofs.Math.Dec.{eqb, leb, ltb}
use borrow.Author.Tests.{le-leb, le-ltb, leb-false, leb-true, lt-ltb}
use Rattle.acts.specs.Acts.{Act, Found, is_none}
use Rattle.rulebook.specs.declared.Slot.{Slot}
use Rattle.rulebook.specs.declared.Task.{Task}
use Rattle.acts.specs.Acted.{acted, seated, touched, turned}
use Rattle.acts.specs.Plans.{filler, filler_in, fills_at, first_of, found_if, free_at, free_in, get_on, holder_in, live_in, live_row, maker, names_at, naming, new_on, or_else, page_on, placed, plan_get, plan_new, plan_page, plan_release, plan_set, ready_in, ready_row, refused, release_at, release_on, reserves_for, set_at, set_on, stander_in, standing, stands_at, unheld, unless, user_in, vacant, vacant_at, vacant_in}
use Rattle.acts.specs.Sight.{sight_of}
use Rattle.acts.specs.Told.{refused_as}
use Rattle.rulebook.specs.Machine.{release}
use Rattle.rulebook.specs.Sizes.{last_serial, serial_of, slot_of}
use Rattle.rulebook.specs.Starts.{begun, no_slot, reserve, start_get, start_new, start_page, start_set, startable}
use Rattle.rulebook.specs.State.{State, busy, filling, fills, free_block, free_slot, freed, held, idle, in_use, is_free, is_live, live_handle, names, slot_at, stood, task_at, with_slot, with_task}
use Rattle.rulebook.specs.Tests.{and_both, by_test}
use Rattle.rules.proofs.Facts.{live_stood}
use Rattle.rules.specs.Rules.{Rules}
use Rattle.theorems.specs.Invariant.Calls.{is_live_lem}
use Rattle.theorems.specs.Invariant.Shape.{Shape}
use Rattle.bridge.specs.Searches.{first_good, first-lowest, first-same, good_if, is_bad, row_search}
use Rattle.rulebook.specs.State as state
use Rattle.rulebook.specs.declared.Stage.TheVariants as stage
use Rattle.rulebook.specs.declared.Reading.TheVariants as reading
use Rattle.rulebook.specs.declared.Reply.TheVariants as reply
use Rattle.acts.specs.declared.Refusal.{Refusal}
use Rattle.acts.specs.declared.Refusal.TheVariants as refusal

-- an act that a test chooses
pub acted_if : (s : State) (b : Bool) (x y : Act) → acted s (if b then x else y) ≡ (if b then acted s x else acted s y)
acted_if s true x y = refl
acted_if s false x y = refl

pub acted-refused : (s : State) (x : Refusal) → acted s (refused x) ≡ (s, refused_as x)
unfolding acted touched seated turned
acted-refused s x = refl

-- both sides refuse, or go on alike
refuse_or : (s : State) (b : Bool) (x : Refusal) (a : Act) (r : state.Result) → (b ≡ false → acted s a ≡ r) → acted s (if b then refused x else a) ≡ (if b then (s, refused_as x) else r)
refuse_or s true x a r h = acted-refused s x
refuse_or s false x a r h = h refl

-- a test as the machine numbers it: 0 where it passes, and else the number of its refusal
abbrev Numbered : Result Unit Refusal → ℕ → Type 0
Numbered (Ok _) n = n ≡ 0
Numbered (Err x) n = (refused_as x ≡ reply.Refused n) × (eqb n 0 ≡ false)

-- both sides refuse at a test, or go on alike
unless_or : (s : State) (x : Result Unit Refusal) (n : ℕ) → Numbered x n → (a : Act) (r : state.Result) → acted s a ≡ r → acted s (unless x a) ≡ (if not (eqb n 0) then (s, reply.Refused n) else r)
unfolding unless
unless_or s (Ok _) n q a r h = rw q h
unless_or s (Err x) n q a r h = rw (acted-refused s x, q.0, q.1)

-- ---- what the searches find

module _ (s : State) (sh : Shape s) where
  pub vacant-is : vacant_in (sight_of s) ≡ (if ltb (free_slot s) s.sizes.h then Ok (Some (free_slot s)) else Ok None)
  unfolding vacant_in vacant_at vacant sight_of free_slot
  vacant-is = first-lowest (λ (j : ℕ). is_free (slot_at s j).status && ltb (slot_at s j).serial last_serial) s.sizes.h

  pub stander-is : (b : ℕ) → is_none (stander_in (sight_of s) b) ≡ not (stood s b)
  unfolding stander_in stands_at standing sight_of stood
  stander-is b = row_search (λ (x : Slot). is_live x.status && eqb x.block b) (freed 0) s.slots s.sizes.h _ sh.slots_len (λ j. refl)

  pub filler-is : (b : ℕ) → is_none (filler_in (sight_of s) b) ≡ not (filling s b)
  unfolding filler_in fills_at filler sight_of filling
  filler-is b = row_search (λ (x : Task). fills x.stage && eqb x.target b) idle s.tasks s.sizes.t _ sh.tasks_len (λ j. refl)

  pub user-is : (j : ℕ) → is_none (user_in (sight_of s) j) ≡ not (in_use s j)
  unfolding user_in names_at naming sight_of in_use
  user-is j = row_search (λ (x : Task). names x.stage && eqb x.slot j) idle s.tasks s.sizes.t _ sh.tasks_len (λ t. refl)

  -- the machine's rows are never bad
  user-good : (j : ℕ) → is_bad (user_in (sight_of s) j) ≡ false
  unfolding user_in names_at naming sight_of
  user-good j = first_good (λ (t : ℕ). found_if (names (task_at s t).stage && eqb (task_at s t).slot j) t) s.sizes.t (λ t. good_if (names (task_at s t).stage && eqb (task_at s t).slot j) t)

  pub stander-good : (b : ℕ) → is_bad (stander_in (sight_of s) b) ≡ false
  unfolding stander_in stands_at standing sight_of
  stander-good b = first_good (λ (j : ℕ). found_if (is_live (slot_at s j).status && eqb (slot_at s j).block b) j) s.sizes.h (λ j. good_if (is_live (slot_at s j).status && eqb (slot_at s j).block b) j)

  filler-good : (b : ℕ) → is_bad (filler_in (sight_of s) b) ≡ false
  unfolding filler_in fills_at filler sight_of
  filler-good b = first_good (λ (t : ℕ). found_if (fills (task_at s t).stage && eqb (task_at s t).target b) t) s.sizes.t (λ t. good_if (fills (task_at s t).stage && eqb (task_at s t).target b) t)

  -- what a search that is not bad says of the test that it makes
  pub found_case {ℓ} : (P : Found → Type ℓ) (x : Found) (b : Bool) → is_bad x ≡ false → is_none x ≡ not b → (b ≡ false → P (Ok None)) → ((j : ℕ) → b ≡ true → P (Ok (Some j))) → P x
  found_case P (Err _) b g n absent present = absurd (true≢false g)
  found_case P (Ok (Some j)) true g n absent present = present j refl
  found_case P (Ok (Some j)) false g n absent present = absurd (false≢true n)
  found_case P (Ok None) true g n absent present = absurd (true≢false n)
  found_case P (Ok None) false g n absent present = absent refl

  free_at-is : (b : ℕ) → free_at (sight_of s) b ≡ found_if (not (held s b)) b
  unfolding free_at holder_in held or_else unheld
  free_at-is b =
      found_case (λ (x : Found). unheld (or_else x (filler_in (sight_of s) b)) b ≡ found_if (not (stood s b || filling s b)) b) (stander_in (sight_of s) b) (stood s b) (stander-good b) (stander-is b)
      (λ e. rw e (found_case (λ (x : Found). unheld x b ≡ found_if (not (filling s b)) b) (filler_in (sight_of s) b) (filling s b) (filler-good b) (filler-is b) (λ f. rw f) (λ j f. rw f)))
      (λ j e. rw e)

  pub free_is : free_in (sight_of s) ≡ (if ltb (free_block s) s.sizes.b then Ok (Some (free_block s)) else Ok None)
  unfolding free_in free_block
  free_is =
      first-same (free_at (sight_of s)) (λ (b : ℕ). found_if (not (held s b)) b) _ (λ b _. free_at-is b) ∙ ap (first_of (λ (b : ℕ). found_if (not (held s b)) b)) sizes ∙ first-lowest (λ (b : ℕ). not (held s b)) s.sizes.b
    where
      sizes : (sight_of s).sizes.b ≡ s.sizes.b
      sizes = unfold sight_of in refl

  -- ---- the starts and release

  -- by rule 2 a live handle stands in the pool
  placed-is : Rules s → (j : ℕ) → is_live (slot_at s j).status ≡ true → placed s.sizes (slot_at s j) ≡ Ok (slot_at s j)
  unfolding placed
  placed-is R j l = let q = live_stood s R j (is_live_lem _ l) in rw (lt-ltb (slot_at s j).block s.sizes.b q.block_in_b, le-leb (slot_at s j).number s.sizes.n q.at_most_n)

  live_is : Rules s → (h : ℕ) → live_in (sight_of s) h ≡ (if live_handle s h then Ok (slot_at s (slot_of h)) else Err refusal.Dead)
  unfolding live_in live_row sight_of live_handle
  live_is R h =
      by_test (leb s.sizes.h (slot_of h))
      (λ e. rw (e, le-ltb (slot_of h) s.sizes.h (leb-true s.sizes.h (slot_of h) e)))
      (λ e. rw (e, lt-ltb (slot_of h) s.sizes.h (leb-false s.sizes.h (slot_of h) e))
      (by_test (is_live (slot_at s (slot_of h)).status && eqb (slot_at s (slot_of h)).serial (serial_of h))
      (λ c. rw (c, placed-is R (slot_of h) (and_both _ _ c).0))
      (λ c. rw c)))

  ready-is : (t : ℕ) → Numbered (ready_in (sight_of s) t) (startable s t)
  unfolding ready_in ready_row sight_of startable
  ready-is t =
      by_test (leb s.sizes.t t)
      (λ e. rw e (refl, refl))
      (λ e. rw e (by_test (busy (task_at s t).stage) (λ b. rw b (refl, refl)) (λ b. rw b)))

  -- a start that may begin
  start_or : (t : ℕ) (a : Act) (r : state.Result) → acted s a ≡ r → acted s (unless (ready_in (sight_of s) t) a) ≡ (if not (eqb (startable s t) 0) then (s, reply.Refused (startable s t)) else r)
  start_or t = unless_or s (ready_in (sight_of s) t) (startable s t) (ready-is t)

  module _ (t h i v : ℕ) where
    pub planned_get : Rules s → acted s (plan_get (sight_of s) t h i) ≡ start_get s t h i
    unfolding plan_get start_get get_on sight_of begun acted touched seated turned
    planned_get R = start_or t _ _ (ap (λ (x : Result Slot Refusal). acted s (get_on x (sight_of s) t h i)) (live_is R h) ∙ on (live_handle s h))
      where
        on : (b : Bool) → acted s (get_on (if b then Ok (slot_at s (slot_of h)) else Err refusal.Dead) (sight_of s) t h i) ≡ (if not b then (s, reply.Refused 7) else if leb s.sizes.n i then (s, reply.Refused 8) else (with_task s t (begun s h (stage.Getting reading.Guess) i 0 0 0), reply.Quiet))
        on false = refl
        on true = refuse_or s (leb s.sizes.n i) refusal.NoCell _ _ (λ _. refl)

    pub planned_page : Rules s → acted s (plan_page (sight_of s) t h i v) ≡ start_page s t h i v
    unfolding plan_page start_page page_on sight_of begun acted touched seated turned
    planned_page R = start_or t _ _ (ap (λ (x : Result Slot Refusal). acted s (page_on x (sight_of s) t h i v)) (live_is R h) ∙ on (live_handle s h))
      where
        on : (b : Bool) → acted s (page_on (if b then Ok (slot_at s (slot_of h)) else Err refusal.Dead) (sight_of s) t h i v) ≡ (if not b then (s, reply.Refused 7) else if eqb v 0 || ltb s.sizes.n (i + v) then (s, reply.Refused 8) else (with_task s t (begun s h (stage.Paging reading.Guess) i 0 (i + v) 0), reply.Quiet))
        on false = refl
        on true = refuse_or s (eqb v 0 || ltb s.sizes.n (i + v)) refusal.NoCell _ _ (λ _. refl)

    -- a slot is reserved, or there is none
    reserve_or : (k : ℕ → Task) (f : Found → Act) → f (Ok None) ≡ refused refusal.NoSlot → ((j : ℕ) → f (Ok (Some j)) ≡ reserves_for ((sight_of s).slot j) j t (k j))
        → acted s (f (vacant_in (sight_of s))) ≡ (if no_slot s then (s, reply.Refused 9) else (with_task (reserve s) t (k (free_slot s)), reply.Quiet))
    unfolding reserves_for sight_of reserve acted touched seated turned
    reserve_or k f absent present =
        ap (λ (x : Found). acted s (f x)) vacant-is ∙ by_test (leb s.sizes.h (free_slot s))
        (λ e. rw (e, le-ltb (free_slot s) s.sizes.h (leb-true s.sizes.h (free_slot s) e)) (ap (acted s) absent))
        (λ e. rw (e, lt-ltb (free_slot s) s.sizes.h (leb-false s.sizes.h (free_slot s) e)) (ap (acted s) (present (free_slot s))))

    pub planned_new : acted s (plan_new (sight_of s) t v) ≡ start_new s t v
    unfolding plan_new start_new new_on
    planned_new = start_or t _ _ (reserve_or (λ (j : ℕ). maker v j) (λ (x : Found). new_on x (sight_of s) t v) refl (λ j. refl))

    pub planned_set : Rules s → acted s (plan_set (sight_of s) t h i v) ≡ start_set s t h i v
    unfolding plan_set start_set set_on set_at begun sight_of
    planned_set R = start_or t _ _ (ap (λ (x : Result Slot Refusal). acted s (set_on x (sight_of s) t h i v)) (live_is R h) ∙ on (live_handle s h))
      where
        on : (b : Bool) → acted s (set_on (if b then Ok (slot_at s (slot_of h)) else Err refusal.Dead) (sight_of s) t h i v)
            ≡ (if not b then (s, reply.Refused 7) else if leb s.sizes.n i then (s, reply.Refused 8) else if no_slot s then (s, reply.Refused 9) else (with_task (reserve s) t (begun s h stage.Exchange i v 0 (free_slot s)), reply.Quiet))
        on false = acted-refused s refusal.Dead
        on true = refuse_or s (leb s.sizes.n i) refusal.NoCell _ _ (λ _. reserve_or (λ (j : ℕ). begun s h stage.Exchange i v 0 j) (λ (x : Found). set_at x (sight_of s) (slot_at s (slot_of h)) t h i v) refl (λ j. refl))

  pub planned_release : Rules s → (h : ℕ) → acted s (plan_release (sight_of s) h) ≡ release s h
  unfolding plan_release release release_on release_at acted touched seated turned
  planned_release R h = ap (λ (x : Result Slot Refusal). acted s (release_on x (sight_of s) h)) (live_is R h) ∙ on (live_handle s h)
    where
      on : (b : Bool) → acted s (release_on (if b then Ok (slot_at s (slot_of h)) else Err refusal.Dead) (sight_of s) h)
          ≡ (if not b then (s, reply.Refused 7) else if in_use s (slot_of h) then (s, reply.Refused 11) else (with_slot s (slot_of h) (freed (slot_at s (slot_of h)).serial), reply.Quiet))
      on false = refl
      on true =
          found_case (λ (x : Found). acted s (release_at x (slot_at s (slot_of h)) h) ≡ (if in_use s (slot_of h) then (s, reply.Refused 11) else (with_slot s (slot_of h) (freed (slot_at s (slot_of h)).serial), reply.Quiet)))
          (user_in (sight_of s) (slot_of h)) (in_use s (slot_of h)) (user-good (slot_of h)) (user-is (slot_of h)) (λ e. rw e) (λ j e. rw e)
