-- Every start and release on a sound pool does the machine's, and leaves the pool sound.
-- Rests on Alike, Planned and Doable.
use Rattle.std.specs.Prelude.{◌+◌, ◌<◌, ℕ, ◌&&◌, ◌||◌, false, true, List, Err, None, Ok, Option, Result, Some}
use Rattle.std.proofs.lemmas.Bool.{false≢true}
use Rattle.std.proofs.Common.{true≢false, ◌∙◌, sym, arith}
use Rattle.std.proofs.Math.Path.{◌≡◌, refl, subst⁻¹}
use Rattle.std.proofs.Math.Dec.{eqb, leb, ltb}
use borrow.Author.Tests.{leb-false, lt-ltb}
use Rattle.acts.specs.Acts.{Act, Found, SlotChange, TaskChange}
use Rattle.rulebook.specs.declared.Reply.{Reply}
use Rattle.rulebook.specs.declared.Sizes.{Sizes}
use Rattle.rulebook.specs.declared.Slot.{Slot}
use Rattle.rulebook.specs.declared.Task.{Task}
use Rattle.acts.specs.Acted.{acted}
use Rattle.acts.specs.Plans.{answers, ends, get_on, goes, live_in, live_row, new_on, page_on, placed, plan_get, plan_new, plan_page, plan_release, plan_set, ready_in, ready_row, release_at, release_on, reserves_for, set_at, set_on, unless, user_in, vacant_in}
use Rattle.acts.specs.Sight.{Sight, sight_of}
use Rattle.layout.specs.Calls.{called_in, release_in, start_get_in, start_new_in, start_page_in, start_set_in}
use Rattle.layout.specs.Header.{header_of}
use Rattle.layout.specs.Pool.{applied_in, sight, slot_near, task_near, touch_near, touched_in, touched_near, view_of}
use Rattle.rulebook.specs.Machine.{Call, Get, New, Page, Release, Set, call, release}
use Rattle.rulebook.specs.Sizes.{serial_of, slot_of}
use Rattle.rulebook.specs.Starts.{start_get, start_new, start_page, start_set}
use Rattle.rulebook.specs.State.{State, busy, fills, is_live, slot_at, task_at}
use Rattle.rulebook.specs.Tests.{if_case}
use Rattle.theorems.specs.Invariant.Shape.{Shape}
use Rattle.bridge.specs.Alike.{get_alike, new-alike, page-alike, release-alike, set-alike, vacant_case}
use Rattle.bridge.specs.Asked.{Bridged}
use Rattle.bridge.specs.Doable.{Doable, Seats, Turns, bridged_act, no-append}
use Rattle.bridge.specs.Planned.{planned_get, planned_new, planned_page, planned_release, planned_set}
use Rattle.bridge.specs.Shown.{Shows, sight-shows, sound-shape}
use Rattle.bridge.specs.Sound.{Sound}
use Rattle.acts.specs.Touch as touch
use Rattle.acts.specs.Acts as change
use Rattle.acts.specs.declared.Refusal.{Refusal}

module _ {d : Sizes} {p : List ℕ} (S : Sound d p) where
  abbrev s : State
  s = view_of d p

  abbrev f : Sight
  f = sight_of s

  -- ---- acts that touch no block

  pub quiet_act : (c : SlotChange) (e : TaskChange) (r : Reply) → slot_near d c ≡ true → task_near d e ≡ true → Seats d p touch.Nothing c → Turns d p touch.Nothing e → Doable d p (record { touch = touch.Nothing; slot = c; task = e; reply = r })
  unfolding touched_in touched_near touch_near
  quiet_act c e r x y seats turns =
      record { reach = record { slot = x; task = y }; done = refl; room = no-append (λ k i y o. let z : ◌≡◌ {A = ℕ} 0 1 = cc in omega arith); stands = S.stood_laid; seats = seats; others = λ u _ l. S.filling_laid u l; turns = turns }

  pub answers_act : (r : Reply) → Doable d p (answers r)
  unfolding slot_near task_near
  answers_act r = quiet_act change.Same change.Same r refl refl tt tt

  -- a task that fills no block
  pub goes_act : (t : ℕ) (k : Task) (r : Reply) → t < d.t → fills k.stage ≡ false → Doable d p (goes touch.Nothing t k r)
  unfolding slot_near task_near
  goes_act t k r h e = quiet_act change.Same (change.To t k) r refl (lt-ltb _ _ h) tt (λ l. absurd (true≢false (sym l ∙ e)))

  -- and a slot that is not live
  pub ends_act : (j : ℕ) (y : Slot) (t : ℕ) (k : Task) (r : Reply) → j < d.h → t < d.t → is_live y.status ≡ false → fills k.stage ≡ false → Doable d p (ends touch.Nothing j y t k r)
  unfolding slot_near task_near
  ends_act j y t k r h q o e =
      quiet_act (change.To j y) (change.To t k) r (lt-ltb _ _ h) (lt-ltb _ _ q) (λ l. absurd (true≢false (sym l ∙ o))) (λ l. absurd (true≢false (sym l ∙ e)))

  -- ---- starts

  start_act : (t : ℕ) (a : Act) → (t < d.t → Doable d p a) → Doable d p (unless (ready_in f t) a)
  unfolding unless ready_in ready_row sight_of view_of
  start_act t a h =
      if_case (λ (x : Result Unit Refusal). Doable d p (unless x a)) (leb d.t t) (λ _. answers_act _) (λ e.
      if_case (λ (x : Result Unit Refusal). Doable d p (unless x a)) (busy (task_at s t).stage) (λ _. answers_act _) (λ _. h (leb-false _ _ e)))

  vacant_act : (g : Found → Act) → ((j : ℕ) → j < d.h → Doable d p (g (Ok (Some j)))) → Doable d p (g (Ok None)) → Doable d p (g (vacant_in f))
  unfolding view_of
  vacant_act g some absent = vacant_case s (sound-shape d p S) (λ (x : Found). Doable d p (g x)) some absent

  module _ (t h i v : ℕ) where
    new_act : Doable d p (plan_new f t v)
    unfolding plan_new new_on reserves_for sight_of
    new_act = start_act t _ (λ q. vacant_act (λ (x : Found). new_on x f t v) (λ j l. ends_act j _ t _ _ l q refl refl) (answers_act _))

    get_on_lem : t < d.t → (x : Result Slot Refusal) → Doable d p (get_on x f t h i)
    unfolding get_on
    get_on_lem q (Err n) = answers_act _
    get_on_lem q (Ok x) = if_case (Doable d p) (leb f.sizes.n i) (λ _. answers_act _) (λ _. goes_act t _ _ q refl)

    get_act : Doable d p (plan_get f t h i)
    unfolding plan_get
    get_act = start_act t _ (λ q. get_on_lem q (live_in f h))

    page_on_lem : t < d.t → (x : Result Slot Refusal) → Doable d p (page_on x f t h i v)
    unfolding page_on
    page_on_lem q (Err n) = answers_act _
    page_on_lem q (Ok x) = if_case (Doable d p) (eqb v 0 || ltb f.sizes.n (i + v)) (λ _. answers_act _) (λ _. goes_act t _ _ q refl)

    page_act : Doable d p (plan_page f t h i v)
    unfolding plan_page
    page_act = start_act t _ (λ q. page_on_lem q (live_in f h))

    set_at_lem : t < d.t → (y : Slot) → Doable d p (set_at (vacant_in f) f y t h i v)
    unfolding set_at reserves_for sight_of
    set_at_lem q y = vacant_act (λ (x : Found). set_at x f y t h i v) (λ j l. ends_act j _ t _ _ l q refl refl) (answers_act _)

    set_on_lem : t < d.t → (x : Result Slot Refusal) → Doable d p (set_on x f t h i v)
    unfolding set_on
    set_on_lem q (Err n) = answers_act _
    set_on_lem q (Ok y) = if_case (Doable d p) (leb f.sizes.n i) (λ _. answers_act _) (λ _. set_at_lem q y)

    set_act : Doable d p (plan_set f t h i v)
    unfolding plan_set
    set_act = start_act t _ (λ q. set_on_lem q (live_in f h))

  -- ---- release

  release_at_lem : (h : ℕ) → slot_of h < d.h → (x : Slot) (y : Found) → Doable d p (release_at y x h)
  unfolding release_at slot_near task_near
  release_at_lem h q x (Err _) = answers_act _
  release_at_lem h q x (Ok (Some u)) = answers_act _
  release_at_lem h q x (Ok None) = quiet_act (change.To (slot_of h) _) change.Same _ (lt-ltb _ _ q) refl (λ l. absurd (false≢true l)) tt

  release_act : (h : ℕ) → Doable d p (plan_release f h)
  unfolding plan_release release_on live_in live_row placed sight_of view_of
  release_act h =
      if_case (λ (x : Result Slot Refusal). Doable d p (release_on x f h)) (leb d.h (slot_of h)) (λ _. answers_act _) (λ e.
      if_case (λ (x : Result Slot Refusal). Doable d p (release_on x f h)) (is_live (slot_at s (slot_of h)).status && eqb (slot_at s (slot_of h)).serial (serial_of h))
      (λ _. if_case (λ (x : Result Slot Refusal). Doable d p (release_on x f h)) (ltb (slot_at s (slot_of h)).block d.b && leb (slot_at s (slot_of h)).number d.n)
      (λ _. release_at_lem h (leb-false _ _ e) _ (user_in f (slot_of h))) (λ _. answers_act _))
      (λ _. answers_act _))

  -- ---- the bridge

  -- a call whose plan, made from the state, can be done and is the machine's call
  pub called : (x : Sight → Act) (c : Call) → x (sight p d) ≡ x (sight_of (view_of d p)) → Doable d p (x (sight_of (view_of d p))) → acted (view_of d p) (x (sight_of (view_of d p))) ≡ call c (view_of d p) → Bridged d (called_in (header_of p) p x) (call c (view_of d p))
  unfolding called_in
  called x c alike D e =
      subst⁻¹ (λ (z : Option Sizes). Bridged d (called_in z p x) (call c s)) S.header
      (subst⁻¹ (λ (a : Act). Bridged d (applied_in p d a) (call c s)) alike (bridged_act S (x f) D c e))

  W : Shows (sight p d) s
  W = sight-shows d p S

  sh : Shape s
  sh = sound-shape d p S

  pub new_bridged : (t v : ℕ) → Bridged d (start_new_in p t v) (start_new (view_of d p) t v)
  unfolding start_new_in call
  new_bridged t v = called (λ e. plan_new e t v) (New t v) (new-alike W sh t 0 0 v) (new_act t 0 0 v) (planned_new s sh t 0 0 v)

  pub get_bridged : (t h i : ℕ) → Bridged d (start_get_in p t h i) (start_get (view_of d p) t h i)
  unfolding start_get_in call
  get_bridged t h i = called (λ e. plan_get e t h i) (Get t h i) (get_alike W sh t h i 0) (get_act t h i 0) (planned_get s sh t h i 0 S.rules)

  pub set_bridged : (t h i v : ℕ) → Bridged d (start_set_in p t h i v) (start_set (view_of d p) t h i v)
  unfolding start_set_in call
  set_bridged t h i v = called (λ e. plan_set e t h i v) (Set t h i v) (set-alike W sh t h i v) (set_act t h i v) (planned_set s sh t h i v S.rules)

  pub page_bridged : (t h from m : ℕ) → Bridged d (start_page_in p t h from m) (start_page (view_of d p) t h from m)
  unfolding start_page_in call
  page_bridged t h from m = called (λ e. plan_page e t h from m) (Page t h from m) (page-alike W sh t h from m) (page_act t h from m) (planned_page s sh t h from m S.rules)

  pub release_bridged : (h : ℕ) → Bridged d (release_in p h) (release (view_of d p) h)
  unfolding release_in call
  release_bridged h = called (λ e. plan_release e h) (Release h) (release-alike W sh h) (release_act h) (planned_release s sh S.rules h)
