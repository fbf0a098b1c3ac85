-- Every call keeps the invariant, and an opened store has it.
-- Rests on Steps.
use Rattle.std.specs.Prelude.{◌%◌, ◌+◌, ◌/◌, ◌<◌, ℕ, Bool, ◌&&◌, ◌||◌, false, not, true, ◌≡◌, eqb, leb}
use Rattle.std.proofs.lemmas.Bool.{false≢true}
use Rattle.std.proofs.Common.{true≢false, ◌∙◌, ap₂, sym, get_or-set_same}
use Rattle.std.proofs.Math.Path.{ap, refl, subst}
use native.Mathlib.Omega.{arith}
use Rattle.std.proofs.Math.Dec.{ltb}
use Rattle.std.proofs.Math.Seq.{get_or-set_other}
use borrow.Author.Tests.{eq-eqb, eqb-false, eqb-true, leb-false, ltb-false, ltb-true, not-false}
use Rattle.rulebook.specs.declared.Reading.TheVariants.{Guess}
use Rattle.rulebook.specs.declared.Slot.{Slot}
use Rattle.rulebook.specs.declared.Stage.TheVariants.{Getting, Idle, Paging}
use Rattle.rulebook.specs.declared.Status.{Status}
use Rattle.rulebook.specs.declared.Status.TheVariants.{Free, Live, Reserved}
use Rattle.rulebook.specs.declared.Task.{Task}
use Rattle.rulebook.specs.Lists.{any_none, lowest-found, replicate_get}
use Rattle.rulebook.specs.Machine.{Call, Get, LookCell, LookEntry, LookLog, LookTask, LookVersion, New, Open, Page, Release, Report, Set, Step, call, release}
use Rattle.rulebook.specs.Sizes.{last_serial, opens, room}
use Rattle.rulebook.specs.Starts.{Lie, begun, no_slot, opened, opening, reserve, start_get, start_new, start_page, start_set, startable}
use Rattle.rulebook.specs.State.{Result, State, block_at, busy, fills, free_slot, freed, idle, in_use, is_free, is_live, live_handle, names, reserves, slot_at, task_at, with_slot, with_task, writes}
use Rattle.rulebook.specs.Tests.{and_both, by_test, if_case, or_neither}
use Rattle.theorems.specs.Invariant.Blocks.{free≢live, free≢reserved, live≢reserved, no_flags}
use Rattle.theorems.specs.Invariant.Facts.{ok-fresh, reserves-busy}
use Rattle.theorems.specs.Invariant.Fills.{slot_too}
use Rattle.theorems.specs.Invariant.Moves.{Apart, Goes, InvS, Owned, frame_same, frame-slot, owned-on, same_refl, unique-dead}
use Rattle.theorems.specs.Invariant.Readings.{quiet, u_fresh, u_named}
use Rattle.theorems.specs.Invariant.Shape.{Shape}
use Rattle.theorems.specs.Invariant.Steps.{inv-step}
use Rattle.theorems.specs.Invariant.Tasks.{Fresh, OkAt, Stands, frame}

-- a handle that is not in use is named by no task
not_named : (s : State) (j : ℕ) → in_use s j ≡ false → (u : ℕ) → names (task_at s u).stage ≡ true → (task_at s u).slot ≡ j → ⊥
unfolding in_use
not_named s j h u n o =
    let p = any_none (λ (x : Task). names x.stage && eqb x.slot j) s.tasks idle h refl u in
    true≢false (sym (ap₂ (λ (x : Bool) (y : Bool). x && y) n (eq-eqb _ j o)) ∙ p)

pub reserved≢live : Reserved ≡ Live → ⊥
reserved≢live q = let z : ◌≡◌ {A = ℕ} 0 1 = cc in omega arith

slot_is_free : (x : Status) → is_free x ≡ true → x ≡ Free
slot_is_free Free h = refl
slot_is_free Reserved h = absurd (false≢true h)
slot_is_free Live h = absurd (false≢true h)

pub is_live_lem : (x : Status) → is_live x ≡ true → x ≡ Live
is_live_lem Free h = absurd (false≢true h)
is_live_lem Reserved h = absurd (false≢true h)
is_live_lem Live h = refl

-- a handle that a call may name
pub record Handle (s : State) (h : ℕ) : Type 0 where
  pub in_h : h % 256 < s.sizes.h
  pub lives : (slot_at s (h % 256)).status ≡ Live
  pub carried : (slot_at s (h % 256)).serial ≡ h / 256

pub live_handle_lem : (s : State) (h : ℕ) → live_handle s h ≡ true → Handle s h
unfolding live_handle
live_handle_lem s h e =
    let p = and_both _ _ e in
    let q = and_both _ _ p.1 in
    record { in_h = ltb-true _ _ p.0; lives = is_live_lem _ q.0; carried = eqb-true _ _ q.1 }

-- the slot to reserve is free and not spent
pub free_slot_lem : (s : State) → free_slot s < s.sizes.h → ((slot_at s (free_slot s)).status ≡ Free) × ((slot_at s (free_slot s)).serial < last_serial)
unfolding free_slot
free_slot_lem s h =
    let p = and_both _ _ (lowest-found (λ (j : ℕ). is_free (slot_at s j).status && ltb (slot_at s j).serial last_serial) s.sizes.h 0 (omega arith)) in
    (slot_is_free _ p.0, ltb-true _ last_serial p.1)

module _ (s : State) (sh : Shape s) (iv : InvS s) (t : ℕ) where
  pub idle_task : eqb (startable s t) 0 ≡ true → (t < s.sizes.t) × (busy (task_at s t).stage ≡ false)
  unfolding startable
  idle_task e =
      by_test (leb s.sizes.t t)
      (λ q. absurd (false≢true (rw q at e)))
      (λ q. (leb-false s.sizes.t t q, by_test (busy (task_at s t).stage) (λ b. absurd (false≢true (rw (q, b) at e))) (λ b. b)))

  -- an idle task has reserved nothing
  starts_none : {A : Type 0} → busy (task_at s t).stage ≡ false → reserves (task_at s t).stage ≡ true → A
  starts_none b r = absurd (false≢true (sym (reserves-busy (task_at s t).stage b) ∙ r))

  -- a start that reserves a slot
  start_set_lem : (k : Task) → t < s.sizes.t → busy (task_at s t).stage ≡ false → free_slot s < s.sizes.h → k.fresh ≡ free_slot s → reserves k.stage ≡ true → writes k.stage ≡ false → fills k.stage ≡ false
      → (Fresh s.sizes.h (slot_at (reserve s)) (free_slot s) → ((j : ℕ) → (slot_at s j).status ≡ Live → slot_at (reserve s) j ≡ slot_at s j)
      → OkAt s.sizes.n s.sizes.h s.sizes.b k.stage (slot_at (reserve s)) (block_at s) k)
      → Goes s (with_task (reserve s) t k)
  unfolding reserve with_slot with_task
  start_set_lem k in_t still in_h kf kr w f own =
      slot_too s sh iv t in_t (free_slot s) _ k reserved≢live not_live in_h
      (own (record { in_h = in_h; slot_is_reserved = ap (λ (z : Slot). z.status) mine; spare = subst (λ (z : Slot). z.serial < last_serial) (sym mine) (free_slot_lem s in_h).1 })
      (λ j l. get_or-set_other s.slots (free_slot s) j _ (freed 0) (λ e. not_live (ap (λ (c : ℕ). (slot_at s c).status) (sym e) ∙ l))))
      (λ u d n e. not_live (ap (λ (c : ℕ). (slot_at s c).status) (sym e) ∙ (u_named s sh iv t in_t u n).lives))
      not_fresh
      (λ u d. record { a_write = λ p. absurd (false≢true (sym w ∙ p)); a_fill = λ p. absurd (false≢true (sym f ∙ p)); a_fresh = λ p q e. not_fresh u d q (sym e ∙ kf) })
      owners
    where
      was : (slot_at s (free_slot s)).status ≡ Free
      was = (free_slot_lem s in_h).0

      mine : slot_at (reserve s) (free_slot s) ≡ record { serial = (slot_at s (free_slot s)).serial; status = Reserved; block = 0; number = 0 }
      mine = get_or-set_same s.slots (free_slot s) _ (freed 0) (omega (arith, in_h, sh.slots_len))

      owners : (j : ℕ) → (slot_at (reserve s) j).status ≡ Reserved → Owned (task_at (with_task s t k)) j
      owners j r =
          by_test (eqb j (free_slot s))
          (λ e. (t, ap (λ (x : Task). reserves x.stage) now ∙ kr, ap (λ (x : Task). x.fresh) now ∙ kf ∙ sym (eqb-true j (free_slot s) e)))
          (λ e. owned-on (task_at s) (task_at (with_task s t k)) t (λ u d. get_or-set_other s.tasks t u k idle d) j k now (starts_none still)
          (iv.owned j (ap (λ (z : Slot). z.status) (sym (get_or-set_other s.slots (free_slot s) j _ (freed 0) (eqb-false j (free_slot s) e))) ∙ r)))
        where
          now : task_at (with_task s t k) t ≡ k
          now = get_or-set_same s.tasks t k idle (omega (arith, in_t, sh.tasks_len))

      not_live : (slot_at s (free_slot s)).status ≡ Live → ⊥
      not_live l = free≢live (sym was ∙ l)

      not_fresh : (u : ℕ) → (u ≡ t → ⊥) → reserves (task_at s u).stage ≡ true → (task_at s u).fresh ≡ free_slot s → ⊥
      not_fresh u d n e = free≢reserved (sym was ∙ ap (λ (c : ℕ). (slot_at s c).status) (sym e) ∙ (u_fresh s sh iv t in_t u n).slot_is_reserved)

  abbrev Fine : Result → Type 0
  Fine x = Goes s x.0

  pub inv_new : (v : ℕ) → Fine (start_new s t v)
  unfolding start_new
  inv_new v =
      if_case Fine (not (eqb (startable s t) 0)) (λ e. (iv, same_refl s)) (λ e1.
      if_case Fine (no_slot s) (λ e. (iv, same_refl s)) (λ e2.
      let r = idle_task (not-false _ e1) in
      let in_t = r.0 in
      start_set_lem _ in_t r.1 (leb-false s.sizes.h (free_slot s) e2) refl refl refl refl (λ fr keep. (fr, sh.some_cells_lem (omega arith)))))

  pub inv-get : (h i : ℕ) → Fine (start_get s t h i)
  unfolding start_get begun
  inv-get h i =
      if_case Fine (not (eqb (startable s t) 0)) (λ e. (iv, same_refl s)) (λ e1.
      if_case Fine (not (live_handle s h)) (λ e. (iv, same_refl s)) (λ e2.
      if_case Fine (leb s.sizes.n i) (λ e. (iv, same_refl s)) (λ e3.
      let l = live_handle_lem s h (not-false _ e2) in
      let r = idle_task (not-false _ e1) in
      quiet s sh iv t r.0 _ (starts_none r.1) (record { lives = l.lives; on = refl; at = refl }, record { in_n = leb-false s.sizes.n i e3; good = tt }) (λ u d. no_flags (Getting Guess) _ _ _ refl refl refl))))

  pub inv-page : (h from n : ℕ) → Fine (start_page s t h from n)
  unfolding start_page begun
  inv-page h from n =
      if_case Fine (not (eqb (startable s t) 0)) (λ e. (iv, same_refl s)) (λ e1.
      if_case Fine (not (live_handle s h)) (λ e. (iv, same_refl s)) (λ e2.
      if_case Fine (eqb n 0 || ltb s.sizes.n (from + n)) (λ e. (iv, same_refl s)) (λ e3.
      let l = live_handle_lem s h (not-false _ e2) in
      let q = or_neither _ _ e3 in
      let some : n ≡ 0 → ⊥ = eqb-false n 0 q.0 in
      let fits = ltb-false s.sizes.n (from + n) q.1 in
      let r = idle_task (not-false _ e1) in
      quiet s sh iv t r.0 _ (starts_none r.1) (record { lives = l.lives; on = refl; at = refl }, record { in_n = omega arith; good = tt }, omega arith, fits) (λ u d. no_flags (Paging Guess) _ _ _ refl refl refl))))

  pub inv-set : (h i v : ℕ) → Fine (start_set s t h i v)
  unfolding start_set begun
  inv-set h i v =
      if_case Fine (not (eqb (startable s t) 0)) (λ e. (iv, same_refl s)) (λ e1.
      if_case Fine (not (live_handle s h)) (λ e. (iv, same_refl s)) (λ e2.
      if_case Fine (leb s.sizes.n i) (λ e. (iv, same_refl s)) (λ e3.
      if_case Fine (no_slot s) (λ e. (iv, same_refl s)) (λ e4.
      let l = live_handle_lem s h (not-false _ e2) in
      let r = idle_task (not-false _ e1) in
      start_set_lem _ r.0 r.1 (leb-false s.sizes.h (free_slot s) e4) refl refl refl refl
      (λ fr keep. let k = keep (h % 256) l.lives in
      (record { lives = ap (λ (z : Slot). z.status) k ∙ l.lives; on = ap (λ (z : Slot). z.block) k; at = ap (λ (z : Slot). z.number) k }, fr, leb-false s.sizes.n i e3))))))

-- ---- release

pub inv-release : (s : State) → Shape s → InvS s → (h : ℕ) → InvS (release s h).0
unfolding release with_slot
inv-release s sh iv h =
    if_case (λ (x : Result). InvS x.0) (not (live_handle s h)) (λ e. iv) (λ e1.
    if_case (λ (x : Result). InvS x.0) (in_use s (h % 256)) (λ e. iv) (λ e2.
    let_go (live_handle_lem s h (not-false _ e1)) e2))
  where
    y : Slot
    y = freed (slot_at s (h % 256)).serial

    let_go : Handle s h → in_use s (h % 256) ≡ false → InvS (with_slot s (h % 256) y)
    let_go l e =
        record {
          stands = λ j p. by_test (eqb j (h % 256))
              (λ q. absurd (free≢live (ap (λ (z : Slot). z.status) (sym (ap (λ (c : ℕ). slot_at (with_slot s (h % 256) y) c) (eqb-true j _ q) ∙ mine)) ∙ p)))
              (λ q. subst (λ (z : Slot). Stands s.sizes.n s.sizes.b (block_at s) z.block z.number) (sym (others j (eqb-false j _ q))) (iv.stands j (ap (λ (z : Slot). z.status) (sym (others j (eqb-false j _ q))) ∙ p)));
          oks = λ u. frame s.sizes.n s.sizes.h s.sizes.b (slot_at s) (slot_at (with_slot s (h % 256) y)) (block_at s) (block_at s) (task_at s u) (task_at s u).stage
              (frame-slot _ (slot_at s) (slot_at (with_slot s (h % 256) y)) (block_at s) (block_at s) (h % 256) (task_at s u) (frame_same _ _ _ _) others
              (λ n o. not_named s (h % 256) e u n o)
              (λ n o. live≢reserved (slot_at s (h % 256)) l.lives (ap (λ (c : ℕ). (slot_at s c).status) (sym o) ∙ (ok-fresh s.sizes.n s.sizes.h s.sizes.b (slot_at s) (block_at s) (task_at s u) (task_at s u).stage n (iv.oks u)).slot_is_reserved))
              (λ n p. absurd (free≢live (ap (λ (z : Slot). z.status) (sym mine) ∙ p)))
              (λ n p. absurd (free≢live (ap (λ (z : Slot). z.status) (sym mine) ∙ p))))
              (iv.oks u);
          apart = iv.apart;
          unique = unique-dead (slot_at s) (slot_at (with_slot s (h % 256) y)) (h % 256) others (λ p. free≢live (ap (λ (z : Slot). z.status) (sym mine) ∙ p)) iv.unique;
          owned = λ j r. iv.owned j (ap (λ (z : Slot). z.status) (sym (others j (λ e. free≢reserved (ap (λ (z : Slot). z.status) (sym (ap (slot_at (with_slot s (h % 256) y)) e ∙ mine)) ∙ r)))) ∙ r);
        }
      where
        mine : slot_at (with_slot s (h % 256) y) (h % 256) ≡ y
        mine = get_or-set_same s.slots (h % 256) y (freed 0) (omega (arith, l.in_h, sh.slots_len))

        others : (j : ℕ) → (j ≡ h % 256 → ⊥) → slot_at (with_slot s (h % 256) y) j ≡ slot_at s j
        others j d = get_or-set_other s.slots (h % 256) j y (freed 0) d

-- ---- open

pub inv-opened : (n a t words : ℕ) (lie : Lie) → InvS (opened n a t words lie)
unfolding opened
inv-opened n a t words lie =
    record {
      stands = λ j l. absurd (free≢live (status j ∙ l));
      oks = λ u. subst (λ (k : Task). OkAt n a (room n a t words) k.stage (slot_at q) (block_at q) k) (sym (replicate_get t idle u)) tt;
      apart = λ u w d. subst (λ (k : Task). Apart k.stage k (task_at q w).stage (task_at q w)) (sym (replicate_get t idle u)) (no_flags Idle _ _ _ refl refl refl);
      unique = λ i j l. absurd (free≢live (status i ∙ l));
      owned = λ j r. absurd (free≢reserved (status j ∙ r));
    }
  where
    q : State
    q = opened n a t words lie

    status : (j : ℕ) → Free ≡ (slot_at q j).status
    status j = ap (λ (z : Slot). z.status) (sym (replicate_get a (freed 0) j))

-- ---- every call

pub inv-call : (c : Call) (s : State) → Shape s → InvS s → InvS (call c s).0
unfolding call opening
inv-call (Open n a t words lie) s sh iv = if_case (λ (x : Result). InvS x.0) (opens n a t words) (λ e. inv-opened n a t words lie) (λ e. iv)
inv-call (New t v) s sh iv = (inv_new s sh iv t v).0
inv-call (Get t h i) s sh iv = (inv-get s sh iv t h i).0
inv-call (Set t h i v) s sh iv = (inv-set s sh iv t h i v).0
inv-call (Page t h from n) s sh iv = (inv-page s sh iv t h from n).0
inv-call (Step t) s sh iv = (inv-step s sh iv t).0
inv-call (Release h) s sh iv = inv-release s sh iv h
inv-call Report s sh iv = iv
inv-call (LookVersion b) s sh iv = iv
inv-call (LookCell b i) s sh iv = iv
inv-call (LookLog b i) s sh iv = iv
inv-call (LookEntry b i j) s sh iv = iv
inv-call (LookTask t) s sh iv = iv
