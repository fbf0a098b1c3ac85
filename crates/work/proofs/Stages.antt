-- What the stages share: a reading of whoever reads, the handle that an ending makes, and a touch that is not done.
-- Rests on Doing.
use Rattle.std.specs.Prelude.{ℕ, Some, eqb, ltb, ◌⊎◌, ◌+◌, Bool, true, false, List, Result, Ok, Err, ◌≡◌, refl, is_ok, leb}
use Rattle.std.proofs.Common.{ap, sym, ◌∙◌, arith, subst, inl, inr, eq-eqb, ne_eqb, eqb-true}
use Rattle.std.proofs.lemmas.Bool.{eqb-false}
use Rattle.rulebook.specs.Codes.{damaged}
use Rattle.rulebook.specs.Sizes.{last_serial, public_number}
use Rattle.rulebook.specs.State.{hand_of, idle}
use Rattle.rulebook.specs.Steps.{answer, moved}
use Rattle.rulebook.specs.Tests.{by_test}
use Rattle.rulebook.specs.declared.Damaged.{Damaged}
use Rattle.rulebook.specs.declared.Hand.{Hand}
use Rattle.rulebook.specs.declared.Progress.TheVariants as progress
use Rattle.rulebook.specs.declared.Reading.{Reading}
use Rattle.rulebook.specs.declared.Reply.{Reply}
use Rattle.rulebook.specs.declared.Reply.TheVariants as reply
use Rattle.rulebook.specs.declared.Sizes.{Sizes}
use Rattle.rulebook.specs.declared.Slot.{Slot}
use Rattle.rulebook.specs.declared.Stage.{Stage}
use Rattle.rulebook.specs.declared.Stage.TheVariants as stage
use Rattle.rulebook.specs.declared.Task.{Task}
use Rattle.acts.specs.Acts.{Found}
use Rattle.acts.specs.Plans.{after, ends, free_in, goes, refused}
use Rattle.acts.specs.StepPlans.{after_exchange, copy_goes, exchanges_on, fills_copy, fills_new, finishes, takes, get_goes, goes_on, page_goes, plan_at, read_in, stage_for}
use Rattle.acts.specs.Touch.{Touch}
use Rattle.acts.specs.Touch as touch
use Rattle.block.specs.Layout.{is_block, version_of}
use Rattle.block.specs.Words.{exchange_in, version_in}
use Rattle.acts.specs.declared.Reader.{Reader}
use Rattle.acts.specs.declared.Reader.TheVariants as reader
use Rattle.acts.specs.declared.Refusal.TheVariants as refusal
use Rattle.layout.specs.Pool.{applied_in, exchange_seen, put_task, raised, sight, slot_seen, touched_in, version_seen}
use Rattle.layout.specs.Does.{untouched}
use Rattle.layout.specs.Places.{block_part}
use Rattle.work.specs.Stepped.{finished, live_slot, next_serial, step_at, task_up}
use Rattle.work.proofs.Doing.{does_ends, does_goes, does_refused, does_touches, ends_not, goes_not}

module _ (p : List ℕ) (d : Sizes) (t : ℕ) where
  -- ---- whoever reads

  pub as_reading : (o : Reader) (r : Reading) → step_at p d t (stage_for o r) ≡ applied_in p d (goes_on o (read_in r (sight p d) (task_up p d t)) t (task_up p d t))
  unfolding step_at plan_at goes_on
  as_reading reader.Get r = refl
  as_reading reader.Copy r = refl
  as_reading reader.Page r = refl

  pub goes_bad : (o : Reader) (e : Damaged) (k : Task) → applied_in p d (goes_on o (Err e) t k) ≡ (p, reply.Refused 2)
  unfolding goes_on get_goes copy_goes page_goes
  goes_bad reader.Get e k = sym (does_refused p d refusal.Damaged)
  goes_bad reader.Copy e k = sym (does_refused p d refusal.Damaged)
  goes_bad reader.Page e k = sym (does_refused p d refusal.Damaged)

  pub goes_going : (o : Reader) (r : Reading) (w : Hand) (k : Task) → applied_in p d (goes_on o (Ok (progress.Going r w)) t k) ≡ (put_task p d t (moved k (stage_for o r) w), reply.Quiet)
  unfolding goes_on get_goes copy_goes page_goes
  goes_going reader.Get r w k = sym (does_goes p d t _ _)
  goes_going reader.Copy r w k = sym (does_goes p d t _ _)
  goes_going reader.Page r w k = sym (does_goes p d t _ _)

  -- ---- a touch that is not done

  left_as : (x : Touch) (q : List ℕ) → (q, false) ≡ touched_in p d x → q ≡ p
  left_as x q e = ap (λ (y : List ℕ × Bool). y.0) e ∙ untouched p d x (sym (ap (λ (y : List ℕ × Bool). y.1) e))

  module _ (x : Touch) (q : List ℕ) (r : Result Unit Damaged) (e : (q, is_ok r) ≡ touched_in p d x) (f : Damaged) (g : r ≡ Err f) (s : Reply) (h : s ≡ reply.Refused 2) where
    undone : (q, false) ≡ touched_in p d x
    undone = ap (λ (y : Result Unit Damaged). (q, is_ok y)) (sym g) ∙ e

    pub goes_err : (z : Task) (m : Reply) → (q, s) ≡ applied_in p d (goes x t z m)
    goes_err z m = ap (λ (y : Reply). (q, y)) h ∙ goes_not p d t z m x q undone

    pub ends_err : (z : Task) (m : Reply) (j : ℕ) (y : Slot) → (q, s) ≡ applied_in p d (ends x j y t z m)
    ends_err z m j y = ap (λ (y : Reply). (q, y)) h ∙ ends_not p d t z m x q undone j y

  -- ---- a handle that is made

  pub finish_bad : (y : Result Slot Damaged) (x : Touch) (k : Task) (b l : ℕ) (e : Damaged) → next_serial y ≡ Err e → (p, reply.Refused 2) ≡ applied_in p d (finishes y x t k b l)
  unfolding finishes next_serial
  finish_bad (Err _) x k b l e h = does_refused p d refusal.Damaged
  finish_bad (Ok y) x k b l e h =
      by_test (leb last_serial y.serial) (λ o. rw o (does_refused p d refusal.Damaged))
      (λ o. let q : ◌≡◌ {A = Result ℕ Damaged} (Ok (y.serial + 1)) (Err e) = (rw o at h) in let z : ◌≡◌ {A = ℕ} 0 1 = cc in absurd (omega arith))

  pub finish_ends : (y : Result Slot Damaged) (x : Touch) (k : Task) (b l s : ℕ) → next_serial y ≡ Ok s
      → ends x k.fresh (live_slot s b l) t idle (reply.Made k.steps (public_number k.fresh s)) ≡ finishes y x t k b l
  unfolding finishes next_serial
  finish_ends (Err _) x k b l s h = let z : ◌≡◌ {A = ℕ} 0 1 = cc in absurd (omega arith)
  finish_ends (Ok y) x k b l s h =
      by_test (leb last_serial y.serial)
      (λ o. let q : ◌≡◌ {A = Result ℕ Damaged} (Err damaged) (Ok s) = (rw o at h) in let z : ◌≡◌ {A = ℕ} 0 1 = cc in absurd (omega arith))
      (λ o. let q : ◌≡◌ {A = Result ℕ Damaged} (Ok (y.serial + 1)) (Ok s) = (rw o at h) in let i : s ≡ y.serial + 1 = cc in rw (o, i))

  module _ (y : Result Slot Damaged) (x : Touch) (k : Task) (b l v : ℕ) (h : next_serial y ≡ Ok v) (q : List ℕ) (r : Result Unit Damaged) (e : (q, is_ok r) ≡ touched_in p d x) where
    pub finish_err : (f : Damaged) → r ≡ Err f → (s : Reply) → s ≡ reply.Refused 2 → (q, s) ≡ applied_in p d (finishes y x t k b l)
    finish_err f g s i = ends_err x q r e f g s i idle _ k.fresh (live_slot v b l) ∙ ap (applied_in p d) (finish_ends y x k b l v h)

    pub finish_done : (u : Unit) → r ≡ Ok u → (z : List ℕ × Reply) → z ≡ finished q d t k v b l → z ≡ applied_in p d (finishes y x t k b l)
    finish_done u g z i =
        i ∙ does_ends p d t idle _ x q (ap (λ (y : Result Unit Damaged). (q, is_ok y)) (sym g) ∙ e) k.fresh (live_slot v b l) ∙ ap (applied_in p d) (finish_ends y x k b l v h)

  -- ---- a block that is taken, the cells of a copy and of a new

  module _ (k : Task) (q : List ℕ) (r : Result Unit Damaged) (f : Damaged) (g : r ≡ Err f) (s : Reply) (h : s ≡ reply.Refused 2) where
    pub take_err : (n : Stage) (b : ℕ) → free_in (sight p d) ≡ Ok (Some b) → (q, is_ok r) ≡ touched_in p d (touch.Take b) → (q, s) ≡ applied_in p d (takes (free_in (sight p d)) (sight p d) t k n)
    unfolding takes
    take_err n b i e = goes_err (touch.Take b) q r e f g s h _ _ ∙ ap (λ (x : Found). applied_in p d (takes x (sight p d) t k n)) (sym i)

    pub copy_err : (n v : ℕ) → v ≡ answer k.hand → (q, is_ok r) ≡ touched_in p d (touch.Fill k.target k.hand.cell v) → (q, s) ≡ applied_in p d (fills_copy n t k)
    unfolding fills_copy
    copy_err n v i e = goes_err (touch.Fill k.target k.hand.cell (answer k.hand)) q r (rw i at e) f g s h _ _

    pub fill_err : (after k.hand.cell ≡ d.n → ⊥) → (q, is_ok r) ≡ touched_in p d (touch.Fill k.target k.hand.cell k.value) → (q, s) ≡ applied_in p d (fills_new (sight p d) t k)
    unfolding fills_new sight
    fill_err i e = rw (ne_eqb (after k.hand.cell) d.n i) (goes_err (touch.Fill k.target k.hand.cell k.value) q r e f g s h _ _)

  pub fill_last : (k : Task) (z : List ℕ × Reply) → after k.hand.cell ≡ d.n
      → z ≡ applied_in p d (finishes (slot_seen p d k.fresh) (touch.Fill k.target k.hand.cell k.value) t k k.target 0) → z ≡ applied_in p d (fills_new (sight p d) t k)
  unfolding fills_new sight
  fill_last k z i j = j ∙ rw (eq-eqb (after k.hand.cell) d.n i)

  -- ---- the exchange

  module _ (k : Task) where
    abbrev Seen : Result Bool Damaged → Type 0
    Seen (Ok true) = version_seen p d k.block ≡ Ok k.number
    Seen (Ok false) = (v : ℕ) × (version_seen p d k.block ≡ Ok v) × (v ≡ k.number → ⊥)
    Seen (Err e) = (version_seen p d k.block ≡ Err damaged) ⊎ (version_seen p d k.block ≡ Ok k.number)

    there : ltb k.block d.b ≡ true → is_block d.n (block_part p d k.block) ≡ true → version_seen p d k.block ≡ Ok (version_of (block_part p d k.block))
    unfolding version_seen version_in
    there a b = rw (a, b)

    unsized : ltb k.block d.b ≡ true → is_block d.n (block_part p d k.block) ≡ false → version_seen p d k.block ≡ Err damaged
    unfolding version_seen version_in
    unsized a b = rw (a, b)

    away : ltb k.block d.b ≡ false → version_seen p d k.block ≡ Err damaged
    unfolding version_seen
    away a = rw a

    -- what an exchange answers says what V was
    seen : Seen (exchange_seen p d k.block k.number)
    unfolding exchange_seen exchange_in
    seen =
        by_test (ltb k.block d.b)
        (λ a. by_test (is_block d.n (block_part p d k.block))
        (λ b. by_test (eqb (version_of (block_part p d k.block)) k.number)
        (λ c. by_test (leb k.number d.n)
        (λ e. rw (a, b, c, e) (there a b ∙ ap Ok (eqb-true _ _ c)))
        (λ e. rw (a, b, c, e) (inr (there a b ∙ ap Ok (eqb-true _ _ c)))))
        (λ c. rw (a, b, c) (version_of (block_part p d k.block), there a b, eqb-false _ _ c)))
        (λ b. rw (a, b) (inl (unsized a b))))
        (λ a. rw a (inl (away a)))

    module _ (q : List ℕ) (r : Result Bool Damaged) (is : r ≡ exchange_seen p d k.block k.number) (e : (q, raised r) ≡ touched_in p d (touch.Exchange k.block k.number)) where
      module _ (b : Bool) (g : r ≡ Ok b) where
        told : Seen (Ok b)
        told = subst Seen (sym is ∙ g) seen

        done : (q, raised (Ok b)) ≡ touched_in p d (touch.Exchange k.block k.number)
        done = ap (λ (x : Result Bool Damaged). (q, raised x)) (sym g) ∙ e

      pub exchange_raised : r ≡ Ok true → (z : List ℕ × Reply) → z ≡ (put_task q d t (after_exchange d.n k), reply.Quiet) → z ≡ applied_in p d (exchanges_on (version_seen p d k.block) d.n t k)
      unfolding exchanges_on
      exchange_raised g z i = i ∙ does_touches p d t _ _ (touch.Exchange k.block k.number) q (done true g) ∙ rw (told true g, eq-eqb k.number k.number refl)

      pub exchange_same : r ≡ Ok false → (z : List ℕ × Reply) → z ≡ (put_task q d t (moved k stage.TakeCopy (hand_of 0)), reply.Quiet) → z ≡ applied_in p d (exchanges_on (version_seen p d k.block) d.n t k)
      unfolding exchanges_on
      exchange_same g z i =
          let n = told false g in
          i ∙ ap (λ (w : List ℕ). (put_task w d t (moved k stage.TakeCopy (hand_of 0)), reply.Quiet)) (left_as (touch.Exchange k.block k.number) q (done false g))
          ∙ rw (n.1, ne_eqb n.0 k.number n.2) (does_goes p d t _ _)

      pub exchange_err : (f : Damaged) → r ≡ Err f → (s : Reply) → s ≡ reply.Refused 2 → (q, s) ≡ applied_in p d (exchanges_on (version_seen p d k.block) d.n t k)
      unfolding exchanges_on
      exchange_err f g s h =
          let n : (q, false) ≡ touched_in p d (touch.Exchange k.block k.number) = ap (λ (x : Result Bool Damaged). (q, raised x)) (sym g) ∙ e in
          let way : (version_seen p d k.block ≡ Err damaged) ⊎ (version_seen p d k.block ≡ Ok k.number) = subst Seen (sym is ∙ g) seen in
          ap (λ (y : Reply). (q, y)) h ∙ at way n
        where
          at : (version_seen p d k.block ≡ Err damaged) ⊎ (version_seen p d k.block ≡ Ok k.number) → (q, false) ≡ touched_in p d (touch.Exchange k.block k.number)
              → (q, reply.Refused 2) ≡ applied_in p d (exchanges_on (version_seen p d k.block) d.n t k)
          at (inl a) n =
              let same : refused refusal.Damaged ≡ exchanges_on (version_seen p d k.block) d.n t k = (unfold exchanges_on in rw a) in
              ap (λ (w : List ℕ). (w, reply.Refused 2)) (left_as (touch.Exchange k.block k.number) q n) ∙ does_refused p d refusal.Damaged ∙ ap (applied_in p d) same
          at (inr a) n =
              let same : goes (touch.Exchange k.block k.number) t (after_exchange d.n k) reply.Quiet ≡ exchanges_on (version_seen p d k.block) d.n t k = (unfold exchanges_on in rw (a, eq-eqb k.number k.number refl)) in
              goes_not p d t (after_exchange d.n k) reply.Quiet (touch.Exchange k.block k.number) q n ∙ ap (applied_in p d) same

pub ruleset readings = (as_reading, goes_bad, goes_going)
