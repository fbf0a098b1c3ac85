-- The steps of a set in place keep the invariant.
-- Rests on Readings.
use Rattle.std.specs.Prelude.{◌+◌, ◌<◌, ◌≤◌, ℕ, true, ◌≡◌, eqb, ltb, length, set}
use Rattle.std.proofs.lemmas.Bool.{false≢true}
use mathlib.Core.List.{List, [], ◌++◌, ◌∷◌}
use Rattle.std.proofs.Common.{◌∙◌, sym, arith}
use Rattle.std.proofs.Math.Path.{ap, refl, subst}
use Rattle.std.proofs.Math.Seq.{get_or-set_other, get_or-set_same}
use borrow.Author.Tests.{eqb-false, eqb-true, ltb-true}
use Rattle.rulebook.specs.declared.Entry.{Entry}
use Rattle.rulebook.specs.declared.Hand.{Hand}
use Rattle.rulebook.specs.declared.Slot.{Slot}
use Rattle.rulebook.specs.declared.Stage.{Stage}
use Rattle.rulebook.specs.declared.Stage.TheVariants.{Append, Exchange, Idle, Read, TakeCopy, Write}
use Rattle.rulebook.specs.declared.Status.TheVariants.{Live}
use Rattle.rulebook.specs.declared.Task.{Task}
use Rattle.rulebook.specs.State.{Block, Result, State, block_at, fills, freed, hand_of, idle, log_at, reserves, slot_at, task_at, with_block, with_cell, with_log, with_slot, with_task, with_version, writes}
use Rattle.rulebook.specs.Steps.{counted, exchanged, finished, here_of, moved, step_at}
use Rattle.rulebook.specs.Tests.{by_test, if_case}
use Rattle.theorems.specs.Invariant.Blocks.{live≢reserved, log_cases, no_flags, stands-new}
use Rattle.theorems.specs.Invariant.Entries.{distinct_snoc, total_snoc}
use Rattle.theorems.specs.Invariant.Moves.{Goes, InvS, apart_keep, frame-block, frame-slot, inv_move, keeps-append, keeps_ver, keeps-write, owned_ended, rises_snoc, stands-other, unique-new}
use Rattle.theorems.specs.Invariant.Readings.{Ok, Others, block_too, in_tasks, my_apart, my_ok, my_stands, named-no-fill, on-block, other_block, quiet, same_block, see_block, u_keeps, u_named, u_writer, wide_at}
use Rattle.theorems.specs.Invariant.Shape.{Shape}
use Rattle.theorems.specs.Invariant.Tasks.{Covered, Early, Fresh, Keeps, Named, OkAt, Stands, Writer}
use Rattle.theorems.specs.Reading.Append.{below_snoc, entry, value_snoc}
use Rattle.theorems.specs.Reading.Search.{Below, Rises}
use Rattle.theorems.specs.Terms.{entries}

module _ (s : State) (sh : Shape s) (iv : InvS s) (t : ℕ) (in_t : t < s.sizes.t) where
  -- ---- a set in place

  -- while a handle is a leaf, nobody writes its block
  pub leaf_no-writer : {j b n : ℕ} → Named (slot_at s) j b n → (block_at s b).version ≡ n → (u : ℕ) → writes (task_at s u).stage ≡ true → (task_at s u).block ≡ b → ⊥
  leaf_no-writer {j} {b} {n} h v u w e =
      let q = (u_writer s sh iv t in_t u w).1 in
      omega (arith, q.oldest j h.lives (h.on ∙ sym e), h.at, q.raised, v, ap (λ (c : ℕ). (block_at s c).version) e)

  -- the exchange succeeds, and the set goes on at stage g
  pub first_set : (g : Stage) (w : Hand) → reserves g ≡ true → Ok s sh iv t in_t Exchange (task_at s t) → (here_of s (task_at s t)).version ≡ (task_at s t).number
      → OkAt s.sizes.n s.sizes.h s.sizes.b g (slot_at s) (block_at (with_block s (task_at s t).block (with_version (here_of s (task_at s t)) ((task_at s t).number + 1)))) (moved (counted (task_at s t)) g w)
      → Others s sh iv t in_t g (moved (counted (task_at s t)) g w)
      → Goes s (with_task (with_block s (task_at s t).block (with_version (here_of s (task_at s t)) ((task_at s t).number + 1))) t (moved (counted (task_at s t)) g w))
  unfolding moved counted with_version
  first_set g w r h v own apart =
      block_too s sh iv t in_t (task_at s t).block (with_version (here_of s (task_at s t)) ((task_at s t).number + 1)) (moved (counted (task_at s t)) g w) (λ _. (r, refl)) st.in_b
      (λ j l o. let q = on-block s sh iv t in_t (task_at s t).block j l o in
      stands-new q.in_b q.small (same_block s sh iv t in_t _ _ st.in_b) (omega (arith, q.reach, v)) (omega (arith, st.small)) q.rises (λ i p d. omega (arith, q.below i p d, v)) (omega (arith, q.few, v)) q.few_cells q.distinct)
      own
      (λ j l o. keeps_ver _ _ _ (omega (arith, v)))
      (λ u d. leaf_no-writer h.0 v u)
      (λ u d. named-no-fill s sh iv t in_t h.0 u)
      apart
    where
      st : Stands s.sizes.n s.sizes.b (block_at s) (task_at s t).block (task_at s t).number
      st = my_stands s sh iv t in_t h.0

  pub stage_exchange : (task_at s t).stage ≡ Exchange → Goes s (exchanged s t (counted (task_at s t))).0
  unfolding exchanged moved counted with_version
  stage_exchange e =
      if_case (λ (x : Result). Goes s x.0) (eqb (here_of s (task_at s t)).version (task_at s t).number)
      (λ t1. let v = eqb-true _ (task_at s t).number t1 in
      if_case (λ (k : Task). Goes s (with_task (with_block s (task_at s t).block (with_version (here_of s (task_at s t)) ((task_at s t).number + 1))) t k)) (ltb (task_at s t).number s.sizes.n)
      (λ t2. first_set Read (task_at s t).hand refl h v (h.0, h.1, h.2, writer v (ltb-true (task_at s t).number s.sizes.n t2), early v, subst (λ (x : Block). entries x.logs ≤ (task_at s t).number) (sym same) (omega (arith, st.few, v)))
      (λ u d. record { a_write = λ p q o. leaf_no-writer h.0 v u q (sym o); a_fill = λ p. absurd (false≢true p); a_fresh = λ p. (my_apart s sh iv t in_t Exchange e u d).a_fresh refl }))
      (λ t2. first_set TakeCopy (hand_of 0) refl h v (h.0, h.1, h.2, subst (λ (x : Block). (task_at s t).number < x.version) (sym same) (omega arith)) (copies e)))
      (λ t1. quiet s sh iv t in_t _ (λ _. (refl, refl)) (h.0, h.1, h.2, omega (arith, st.reach, eqb-false (here_of s (task_at s t)).version (task_at s t).number t1)) (copies e))
    where
      h : Ok s sh iv t in_t Exchange (task_at s t)
      h = my_ok s sh iv t in_t Exchange e

      st : Stands s.sizes.n s.sizes.b (block_at s) (task_at s t).block (task_at s t).number
      st = my_stands s sh iv t in_t h.0

      b' : Block
      b' = with_version (here_of s (task_at s t)) ((task_at s t).number + 1)

      same : block_at (with_block s (task_at s t).block b') (task_at s t).block ≡ b'
      same = same_block s sh iv t in_t (task_at s t).block b' st.in_b

      copies : (task_at s t).stage ≡ Exchange → Others s sh iv t in_t TakeCopy (moved (counted (task_at s t)) TakeCopy (hand_of 0))
      copies q u d = apart_keep Exchange TakeCopy _ (task_at s t) _ _ refl refl refl (λ p. p) (λ p. p) (λ p. p) (my_apart s sh iv t in_t Exchange q u d)

      writer : (here_of s (task_at s t)).version ≡ (task_at s t).number → (task_at s t).number < s.sizes.n → Writer s.sizes.n (slot_at s) (block_at (with_block s (task_at s t).block b')) (task_at s t).block (task_at s t).number
      writer v small =
          record {
            raised = ap (λ (x : Block). x.version) same;
            room = small;
            oldest = λ j l o. omega (arith, (on-block s sh iv t in_t (task_at s t).block j l o).reach, v);
          }

      early : (here_of s (task_at s t)).version ≡ (task_at s t).number → Early (block_at (with_block s (task_at s t).block b') (task_at s t).block) (task_at s t).number
      early v i = subst (λ (x : Block). Below (log_at x i) (task_at s t).number) (sym same) (λ j d. omega (arith, st.below i j d, v))

  pub stage_read : (task_at s t).stage ≡ Read → Goes s (step_at Read s t (counted (task_at s t))).0
  unfolding step_at moved counted
  stage_read e =
      let h = my_ok s sh iv t in_t Read e in
      quiet s sh iv t in_t _ (λ _. (refl, refl)) (h.0, h.1, h.2, h.3, h.4, refl, h.5) (λ u d. apart_keep Read Append _ (task_at s t) _ _ refl refl refl (λ p. p) (λ p. p) (λ p. p) (my_apart s sh iv t in_t Read e u d))

  pub stage_append : (task_at s t).stage ≡ Append → Goes s (step_at Append s t (counted (task_at s t))).0
  unfolding step_at moved counted with_log
  stage_append e =
      block_too s sh iv t in_t (task_at s t).block b' _ (λ _. (refl, refl)) st.in_b
      (λ j l o. let q = on-block s sh iv t in_t (task_at s t).block j l o in
      stands-new q.in_b q.small (same_block s sh iv t in_t _ b' st.in_b) q.reach q.top
      (log_cases Rises here (task_at s t).cell new in_logs (rises_snoc (log_at here (task_at s t).cell) (task_at s t).number (task_at s t).hand.guess (q.rises _) (h.4 _)) q.rises)
      (log_cases (λ (x : List Entry). Below x here.version) here (task_at s t).cell new in_logs (rw h.3.raised (below_snoc (log_at here (task_at s t).cell) (task_at s t).number (task_at s t).hand.guess (h.4 _))) q.below)
      (omega (arith, one_more, h.6, h.3.raised)) (omega (arith, one_more, h.6, h.3.room)) (distinct_snoc here (task_at s t).cell (task_at s t).number (task_at s t).hand.guess in_logs h.4 q.distinct))
      (h.0, h.1, h.2, record { raised = ap (λ (x : Block). x.version) same ∙ h.3.raised; room = h.3.room; oldest = h.3.oldest }, covered, late)
      (λ j l o. subst (λ (g : ℕ). Keeps (slot_at s j).number here (with_log here (task_at s t).cell (log_at here (task_at s t).cell ++ (entry (task_at s t).number g ∷ [])))) (sym h.5)
      (keeps-append (slot_at s j).number (task_at s t).number (task_at s t).cell here (h.3.oldest j l o) in_logs))
      (λ u d w o. (my_apart s sh iv t in_t Append e u d).a_write refl w (sym o))
      (λ u d. named-no-fill s sh iv t in_t h.0 u)
      (λ u d. apart_keep Append Write _ (task_at s t) _ _ refl refl refl (λ p. p) (λ p. p) (λ p. p) (my_apart s sh iv t in_t Append e u d))
    where
      h : Ok s sh iv t in_t Append (task_at s t)
      h = my_ok s sh iv t in_t Append e

      st : Stands s.sizes.n s.sizes.b (block_at s) (task_at s t).block (task_at s t).number
      st = my_stands s sh iv t in_t h.0

      here : Block
      here = here_of s (task_at s t)

      new : List Entry
      new = log_at here (task_at s t).cell ++ (entry (task_at s t).number (task_at s t).hand.guess ∷ [])

      b' : Block
      b' = with_log here (task_at s t).cell new

      in_logs : (task_at s t).cell < length here.logs
      in_logs = omega (arith, h.2, (wide_at s sh iv t in_t (task_at s t).block st.in_b).wide_logs)

      same : block_at (with_block s (task_at s t).block b') (task_at s t).block ≡ b'
      same = same_block s sh iv t in_t (task_at s t).block b' st.in_b

      one_more : entries (set here.logs (task_at s t).cell new) ≡ entries here.logs + 1
      one_more = total_snoc here.logs (task_at s t).cell (entry (task_at s t).number (task_at s t).hand.guess) in_logs

      covered : Covered (log_at (block_at (with_block s (task_at s t).block b') (task_at s t).block) (task_at s t).cell) (task_at s t).number
      covered =
          subst (λ (x : Block). Covered (log_at x (task_at s t).cell) (task_at s t).number) (sym same)
          (subst (λ (x : List Entry). Covered x (task_at s t).number) (sym (get_or-set_same here.logs (task_at s t).cell new [] in_logs))
          (λ n c d q. value_snoc (log_at here (task_at s t).cell) (task_at s t).number (task_at s t).hand.guess c n q ∙ sym (value_snoc (log_at here (task_at s t).cell) (task_at s t).number (task_at s t).hand.guess d n q)))

      late : (i : ℕ) → (i ≡ (task_at s t).cell → ⊥) → Below (log_at (block_at (with_block s (task_at s t).block b') (task_at s t).block) i) (task_at s t).number
      late i d =
          subst (λ (x : Block). Below (log_at x i) (task_at s t).number) (sym same)
          (subst (λ (x : List Entry). Below x (task_at s t).number) (sym (get_or-set_other here.logs (task_at s t).cell i new [] d)) (h.4 i))

  -- the task ends, one block has become x, and the reserved slot f has become y, a handle on that block
  pub finish_too : (b : ℕ) (x : Block) (f : ℕ) (y : Slot) → b < s.sizes.b → Fresh s.sizes.h (slot_at s) f → (task_at s t).fresh ≡ f → y.status ≡ Live → y.block ≡ b
      → Stands s.sizes.n s.sizes.b (block_at (with_block s b x)) b y.number
      → ((j : ℕ) → (slot_at s j).status ≡ Live → (slot_at s j).block ≡ b → Stands s.sizes.n s.sizes.b (block_at (with_block s b x)) b (slot_at s j).number)
      → ((j : ℕ) → (slot_at s j).status ≡ Live → (slot_at s j).block ≡ b → Keeps (slot_at s j).number (block_at s b) x)
      → ((u : ℕ) → (u ≡ t → ⊥) → writes (task_at s u).stage ≡ true → (task_at s u).block ≡ b → ⊥)
      → ((u : ℕ) → (u ≡ t → ⊥) → fills (task_at s u).stage ≡ true → (task_at s u).target ≡ b → ⊥)
      → ((u : ℕ) → (u ≡ t → ⊥) → reserves (task_at s u).stage ≡ true → (task_at s u).fresh ≡ f → ⊥)
      → ((j : ℕ) → (slot_at s j).status ≡ Live → (slot_at s j).block ≡ b → (slot_at s j).number ≡ y.number → ⊥)
      → Goes s (with_task (with_slot (with_block s b x) f y) t idle)
  unfolding with_task with_slot with_block
  finish_too b x f y in_b fr ff yl ob new on keeps no_write no-fill no-fresh place = (
    inv_move s.sizes.n s.sizes.h s.sizes.b (slot_at s) (slot_at (with_slot s f y)) (task_at s) (task_at (with_task s t idle)) (block_at s) (block_at (with_block s b x)) t idle iv
        (get_or-set_same s.tasks t idle idle (in_tasks s sh iv t in_t))
        (λ u d. get_or-set_other s.tasks t u idle idle d)
        (λ j l. by_test (eqb j f)
        (λ e. subst (λ (z : Slot). Stands s.sizes.n s.sizes.b (block_at (with_block s b x)) z.block z.number) (sym (ap (λ (c : ℕ). slot_at (with_slot s f y) c) (eqb-true j f e) ∙ mine))
        (subst (λ (c : ℕ). Stands s.sizes.n s.sizes.b (block_at (with_block s b x)) c y.number) (sym ob) new))
        (λ e. subst (λ (z : Slot). Stands s.sizes.n s.sizes.b (block_at (with_block s b x)) z.block z.number) (sym (others j (eqb-false j f e)))
        (old j (ap (λ (z : Slot). z.status) (sym (others j (eqb-false j f e))) ∙ l))))
        tt
        (λ u d. frame-slot _ (slot_at s) (slot_at (with_slot s f y)) (block_at s) (block_at (with_block s b x)) f (task_at s u)
        (frame-block _ (slot_at s) (block_at s) (block_at (with_block s b x)) b (task_at s u) (other_block s sh iv t in_t b x)
        (λ n e. subst (Keeps (task_at s u).number (block_at s b)) (sym (same_block s sh iv t in_t b x in_b)) (u_keeps s sh iv t in_t b x keeps u n e)) (no_write u d) (no-fill u d))
        others
        (λ n e. live≢reserved (slot_at s f) (ap (λ (c : ℕ). (slot_at s c).status) (sym e) ∙ (u_named s sh iv t in_t u n).lives) fr.slot_is_reserved)
        (no-fresh u d)
        (λ n l e. no_write u d n (sym e ∙ ap (λ (z : Slot). z.block) mine ∙ ob))
        (λ n l e. no-fill u d n (sym e ∙ ap (λ (z : Slot). z.block) mine ∙ ob)))
        (λ u d. no_flags Idle _ _ _ refl refl refl)
        (unique-new (slot_at s) (slot_at (with_slot s f y)) f others (λ j l o p. place j l (o ∙ ap (λ (z : Slot). z.block) mine ∙ ob) (p ∙ ap (λ (z : Slot). z.number) mine)) iv.unique)
        (λ j r. let d : j ≡ f → ⊥ = λ e. live≢reserved y yl (ap (λ (z : Slot). z.status) (sym (ap (slot_at (with_slot s f y)) e ∙ mine)) ∙ r) in
        owned_ended (task_at s) (task_at (with_task s t idle)) t (λ u d. get_or-set_other s.tasks t u idle idle d) j (λ e. d (sym e ∙ ff)) (iv.owned j (ap (λ (z : Slot). z.status) (sym (others j d)) ∙ r))),
    λ j l. (others j (λ e. live≢reserved (slot_at s f) (ap (λ (c : ℕ). (slot_at s c).status) (sym e) ∙ l) fr.slot_is_reserved), (see_block s sh iv t in_t b x in_b keeps j l).1, (see_block s sh iv t in_t b x in_b keeps j l).2),
  )
    where
      mine : slot_at (with_slot s f y) f ≡ y
      mine = get_or-set_same s.slots f y (freed 0) (omega (arith, fr.in_h, sh.slots_len))

      others : (j : ℕ) → (j ≡ f → ⊥) → slot_at (with_slot s f y) j ≡ slot_at s j
      others j d = get_or-set_other s.slots f j y (freed 0) d

      old : (j : ℕ) → (slot_at s j).status ≡ Live → Stands s.sizes.n s.sizes.b (block_at (with_block s b x)) (slot_at s j).block (slot_at s j).number
      old j l = by_test (eqb (slot_at s j).block b)
          (λ e. subst (λ (c : ℕ). Stands s.sizes.n s.sizes.b (block_at (with_block s b x)) c (slot_at s j).number) (sym (eqb-true _ b e)) (on j l (eqb-true _ b e)))
          (λ e. stands-other _ _ (other_block s sh iv t in_t b x _ (eqb-false _ b e)) (iv.stands j l))

  pub stage_write : (task_at s t).stage ≡ Write → Goes s (step_at Write s t (counted (task_at s t))).0
  unfolding step_at finished counted with_cell
  stage_write e =
      finish_too (task_at s t).block b' (task_at s t).fresh _ st.in_b h.1 refl refl refl
      (stands-new st.in_b (omega (arith, h.3.room)) same (omega (arith, h.3.raised)) st.top st.rises st.below st.few st.few_cells st.distinct)
      (λ j l o. let q = on-block s sh iv t in_t (task_at s t).block j l o in stands-new q.in_b q.small same q.reach q.top q.rises q.below q.few q.few_cells q.distinct)
      (λ j l o. keeps-write (slot_at s j).number (task_at s t).number (task_at s t).cell (task_at s t).value (here_of s (task_at s t))
      (h.3.oldest j l o) (omega (arith, h.2, (wide_at s sh iv t in_t (task_at s t).block st.in_b).wide_cells)) h.4)
      (λ u d w o. (my_apart s sh iv t in_t Write e u d).a_write refl w (sym o))
      (λ u d. named-no-fill s sh iv t in_t h.0 u)
      (λ u d r o. (my_apart s sh iv t in_t Write e u d).a_fresh refl r (sym o))
      (λ j l o p. omega (arith, h.3.oldest j l o, p))
    where
      h : Ok s sh iv t in_t Write (task_at s t)
      h = my_ok s sh iv t in_t Write e

      st : Stands s.sizes.n s.sizes.b (block_at s) (task_at s t).block (task_at s t).number
      st = my_stands s sh iv t in_t h.0

      b' : Block
      b' = with_cell (here_of s (task_at s t)) (task_at s t).cell (task_at s t).value

      same : block_at (with_block s (task_at s t).block b') (task_at s t).block ≡ b'
      same = same_block s sh iv t in_t (task_at s t).block b' st.in_b
