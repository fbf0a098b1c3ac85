-- Every step keeps the ranges and the pace, from whatever store has the rules.
-- Rests on Paced and Facts.
use Rattle.std.specs.Prelude.{◌*◌, ◌+◌, ◌-◌, ◌<◌, ◌≤◌, suc, zero, ℕ, false, true, List, [], ◌∷◌, ◌≡◌, refl, eqb, leb, ltb, get_or, length, set}
use Rattle.std.proofs.Common.{zero-le, ◌∙◌, subst, sym, suc-mul, arith}
use Rattle.std.proofs.lemmas.Bool.{false≢true}
use Rattle.std.proofs.Math.Path.{ap}
use borrow.Author.Tests.{eqb-false, eqb-true, leb-false}
use Rattle.rulebook.specs.declared.Hand.{Hand}
use Rattle.rulebook.specs.declared.Progress.{Progress}
use Rattle.rulebook.specs.declared.Progress.TheVariants.{Going, Settled}
use Rattle.rulebook.specs.declared.Reading.{Reading}
use Rattle.rulebook.specs.declared.Reading.TheVariants.{Guess, Length, Probe, Version}
use Rattle.rulebook.specs.declared.Sizes.{Sizes}
use Rattle.rulebook.specs.declared.Slot.{Slot}
use Rattle.rulebook.specs.declared.Stage.{Stage}
use Rattle.rulebook.specs.declared.Stage.TheVariants.{Append, Copying, Exchange, FillCopy, FillNew, Getting, Idle, Paging, Put, Read, TakeCopy, TakeNew, Write}
use Rattle.rulebook.specs.declared.Status.{Status}
use Rattle.rulebook.specs.declared.Status.TheVariants.{Free}
use Rattle.rulebook.specs.declared.Task.{Task}
use Rattle.rulebook.specs.Sizes.{last_serial}
use Rattle.rulebook.specs.State.{Block, Result, State, free_block, freed, hand_of, idle, is_live, log_at, names, reserves, slot_at, task_at, with_block, with_slot, with_task, with_version}
use Rattle.rulebook.specs.Steps.{aimed, counted, exchanged, filled, finished, get_step, got_copy, got_get, got_page, here_of, moved, no_room, probed, step, step_at, taken}
use Rattle.rulebook.specs.Tests.{if_case}
use Rattle.theorems.specs.Prices.Digits.{Less, get-less, left_of}
use Rattle.theorems.specs.Reading.Get.{probed-cell}
use Rattle.theorems.specs.Terms.{digits}
use Rattle.rules.proofs.Facts.{Doing, a_copy, a_get, a_page, doing_gets, doing_names, reserved-slot, rule_at, short-log, unsettled}
use Rattle.rules.specs.Paced.{Pace, Paced, SlotRange, TaskRange, copy_steps}
use Rattle.rules.specs.Rules.{Rules}

-- ---- one thing changes

-- what holds of x and of every element holds of every element once x is put in
at_set : {A : Type 0} (P : A → Type 0) (l : List A) (i : ℕ) (x d : A) → P x → ((j : ℕ) → P (get_or l j d)) → (j : ℕ) → P (get_or (set l i x) j d)
at_set P [] i x d p h j = h j
at_set P (y ∷ l) zero x d p h zero = p
at_set P (y ∷ l) zero x d p h (suc j) = h (suc j)
at_set P (y ∷ l) (suc i) x d p h zero = h 0
at_set P (y ∷ l) (suc i) x d p h (suc j) = at_set P l i x d p (λ m. h (suc m)) j

pub paced-task : (s : State) (t : ℕ) (k : Task) → TaskRange s.sizes k → Paced s → Paced (with_task s t k)
unfolding with_task
paced-task s t k r p = record { tasks = at_set (TaskRange s.sizes) s.tasks t k idle r p.tasks; slots = p.slots }

pub paced-slot : (s : State) (j : ℕ) (x : Slot) → SlotRange x → Paced s → Paced (with_slot s j x)
unfolding with_slot
paced-slot s j x r p = record { tasks = p.tasks; slots = at_set SlotRange s.slots j x (freed 0) r p.slots }

paced-block : (s : State) (k : ℕ) (b : Block) → Paced s → Paced (with_block s k b)
unfolding with_block
paced-block s k b p = record { tasks = p.tasks; slots = p.slots }

-- a slot that carries no handle
pub slot-empty : (serial : ℕ) (x : Status) → serial ≤ last_serial → is_live x ≡ false → SlotRange (record { serial = serial; status = x; block = 0; number = 0 })
slot-empty serial x h d = record { serial_not_above = h; nowhere = λ _. (refl, refl); carried = λ l. absurd (false≢true (sym d ∙ ap is_live l)) }

-- ---- how a task ends

pub idle-within : (z : Sizes) → 0 < z.n → 0 < z.h → 0 < z.b → TaskRange z idle
idle-within z n h b =
    record { slot_below = h; block_below = b; number_within = zero-le; cell_below = n; until_within = zero-le; fresh_below = h; target_below = b; hand_below = n; pace = refl }

-- the sizes of a store with ranges have room for an idle task
pub idle-range : (s : State) → Paced s → TaskRange s.sizes idle
idle-range s p =
    let r = p.tasks 0 in
    idle-within s.sizes (omega (arith, r.cell_below)) (omega (arith, r.slot_below)) (omega (arith, r.block_below))

paced-idle : (s : State) (t : ℕ) → Paced s → Paced (with_task s t idle)
paced-idle s t p = paced-task s t idle (idle-range s p) p

paced-finished : (s : State) (t : ℕ) (k : Task) (b L : ℕ) → (slot_at s k.fresh).serial < last_serial → Paced s → Paced (finished s t k b L).0
unfolding finished
paced-finished s t k b L u p =
    paced-idle _ t (paced-slot s k.fresh _ (record { serial_not_above = omega arith; nowhere = λ d. absurd (d refl); carried = λ _. omega arith }) p)

paced-no_room : (s : State) (t : ℕ) (k : Task) → Paced s → Paced (no_room s t k).0
unfolding no_room
paced-no_room s t k p =
    paced-idle _ t (paced-slot s k.fresh _ (slot-empty (slot_at s k.fresh).serial Free (p.slots k.fresh).serial_not_above refl) p)

-- ---- a get keeps its cell

abbrev CellIs : ℕ → Progress → Type 0
CellIs c (Going r w) = w.cell ≡ c
CellIs c (Settled w) = w.cell ≡ c

get-cell : (r : Reading) (b : Block) (n : ℕ) (w : Hand) → CellIs w.cell (get_step r b n w)
unfolding get_step
get-cell Guess b n w = refl
get-cell Version b n w = if_case (CellIs w.cell) (eqb b.version n) (λ _. refl) (λ _. refl)
get-cell Length b n w = if_case (CellIs w.cell) (eqb (length (log_at b w.cell)) 0) (λ _. refl) (λ _. refl)
get-cell Probe b n w =
    let q = probed (log_at b w.cell) n w in
    if_case (CellIs w.cell) (eqb q.lo q.hi) (λ _. probed-cell (log_at b w.cell) n w) (λ _. probed-cell (log_at b w.cell) n w)

-- one cell more
next_mul : (c m : ℕ) → (c + 1) * m ≡ c * m + m
next_mul c m = ap (λ (z : ℕ). z * m) (omega arith) ∙ suc-mul c m

-- ---- every stage

module _ (s : State) (h : Rules s) (p : Paced s) (t : ℕ) where
  abbrev k : Task
  k = task_at s t

  abbrev N : ℕ
  N = s.sizes.n

  my_pace : (g : Stage) → k.stage ≡ g → Pace N g k
  my_pace g e = subst (λ (x : Stage). Pace N x k) e (p.tasks t).pace

  unspent : reserves k.stage ≡ true → (slot_at s k.fresh).serial < last_serial
  unspent n = (reserved-slot s h t n).2

  -- the task at another stage, with another get in hand, and another block to fill
  range-aimed : (g : Stage) (w : Hand) (b : ℕ) → b < s.sizes.b → w.cell < N → Pace N g (aimed (moved (counted k) g w) b) → TaskRange s.sizes (aimed (moved (counted k) g w) b)
  unfolding aimed moved counted
  range-aimed g w b in_b in_n pc =
      let r = p.tasks t in
      record { slot_below = r.slot_below; block_below = r.block_below; number_within = r.number_within; cell_below = r.cell_below; until_within = r.until_within; fresh_below = r.fresh_below; target_below = in_b; hand_below = in_n; pace = pc }

  range_moved : (g : Stage) (w : Hand) → w.cell < N → Pace N g (moved (counted k) g w) → TaskRange s.sizes (moved (counted k) g w)
  unfolding aimed moved counted
  range_moved g w in_n pc = range-aimed g w k.target (p.tasks t).target_below in_n pc

  -- ---- a get's progress

  -- it is at the same cell, and one step less is left
  abbrev Nearer : Reading → Progress → Type 0
  Nearer r q = CellIs k.hand.cell q × Less N (left_of N r k.hand) q

  nearer : {r : Reading} {g : Stage} → Doing r g → k.stage ≡ g → Nearer r (get_step r (here_of s k) k.number k.hand)
  nearer {r = r} d e =
      let in_hand = (doing_gets s h t d e).hand_holds in
      (get-cell r (here_of s k) k.number k.hand, get-less r N (here_of s k) k.number k.hand (short-log s h t (ap names e ∙ doing_names d) k.hand.cell) (unsettled r _ k.number k.hand in_hand))

  abbrev Fine : Result → Type 0
  Fine x = Paced x.0

  paced-get : (r : Reading) (q : Progress) → k.stage ≡ Getting r → Nearer r q → Fine (got_get q s t (counted k))
  unfolding got_get moved counted
  paced-get r (Going r' w) e l =
      paced-task s t _ (range_moved (Getting r') w (omega (arith, l.0, (p.tasks t).hand_below)) (omega (arith, my_pace (Getting r) e, l.1))) p
  paced-get r (Settled w) e l = paced-idle s t p

  paced-copy : (r : Reading) (q : Progress) → k.stage ≡ Copying r → Nearer r q → Fine (got_copy q s t (counted k))
  unfolding got_copy moved counted
  paced-copy r (Going r' w) e l =
      paced-task s t _ (range_moved (Copying r') w (omega (arith, l.0, (p.tasks t).hand_below)) (omega (arith, my_pace (Copying r) e, l.1, ap (copy_steps N) l.0))) p
  paced-copy r (Settled w) e l =
      paced-task s t _ (range_moved FillCopy w (omega (arith, l.0, (p.tasks t).hand_below)) (omega (arith, my_pace (Copying r) e, l.1, ap (copy_steps N) l.0))) p

  -- the steps of a page whose cell in hand is c
  abbrev page_steps : ℕ → ℕ
  page_steps c = (c - k.cell + 1) * (3 + digits N)

  paced-page : (r : Reading) (q : Progress) → k.stage ≡ Paging r → Nearer r q → Fine (got_page q s t (counted k))
  unfolding got_page moved counted
  paced-page r (Going r' w) e l =
      let m = my_pace (Paging r) e in
      paced-task s t _ (range_moved (Paging r') w (omega (arith, l.0, (p.tasks t).hand_below)) (omega (arith, l.0, m.0), omega (arith, m.1, l.1, ap page_steps l.0))) p
  paced-page r (Settled w) e l =
      if_case Fine (eqb (w.cell + 1) k.until) (λ _. paced-idle s t p)
      (λ f. let m = my_pace (Paging r) e in
      let u = rule_at s h t (Paging r) e in
      let grown : page_steps (w.cell + 1) ≡ page_steps w.cell + (3 + digits N) = ap (λ (z : ℕ). z * (3 + digits N)) (omega (arith, l.0, m.0)) ∙ next_mul (w.cell - k.cell + 1) (3 + digits N) in
      paced-task s t _ (range_moved (Paging Guess) (hand_of (w.cell + 1)) (omega (arith, l.0, u.1, u.2, eqb-false (w.cell + 1) k.until f))
      (omega (arith, l.0, m.0), omega (arith, m.1, l.1, grown, ap page_steps l.0))) p)

  -- ---- taking and filling

  paced-taken : (g : Stage) → Pace N g (aimed (moved (counted k) g (hand_of 0)) (free_block s)) → Fine (taken s t (counted k) g)
  unfolding taken with_block
  paced-taken g pc =
      if_case Fine (leb s.sizes.b (free_block s)) (λ _. paced-no_room s t (counted k) p)
      (λ e. paced-task _ t _ (range-aimed g (hand_of 0) (free_block s) (leb-false s.sizes.b (free_block s) e) (idle-range s p).hand_below pc) (paced-block s (free_block s) _ p))

  paced-step_at : (g : Stage) → k.stage ≡ g → Fine (step_at g s t (counted k))
  unfolding step_at exchanged filled with_block moved counted aimed
  paced-step_at Idle e = p
  paced-step_at TakeNew e = paced-taken FillNew (omega (arith, my_pace TakeNew e))
  paced-step_at FillNew e =
      let c = k.hand.cell in
      if_case Fine (eqb (c + 1) N)
      (λ _. paced-finished _ t (counted k) k.target 0 (unspent (ap reserves e)) (paced-block s k.target _ p))
      (λ f. paced-task _ t _ (range_moved FillNew (hand_of (c + 1)) (omega (arith, (p.tasks t).hand_below, eqb-false (c + 1) N f)) (omega (arith, my_pace FillNew e))) (paced-block s k.target _ p))
  paced-step_at (Getting r) e = paced-get r _ e (nearer a_get e)
  paced-step_at Exchange e =
      if_case Fine (eqb (here_of s k).version k.number)
      (λ _. if_case (λ (x : Task). Paced (with_task (with_block s k.block (with_version (here_of s k) (k.number + 1))) t x)) (ltb k.number N)
      (λ _. paced-task _ t _ (range_moved Read k.hand (p.tasks t).hand_below (omega (arith, my_pace Exchange e))) (paced-block s k.block _ p))
      (λ _. paced-task _ t _ copies (paced-block s k.block _ p)))
      (λ _. paced-task s t _ copies p)
    where
      copies : TaskRange s.sizes (moved (counted k) TakeCopy (hand_of 0))
      copies = range_moved TakeCopy (hand_of 0) (idle-range s p).hand_below (omega (arith, my_pace Exchange e))
  paced-step_at Read e = paced-task s t _ (range_moved Append _ (p.tasks t).hand_below (omega (arith, my_pace Read e))) p
  paced-step_at Append e = paced-task _ t _ (range_moved Write k.hand (p.tasks t).hand_below (omega (arith, my_pace Append e))) (paced-block s k.block _ p)
  paced-step_at Write e = paced-finished _ t (counted k) k.block (k.number + 1) (unspent (ap reserves e)) (paced-block s k.block _ p)
  paced-step_at TakeCopy e = paced-taken (Copying Guess) (omega (arith, my_pace TakeCopy e))
  paced-step_at (Copying r) e = paced-copy r _ e (nearer a_copy e)
  paced-step_at FillCopy e =
      let c = k.hand.cell in
      let m = my_pace FillCopy e in
      paced-task _ t _
      (if_case (TaskRange s.sizes) (eqb (c + 1) N)
      (λ f. range_moved Put (hand_of k.cell) (p.tasks t).cell_below (omega (arith, m, next_mul c (4 + digits N), ap (copy_steps N) (eqb-true (c + 1) N f))))
      (λ f. range_moved (Copying Guess) (hand_of (c + 1)) (omega (arith, (p.tasks t).hand_below, eqb-false (c + 1) N f)) (omega (arith, m, next_mul c (4 + digits N)))))
      (paced-block s k.target _ p)
  paced-step_at Put e = paced-finished _ t (counted k) k.target 0 (unspent (ap reserves e)) (paced-block s k.target _ p)
  paced-step_at (Paging r) e = paced-page r _ e (nearer a_page e)

  pub paced-step : Fine (step s t)
  unfolding step
  paced-step = if_case Fine (leb s.sizes.t t) (λ _. p) (λ _. paced-step_at k.stage refl)
