-- A step of a set costs one, and the potential pays for it; only an exchange adds to what is to be paid.
-- Rests on Budget.
use Prim.Native.Nat.{◌*◌, ◌+◌, ◌-◌, ◌<◌, ◌≤◌, zero-le, ℕ}
use Rattle.std.specs.Prelude.{Bool, ◌&&◌, false, not, true, ◌≡◌, eqb, leb, ltb, length, set}
use Rattle.std.proofs.lemmas.Bool.{false≢true}
use Rattle.std.proofs.Common.{◌∙◌, ap, subst, sym, arith}
use Rattle.std.proofs.Math.Path.{refl}
use borrow.Author.Tests.{eqb-false, eqb-true, le-leb, leb-false, lt-leb, ltb-false, ltb-true, ne_eqb}
use Rattle.rulebook.specs.declared.Progress.{Progress}
use Rattle.rulebook.specs.declared.Progress.TheVariants.{Going, Settled}
use Rattle.rulebook.specs.declared.Reading.{Reading}
use Rattle.rulebook.specs.declared.Reading.TheVariants.{Guess}
use Rattle.rulebook.specs.declared.Slot.{Slot}
use Rattle.rulebook.specs.declared.Stage.{Stage}
use Rattle.rulebook.specs.declared.Stage.TheVariants.{Append, Copying, Exchange, FillCopy, FillNew, Getting, Idle, Paging, Put, Read, TakeCopy, TakeNew, Write}
use Rattle.rulebook.specs.declared.Status.TheVariants.{Live}
use Rattle.rulebook.specs.declared.Task.{Task}
use Rattle.rulebook.specs.Answers.{operation}
use Rattle.rulebook.specs.History.{not_yet_set, one}
use Rattle.rulebook.specs.Lists.{any_set}
use Rattle.rulebook.specs.State.{Block, Result, State, any, block_at, busy, exchanges, free_block, hand_of, idle, is_live, log_at, names, slot_at, stood, task_at, with_block, with_cell, with_log, with_slot, with_task, with_version}
use Rattle.rulebook.specs.Steps.{aimed, answer, counted, exchanged, filled, finished, got_copy, got_get, got_page, here_of, moved, no_room, step_at, taken}
use Rattle.rulebook.specs.Tests.{by_test, if_case}
use Rattle.theorems.specs.Invariant.Facts.{stood_by}
use Rattle.theorems.specs.Invariant.Moves.{Goes, InvS}
use Rattle.theorems.specs.Invariant.Readings.{my_ok, my_stands}
use Rattle.theorems.specs.Invariant.Shape.{Shape}
use Rattle.theorems.specs.Invariant.Tasks.{Filler, Named, OkAt, Stands}
use Rattle.theorems.specs.Prices.Budget.{CopyLess, NoneBut, copy-less, copy_left, passed, passed_total, rest, rest-grows, rest_at, rests, rests-change, saved, saved_at, savings, savings-change, savings-same, sum_to}
use Rattle.theorems.specs.Prices.Digits.{unsettled-good}

-- the stages of a set
abbrev pub in_set : Stage → Bool
in_set g = eqb (operation g) 3

-- what an exchange adds
abbrev pub more_for : State → ℕ → Stage → ℕ
more_for s t g = 12 * one (exchanges g && not_yet_set s t) + (5 * s.sizes.n + 3) * one (exchanges g && not (not_yet_set s t))

-- ---- one step

module _ (s : State) (sh : Shape s) (iv : InvS s) (t : ℕ) (in_t : t < s.sizes.t) where
  abbrev k : Task
  k = task_at s t

  abbrev N : ℕ
  N = s.sizes.n

  -- a step to x that costs c where e more may be spent
  abbrev pub Costs : ℕ → ℕ → State → Type 0
  Costs c e x = Goes s x → c + (rests x + savings x) ≤ rests s + savings s + e

  abbrev Names : Task → Type 0
  Names k' = names k'.stage ≡ true → Named (slot_at s) k'.slot k'.block k'.number

  own-less : (x : State) (k' : Task) → Goes s x → Names k' → rest N k'.stage k' (here_of x k') ≤ rest N k'.stage k' (here_of s k')
  own-less x k' goes nm =
      rest-grows N k'.stage k' (here_of s k') (here_of x k')
      (λ n i. let h = nm n in subst (λ (c : ℕ). length (log_at (block_at s c) i) ≤ length (log_at (block_at x c) i)) h.on ((goes.1 k'.slot h.lives).2 i))

  -- only the task changes, or slots too
  cost_task : (c e : ℕ) (x : State) (k' : Task) → x.sizes.n ≡ s.sizes.n → x.sizes.t ≡ s.sizes.t → x.sizes.b ≡ s.sizes.b → x.tasks ≡ set s.tasks t k' → x.blocks ≡ s.blocks → ((j : ℕ) → stood x j ≡ true → stood s j ≡ true)
      → Names k' → c + rest N k'.stage k' (here_of s k') ≤ rest_at s t + e → Costs c e x
  cost_task c e x k' en et eb es bl st nm le goes =
      omega (arith, savings-same s x en eb bl st, rests-change s x sh iv goes t k' in_t en et es, own-less x k' goes nm)

  -- and one block becomes y
  cost_block : (c e : ℕ) (x : State) (k' : Task) (b : ℕ) (y : Block) → x.sizes.n ≡ s.sizes.n → x.sizes.t ≡ s.sizes.t → x.sizes.b ≡ s.sizes.b → x.tasks ≡ set s.tasks t k' → x.blocks ≡ set s.blocks b y → b < s.sizes.b → NoneBut b s x
      → Names k' → c + rest N k'.stage k' (here_of s k') + saved N y ≤ rest_at s t + saved_at s b + e → Costs c e x
  cost_block c e x k' b y en et eb es bl in_b st nm le goes =
      omega (arith, savings-change s x sh b y in_b en eb bl st, rests-change s x sh iv goes t k' in_t en et es, own-less x k' goes nm)

  my_rest : (g : Stage) → k.stage ≡ g → rest_at s t ≡ rest N g k (here_of s k)
  my_rest g e = ap (λ (z : Stage). rest N z k (here_of s k)) e

  -- a task that is no set
  cost_get : (q : Progress) → Named (slot_at s) k.slot k.block k.number → Costs 0 0 (got_get q s t (counted k)).0
  unfolding got_get moved counted with_task stood
  cost_get (Going r w) h = cost_task 0 0 _ (moved (counted k) (Getting r) w) refl refl refl refl refl (λ j z. z) (λ n. h) zero-le
  cost_get (Settled w) h = cost_task 0 0 _ idle refl refl refl refl refl (λ j z. z) (λ n. absurd (false≢true n)) zero-le

  cost_page : (q : Progress) → Named (slot_at s) k.slot k.block k.number → Costs 0 0 (got_page q s t (counted k)).0
  unfolding got_page moved counted with_task stood
  cost_page (Going r w) h = cost_task 0 0 _ (moved (counted k) (Paging r) w) refl refl refl refl refl (λ j z. z) (λ n. h) zero-le
  cost_page (Settled w) h =
      if_case (λ (r : Result). Costs 0 0 r.0) (eqb (w.cell + 1) k.until)
      (λ e. cost_task 0 0 _ idle refl refl refl refl refl (λ j z. z) (λ n. absurd (false≢true n)) zero-le)
      (λ e. cost_task 0 0 _ (moved (counted k) (Paging Guess) (hand_of (w.cell + 1))) refl refl refl refl refl (λ j z. z) (λ n. h) zero-le)

  cost_copy : (q : Progress) (r : Reading) → k.stage ≡ Copying r → Named (slot_at s) k.slot k.block k.number → CopyLess N (here_of s k) (copy_left N r k.hand (here_of s k)) q → Costs 1 0 (got_copy q s t (counted k)).0
  unfolding got_copy moved counted with_task stood
  cost_copy (Going r' w) r e h less = cost_task 1 0 _ (moved (counted k) (Copying r') w) refl refl refl refl refl (λ j z. z) (λ n. h) (omega (arith, less, my_rest (Copying r) e))
  cost_copy (Settled w) r e h less = cost_task 1 0 _ (moved (counted k) FillCopy w) refl refl refl refl refl (λ j z. z) (λ n. h) (omega (arith, less, my_rest (Copying r) e))

  saved-none : (b : Block) → saved N (with_version b 0) ≡ 0
  unfolding with_version
  saved-none b = if_case (λ (x : ℕ). x ≡ 0) (leb 0 N) (λ e. refl) (λ e. refl)

  -- taking a block, or refused 10
  cost_take : (c : ℕ) (g : Stage) → (names g ≡ true → Named (slot_at s) k.slot k.block k.number) → c ≤ rest_at s t
      → c + rest N g (aimed (moved (counted k) g (hand_of 0)) (free_block s)) (here_of s k) ≤ rest_at s t → Costs c 0 (taken s t (counted k) g).0
  unfolding taken no_room with_task with_slot with_block aimed moved counted stood
  cost_take c g nm le le' =
      if_case (λ (r : Result). Costs c 0 r.0) (leb s.sizes.b (free_block s))
      (λ e. cost_task c 0 _ idle refl refl refl refl refl (λ j z. any_set _ s.slots k.fresh _ refl z) (λ n. absurd (false≢true n)) (omega arith))
      (λ e. cost_block c 0 _ (aimed (moved (counted k) g (hand_of 0)) (free_block s)) (free_block s) (with_version (block_at s (free_block s)) 0) refl refl refl refl refl (leb-false s.sizes.b (free_block s) e) (λ j d z. z) nm
      (omega (arith, saved-none (block_at s (free_block s)), le')))

  -- the block of a live handle saves
  standing : Named (slot_at s) k.slot k.block k.number → saved_at s k.block ≡ saved N (here_of s k)
  standing h = rw (stood_by s k.slot k.block h.lives h.on)

  -- a block being filled has nothing to save
  unsaved : Filler s.sizes.b (slot_at s) (block_at s) k.target → saved N (block_at s k.target) ≡ 0
  unsaved f = if_case (λ (x : ℕ). x ≡ 0) (leb (block_at s k.target).version N) (λ _. omega (arith, f.start)) (λ _. refl)

  -- the exchange
  cost_exchange : k.stage ≡ Exchange → Costs 1 (12 * one (not_yet_set s t) + (5 * N + 3) * one (not (not_yet_set s t))) (exchanged s t (counted k)).0
  unfolding exchanged with_task with_block moved counted with_version stood
  cost_exchange e =
      by_test (not_yet_set s t)
      (λ q. rw q (
      let v : (here_of s k).version ≡ k.number = eqb-true _ k.number q in
      if_case (λ (x : Task). Costs 1 (12 * 1 + (5 * N + 3) * 0) (with_task (with_block s k.block (with_version (here_of s k) (k.number + 1))) t x)) (ltb k.number N)
      (λ z. cost_block 1 _ _ (moved (counted k) Read k.hand) k.block (with_version (here_of s k) (k.number + 1)) refl refl refl refl refl st.in_b (λ j d z. z) (λ n. h.0) (first v (ltb-true k.number N z)))
      (λ z. cost_block 1 _ _ (moved (counted k) TakeCopy (hand_of 0)) k.block (with_version (here_of s k) (k.number + 1)) refl refl refl refl refl st.in_b (λ j d z. z) (λ n. h.0) (full v (ltb-false k.number N z)))))
      (λ q. rw q (cost_task 1 _ _ (moved (counted k) TakeCopy (hand_of 0)) refl refl refl refl refl (λ j z. z) (λ n. h.0) (omega arith)))
    where
      h : OkAt s.sizes.n s.sizes.h s.sizes.b Exchange (slot_at s) (block_at s) k
      h = my_ok s sh iv t in_t Exchange e

      st : Stands s.sizes.n s.sizes.b (block_at s) k.block k.number
      st = my_stands s sh iv t in_t h.0

      was : (here_of s k).version ≡ k.number → saved_at s k.block ≡ 8 * k.number
      was v = standing h.0 ∙ (let low : leb (here_of s k).version N ≡ true = le-leb _ N (omega (arith, st.small)) in rw low (omega arith))

      first : (here_of s k).version ≡ k.number → k.number < N → 1 + 3 + saved N (with_version (here_of s k) (k.number + 1)) ≤ rest_at s t + saved_at s k.block + (12 * 1 + (5 * N + 3) * 0)
      first v z = let low : leb (k.number + 1) N ≡ true = le-leb _ N (omega arith) in rw low (omega (arith, was v))

      full : (here_of s k).version ≡ k.number → N ≤ k.number → 1 + (5 * N + 2) + saved N (with_version (here_of s k) (k.number + 1)) ≤ rest_at s t + saved_at s k.block + (12 * 1 + (5 * N + 3) * 0)
      full v z = let high : leb (k.number + 1) N ≡ false = lt-leb (k.number + 1) N (omega arith) in rw high (omega (arith, was v))

  -- ---- every stage

  few : Named (slot_at s) k.slot k.block k.number → (i : ℕ) → passed (here_of s k) i ≤ N
  few h i = omega (arith, passed_total (here_of s k) i, (my_stands s sh iv t in_t h).few_cells)

  no_more : (c : ℕ) (x : State) → Costs c 0 x → Costs c (12 * 0 + (5 * N + 3) * 0) x
  no_more c x h goes = omega (arith, h goes)

  -- the task's new handle stands on block b: no handle comes to stand on another
  new-only : (b n : ℕ) (j : ℕ) → (j ≡ b → ⊥) → any (λ (x : Slot). is_live x.status && eqb x.block j) (set s.slots k.fresh (record { serial = (slot_at s k.fresh).serial + 1; status = Live; block = b; number = n })) ≡ true → any (λ (x : Slot). is_live x.status && eqb x.block j) s.slots ≡ true
  new-only b n j d z = any_set _ s.slots k.fresh _ (ne_eqb b j (λ e. d (sym e))) z

  pub cost_at : (g : Stage) → k.stage ≡ g → busy g ≡ true → Costs (one (in_set g)) (more_for s t g) (step_at g s t (counted k)).0
  unfolding step_at finished filled aimed moved counted with_task with_slot with_block with_cell with_log sum_to stood
  cost_at Idle e b = absurd (false≢true b)
  cost_at (Getting r) e b = no_more 0 (step_at (Getting r) s t (counted k)).0 (cost_get _ (my_ok s sh iv t in_t (Getting r) e).0)
  cost_at (Paging r) e b = no_more 0 (step_at (Paging r) s t (counted k)).0 (cost_page _ (my_ok s sh iv t in_t (Paging r) e).0)
  cost_at Exchange e b = cost_exchange e
  cost_at Read e b =
      no_more 1 (step_at Read s t (counted k)).0 (cost_task 1 0 _ (moved (counted k) Append _) refl refl refl refl refl (λ j z. z) (λ n. (my_ok s sh iv t in_t Read e).0) (omega (arith, my_rest Read e)))
  cost_at Append e b =
      let h = my_ok s sh iv t in_t Append e in
      no_more 1 (step_at Append s t (counted k)).0 (cost_block 1 0 _ (moved (counted k) Write _) k.block _ refl refl refl refl refl (my_stands s sh iv t in_t h.0).in_b (λ j d z. z) (λ n. h.0) (omega (arith, my_rest Append e, standing h.0)))
  cost_at Write e b =
      let h = my_ok s sh iv t in_t Write e in
      no_more 1 (step_at Write s t (counted k)).0 (cost_block 1 0 _ idle k.block _ refl refl refl refl refl (my_stands s sh iv t in_t h.0).in_b (new-only k.block (k.number + 1)) (λ n. absurd (false≢true n)) (omega (arith, my_rest Write e, standing h.0)))
  cost_at TakeCopy e b =
      let h = my_ok s sh iv t in_t TakeCopy e in
      no_more 1 (step_at TakeCopy s t (counted k)).0 (cost_take 1 (Copying Guess) (λ n. h.0) (omega (arith, my_rest TakeCopy e)) (taking h.2))
    where
      taking : k.cell < N → 1 + (4 * (N - (0 + 1)) + 5 + (N - passed (here_of s k) 0)) ≤ rest_at s t
      taking q = omega (arith, my_rest TakeCopy e)
  cost_at (Copying r) e b =
      let h = my_ok s sh iv t in_t (Copying r) e in
      no_more 1 (step_at (Copying r) s t (counted k)).0 (cost_copy _ r e h.0 (copy-less r N (here_of s k) k.number k.hand (few h.0 (k.hand.cell + 1)) (unsettled-good r _ _ _ _ h.5.good)))
  cost_at FillCopy e b =
      let h = my_ok s sh iv t in_t FillCopy e in
      no_more 1 (step_at FillCopy s t (counted k)).0
      (if_case (λ (x : Task). Costs 1 0 (with_task (filled s (counted k) k.hand.cell (answer k.hand)) t x)) (eqb (k.hand.cell + 1) N)
      (λ q. cost_block 1 0 _ (moved (counted k) Put (hand_of k.cell)) k.target _ refl refl refl refl refl h.3.in_b (λ j d z. z) (λ n. h.0) (omega (arith, my_rest FillCopy e, unsaved h.3)))
      (λ q. cost_block 1 0 _ (moved (counted k) (Copying Guess) (hand_of (k.hand.cell + 1))) k.target _ refl refl refl refl refl h.3.in_b (λ j d z. z) (λ n. h.0) (onward (unsaved h.3) h.5 (eqb-false (k.hand.cell + 1) N q))))
    where
      onward : saved N (block_at s k.target) ≡ 0 → k.hand.cell < N → (k.hand.cell + 1 ≡ N → ⊥) → 1 + (4 * (N - (k.hand.cell + 1 + 1)) + 5 + (N - passed (here_of s k) (k.hand.cell + 1))) + saved N (block_at s k.target) ≤ rest_at s t + saved_at s k.target + 0
      onward z a d = omega (arith, my_rest FillCopy e)
  cost_at Put e b =
      let h = my_ok s sh iv t in_t Put e in
      no_more 1 (step_at Put s t (counted k)).0 (cost_block 1 0 _ idle k.target _ refl refl refl refl refl h.3.in_b (new-only k.target 0) (λ n. absurd (false≢true n)) (omega (arith, my_rest Put e, unsaved h.3)))
  cost_at TakeNew e b = no_more 0 (step_at TakeNew s t (counted k)).0 (cost_take 0 FillNew (λ n. absurd (false≢true n)) zero-le zero-le)
  cost_at FillNew e b =
      let h = my_ok s sh iv t in_t FillNew e in
      no_more 0 (step_at FillNew s t (counted k)).0
      (if_case (λ (r : Result). Costs 0 0 r.0) (eqb (k.hand.cell + 1) N)
      (λ q. cost_block 0 0 _ idle k.target _ refl refl refl refl refl h.1.in_b (new-only k.target 0) (λ n. absurd (false≢true n)) (omega (arith, unsaved h.1)))
      (λ q. cost_block 0 0 _ (moved (counted k) FillNew (hand_of (k.hand.cell + 1))) k.target _ refl refl refl refl refl h.1.in_b (λ j d z. z) (λ n. absurd (false≢true n)) (omega (arith, unsaved h.1))))
