-- On the machine's state, what a step plans is what the machine's step does, at every stage.
-- Rests on Planned, and on three facts of the task: a search in hand is not over, a slot that it has reserved is not spent, its numbers are small.
use Rattle.std.specs.Prelude.{◌+◌, ◌<◌, ℕ, false, true, ◌≡◌, eqb, leb, length, Err, None, Ok, Result, Some}
use Rattle.std.proofs.Common.{◌∙◌, subst}
use Rattle.std.proofs.Math.Path.{ap, refl}
use borrow.Author.Tests.{le-ltb, leb-false, leb-true, lt-leb, lt-ltb}
use Rattle.acts.specs.Acts.{Found}
use Rattle.acts.specs.Touch.{Touch}
use Rattle.rulebook.specs.declared.Hand.{Hand}
use Rattle.rulebook.specs.declared.Progress.{Progress}
use Rattle.rulebook.specs.declared.Reading.{Reading}
use Rattle.rulebook.specs.declared.Stage.{Stage}
use Rattle.rulebook.specs.declared.Task.{Task}
use Rattle.acts.specs.Acted.{acted, seated, touched, turned}
use Rattle.acts.specs.Plans.{free_in, goes, last_word, refused, ticked}
use Rattle.acts.specs.StepPlans.{appends_entry, copy_goes, exchanges_on, fills_copy, fills_new, finishes, get_goes, gives_up, page_goes, page_settles, plan_at, plan_row, plan_step, puts, read_entry, read_guess, read_in, read_length, read_version, reads_old, takes, writes_new}
use Rattle.acts.specs.Sight.{sight_of}
use Rattle.acts.specs.Laws.{after_small}
use Rattle.rulebook.specs.Sizes.{last_serial}
use Rattle.rulebook.specs.State.{State, block_at, entry_at, free_block, hand_of, log_at, reserves, slot_at, task_at, with_block, with_task, with_version}
use Rattle.rulebook.specs.Steps.{aimed, counted, exchanged, filled, finished, get_step, got_copy, got_get, got_page, here_of, middle, moved, no_room, probed, probed_at, step, step_at, taken}
use Rattle.rulebook.specs.Tests.{by_test, if_case}
use Rattle.theorems.specs.Invariant.Shape.{Shape}
use Rattle.theorems.specs.Prices.Digits.{Unsettled}
use Rattle.bridge.specs.Planned.{acted_if, acted-refused, free_is}
use Rattle.acts.specs.Touch as touch
use Rattle.rulebook.specs.declared.Stage.TheVariants as stage
use Rattle.rulebook.specs.declared.Reading.TheVariants as reading
use Rattle.rulebook.specs.declared.Progress.TheVariants as progress
use Rattle.rulebook.specs.declared.Reply.TheVariants as reply
use Rattle.rulebook.specs.declared.Damaged.{Damaged}
use Rattle.acts.specs.declared.Refusal.TheVariants as refusal

-- what a step asks of its task beyond what it reads
abbrev pub Searching : Stage → Hand → Type 0
Searching stage.Idle w = Unit
Searching stage.TakeNew w = Unit
Searching stage.FillNew w = Unit
Searching (stage.Getting r) w = Unsettled r w
Searching stage.Exchange w = Unit
Searching stage.Read w = Unit
Searching stage.Append w = Unit
Searching stage.Write w = Unit
Searching stage.TakeCopy w = Unit
Searching (stage.Copying r) w = Unsettled r w
Searching stage.FillCopy w = Unit
Searching stage.Put w = Unit
Searching (stage.Paging r) w = Unsettled r w

-- what a step counts up is not the last number of a word, so that one more is the machine's
pub record Small (k : Task) : Type 0 where
  pub steps : k.steps < last_word
  pub number : k.number < last_word
  pub hand : k.hand.cell < last_word

pub record Steady (s : State) (k : Task) : Type 0 where
  pub unsettled : Searching k.stage k.hand
  pub spare : reserves k.stage ≡ true → (slot_at s k.fresh).serial < last_serial
  pub small : Small k

-- ---- a get keeps the cell in hand

abbrev pub CellKept : ℕ → Result Progress Damaged → Type 0
CellKept i (Err _) = Unit
CellKept i (Ok (progress.Going r w)) = w.cell ≡ i
CellKept i (Ok (progress.Settled w)) = w.cell ≡ i

pub cell-kept : (s : State) (r : Reading) (k : Task) → CellKept k.hand.cell (read_in r (sight_of s) k)
unfolding read_in read_guess read_version read_length read_entry sight_of
cell-kept s reading.Guess k = refl
cell-kept s reading.Version k = if_case (λ (q : Progress). CellKept k.hand.cell (Ok q)) (eqb (block_at s k.block).version k.number) (λ _. refl) (λ _. refl)
cell-kept s reading.Length k = if_case (λ (q : Progress). CellKept k.hand.cell (Ok q)) (eqb (length (log_at (block_at s k.block) k.hand.cell)) 0) (λ _. refl) (λ _. refl)
cell-kept s reading.Probe k =
    let e = entry_at (log_at (block_at s k.block) k.hand.cell) (middle k.hand) in
    let q = probed_at (middle k.hand) e k.number k.hand in
    let same : q.cell ≡ k.hand.cell = if_case (λ (w : Hand). w.cell ≡ k.hand.cell) (leb k.number e.version) (λ _. refl) (λ _. refl) in
    if_case (CellKept k.hand.cell) (leb k.hand.hi k.hand.lo) (λ _. tt) (λ _.
    if_case (λ (z : Progress). CellKept k.hand.cell (Ok z)) (eqb q.lo q.hi) (λ _. same) (λ _. same))

-- ---- a step

-- as 32 bits count its steps, and as the machine does
ticked-is : (k : Task) → k.steps < last_word → ticked k ≡ counted k
unfolding ticked counted
ticked-is k h = rw (after_small h)

module _ (s : State) (sh : Shape s) (t : ℕ) where
  -- the get's step, from what it reads
  read_is : (r : Reading) (k : Task) → Unsettled r k.hand → read_in r (sight_of s) k ≡ Ok (get_step r (here_of s k) k.number k.hand)
  unfolding read_in read_guess read_version read_length read_entry sight_of get_step probed
  read_is reading.Guess k o = refl
  read_is reading.Version k o = refl
  read_is reading.Length k o = refl
  read_is reading.Probe k o = rw (lt-leb k.hand.hi k.hand.lo o)

  get_planned : (q : Progress) (k : Task) → acted s (get_goes (Ok q) t k) ≡ got_get q s t k
  unfolding get_goes got_get acted touched seated turned
  get_planned (progress.Going r w) k = refl
  get_planned (progress.Settled w) k = refl

  page_planned : (q : Progress) (k : Task) → k.hand.cell < last_word → CellKept k.hand.cell (Ok q) → acted s (page_goes (Ok q) t k) ≡ got_page q s t k
  unfolding page_goes page_settles got_page acted touched seated turned
  page_planned (progress.Going r w) k h e = refl
  page_planned (progress.Settled w) k h e =
      let small : w.cell < last_word = rw e h in
      rw (after_small small) (acted_if s (eqb (w.cell + 1) k.until) _ _)

  copy_planned : (q : Progress) (k : Task) → acted s (copy_goes (Ok q) t k) ≡ got_copy q s t k
  unfolding copy_goes got_copy acted touched seated turned
  copy_planned (progress.Going r w) k = refl
  copy_planned (progress.Settled w) k = refl

  -- a task that ends with a handle, after a touch
  finish_planned : (x : Touch) (k : Task) (b L : ℕ) → (slot_at s k.fresh).serial < last_serial → slot_at (touched s x) k.fresh ≡ slot_at s k.fresh → acted s (finishes ((sight_of s).slot k.fresh) x t k b L) ≡ finished (touched s x) t k b L
  unfolding finishes sight_of finished acted seated turned
  finish_planned x k b L small same = rw (lt-leb last_serial (slot_at s k.fresh).serial small, same)

  take_planned : (g : Stage) (k : Task) → acted s (takes (free_in (sight_of s)) (sight_of s) t k g) ≡ taken s t k g
  unfolding taken
  take_planned g k =
      ap (λ (x : Found). acted s (takes x (sight_of s) t k g)) (free_is s sh) ∙ by_test (leb s.sizes.b (free_block s))
      (λ e. rw (e, le-ltb (free_block s) s.sizes.b (leb-true s.sizes.b (free_block s) e)) (full k))
      (λ e. rw (e, lt-ltb (free_block s) s.sizes.b (leb-false s.sizes.b (free_block s) e)) (took k))
    where
      full : (k : Task) → acted s (takes (Ok None) (sight_of s) t k g) ≡ no_room s t k
      full k = unfold takes gives_up sight_of no_room acted touched seated turned in refl

      took : (k : Task) → acted s (takes (Ok (Some (free_block s))) (sight_of s) t k g) ≡ (with_task (with_block s (free_block s) (with_version (block_at s (free_block s)) 0)) t (aimed (moved k g (hand_of 0)) (free_block s)), reply.Quiet)
      took k = unfold takes acted touched seated turned in refl

  -- a touch changes no slot
  same-slots : (x : Touch) (j : ℕ) → slot_at (touched s x) j ≡ slot_at s j
  unfolding touched with_block
  same-slots touch.Nothing j = refl
  same-slots (touch.Exchange b L) j = refl
  same-slots (touch.Append b i e) j = refl
  same-slots (touch.Write b i v) j = refl
  same-slots (touch.Take b) j = refl
  same-slots (touch.Fill b i v) j = refl

  fill_planned : (k : Task) → k.hand.cell < last_word → (slot_at s k.fresh).serial < last_serial → acted s (fills_new (sight_of s) t k) ≡ step_at stage.FillNew s t k
  unfolding fills_new step_at filled touched sight_of
  fill_planned k h small =
      rw (after_small h) (acted_if s (eqb (k.hand.cell + 1) (sight_of s).sizes.n) _ _ ∙ by_test (eqb (k.hand.cell + 1) s.sizes.n)
      (λ e. rw e (last e))
      (λ e. rw e (next e)))
    where
      x : Touch
      x = touch.Fill k.target k.hand.cell k.value

      last : eqb (k.hand.cell + 1) s.sizes.n ≡ true → acted s (finishes ((sight_of s).slot k.fresh) x t k k.target 0) ≡ finished (touched s x) t k k.target 0
      last e = finish_planned x k k.target 0 small (same-slots x k.fresh)

      next : eqb (k.hand.cell + 1) s.sizes.n ≡ false → acted s (goes x t (moved k stage.FillNew (hand_of (k.hand.cell + 1))) reply.Quiet) ≡ (with_task (touched s x) t (moved k stage.FillNew (hand_of (k.hand.cell + 1))), reply.Quiet)
      next e = unfold acted seated turned in refl

  exchange_planned : (k : Task) → acted s (exchanges_on ((sight_of s).version k.block) (sight_of s).sizes.n t k) ≡ exchanged s t k
  unfolding exchanges_on exchanged sight_of acted touched seated turned
  exchange_planned k = acted_if s (eqb (here_of s k).version k.number) _ _

  -- a set in place ends, a copy ends, and a cell of a copy is written
  write_planned : (k : Task) → k.number < last_word → (slot_at s k.fresh).serial < last_serial → acted s (writes_new (sight_of s) t k) ≡ step_at stage.Write s t k
  unfolding writes_new step_at touched
  write_planned k h small = let x = touch.Write k.block k.cell k.value in rw (after_small h) (finish_planned x k k.block (k.number + 1) small (same-slots x k.fresh))

  put_planned : (k : Task) → (slot_at s k.fresh).serial < last_serial → acted s (puts (sight_of s) t k) ≡ step_at stage.Put s t k
  unfolding puts step_at filled touched
  put_planned k small = let x = touch.Fill k.target k.cell k.value in finish_planned x k k.target 0 small (same-slots x k.fresh)

  copied_planned : (k : Task) → k.hand.cell < last_word → acted s (fills_copy (sight_of s).sizes.n t k) ≡ step_at stage.FillCopy s t k
  unfolding step_at fills_copy sight_of filled acted touched seated turned
  copied_planned k h = rw (after_small h)

  planned_at : (g : Stage) (k : Task) → Searching g k.hand → (reserves g ≡ true → (slot_at s k.fresh).serial < last_serial) → k.number < last_word → k.hand.cell < last_word → acted s (plan_at g (sight_of s) t k) ≡ step_at g s t k
  unfolding plan_at
  planned_at stage.Idle k o p n h = unfold step_at in acted-refused s refusal.Idle
  planned_at stage.TakeNew k o p n h = unfold step_at in take_planned stage.FillNew k
  planned_at stage.FillNew k o p n h = fill_planned k h (p refl)
  planned_at (stage.Getting r) k o p n h = unfold step_at in (ap (λ (x : Result Progress Damaged). acted s (get_goes x t k)) (read_is r k o) ∙ get_planned _ k)
  planned_at stage.Exchange k o p n h = unfold step_at in exchange_planned k
  planned_at stage.Read k o p n h = unfold step_at reads_old sight_of acted touched seated turned in refl
  planned_at stage.Append k o p n h = unfold step_at appends_entry acted touched seated turned in refl
  planned_at stage.Write k o p n h = write_planned k n (p refl)
  planned_at stage.TakeCopy k o p n h = unfold step_at in take_planned (stage.Copying reading.Guess) k
  planned_at (stage.Copying r) k o p n h = unfold step_at in (ap (λ (x : Result Progress Damaged). acted s (copy_goes x t k)) (read_is r k o) ∙ copy_planned _ k)
  planned_at stage.FillCopy k o p n h = copied_planned k h
  planned_at stage.Put k o p n h = put_planned k (p refl)
  planned_at (stage.Paging r) k o p n h = unfold step_at in (ap (λ (x : Result Progress Damaged). acted s (page_goes x t k)) (read_is r k o) ∙ page_planned _ k h (subst (CellKept k.hand.cell) (read_is r k o) (cell-kept s r k)))

  pub planned_step : Steady s (task_at s t) → acted s (plan_step (sight_of s) t) ≡ step s t
  unfolding plan_step plan_row step sight_of
  planned_step h =
      acted_if s (leb s.sizes.t t) (refused refusal.NoTask) _ ∙ by_test (leb s.sizes.t t)
      (λ e. rw e (acted-refused s refusal.NoTask))
      (λ e. rw e (ap (λ (k : Task). acted s (plan_at (task_at s t).stage (sight_of s) t k)) (ticked-is (task_at s t) h.small.steps) ∙ at))
    where
      at : acted s (plan_at (task_at s t).stage (sight_of s) t (counted (task_at s t))) ≡ step_at (task_at s t).stage s t (counted (task_at s t))
      at = unfold counted in planned_at (task_at s t).stage (counted (task_at s t)) h.unsettled h.spare h.small.number h.small.hand
