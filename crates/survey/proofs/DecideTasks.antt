-- What is computed of a task and of a slot decides what rule 7 says of them: ranges, paces, and each stage's own facts.
use Rattle.std.specs.Prelude.{◌*◌, ◌+◌, ◌-◌, ◌<◌, ℕ, List, [], ◌∷◌, ◌≡◌, refl}
use Rattle.std.proofs.lemmas.Bool.{false≢true}
use Rattle.std.proofs.Common.{true≢false, sym, arith}
use Rattle.std.proofs.Math.Path.{ap}
use Rattle.std.proofs.Math.ListN.{length}
use Rattle.rulebook.specs.declared.Entry.{Entry}
use Rattle.rulebook.specs.declared.Hand.{Hand}
use Rattle.rulebook.specs.declared.Reading.{Reading}
use Rattle.rulebook.specs.declared.Sizes.{Sizes}
use Rattle.rulebook.specs.declared.Slot.{Slot}
use Rattle.rulebook.specs.declared.Stage.{Stage}
use Rattle.rulebook.specs.declared.Status.{Status}
use Rattle.rulebook.specs.declared.Task.{Task}
use Rattle.block.specs.Walk.{Decides}
use Rattle.rulebook.specs.Sizes.{last_serial}
use Rattle.rulebook.specs.State.{State, block_at, hand_of, idle, is_live, log_at, slot_at}
use Rattle.rulebook.specs.Steps.{here_of}
use Rattle.rules.specs.Paced.{Pace, SlotRange, TaskRange, copy_steps}
use Rattle.rules.specs.Rules.{Fills, Gets, InHand, Seeks, TaskRule, ToAppend, ToWrite, Unspent}
use Rattle.theorems.specs.Prices.Digits.{left_of}
use Rattle.theorems.specs.Terms.{digits, version_at, entries}
use Rattle.survey.specs.Holds.{bare_hand, bare_task, fills_to, gets_in, in_hand, interior, is_reserved, on_cell, on_hand, pace_holds, range_holds, seeks_in, slot_holds, task_holds, to_append, to_write, unspent}
use Rattle.survey.proofs.Deciding.{decide_all, decide_always, decide_and, decide_as, decide_eq, decide_five, decide_le, decide_lt, decide_never, decide_not, decide_only, decide_some, decide_test, decide_three}
use Rattle.survey.proofs.DecideBlocks.{below_decides, every_entry_lem}
use Rattle.rulebook.specs.declared.Stage.TheVariants as stage
use Rattle.rulebook.specs.declared.Reading.TheVariants as reading
use Rattle.rulebook.specs.declared.Status.TheVariants as status

-- ---- statuses

pub live_decides : (x : Status) → Decides (is_live x) (x ≡ status.Live)
live_decides status.Free = record { yes = λ e. absurd (false≢true e); no = λ e h. true≢false (ap is_live (sym h)) }
live_decides status.Reserved = record { yes = λ e. absurd (false≢true e); no = λ e h. true≢false (ap is_live (sym h)) }
live_decides status.Live = decide_always refl

pub reserved_decides : (x : Status) → Decides (is_reserved x) (x ≡ status.Reserved)
reserved_decides status.Free = record { yes = λ e. absurd (false≢true e); no = λ e h. true≢false (ap is_reserved (sym h)) }
reserved_decides status.Reserved = decide_always refl
reserved_decides status.Live = record { yes = λ e. absurd (false≢true e); no = λ e h. true≢false (ap is_reserved (sym h)) }

pub slot_decides : (x : Slot) → Decides (slot_holds x) (SlotRange x)
unfolding slot_holds
slot_decides x =
    decide_as
    (decide_and (decide_le x.serial last_serial) (decide_and
    (decide_only (decide_never (live_decides x.status)) (λ _. decide_and (decide_eq x.block 0) (decide_eq x.number 0)))
    (decide_only (live_decides x.status) (λ _. decide_le 1 x.serial))))
    (λ h. record { serial_not_above = h.0; nowhere = h.1.0; carried = h.1.1 })
    (λ r. (r.serial_not_above, (r.nowhere, r.carried)))

-- ---- the get in hand

pub seeks_decides : (l : List Entry) (L : ℕ) (w : Hand) → Decides (seeks_in l L w) (Seeks l L w)
unfolding seeks_in
seeks_decides l L w =
    decide_as
    (decide_and (decide_lt w.lo w.hi) (decide_and (decide_le w.hi (length l)) (decide_and (decide_all w.lo (λ j _. decide_lt (version_at l j) L))
    (decide_only (decide_test w.found) (λ _. decide_and (decide_lt w.hi (length l)) (decide_and (decide_eq w.version (version_at l w.hi)) (decide_le L (version_at l w.hi))))))))
    (λ h. record { left = h.0; inside = h.1.0; below = h.1.1.0; candidate = λ e. let c = h.1.1.1 e in (c.0, c.1.0, c.1.1) })
    (λ r. (r.left, (r.inside, (r.below, λ e. let c = r.candidate e in (c.0, (c.1, c.2))))))

hand_decides : (r : Reading) (l : List Entry) (L : ℕ) (w : Hand) → Decides (in_hand r l L w) (InHand r l L w)
hand_decides reading.Guess l L w = decide_always tt
hand_decides reading.Version l L w = decide_not w.found
hand_decides reading.Length l L w = decide_not w.found
hand_decides reading.Probe l L w = seeks_decides l L w

empty-log : (l : List Entry) → length l ≡ 0 → l ≡ []
empty-log [] e = refl
empty-log (x ∷ l) e = absurd (omega arith)

-- ---- each stage's own facts

module _ (s : State) where
  gets_decides : (r : Reading) (k : Task) → Decides (gets_in s r k) (Gets s r k)
  unfolding gets_in
  gets_decides r k =
      decide_as (decide_and (decide_lt k.hand.cell s.sizes.n) (hand_decides r (log_at (here_of s k) k.hand.cell) k.number k.hand))
      (λ h. record { cell_in_n = h.0; hand_holds = h.1 })
      (λ g. (g.cell_in_n, g.hand_holds))

  append_decides : (k : Task) → Decides (to_append s k) (ToAppend s k)
  unfolding to_append
  append_decides k =
      decide_as (decide_and (decide_lt k.number s.sizes.n) (decide_and (below_decides (here_of s k) k.number) (decide_le (entries (here_of s k).logs) k.number)))
      (λ h. record { room = h.0; all_older = h.1.0; few = h.1.1 })
      (λ a. (a.room, (a.all_older, a.few)))

  write_decides : (k : Task) → Decides (to_write s k) (ToWrite s k)
  unfolding to_write
  write_decides k =
      decide_as
      (decide_and (decide_lt k.number s.sizes.n) (decide_and
      (every_entry_lem (here_of s k) (λ i q. decide_only (decide_never (decide_eq i k.cell)) (λ _. decide_lt (version_at (log_at (here_of s k) i) q) k.number)))
      (decide_some (length (log_at (here_of s k) k.cell)) (λ q _. decide_le k.number (version_at (log_at (here_of s k) k.cell) q)))))
      (λ h. record { room = h.0; others_older = λ i e q l. h.1.0 i q l e; appended = h.1.1 })
      (λ a. (a.room, ((λ i q l e. a.others_older i e q l), a.appended)))

  fills_decides : (c : ℕ) (k : Task) → Decides (fills_to s c k) (Fills s c k)
  unfolding fills_to
  fills_decides c k =
      decide_as
      (decide_and (decide_lt k.target s.sizes.b) (decide_and (decide_eq (block_at s k.target).version 0)
      (decide_all c (λ i _. decide_eq (length (log_at (block_at s k.target) i)) 0))))
      (λ h. record { target_in_b = h.0; at_zero = h.1.0; emptied = λ i l. empty-log _ (h.1.1 i l) })
      (λ f. (f.target_in_b, (f.at_zero, λ i l. ap length (f.emptied i l))))

  module _ (k : Task) where
    unspent_decides : Decides (unspent s k) (Unspent s k)
    unspent_decides = decide_lt (slot_at s k.fresh).serial last_serial

    cell_decides : Decides (on_cell s k) (k.cell < s.sizes.n)
    cell_decides = decide_lt k.cell s.sizes.n

    on_hand_decides : Decides (on_hand s k) (k.hand.cell < s.sizes.n)
    on_hand_decides = decide_lt k.hand.cell s.sizes.n

    interior_decides : Decides (interior s k) (k.number < (here_of s k).version)
    interior_decides = decide_lt k.number (here_of s k).version

  pub task_decides : (g : Stage) (k : Task) → Decides (task_holds s g k) (TaskRule s g k)
  task_decides stage.Idle k = decide_always tt
  task_decides stage.TakeNew k = decide_and (unspent_decides k) (decide_lt 0 s.sizes.n)
  task_decides stage.FillNew k = decide_three (unspent_decides k) (fills_decides k.hand.cell k) (on_hand_decides k)
  task_decides (stage.Getting r) k = gets_decides r k
  task_decides stage.Exchange k = decide_and (unspent_decides k) (cell_decides k)
  task_decides stage.Read k = decide_three (unspent_decides k) (cell_decides k) (append_decides k)
  task_decides stage.Append k = decide_three (unspent_decides k) (cell_decides k) (append_decides k)
  task_decides stage.Write k = decide_three (unspent_decides k) (cell_decides k) (write_decides k)
  task_decides stage.TakeCopy k = decide_three (unspent_decides k) (cell_decides k) (interior_decides k)
  task_decides (stage.Copying r) k = decide_five (unspent_decides k) (cell_decides k) (interior_decides k) (fills_decides k.hand.cell k) (gets_decides r k)
  task_decides stage.FillCopy k = decide_five (unspent_decides k) (cell_decides k) (interior_decides k) (fills_decides k.hand.cell k) (on_hand_decides k)
  task_decides stage.Put k = decide_three (unspent_decides k) (cell_decides k) (fills_decides s.sizes.n k)
  task_decides (stage.Paging r) k = decide_three (gets_decides r k) (decide_lt k.hand.cell k.until) (decide_le k.until s.sizes.n)

-- ---- ranges and paces

bare_hand_lem : (w : Hand) → Decides (bare_hand w) (w ≡ hand_of 0)
unfolding bare_hand
bare_hand_lem w =
    decide_as
    (decide_and (decide_eq w.cell 0) (decide_and (decide_eq w.guess 0) (decide_and (decide_eq w.lo 0) (decide_and (decide_eq w.hi 0)
    (decide_and (decide_not w.found) (decide_and (decide_eq w.candidate 0) (decide_eq w.version 0)))))))
    (λ h i. record {
      cell = h.0 i;
      guess = h.1.0 i;
      lo = h.1.1.0 i;
      hi = h.1.1.1.0 i;
      found = h.1.1.1.1.0 i;
      candidate = h.1.1.1.1.1.0 i;
      version = h.1.1.1.1.1.1 i;
    })
    (λ e. (
      ap (λ (x : Hand). x.cell) e,
      (
        ap (λ (x : Hand). x.guess) e,
        (
          ap (λ (x : Hand). x.lo) e,
          (
            ap (λ (x : Hand). x.hi) e,
            (ap (λ (x : Hand). x.found) e, (ap (λ (x : Hand). x.candidate) e, ap (λ (x : Hand). x.version) e)),
          ),
        ),
      ),
    ))

bare_task_lem : (k : Task) → k.stage ≡ stage.Idle → Decides (bare_task k) (k ≡ idle)
unfolding bare_task
bare_task_lem k g =
    decide_as
    (decide_and (decide_eq k.slot 0) (decide_and (decide_eq k.block 0) (decide_and (decide_eq k.number 0) (decide_and (decide_eq k.cell 0)
    (decide_and (decide_eq k.value 0) (decide_and (decide_eq k.until 0) (decide_and (decide_eq k.fresh 0) (decide_and (decide_eq k.target 0)
    (decide_and (decide_eq k.steps 0) (bare_hand_lem k.hand))))))))))
    (λ h i. record {
      stage = g i;
      slot = h.0 i;
      block = h.1.0 i;
      number = h.1.1.0 i;
      cell = h.1.1.1.0 i;
      value = h.1.1.1.1.0 i;
      until = h.1.1.1.1.1.0 i;
      fresh = h.1.1.1.1.1.1.0 i;
      target = h.1.1.1.1.1.1.1.0 i;
      hand = h.1.1.1.1.1.1.1.1.1 i;
      steps = h.1.1.1.1.1.1.1.1.0 i;
    })
    (λ e. (
      ap (λ (x : Task). x.slot) e,
      (
        ap (λ (x : Task). x.block) e,
        (
          ap (λ (x : Task). x.number) e,
          (
            ap (λ (x : Task). x.cell) e,
            (
              ap (λ (x : Task). x.value) e,
              (
                ap (λ (x : Task). x.until) e,
                (
                  ap (λ (x : Task). x.fresh) e,
                  (
                    ap (λ (x : Task). x.target) e,
                    (ap (λ (x : Task). x.steps) e, ap (λ (x : Task). x.hand) e),
                  ),
                ),
              ),
            ),
          ),
        ),
      ),
    ))

pace_decides : (n : ℕ) (g : Stage) (k : Task) → k.stage ≡ g → Decides (pace_holds n g k) (Pace n g k)
pace_decides n stage.Idle k e = bare_task_lem k e
pace_decides n stage.TakeNew k e = decide_eq k.steps 0
pace_decides n stage.FillNew k e = decide_eq k.steps (k.hand.cell + 1)
pace_decides n (stage.Getting r) k e = decide_le (k.steps + left_of n r k.hand) (3 + digits n)
pace_decides n stage.Exchange k e = decide_eq k.steps 0
pace_decides n stage.Read k e = decide_eq k.steps 1
pace_decides n stage.Append k e = decide_eq k.steps 2
pace_decides n stage.Write k e = decide_eq k.steps 3
pace_decides n stage.TakeCopy k e = decide_eq k.steps 1
pace_decides n (stage.Copying r) k e = decide_le (k.steps + left_of n r k.hand) (copy_steps n k.hand.cell + (3 + digits n))
pace_decides n stage.FillCopy k e = decide_le k.steps (copy_steps n k.hand.cell + (3 + digits n))
pace_decides n stage.Put k e = decide_le k.steps (copy_steps n n)
pace_decides n (stage.Paging r) k e =
    decide_and (decide_le k.cell k.hand.cell) (decide_le (k.steps + left_of n r k.hand) ((k.hand.cell - k.cell + 1) * (3 + digits n)))

pub range_decides : (z : Sizes) (k : Task) → Decides (range_holds z k) (TaskRange z k)
unfolding range_holds
range_decides z k =
    decide_as
    (decide_and (decide_lt k.slot z.h) (decide_and (decide_lt k.block z.b) (decide_and (decide_le k.number z.n)
    (decide_and (decide_lt k.cell z.n) (decide_and (decide_le k.until z.n) (decide_and (decide_lt k.fresh z.h)
    (decide_and (decide_lt k.target z.b) (decide_and (decide_lt k.hand.cell z.n) (pace_decides z.n k.stage k refl)))))))))
    (λ h.
    record {
      slot_below = h.0;
      block_below = h.1.0;
      number_within = h.1.1.0;
      cell_below = h.1.1.1.0;
      until_within = h.1.1.1.1.0;
      fresh_below = h.1.1.1.1.1.0;
      target_below = h.1.1.1.1.1.1.0;
      hand_below = h.1.1.1.1.1.1.1.0;
      pace = h.1.1.1.1.1.1.1.1;
    })
    (λ r.
    (r.slot_below, (r.block_below, (r.number_within, (r.cell_below, (r.until_within, (r.fresh_below, (r.target_below, (r.hand_below, r.pace)))))))))
