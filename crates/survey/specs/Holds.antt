-- What the check computes of one block, one task, one slot: its logs, its words, what it has done, its ranges.
-- Rests on Decide; nothing is proved here.
use Rattle.std.specs.Prelude.{◌*◌, ◌+◌, ◌-◌, ℕ, Bool, ◌&&◌, false, not, true, List, eqb, leb, ltb, length}
use Rattle.rulebook.specs.declared.Entry.{Entry}
use Rattle.rulebook.specs.declared.Hand.{Hand}
use Rattle.rulebook.specs.declared.Reading.{Reading}
use Rattle.rulebook.specs.declared.Sizes.{Sizes}
use Rattle.rulebook.specs.declared.Slot.{Slot}
use Rattle.rulebook.specs.declared.Stage.{Stage}
use Rattle.rulebook.specs.declared.Status.{Status}
use Rattle.rulebook.specs.declared.Task.{Task}
use Rattle.block.specs.Layout.{arena, bump_of, is_block, length_of, place_of, space_of}
use Rattle.block.specs.Sound.{sum_to}
use Rattle.rulebook.specs.Sizes.{last_serial}
use Rattle.rulebook.specs.State.{Block, State, block_at, is_live, log_at, slot_at}
use Rattle.rulebook.specs.Steps.{here_of}
use Rattle.rules.specs.Paced.{copy_steps}
use Rattle.theorems.specs.Prices.Digits.{left_of}
use Rattle.theorems.specs.Terms.{all_to, digits, version_at, entries}
use Rattle.survey.specs.Decide.{◌implies◌, some_to}
use Rattle.rulebook.specs.declared.Stage.TheVariants as stage
use Rattle.rulebook.specs.declared.Reading.TheVariants as reading
use Rattle.rulebook.specs.declared.Status.TheVariants as status

abbrev pub is_reserved : Status → Bool
is_reserved status.Free = false
is_reserved status.Reserved = true
is_reserved status.Live = false

-- ---- the logs of a block

-- they can be read
unfoldable pub readable_in : ℕ → List ℕ → Bool
readable_in n w = all_to (λ (i : ℕ). all_to (λ (q : ℕ). ltb (place_of n w i q) (arena n)) (length_of n w i)) n

-- every entry of every log
abbrev pub every_entry : Block → (ℕ → ℕ → Bool) → Bool
every_entry b f = all_to (λ (i : ℕ). all_to (f i) (length (log_at b i))) (length b.logs)

-- every version is below v
unfoldable pub all_below : Block → ℕ → Bool
all_below b v = every_entry b (λ (i q : ℕ). ltb (version_at (log_at b i) q) v)

-- every version is above those before it in its log
unfoldable pub all_rise : Block → Bool
all_rise b = every_entry b (λ (i r : ℕ). all_to (λ (q : ℕ). ltb (version_at (log_at b i) q) (version_at (log_at b i) r)) r)

-- every version stands in one log
unfoldable pub all_apart : Block → Bool
all_apart b = every_entry b (λ (i q : ℕ). every_entry b (λ (k r : ℕ). eqb (version_at (log_at b i) q) (version_at (log_at b k) r) implies eqb i k))

-- ---- a block's words, as rule 7 asks

-- every place that is held lies below the bump, and is no other's
abbrev pub every_place : ℕ → List ℕ → (ℕ → ℕ → Bool) → Bool
every_place n w f = all_to (λ (i : ℕ). all_to (f i) (space_of (length_of n w i))) n

unfoldable pub laid_in : ℕ → List ℕ → Bool
laid_in n w =
    is_block n w && (all_to (λ (i : ℕ). leb (length_of n w i) n) n && (every_place n w (λ (i j : ℕ). ltb (place_of n w i j) (bump_of w))
    && (every_place n w (λ (i j : ℕ). every_place n w (λ (k t : ℕ). eqb (place_of n w i j) (place_of n w k t) implies (eqb i k && eqb j t)))
    && (eqb (bump_of w) (sum_to n (λ (i : ℕ). space_of (length_of n w i))) && leb (bump_of w) (arena n)))))

unfoldable pub filling_in : ℕ → ℕ → List ℕ → Bool
filling_in c n w = is_block n w && (eqb (bump_of w) 0 && all_to (λ (i : ℕ). ltb i c implies eqb (length_of n w i) 0) n)

-- ---- a task's own facts, as rule 7 asks

unfoldable pub seeks_in : List Entry → ℕ → Hand → Bool
seeks_in l L w =
    ltb w.lo w.hi && (leb w.hi (length l) && (all_to (λ (j : ℕ). ltb (version_at l j) L) w.lo
    && (w.found implies (ltb w.hi (length l) && (eqb w.version (version_at l w.hi) && leb L (version_at l w.hi))))))

abbrev pub in_hand : Reading → List Entry → ℕ → Hand → Bool
in_hand reading.Guess l L w = true
in_hand reading.Version l L w = not w.found
in_hand reading.Length l L w = not w.found
in_hand reading.Probe l L w = seeks_in l L w

module _ (s : State) where
  unfoldable pub gets_in : Reading → Task → Bool
  gets_in r k = ltb k.hand.cell s.sizes.n && in_hand r (log_at (here_of s k) k.hand.cell) k.number k.hand

  -- before its append: every entry is older, and there are few
  unfoldable pub to_append : Task → Bool
  to_append k = ltb k.number s.sizes.n && (all_below (here_of s k) k.number && leb (entries (here_of s k).logs) k.number)

  -- after it: of the logs only that of its cell has one that is not
  unfoldable pub to_write : Task → Bool
  to_write k =
      ltb k.number s.sizes.n && (every_entry (here_of s k) (λ (i q : ℕ). not (eqb i k.cell) implies ltb (version_at (log_at (here_of s k) i) q) k.number)
      && some_to (λ (q : ℕ). leb k.number (version_at (log_at (here_of s k) k.cell) q)) (length (log_at (here_of s k) k.cell)))

  unfoldable pub fills_to : ℕ → Task → Bool
  fills_to c k =
      ltb k.target s.sizes.b && (eqb (block_at s k.target).version 0 && all_to (λ (i : ℕ). eqb (length (log_at (block_at s k.target) i)) 0) c)

  abbrev pub unspent : Task → Bool
  unspent k = ltb (slot_at s k.fresh).serial last_serial

  abbrev pub on_cell : Task → Bool
  on_cell k = ltb k.cell s.sizes.n

  abbrev pub on_hand : Task → Bool
  on_hand k = ltb k.hand.cell s.sizes.n

  abbrev pub interior : Task → Bool
  interior k = ltb k.number (here_of s k).version

  abbrev pub task_holds : Stage → Task → Bool
  task_holds stage.Idle k = true
  task_holds stage.TakeNew k = unspent k && ltb 0 s.sizes.n
  task_holds stage.FillNew k = unspent k && (fills_to k.hand.cell k && on_hand k)
  task_holds (stage.Getting r) k = gets_in r k
  task_holds stage.Exchange k = unspent k && on_cell k
  task_holds stage.Read k = unspent k && (on_cell k && to_append k)
  task_holds stage.Append k = unspent k && (on_cell k && to_append k)
  task_holds stage.Write k = unspent k && (on_cell k && to_write k)
  task_holds stage.TakeCopy k = unspent k && (on_cell k && interior k)
  task_holds (stage.Copying r) k = unspent k && (on_cell k && (interior k && (fills_to k.hand.cell k && gets_in r k)))
  task_holds stage.FillCopy k = unspent k && (on_cell k && (interior k && (fills_to k.hand.cell k && on_hand k)))
  task_holds stage.Put k = unspent k && (on_cell k && fills_to s.sizes.n k)
  task_holds (stage.Paging r) k = gets_in r k && (ltb k.hand.cell k.until && leb k.until s.sizes.n)

-- ---- ranges and paces

-- a hand that has read nothing, on cell 0
unfoldable pub bare_hand : Hand → Bool
bare_hand w = eqb w.cell 0 && (eqb w.guess 0 && (eqb w.lo 0 && (eqb w.hi 0 && (not w.found && (eqb w.candidate 0 && eqb w.version 0)))))

-- every number of a task is 0
unfoldable pub bare_task : Task → Bool
bare_task k =
    eqb k.slot 0 && (eqb k.block 0 && (eqb k.number 0 && (eqb k.cell 0 && (eqb k.value 0 && (eqb k.until 0
    && (eqb k.fresh 0 && (eqb k.target 0 && (eqb k.steps 0 && bare_hand k.hand))))))))

abbrev pub pace_holds : ℕ → Stage → Task → Bool
pace_holds n stage.Idle k = bare_task k
pace_holds n stage.TakeNew k = eqb k.steps 0
pace_holds n stage.FillNew k = eqb k.steps (k.hand.cell + 1)
pace_holds n (stage.Getting r) k = leb (k.steps + left_of n r k.hand) (3 + digits n)
pace_holds n stage.Exchange k = eqb k.steps 0
pace_holds n stage.Read k = eqb k.steps 1
pace_holds n stage.Append k = eqb k.steps 2
pace_holds n stage.Write k = eqb k.steps 3
pace_holds n stage.TakeCopy k = eqb k.steps 1
pace_holds n (stage.Copying r) k = leb (k.steps + left_of n r k.hand) (copy_steps n k.hand.cell + (3 + digits n))
pace_holds n stage.FillCopy k = leb k.steps (copy_steps n k.hand.cell + (3 + digits n))
pace_holds n stage.Put k = leb k.steps (copy_steps n n)
pace_holds n (stage.Paging r) k = leb k.cell k.hand.cell && leb (k.steps + left_of n r k.hand) ((k.hand.cell - k.cell + 1) * (3 + digits n))

unfoldable pub range_holds : Sizes → Task → Bool
range_holds z k =
    ltb k.slot z.h && (ltb k.block z.b && (leb k.number z.n && (ltb k.cell z.n && (leb k.until z.n
    && (ltb k.fresh z.h && (ltb k.target z.b && (ltb k.hand.cell z.n && pace_holds z.n k.stage k)))))))

unfoldable pub slot_holds : Slot → Bool
slot_holds x =
    leb x.serial last_serial && ((not (is_live x.status) implies (eqb x.block 0 && eqb x.number 0)) && (is_live x.status implies leb 1 x.serial))

-- the handle in x is live where the task k found it
unfoldable pub stands_as : Task → Slot → Bool
stands_as k x = is_live x.status && (eqb x.block k.block && eqb x.number k.number)
