-- What the check computes: for each rule whether it holds, and the number of the first that is broken.
-- Rests on Rules, Holds and Decide; nothing is proved here.
use Rattle.std.specs.Prelude.{◌+◌, min, ℕ, Bool, ◌&&◌, not, List, eqb, leb, ltb, get_or, if◌then◌else◌, None, Option, Some}
use Rattle.rulebook.specs.declared.Sizes.{Sizes}
use Rattle.rulebook.specs.declared.Slot.{Slot}
use Rattle.rulebook.specs.declared.Stage.{Stage}
use Rattle.rulebook.specs.declared.Task.{Task}
use Rattle.bridge.specs.Sound.{filled_to}
use Rattle.rulebook.specs.Codes.{code_of}
use Rattle.layout.specs.Header.{header_of}
use Rattle.layout.specs.Places.{block_part, slot_part, task_part}
use Rattle.layout.specs.Rows.{task_read}
use Rattle.rulebook.specs.State.{block_at, fills, is_live, names, reserves, stood, writes}
use Rattle.theorems.specs.Terms.{all_to, entries}
use Rattle.survey.specs.Decide.{◌implies◌, some_to}
use Rattle.survey.specs.Holds.{all_apart, all_below, all_rise, filling_in, is_reserved, laid_in, range_holds, readable_in, slot_holds, stands_as, task_holds}
use Rattle.survey.specs.Rules.{shown, slot, task, under}

-- ---- the rules of a pool of words p, whose header gives the sizes d

module _ (d : Sizes) (p : List ℕ) where
  abbrev pub every_slot : (ℕ → Bool) → Bool
  every_slot f = all_to f d.h

  -- every live handle, by its slot
  abbrev pub every_live : (ℕ → Bool) → Bool
  every_live f = every_slot (λ (j : ℕ). is_live (slot d p j).status implies f j)

  abbrev pub every_task : (ℕ → Bool) → Bool
  every_task f = all_to f d.t

  -- every task at a stage that g tells
  abbrev pub every_busy : (Stage → Bool) → (ℕ → Bool) → Bool
  every_busy g f = every_task (λ (t : ℕ). g (task d p t).stage implies f t)

  -- rule 2, of the handle in slot j
  unfoldable pub rule2_at : ℕ → Bool
  rule2_at j =
      is_live (slot d p j).status implies (ltb (slot d p j).block d.b && (leb (slot d p j).number (under d p j).version
      && (leb (slot d p j).number d.n && leb (under d p j).version (d.n + 1))))

  unfoldable pub rule2 : Bool
  rule2 = every_slot rule2_at

  unfoldable pub rule3 : Bool
  rule3 = every_live (λ (j : ℕ). readable_in d.n (block_part p d (slot d p j).block) && (all_below (under d p j) (under d p j).version && (all_rise (under d p j) && all_apart (under d p j))))

  -- rule 4, of block k
  unfoldable pub rule4_at : ℕ → Bool
  rule4_at k = stood (shown d p) k implies leb (entries (block_at (shown d p) k).logs) (min (block_at (shown d p) k).version d.n)

  unfoldable pub rule4 : Bool
  rule4 = all_to rule4_at d.b

  -- rule 5: the handle x in slot i, against that in slot j and against every one
  unfoldable pub clear_of : Slot → ℕ → ℕ → Bool
  clear_of x i j = is_live (slot d p j).status implies (eqb x.block (slot d p j).block implies (eqb x.number (slot d p j).number implies eqb i j))

  unfoldable pub rule5_at : ℕ → Bool
  rule5_at i = is_live (slot d p i).status implies every_slot (clear_of (slot d p i) i)

  unfoldable pub rule5 : Bool
  rule5 = every_slot rule5_at

  -- rule 6: the handle that task t names is live where the task found it
  unfoldable pub named_at : ℕ → Bool
  named_at t = names (task d p t).stage implies stands_as (task d p t) (slot d p (task d p t).slot)

  -- the task x, which is task t, against task u: they have not reserved one slot
  unfoldable pub fresh_apart : Task → ℕ → ℕ → Bool
  fresh_apart x t u = reserves (task d p u).stage implies (eqb x.fresh (task d p u).fresh implies eqb t u)

  -- what task t has reserved is reserved, and for it alone
  unfoldable pub fresh_at : ℕ → Bool
  fresh_at t =
      reserves (task d p t).stage implies (ltb (task d p t).fresh d.h && (is_reserved (slot d p (task d p t).fresh).status
      && every_task (fresh_apart (task d p t) t)))

  -- they do not fill one block
  unfoldable pub target_apart : Task → ℕ → ℕ → Bool
  target_apart x t u = fills (task d p u).stage implies (eqb x.target (task d p u).target implies eqb t u)

  -- the handle in slot j does not stand on what the task x fills
  unfoldable pub off_target : Task → ℕ → Bool
  off_target x j = is_live (slot d p j).status implies not (eqb (slot d p j).block x.target)

  -- a block that task t fills has no other task and no live handle
  unfoldable pub target_at : ℕ → Bool
  target_at t = fills (task d p t).stage implies (every_task (target_apart (task d p t) t) && every_slot (off_target (task d p t)))

  unfoldable pub rule6_at : ℕ → Bool
  rule6_at t = named_at t && (fresh_at t && target_at t)

  -- task t has reserved slot j; a slot that is reserved belongs to a task
  unfoldable pub owns_at : ℕ → ℕ → Bool
  owns_at j t = reserves (task d p t).stage && eqb (task d p t).fresh j

  unfoldable pub owner_at : ℕ → Bool
  owner_at j = is_reserved (slot d p j).status implies some_to (owns_at j) d.t

  unfoldable pub rule6 : Bool
  rule6 = every_task rule6_at && every_slot owner_at

  -- rule 7: slot j's code and ranges; task t's code, ranges and pace
  unfoldable pub slot_sound : ℕ → Bool
  slot_sound j = ltb (get_or (slot_part p j) 1 0) 3 && slot_holds (slot d p j)

  unfoldable pub task_sound : ℕ → Bool
  task_sound t = eqb (code_of (task_read (task_part p d t)).stage) (get_or (task_part p d t) 0 0) && range_holds d (task d p t)

  -- two sets in place, past their exchange, are not on one block
  unfoldable pub writer_apart : Task → ℕ → ℕ → Bool
  writer_apart x t u = writes (task d p u).stage implies (eqb x.block (task d p u).block implies eqb t u)

  -- the handle in slot j does not stand above the task x on its block
  unfoldable pub not_above : Task → ℕ → Bool
  not_above x j = is_live (slot d p j).status implies (eqb (slot d p j).block x.block implies leb (slot d p j).number x.number)

  -- a set in place, past its exchange, is alone on its block, has raised V, and has no handle above it
  unfoldable pub writer_at : ℕ → Bool
  writer_at t =
      writes (task d p t).stage implies (eqb (block_at (shown d p) (task d p t).block).version ((task d p t).number + 1)
      && (every_task (writer_apart (task d p t) t) && every_slot (not_above (task d p t))))

  -- what task t at its stage has done
  unfoldable pub facts_at : ℕ → Bool
  facts_at t = task_holds (shown d p) (task d p t).stage (task d p t)

  -- the words of block k, where a live handle stands on it; and of the block that task t fills
  unfoldable pub laid_at : ℕ → Bool
  laid_at k = stood (shown d p) k implies laid_in d.n (block_part p d k)

  unfoldable pub filling_at : ℕ → Bool
  filling_at t =
      fills (task d p t).stage implies filling_in (filled_to (task d p t).stage d.n (task d p t).hand.cell) d.n (block_part p d (task d p t).target)

  unfoldable pub rule7 : Bool
  rule7 = every_slot slot_sound && (every_task task_sound && (every_task writer_at && (every_task facts_at && (all_to laid_at d.b && every_task filling_at))))

  -- the number of the first of rules 2 to 4, of rules 5 and 6 that is broken, or 0
  unfoldable pub broken_logs : ℕ
  broken_logs = if not rule2 then 2 else if not rule3 then 3 else if not rule4 then 4 else 0

  unfoldable pub broken_rows : ℕ
  broken_rows = if not rule5 then 5 else if not rule6 then 6 else 0

  -- the number of the first of rules 2 to 7 that is broken, or 0
  unfoldable pub broken_of : ℕ
  broken_of =
      if not rule2 then 2 else if not rule3 then 3 else if not rule4 then 4 else if not rule5 then 5 else if not rule6 then 6 else if not rule7 then 7 else 0

-- the number of the first broken rule, or 0
abbrev pub broken_under : Option Sizes → List ℕ → ℕ
broken_under None p = 1
broken_under (Some d) p = broken_of d p

unfoldable pub broken_in : List ℕ → ℕ
broken_in p = broken_under (header_of p) p
