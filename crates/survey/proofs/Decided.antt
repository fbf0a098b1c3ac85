-- What is computed of a pool decides each rule.
use Prim.Native.Nat.{◌+◌, ◌<◌, ◌≤◌, min, ℕ}
use Rattle.std.specs.Prelude.{Bool, List, ◌≡◌, ltb, get_or}
use Rattle.std.proofs.Math.Bool.{false, true}
use Rattle.std.proofs.lemmas.Bool.{false≢true}
use Rattle.std.proofs.Common.{◌∙◌, ap, sym, arith, ltb-false, ltb-true}
use Rattle.std.proofs.Math.Path.{refl, subst}
use Rattle.std.proofs.Math.ListN.{get_or-eq_default}
use Rattle.rulebook.specs.declared.Sizes.{Sizes}
use Rattle.rulebook.specs.declared.Slot.{Slot}
use Rattle.rulebook.specs.declared.Stage.{Stage}
use Rattle.rulebook.specs.declared.Status.{Status}
use Rattle.rulebook.specs.declared.Task.{Task}
use Rattle.block.specs.Sound.{Filling, Laid}
use Rattle.block.specs.Walk.{Decides}
use Rattle.bridge.specs.Sound.{filled_to}
use Rattle.rulebook.specs.Codes.{code_of}
use Rattle.layout.specs.Places.{Spans, block_part, slot_part, task_part}
use Rattle.layout.specs.Pool.{view_of}
use Rattle.layout.specs.Rows.{task_read}
use Rattle.layout.specs.View.{view_slots, view_tasks}
use Rattle.rulebook.specs.State.{block_at, fills, freed, idle, is_live, names, reserves, stood, writes}
use Rattle.rulebook.specs.Tests.{by_test}
use Rattle.rules.specs.Paced.{SlotRange, TaskRange}
use Rattle.rules.specs.Rules.{TaskRule}
use Rattle.theorems.specs.Terms.{all_to, entries}
use Rattle.survey.specs.Broken.{clear_of, every_busy, every_live, every_slot, every_task, facts_at, filling_at, fresh_apart, fresh_at, laid_at, named_at, not_above, off_target, owner_at, owns_at, rule2, rule2_at, rule3, rule4, rule4_at, rule5, rule5_at, rule6, rule6_at, rule7, slot_sound, target_apart, target_at, task_sound, writer_apart, writer_at}
use Rattle.survey.specs.Holds.{is_reserved, stands_as}
use Rattle.survey.proofs.Deciding.{decide_all, decide_and, decide_as, decide_eq, decide_le, decide_lt, decide_never, decide_only, decide_some, decide_test, decide_three}
use Rattle.survey.proofs.DecideBlocks.{apart_decides, below_decides, filling_decides, laid_decides, readable_decides, rise_decides}
use Rattle.survey.proofs.DecideTasks.{live_decides, range_decides, reserved_decides, slot_decides, task_decides}
use Rattle.survey.proofs.LogRules.{stood_live}
use Rattle.survey.specs.Rules.{Lives, Rule2, Rule3, Rule4, Rule5, Rule6, Rule7, shown, slot, task, under}
use Rattle.survey.specs.Whole.{live_stood}
use Rattle.rulebook.specs.declared.Stage.TheVariants as stage
use Rattle.rulebook.specs.declared.Status.TheVariants as status

module _ (d : Sizes) (p : List ℕ) where
  -- ---- beyond the last row

  pub slot-beyond : (j : ℕ) → d.h ≤ j → slot d p j ≡ freed 0
  slot-beyond j l = get_or-eq_default (shown d p).slots (freed 0) (omega (arith, view_slots d p))

  task-beyond : (t : ℕ) → d.t ≤ t → task d p t ≡ idle
  task-beyond t l = get_or-eq_default (shown d p).tasks idle (omega (arith, view_tasks d p))

  -- a slot that is not free is there; a task at a stage that is not idle is there
  slot_below : (f : Status → Bool) → f status.Free ≡ false → (j : ℕ) → f (slot d p j).status ≡ true → j < d.h
  slot_below f e j h =
      by_test (ltb j d.h)
      (λ q. ltb-true j d.h q)
      (λ q. absurd (false≢true (sym e ∙ ap (λ (x : Slot). f x.status) (sym (slot-beyond j (ltb-false j d.h q))) ∙ h)))

  task-below : (g : Stage → Bool) → g stage.Idle ≡ false → (t : ℕ) → g (task d p t).stage ≡ true → t < d.t
  task-below g e t h =
      by_test (ltb t d.t)
      (λ q. ltb-true t d.t q)
      (λ q. absurd (false≢true (sym e ∙ ap (λ (x : Task). g x.stage) (sym (task-beyond t (ltb-false t d.t q))) ∙ h)))

  pub live_below : (j : ℕ) → Lives d p j → j < d.h
  live_below j l = slot_below is_live refl j (ap is_live l)

  -- ---- every live handle, every task at some stages

  module _ {f : ℕ → Bool} {P : ℕ → Type 0} (x : (j : ℕ) → Decides (f j) (P j)) where
    every_live_lem : Decides (every_live d p f) ((j : ℕ) → Lives d p j → P j)
    every_live_lem =
        decide_as (decide_all d.h (λ j _. decide_only (live_decides (slot d p j).status) (λ _. x j)))
        (λ h j l. h j (live_below j l) l)
        (λ h j _ l. h j l)

    every_busy_lem : (g : Stage → Bool) → g stage.Idle ≡ false → Decides (every_busy d p g f) ((t : ℕ) → g (task d p t).stage ≡ true → P t)
    every_busy_lem g e =
        decide_as (decide_all d.t (λ t _. decide_only (decide_test (g (task d p t).stage)) (λ _. x t)))
        (λ h t b. h t (task-below g e t b) b)
        (λ h t _ b. h t b)

  -- ---- rules 2 to 6

  pub decides_2 : Decides (rule2 d p) (Rule2 d p)
  unfolding rule2 rule2_at
  decides_2 =
      decide_as
      (every_live_lem (λ j. decide_and (decide_lt (slot d p j).block d.b) (decide_and (decide_le (slot d p j).number (under d p j).version)
      (decide_and (decide_le (slot d p j).number d.n) (decide_le (under d p j).version (d.n + 1))))))
      (λ h. record { below_b = λ j l. (h j l).0; at_most_v = λ j l. (h j l).1.0; at_most_n = λ j l. (h j l).1.1.0; v_at_most = λ j l. (h j l).1.1.1 })
      (λ r j l. (r.below_b j l, (r.at_most_v j l, (r.at_most_n j l, r.v_at_most j l))))

  pub decides_3 : Decides (rule3 d p) (Rule3 d p)
  unfolding rule3
  decides_3 =
      decide_as
      (every_live_lem (λ j. decide_and (readable_decides d.n (block_part p d (slot d p j).block)) (decide_and (below_decides (under d p j) (under d p j).version)
      (decide_and (rise_decides (under d p j)) (apart_decides (under d p j))))))
      (λ h. record { readable = λ j l. (h j l).0; below_v = λ j l. (h j l).1.0; rising = λ j l. (h j l).1.1.0; in_one_log = λ j l. (h j l).1.1.1 })
      (λ r j l. (r.readable j l, (r.below_v j l, (r.rising j l, r.in_one_log j l))))

  -- where live handles stand on blocks of the pool
  pub decides_4 : Rule2 d p → Decides (rule4 d p) (Rule4 d p)
  unfolding rule4 rule4_at
  decides_4 two =
      decide_as
      (decide_all d.b (λ k _. decide_only (decide_test (stood (shown d p) k)) (λ _. decide_le (entries (block_at (shown d p) k).logs) (min (block_at (shown d p) k).version d.n))))
      (λ h. record { few_entries = λ j l. h (slot d p j).block (two.below_b j l) (live_stood d p j l) })
      (λ r k _ e.
      let s = stood_live d p k e in
      subst (λ (x : ℕ). entries (block_at (shown d p) x).logs ≤ min (block_at (shown d p) x).version d.n) s.2 (r.few_entries s.0 s.1))

  pub decides_5 : Decides (rule5 d p) (Rule5 d p)
  unfolding rule5 rule5_at clear_of
  decides_5 =
      decide_as
      (every_live_lem (λ i. every_live_lem (λ j.
      decide_only (decide_eq (slot d p i).block (slot d p j).block) (λ _. decide_only (decide_eq (slot d p i).number (slot d p j).number) (λ _. decide_eq i j)))))
      (λ h. record { apart = λ i j a b. h i a j b })
      (λ r i a j b. r.apart i j a b)

  named_decides : (t : ℕ) → Decides (named_at d p t) (names (task d p t).stage ≡ true → Lives d p (task d p t).slot × ((slot d p (task d p t).slot).block ≡ (task d p t).block) × ((slot d p (task d p t).slot).number ≡ (task d p t).number))
  unfolding named_at stands_as
  named_decides t =
      decide_only (decide_test (names (task d p t).stage)) (λ _.
      decide_three (live_decides (slot d p (task d p t).slot).status) (decide_eq (slot d p (task d p t).slot).block (task d p t).block) (decide_eq (slot d p (task d p t).slot).number (task d p t).number))

  -- what rule 6 says of a slot that task t has reserved, and of a block that it fills
  pub record Fresh (t : ℕ) : Type 0 where
    pub below : (task d p t).fresh < d.h
    pub reserved : (slot d p (task d p t).fresh).status ≡ status.Reserved
    pub alone : (u : ℕ) → reserves (task d p u).stage ≡ true → (task d p t).fresh ≡ (task d p u).fresh → t ≡ u

  pub record Target (t : ℕ) : Type 0 where
    pub alone : (u : ℕ) → fills (task d p u).stage ≡ true → (task d p t).target ≡ (task d p u).target → t ≡ u
    pub clear : (j : ℕ) → Lives d p j → (slot d p j).block ≡ (task d p t).target → ⊥

  fresh_decides : (t : ℕ) → Decides (fresh_at d p t) (reserves (task d p t).stage ≡ true → Fresh t)
  unfolding fresh_at fresh_apart
  fresh_decides t =
      decide_only (decide_test (reserves (task d p t).stage)) (λ _.
      decide_as
      (decide_three (decide_lt (task d p t).fresh d.h) (reserved_decides (slot d p (task d p t).fresh).status)
      (every_busy_lem (λ u. decide_only (decide_eq (task d p t).fresh (task d p u).fresh) (λ _. decide_eq t u)) reserves refl))
      (λ h. record { below = h.0; reserved = h.1; alone = h.2 })
      (λ r. (r.below, r.reserved, r.alone)))

  target_decides : (t : ℕ) → Decides (target_at d p t) (fills (task d p t).stage ≡ true → Target t)
  unfolding target_at target_apart off_target
  target_decides t =
      decide_only (decide_test (fills (task d p t).stage)) (λ _.
      decide_as
      (decide_and (every_busy_lem (λ u. decide_only (decide_eq (task d p t).target (task d p u).target) (λ _. decide_eq t u)) fills refl)
      (every_live_lem (λ j. decide_never (decide_eq (slot d p j).block (task d p t).target))))
      (λ h. record { alone = h.0; clear = h.1 })
      (λ r. (r.alone, r.clear)))

  owner_decides : (j : ℕ) → Decides (owner_at d p j) ((slot d p j).status ≡ status.Reserved → (t : ℕ) × (reserves (task d p t).stage ≡ true) × ((task d p t).fresh ≡ j))
  unfolding owner_at owns_at
  owner_decides j =
      decide_only (reserved_decides (slot d p j).status) (λ _.
      decide_as (decide_some d.t (λ t _. decide_and (decide_test (reserves (task d p t).stage)) (decide_eq (task d p t).fresh j)))
      (λ o. (o.0, o.2.0, o.2.1))
      (λ o. (o.0, task-below reserves refl o.0 o.1, (o.1, o.2))))

  pub decides_6 : Decides (rule6 d p) (Rule6 d p)
  unfolding rule6 rule6_at
  decides_6 =
      decide_as
      (decide_and (decide_all d.t (λ t _. decide_and (named_decides t) (decide_and (fresh_decides t) (target_decides t)))) (decide_all d.h (λ j _. owner_decides j)))
      (λ h.
      let at : (g : Stage → Bool) → g stage.Idle ≡ false → (t : ℕ) → g (task d p t).stage ≡ true → t < d.t = task-below in
      record {
        named_live = λ t n. (h.0 t (at names refl t n)).0 n;
        one_owner = λ j r. h.1 j (slot_below is_reserved refl j (ap is_reserved r)) r;
        own_slot = λ t u a b. ((h.0 t (at reserves refl t a)).1.0 a).alone u b;
        slot_is_reserved = λ t a. let f = (h.0 t (at reserves refl t a)).1.0 a in (f.below, f.reserved);
        one_filler = λ t u a b. ((h.0 t (at fills refl t a)).1.1 a).alone u b;
        none_on_it = λ t j a. ((h.0 t (at fills refl t a)).1.1 a).clear j;
      })
      (λ r. (
        (λ t _. (
          r.named_live t,
          (
            (λ a. record { below = (r.slot_is_reserved t a).0; reserved = (r.slot_is_reserved t a).1; alone = λ u b. r.own_slot t u a b }),
            λ a. record { alone = λ u b. r.one_filler t u a b; clear = λ j. r.none_on_it t j a },
          ),
        )),
        λ j _. r.one_owner j,
      ))

  -- ---- rule 7

  module _ (sp : Spans d p) where
    idle-ranged : TaskRange d idle
    idle-ranged =
        record {
          slot_below = sp.some_handles;
          block_below = sp.some_blocks;
          number_within = omega arith;
          cell_below = sp.some_cells;
          until_within = omega arith;
          fresh_below = sp.some_handles;
          target_below = sp.some_blocks;
          hand_below = sp.some_cells;
          pace = refl;
        }

    free_ranged : SlotRange (freed 0)
    free_ranged = record { serial_not_above = omega arith; nowhere = λ _. (refl, refl); carried = λ e. absurd (false≢true (ap is_live e)) }

    -- what holds of every row, and of what lies beyond, holds
    every_task_lem : (P : Task → Type 0) → P idle → ((t : ℕ) → t < d.t → P (task d p t)) → (t : ℕ) → P (task d p t)
    every_task_lem P i h t = by_test (ltb t d.t) (λ e. h t (ltb-true t d.t e)) (λ e. subst P (sym (task-beyond t (ltb-false t d.t e))) i)

    every_slot_lem : (P : Slot → Type 0) → P (freed 0) → ((j : ℕ) → j < d.h → P (slot d p j)) → (j : ℕ) → P (slot d p j)
    every_slot_lem P i h j = by_test (ltb j d.h) (λ e. h j (ltb-true j d.h e)) (λ e. subst P (sym (slot-beyond j (ltb-false j d.h e))) i)

    pub slots_decide : Decides (every_slot d p (slot_sound d p)) (((j : ℕ) → j < d.h → get_or (slot_part p j) 1 0 < 3) × ((j : ℕ) → SlotRange (slot d p j)))
    unfolding slot_sound
    slots_decide =
        decide_as (decide_all d.h (λ j _. decide_and (decide_lt (get_or (slot_part p j) 1 0) 3) (slot_decides (slot d p j))))
        (λ h. ((λ j l. (h j l).0), every_slot_lem SlotRange free_ranged (λ j l. (h j l).1)))
        (λ r j l. (r.0 j l, r.1 j))

    pub rows_decide : Decides (every_task d p (task_sound d p)) (((t : ℕ) → t < d.t → code_of (task_read (task_part p d t)).stage ≡ get_or (task_part p d t) 0 0) × ((t : ℕ) → TaskRange d (task d p t)))
    unfolding task_sound
    rows_decide =
        decide_as (decide_all d.t (λ t _. decide_and (decide_eq (code_of (task_read (task_part p d t)).stage) (get_or (task_part p d t) 0 0)) (range_decides d (task d p t))))
        (λ h. ((λ t l. (h t l).0), every_task_lem (TaskRange d) idle-ranged (λ t l. (h t l).1)))
        (λ r t l. (r.0 t l, r.1 t))

    -- what rule 7 says of a set in place, past its exchange
    pub record Writer (t : ℕ) : Type 0 where
      pub raised : (block_at (shown d p) (task d p t).block).version ≡ (task d p t).number + 1
      pub alone : (u : ℕ) → writes (task d p u).stage ≡ true → (task d p t).block ≡ (task d p u).block → t ≡ u
      pub highest : (j : ℕ) → Lives d p j → (slot d p j).block ≡ (task d p t).block → (slot d p j).number ≤ (task d p t).number

    writers_decide : Decides (every_task d p (writer_at d p)) ((t : ℕ) → writes (task d p t).stage ≡ true → Writer t)
    unfolding writer_at writer_apart not_above
    writers_decide =
        every_busy_lem (λ t.
        decide_as
        (decide_three (decide_eq (block_at (shown d p) (task d p t).block).version ((task d p t).number + 1))
        (every_busy_lem (λ u. decide_only (decide_eq (task d p t).block (task d p u).block) (λ _. decide_eq t u)) writes refl)
        (every_live_lem (λ j. decide_only (decide_eq (slot d p j).block (task d p t).block) (λ _. decide_le (slot d p j).number (task d p t).number))))
        (λ h. record { raised = h.0; alone = h.1; highest = h.2 })
        (λ r. (r.raised, r.alone, r.highest))) writes refl

    pub facts_decide : Decides (every_task d p (facts_at d p)) ((t : ℕ) → TaskRule (shown d p) (task d p t).stage (task d p t))
    unfolding facts_at
    facts_decide =
        decide_as (decide_all d.t (λ t _. task_decides (shown d p) (task d p t).stage (task d p t)))
        (every_task_lem (λ (k : Task). TaskRule (shown d p) k.stage k) tt)
        (λ h t _. h t)

    blocks_decide : Decides (all_to (laid_at d p) d.b) ((k : ℕ) → k < d.b → stood (shown d p) k ≡ true → Laid d.n (block_part p d k))
    unfolding laid_at
    blocks_decide = decide_all d.b (λ k _. decide_only (decide_test (stood (shown d p) k)) (λ _. laid_decides d.n (block_part p d k)))

    fillers_decide : Decides (every_task d p (filling_at d p)) ((t : ℕ) → fills (task d p t).stage ≡ true → Filling (filled_to (task d p t).stage d.n (task d p t).hand.cell) d.n (block_part p d (task d p t).target))
    unfolding filling_at
    fillers_decide = every_busy_lem (λ t. filling_decides (filled_to (task d p t).stage d.n (task d p t).hand.cell) d.n (block_part p d (task d p t).target)) fills refl

    pub decides_7 : Decides (rule7 d p) (Rule7 d p)
    unfolding rule7 view_of
    decides_7 =
        decide_as (decide_and slots_decide (decide_and rows_decide (decide_and writers_decide (decide_and facts_decide (decide_and blocks_decide fillers_decide)))))
        (λ h.
        record {
          statuses = h.0.0;
          codes = h.1.0.0;
          paced = record { tasks = h.1.0.1; slots = h.0.1 };
          one_writer = λ t u a b. (h.1.1.0 t a).alone u b;
          just_raised = λ t w. (h.1.1.0 t w).raised;
          none_above = λ t j w. (h.1.1.0 t w).highest j;
          tasks = h.1.1.1.0;
          stood_laid = h.1.1.1.1.0;
          filling_laid = h.1.1.1.1.1;
        })
        (λ r. (
          (r.statuses, r.paced.slots),
          (
            (r.codes, r.paced.tasks),
            (
              (λ t w. record { raised = r.just_raised t w; alone = λ u b. r.one_writer t u w b; highest = λ j. r.none_above t j w }),
              (r.tasks, (r.stood_laid, r.filling_laid)),
            ),
          ),
        ))
