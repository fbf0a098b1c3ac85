-- What each way out of a function on the header or on a row owes, with the premises as the code's tests and calls give them: rules for the
-- proofs of the functions. Rests on Header and Rows.
use Prim.Native.Nat.{ℕ, ◌+◌, ◌-◌, ◌/◌, ◌≤◌, ◌<◌, min}
use Rattle.std.proofs.Math.Path.{◌≡◌, refl, sym, ap, ap₂}
use Rattle.std.proofs.Common.{◌∙◌, arith, drop_of_length-le}
use Rattle.std.specs.Prelude.{Bool, false, not, ◌&&◌, List, [], ◌∷◌, ◌++◌, length, get_or, set, drop, Err, None, Ok, Option, Result, Some}
use Rattle.std.proofs.Math.Bool.{true, and-false}
use Rattle.std.proofs.Math.Nat.{min-eq_left, min-eq_right}
use Rattle.std.proofs.lemmas.List.Edits.{sets, sets-eq}
use borrow.Author.Tests.{not-true, not-false, le-leb, lt-leb, le-ltb, lt-ltb, eq-eqb, ne_eqb}
use Rattle.rulebook.specs.Sizes.{most_cells, most_handles, most_tasks, most_blocks, most_words, control_words, block_words, room, last_serial}
use Rattle.rulebook.specs.declared.Sizes.{Sizes}
use Rattle.rulebook.specs.declared.Stage.{Stage}
use Rattle.rulebook.specs.declared.Status.{Status}
use Rattle.rulebook.specs.declared.Slot.{Slot}
use Rattle.rulebook.specs.declared.Task.{Task}
use Rattle.rulebook.specs.Tests.{by_test}
use Rattle.layout.specs.Sizing.{Limits, limited_says, opens_by, room-none, room-some, block_positive}
use Rattle.rulebook.specs.Codes.{code_of, is_code, stage_coded, stage_from, status_code, status_from}
use Rattle.layout.specs.Rows.{bit_of, slot_words, slot_read, slot_fits, slot_row_of, slot_seen_of, task_fields, task_words, task_with, task_read, stands_in, works_in, task_fits, task_row_of, task_seen_of, stage_seen}
use Rattle.layout.specs.Parts.{part}
use Rattle.layout.specs.Places.{slot_part, slot_start}
use Rattle.layout.specs.Pool.{slot_seen}
use Rattle.layout.specs.Header.{mark, form, limited, sizes_of, sizes_in, headed, header_fields, header_of}
use Rattle.rulebook.specs.Codes.{damaged}
use Rattle.rulebook.specs.declared.Damaged.{Damaged}

-- at a return whose case was found by tests on numbers
pub ruleset tests = (le-leb, lt-leb, le-ltb, lt-ltb, eq-eqb, ne_eqb)

-- ---- the sizes

module _ (n h t words : ℕ) where
  module _ (r : Bool) (e : r ≡ limited n h t) where
    pub sizes_unlimited : not r ≡ true → None ≡ sizes_in n h t words
    unfolding sizes_in
    sizes_unlimited q = rw (opens_by n h t words, sym e ∙ not-true r q)

    module _ (q : not r ≡ false) where
      limits : Limits n h t
      limits = limited_says n h t (sym e ∙ not-false r q)

      pub sizes-cells : n ≤ most_cells
      sizes-cells = limits.cells

      pub sizes-handles : h ≤ most_handles
      sizes-handles = limits.handles

      pub sizes-tasks : t ≤ most_tasks
      sizes-tasks = limits.tasks

      pub sizes-long : most_words < words → None ≡ sizes_in n h t words
      unfolding sizes_in
      sizes-long l = rw (opens_by n h t words, sym e ∙ not-false r q, lt-leb words most_words l)

      module _ (few : words ≤ most_words) (c z : ℕ) (ec : c ≡ control_words h t) (ez : z ≡ block_words n) where
        pub sizes-short : words < c + z → None ≡ sizes_in n h t words
        unfolding sizes_in
        sizes-short l =
            rw (opens_by n h t words, sym e ∙ not-false r q, le-leb words most_words few, room-none n h t words (omega arith))

        module _ (l : c + z ≤ words) where
          good : Some (sizes_of n h t words) ≡ sizes_in n h t words
          unfolding sizes_in
          good = rw (opens_by n h t words, sym e ∙ not-false r q, le-leb words most_words few, le-leb 1 (room n h t words) (room-some n h t words (omega arith)))

          pub sizes-few : (words - c) / z < most_blocks → Some (record { n = n; h = h; t = t; b = (words - c) / z }) ≡ sizes_in n h t words
          unfolding room
          sizes-few f =
              ap (λ (b : ℕ). Some (record { n = n; h = h; t = t; b = b }))
              (sym (min-eq_right {n = (words - c) / z} {m = most_blocks} (omega arith)) ∙ ap₂ (λ (x y : ℕ). min most_blocks ((words - x) / y)) ec ez)
              ∙ good

          pub sizes_many : most_blocks ≤ (words - c) / z → Some (record { n = n; h = h; t = t; b = most_blocks }) ≡ sizes_in n h t words
          unfolding room
          sizes_many f =
              ap (λ (b : ℕ). Some (record { n = n; h = h; t = t; b = b }))
              (sym (min-eq_left {n = most_blocks} {m = (words - c) / z} f) ∙ ap₂ (λ (x y : ℕ). min most_blocks ((words - x) / y)) ec ez)
              ∙ good

pub ruleset sizing = (sizes_unlimited, sizes-cells, sizes-handles, sizes-tasks, sizes-long, sizes-short, sizes-few, sizes_many, block_positive)

-- ---- rows

pub slot-good : (d : Sizes) (w : List ℕ) (s : Status) → get_or w 1 0 < 3 → get_or w 2 0 < d.b → get_or w 3 0 ≤ d.n → get_or w 0 0 ≤ last_serial → s ≡ status_from (get_or w 1 0)
    → Ok (record { serial = get_or w 0 0; status = s; block = get_or w 2 0; number = get_or w 3 0 }) ≡ slot_row_of d w
unfolding slot_row_of slot_fits slot_read
slot-good d w s a b c f e = rw (e, lt-ltb _ _ a, lt-ltb _ _ b, le-leb _ _ c, le-leb _ _ f)

pub slot-got : (w : List ℕ) (s : Status) → s ≡ status_from (get_or w 1 0) → record { serial = get_or w 0 0; status = s; block = get_or w 2 0; number = get_or w 3 0 } ≡ slot_read w
unfolding slot_read
slot-got w s e = rw e

pub slot_written : (row : List ℕ) (x : Slot) (s : ℕ) → length row ≡ 4 → s ≡ status_code x.status
    → set (set (set (set row 0 x.serial) 1 s) 2 x.block) 3 x.number ≡ slot_words x
unfolding slot_words
slot_written row x s h e =
    sets-eq (x.serial ∷ s ∷ x.block ∷ x.number ∷ []) row 0 (omega arith)
    ∙ ap (λ (l : List ℕ). (x.serial ∷ s ∷ x.block ∷ x.number ∷ []) ++ l) (drop_of_length-le row {i = 4} (omega arith))
    ∙ ap (λ (y : ℕ). x.serial ∷ y ∷ x.block ∷ x.number ∷ []) e

pub task-got : (w : List ℕ) (g : Stage) (k : Task) → g ≡ stage_from (get_or w 0 0) → k ≡ task_with g w → k ≡ task_read w
unfolding task_read
task-got w g k e f = f ∙ ap (λ (x : Stage). task_with x w) e

module _ (d : Sizes) (w : List ℕ) where
  module _ (x : Bool) (e : x ≡ stands_in d (task_read w)) where
    pub stage_nowhere : not x ≡ true → Err damaged ≡ stage_seen (task_row_of d w)
    unfolding task_row_of task_fits
    stage_nowhere q = rw (← e, not-true x q, and-false (is_code (get_or w 0 0)))

    module _ (y : Bool) (f : y ≡ works_in d (task_read w)) where
      pub stage_idles : not x ≡ false → not y ≡ true → Err damaged ≡ stage_seen (task_row_of d w)
      unfolding task_row_of task_fits
      stage_idles q r = rw (← e, not-false x q, ← f, not-true y r, and-false (is_code (get_or w 0 0)))

      pub stage_is : (r : Result Stage Damaged) → not x ≡ false → not y ≡ false → r ≡ stage_coded (get_or w 0 0) → r ≡ stage_seen (task_row_of d w)
      unfolding task_row_of task_fits stage_coded
      stage_is r p q g = g ∙ by_test (is_code (get_or w 0 0)) (λ o. rw (o, ← e, not-false x p, ← f, not-false y q) read_stage) (λ o. rw o)
        where
          read_stage : ◌≡◌ {A = Result Stage Damaged} (Ok (stage_from (get_or w 0 0))) (Ok (task_read w).stage)
          read_stage = unfold task_read in refl

  module _ (x : Result Stage Damaged) (e : x ≡ stage_seen (task_row_of d w)) where
    pub task-bad : x ≡ Err damaged → Err damaged ≡ task_row_of d w
    task-bad f = at (task_row_of d w) (sym e ∙ f)
      where
        at : (y : Result Task Damaged) → stage_seen y ≡ Err damaged → Err damaged ≡ y
        at (Err _) q = refl
        at (Ok k) q = let z : ◌≡◌ {A = ℕ} 0 1 = cc in absurd (omega arith)

    pub task-good : (g : Stage) (k : Task) → x ≡ Ok g → k ≡ task_with g w → Ok k ≡ task_row_of d w
    unfolding task_row_of task_read
    task-good g k f h = by_test (is_code (get_or w 0 0) && task_fits d (task_read w)) (λ o. rw o (ap Ok (h ∙ ap (λ (y : Stage). task_with y w) (sym (same o))))) (λ o. absurd (out o))
      where
        same : is_code (get_or w 0 0) && task_fits d (task_read w) ≡ true → stage_from (get_or w 0 0) ≡ g
        same o = let q : Ok (stage_from (get_or w 0 0)) ≡ Ok g = (rw o at (sym e ∙ f)) in cc

        out : is_code (get_or w 0 0) && task_fits d (task_read w) ≡ false → ⊥
        out o = let q : (Err damaged) ≡ Ok g = (rw o at (sym e ∙ f)) in let z : ◌≡◌ {A = ℕ} 0 1 = cc in omega arith

-- ---- as a call sees them

module _ (w : List ℕ) where
  pub seen_slot-bad : 3 ≤ get_or w 1 0 → Err damaged ≡ slot_seen_of w
  unfolding slot_seen_of
  seen_slot-bad a = rw (le-ltb _ _ a)

  pub seen_slot-is : (x : Slot) → get_or w 1 0 < 3 → x ≡ slot_read w → Ok x ≡ slot_seen_of w
  unfolding slot_seen_of
  seen_slot-is x a e = rw (e, lt-ltb _ _ a)

  module _ (x : Result Stage Damaged) (e : x ≡ stage_coded (get_or w 0 0)) where
    pub seen_task-bad : x ≡ Err damaged → Err damaged ≡ task_seen_of w
    unfolding task_seen_of stage_coded
    seen_task-bad f = by_test (is_code (get_or w 0 0)) (λ o. let q : Ok (stage_from (get_or w 0 0)) ≡ (Err damaged) = (rw o at (sym e ∙ f)) in let z : ◌≡◌ {A = ℕ} 0 1 = cc in absurd (omega arith)) (λ o. rw o)

    pub seen_task-is : (g : Stage) (k : Task) → x ≡ Ok g → k ≡ task_with g w → Ok k ≡ task_seen_of w
    unfolding task_seen_of stage_coded task_read
    seen_task-is g k f h =
        by_test (is_code (get_or w 0 0))
        (λ o. let q : Ok (stage_from (get_or w 0 0)) ≡ Ok g = (rw o at (sym e ∙ f)) in
        let i : stage_from (get_or w 0 0) ≡ g = cc in rw o (ap Ok (h ∙ ap (λ (y : Stage). task_with y w) (sym i))))
        (λ o. let q : (Err damaged) ≡ Ok g = (rw o at (sym e ∙ f)) in let z : ◌≡◌ {A = ℕ} 0 1 = cc in absurd (omega arith))

pub slot-away : (p : List ℕ) (d : Sizes) (j : ℕ) → d.h ≤ j → Err damaged ≡ slot_seen p d j
unfolding slot_seen
slot-away p d j h = rw (le-ltb _ _ h)

pub slot-there : (p : List ℕ) (d : Sizes) (j s : ℕ) (r : Result Slot Damaged) → j < d.h → s ≡ slot_start j → r ≡ slot_seen_of (part p s (s + 4)) → r ≡ slot_seen p d j
unfolding slot_seen slot_part
slot-there p d j s r h e f = f ∙ rw (e, lt-ltb _ _ h)

pub code-bad : (c : ℕ) (x : Result Stage Damaged) → x ≡ stage_coded c → x ≡ Err damaged → false ≡ is_code c
unfolding stage_coded
code-bad c x e f =
    by_test (is_code c) (λ o. let q : Ok (stage_from c) ≡ (Err damaged) = (rw o at (sym e ∙ f)) in let z : ◌≡◌ {A = ℕ} 0 1 = cc in absurd (omega arith)) (λ o. sym o)

pub code-good : (c : ℕ) (x : Result Stage Damaged) (g : Stage) → x ≡ stage_coded c → x ≡ Ok g → true ≡ is_code c
unfolding stage_coded
code-good c x g e f =
    by_test (is_code c) (λ o. sym o) (λ o. let q : (Err damaged) ≡ Ok g = (rw o at (sym e ∙ f)) in let z : ◌≡◌ {A = ℕ} 0 1 = cc in absurd (omega arith))

pub ruleset seeing = (seen_slot-bad, seen_slot-is, seen_task-bad, seen_task-is, slot-away, slot-there, code-bad, code-good)

pub task_written : (row : List ℕ) (k : Task) (g b : ℕ) → length row ≡ 32 → g ≡ code_of k.stage → b ≡ bit_of k.hand.found
    → sets row 0 (g ∷ k.slot ∷ k.block ∷ k.number ∷ k.cell ∷ k.value ∷ k.until ∷ k.fresh ∷ k.target
    ∷ k.hand.cell ∷ k.hand.guess ∷ k.hand.lo ∷ k.hand.hi ∷ b ∷ k.hand.candidate ∷ k.hand.version ∷ k.steps ∷ []) ≡ task_words k ++ drop task_fields row
unfolding task_words
task_written row k g b h e f =
    sets-eq (words g b) row 0 (omega arith) ∙ ap (λ (y : ℕ × ℕ). words y.0 y.1 ++ drop 17 row) (λ i. (e i, f i))
  where
    words : ℕ → ℕ → List ℕ
    words x y =
        x ∷ k.slot ∷ k.block ∷ k.number ∷ k.cell ∷ k.value ∷ k.until ∷ k.fresh ∷ k.target
        ∷ k.hand.cell ∷ k.hand.guess ∷ k.hand.lo ∷ k.hand.hi ∷ y ∷ k.hand.candidate ∷ k.hand.version ∷ k.steps ∷ []

pub ruleset rowing = (slot-good, slot-got, slot_written, task-got, task_written)

pub ruleset tasking = (stage_nowhere, stage_idles, stage_is, task-bad, task-good)

-- ---- the header

pub header-short : (p : List ℕ) → length p < 16 → None ≡ header_of p
unfolding header_of
header-short p h = rw (lt-leb 16 (length p) h)

module _ (p : List ℕ) (l : 16 ≤ length p) where
  pub header-mark : (get_or p 0 0 ≡ mark → ⊥) → None ≡ header_of p
  unfolding header_of
  header-mark a = rw (le-leb 16 (length p) l, ne_eqb (get_or p 0 0) mark a)

  module _ (a : get_or p 0 0 ≡ mark) where
    pub header-form : (get_or p 5 0 ≡ form → ⊥) → None ≡ header_of p
    unfolding header_of
    header-form b = rw (le-leb 16 (length p) l, eq-eqb (get_or p 0 0) mark a, ne_eqb (get_or p 5 0) form b)

    module _ (b : get_or p 5 0 ≡ form) (x : ℕ) (e : x ≡ get_or p 4 0) where
      pub header-length : (x ≡ length p → ⊥) → None ≡ header_of p
      unfolding header_of
      header-length c = rw (le-leb 16 (length p) l, eq-eqb (get_or p 0 0) mark a, eq-eqb (get_or p 5 0) form b, ← e, ne_eqb x (length p) c)

      pub header_says : (r : Option Sizes) → x ≡ length p → r ≡ sizes_in (get_or p 1 0) (get_or p 2 0) (get_or p 3 0) (length p) → r ≡ header_of p
      unfolding header_of
      header_says r c f = f ∙ rw (le-leb 16 (length p) l, eq-eqb (get_or p 0 0) mark a, eq-eqb (get_or p 5 0) form b, ← e, eq-eqb x (length p) c)

pub ruleset headers = (header-short, header-mark, header-form, header-length, header_says)

pub header-headed : (part : List ℕ) (n h t words : ℕ) → 16 ≤ length part
    → sets part 0 (mark ∷ n ∷ h ∷ t ∷ words ∷ form ∷ []) ≡ headed n h t words ++ drop header_fields part
unfolding headed
header-headed part n h t words l = sets-eq (mark ∷ n ∷ h ∷ t ∷ words ∷ form ∷ []) part 0 (omega arith)
