-- Rule 7's task rows: what an idle task is, which rows can be read, and what keeps the sums of steps in 32 bits.
-- Rests on Paces, DecideTasks and the rules' bounds on steps.
use Rattle.std.specs.Prelude.{◌*◌, ◌+◌, ◌-◌, ◌/◌, ◌<◌, ◌^◌, ◌≤◌, suc, zero, ℕ, Bool, false, true, List, eqb, get_or, Err, Ok, Result, IsTrue, ◌↔◌}
use Rattle.std.proofs.Common.{true≢false, ◌∙◌, ap, subst, sym, pow-suc, pow_pos}
use Rattle.std.proofs.Math.Path.{◌≡◌, refl}
use native.Mathlib.Omega.{arith}
use Rattle.std.proofs.lemmas.Nat.{leading_length}
use Rattle.std.specs.Int.Count.{count_leading_zeros}
use borrow.Author.Tests.{le-leb, lt-ltb}
use Rattle.rulebook.specs.declared.Sizes.{Sizes}
use Rattle.rulebook.specs.declared.Stage.{Stage}
use Rattle.rulebook.specs.declared.Task.{Task}
use Rattle.rulebook.specs.Codes.{code_of, is_code}
use Rattle.layout.specs.Places.{Spans, task_part}
use Rattle.layout.specs.Pool.{task_in}
use Rattle.layout.specs.Ranges.{task-ranged, task_row}
use Rattle.layout.specs.Rows.{Ranged, most_steps, stands_in, task_fits, task_read, task_row_of, works_in}
use Rattle.layout.specs.View.{view_task_at}
use Rattle.rulebook.specs.Sizes.{most_cells}
use Rattle.rulebook.specs.State.{idle}
use Rattle.rulebook.specs.Tests.{by_test}
use Rattle.survey.proofs.Deciding.{same}
use Rattle.rules.specs.Paced.{Pace, TaskRange, digits-few, product-few, steps-few}
use Rattle.theorems.specs.Prices.Digits.{digits_half}
use Rattle.theorems.specs.Terms.{digits, digits_in}
use Rattle.survey.specs.Broken.{task_sound}
use Rattle.survey.specs.Holds.{pace_holds, range_holds}
use Rattle.survey.proofs.DecideTasks.{range_decides}
use Rattle.survey.specs.Rules.{task}
use Rattle.rulebook.specs.declared.Stage.TheVariants as stage
use Rattle.rulebook.specs.Codes.{damaged}
use Rattle.rulebook.specs.declared.Damaged.{Damaged}
use Rattle.audit.specs.Paces.{pace_at}

-- ---- binary digits

-- n has k digits where k is the least length that holds it
digits_width : (k n : ℕ) → n < 2 ^ k → 2 ^ k ≤ 2 * n + 1 → digits n ≡ k
digits_width zero n h l = let z : n ≡ 0 = omega arith in rw z (unfold digits digits_in in refl)
digits_width (suc k) n h l =
    let p : 2 ^ suc k ≡ 2 ^ k * 2 = pow-suc 2 k in
    let o = pow_pos k in
    digits_half n (omega arith) ∙ ap suc (digits_width k (n / 2) (omega arith) (omega arith))

pub digits_as : (m : ℕ) → m < 4294967296 → 32 - count_leading_zeros 32 m ≡ digits m
digits_as m h =
    let s = leading_length 32 m (omega arith) in
    let e : 32 - count_leading_zeros 32 m ≡ s.0 = omega (arith, s.1) in
    e ∙ sym (digits_width s.0 m s.2 s.3)

-- ---- the most steps

module _ (n : ℕ) (few : n ≤ most_cells) (g : ℕ) where
  module _ (e : g ≡ digits n) where
    digits-fewer : g ≤ 13
    digits-fewer = omega (arith, digits-few n few)

    pub most-get : 3 + g ≤ 16
    most-get = let z = digits-fewer in omega arith

    module _ (c : ℕ) (l : c ≤ n) where
      product : c * (4 + g) ≤ 69632
      product = let z = digits-fewer in product-few c (4 + g) (omega arith) (omega arith)

      pub most-copy : 2 + c * (4 + g) ≤ 69634
      most-copy = let z = product in omega arith

  pub page-fits : (a b : ℕ) → b < n → g ≤ 16 → (b - a + 1) * g < 4294967296
  page-fits a b l s = let z = product-few (b - a + 1) g (omega arith) (omega arith) in omega arith

pub ruleset mosts = (most-get, most-copy, page-fits)

-- of a task in its ranges only the pace is left to ask
pace-left : (d : Sizes) (k : Task) → Ranged d k → pace_holds d.n k.stage k ≡ range_holds d k
unfolding range_holds
pace-left d k r =
    rw (
      lt-ltb k.slot d.h r.slot,
      lt-ltb k.block d.b r.block,
      le-leb k.number d.n r.number,
      lt-ltb k.cell d.n r.cell,
      le-leb k.until d.n r.until,
      lt-ltb k.fresh d.h r.fresh,
      lt-ltb k.target d.b r.target,
      lt-ltb k.hand.cell d.n r.hand,
    )

-- that of an idle task is that it is `idle`
pub idle-is : (d : Sizes) (k x : Task) → Ranged d k → k.stage ≡ stage.Idle → x ≡ idle → (r : Bool) → (IsTrue r ↔ (k ≡ x)) → r ≡ pace_at d.n k.stage k
unfolding pace_at
idle-is d k x s e z r h =
    same r (range_holds d k) (record {
      yes = λ t. record {
        slot_below = s.slot;
        block_below = s.block;
        number_within = s.number;
        cell_below = s.cell;
        until_within = s.until;
        fresh_below = s.fresh;
        target_below = s.target;
        hand_below = s.hand;
        pace = subst (λ (g : Stage). Pace d.n g k) (sym e) (h.0 t ∙ z);
      };
      no = λ t f. true≢false (sym (h.1 (subst (λ (g : Stage). Pace d.n g k) e f.pace ∙ sym z)) ∙ t);
    }) (range_decides d k)
    ∙ sym (pace-left d k s)

-- ---- a row

-- a row that was read has a stage's code; a row with one, in its ranges, is read
row-code : (d : Sizes) (k : Task) (w : List ℕ) → task_row_of d w ≡ Ok k → is_code (get_or w 0 0) ≡ true
unfolding task_row_of
row-code d k w e =
    by_test (is_code (get_or w 0 0))
    (λ o. o)
    (λ o. let q : (Err damaged) ≡ Ok k = rw o at e in let z : ◌≡◌ {A = ℕ} 0 1 = cc in absurd (omega arith))

row_reads : (d : Sizes) (w : List ℕ) → is_code (get_or w 0 0) ≡ true → task_fits d (task_read w) ≡ true → task_row_of d w ≡ Ok (task_read w)
unfolding task_row_of
row_reads d w a b = rw (a, b)

code_test : (w : List ℕ) → eqb (code_of (task_read w).stage) (get_or w 0 0) ≡ is_code (get_or w 0 0)
unfolding task_read is_code
code_test w = refl

-- a task in its ranges and at its pace fits its row
range-fits : (d : Sizes) (k : Task) → d.n ≤ most_cells → TaskRange d k → task_fits d k ≡ true
unfolding task_fits stands_in works_in
range-fits d k m r =
    rw (
      lt-ltb k.slot d.h r.slot_below,
      lt-ltb k.block d.b r.block_below,
      le-leb k.number d.n r.number_within,
      lt-ltb k.cell d.n r.cell_below,
      le-leb k.until d.n r.until_within,
      lt-ltb k.fresh d.h r.fresh_below,
      lt-ltb k.target d.b r.target_below,
      lt-ltb k.hand.cell d.n r.hand_below,
      lt-ltb k.steps most_steps (steps-few d.n k.stage k m r.hand_below r.pace),
    )

module _ (d : Sizes) (p : List ℕ) (t : ℕ) (y : Result Task Damaged) (e : y ≡ task_in p d t) where
  module _ (k : Task) (f : y ≡ Ok k) where
    row : (task_read (task_part p d t) ≡ k) × (task_fits d k ≡ true)
    unfolding task_in
    row = task_row d k (task_part p d t) (sym (sym f ∙ e))

    pub row-ranged : Ranged d k
    row-ranged = task-ranged d k row.1

    pub row-sound : (r : Bool) → t < d.t → r ≡ pace_at d.n k.stage k → r ≡ task_sound d p t
    unfolding task_sound pace_at task_in
    row-sound r l g =
        g ∙ pace-left d k (task-ranged d k row.1)
        ∙ rw (code_test (task_part p d t), row-code d k (task_part p d t) (sym (sym f ∙ e)), view_task_at d p t l, row.0)

  pub row-bad : Spans d p → t < d.t → y ≡ Err damaged → false ≡ task_sound d p t
  unfolding task_sound task_in
  row-bad sp l f =
      by_test (eqb (code_of (task_read (task_part p d t)).stage) (get_or (task_part p d t) 0 0))
      (λ a. by_test (range_holds d (task d p t)) (λ b. absurd (bad-row (sym f ∙ e ∙ reads a b))) (λ b. rw (a, b)))
      (λ a. rw a)
    where
      bad-row : {x : Task} → Err damaged ≡ Ok x → ⊥
      bad-row q = let z : ◌≡◌ {A = ℕ} 0 1 = cc in omega arith

      reads : eqb (code_of (task_read (task_part p d t)).stage) (get_or (task_part p d t) 0 0) ≡ true → range_holds d (task d p t) ≡ true → task_row_of d (task_part p d t) ≡ Ok (task_read (task_part p d t))
      reads a b =
          row_reads d (task_part p d t) (sym (code_test (task_part p d t)) ∙ a)
          (range-fits d (task_read (task_part p d t)) sp.cells (subst (TaskRange d) (view_task_at d p t l) ((range_decides d (task d p t)).yes b)))

pub ruleset rows = (row-sound, row-bad)
