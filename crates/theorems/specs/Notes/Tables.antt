-- The tables of the new handles: what a set or a new has made is the functional array's.
-- Rests on the invariant.
use Rattle.std.specs.Prelude.{◌+◌, ◌<◌, ℕ, List, ◌≡◌, refl, eqb, length, if◌then◌else◌}
use Rattle.std.proofs.Common.{◌∙◌, sym, arith, get_or-set_other, get_or-set_same, eqb-true}
use Rattle.std.proofs.Math.Path.{ap}
use Rattle.std.proofs.lemmas.Bool.{eqb-false}
use Rattle.rulebook.specs.declared.Entry.{Entry}
use Rattle.rulebook.specs.declared.Stage.TheVariants.{FillNew, Put, Write}
use Rattle.rulebook.specs.State.{Block, State, block_at, log_at, slot_at, task_at, with_cell, with_slot, with_task}
use Rattle.rulebook.specs.Steps.{counted, filled, finished, here_of, step_at}
use Rattle.rulebook.specs.Tests.{by_test}
use Rattle.theorems.specs.Invariant.Blocks.{holds-put, holds-write}
use Rattle.theorems.specs.Invariant.Moves.{InvS}
use Rattle.theorems.specs.Invariant.Readings.{my_ok, my_stands, same_block, wide_at}
use Rattle.theorems.specs.Invariant.Shape.{Shape}
use Rattle.theorems.specs.Invariant.Tasks.{Holds, OkAt, Stands}
use Rattle.theorems.specs.Reading.Search.{Below, value_none}
use Rattle.theorems.specs.Terms.{value_at, value_in}

-- a log that is below n says nothing to a handle of number n
below_more : (l : List Entry) (n : ℕ) → Below l n → Below l (n + 1)
below_more l n h j q = omega (arith, h j q)

-- a cell written after its entry was appended, as the new handle sees it
seen : (b : Block) (n i v j : ℕ) → i < length b.cells → Below (log_at b i) (n + 1) → ((j : ℕ) → (j ≡ i → ⊥) → Below (log_at b j) n) → value_at (with_cell b i v) (n + 1) j ≡ (if eqb j i then v else value_at b n j)
unfolding value_at with_cell
seen b n i v j inside low lower =
    by_test (eqb j i)
    (λ e. rw e (rw (eqb-true j i e, get_or-set_same b.cells i v 0 inside) (value_none (log_at b i) (n + 1) v low)))
    (λ e. rw e (
    let d = lower j (eqb-false j i e) in
    value_none (log_at b j) (n + 1) _ (below_more (log_at b j) n d) ∙ get_or-set_other b.cells i j v 0 (eqb-false j i e) ∙ sym (value_none (log_at b j) n _ d)))

-- a filled block, as a handle of number 0 sees it
held-value : (b : Block) (c : ℕ) (f : ℕ → ℕ) (j : ℕ) → j < c → Holds b c f → value_at b 0 j ≡ f j
unfolding value_at value_in
held-value b c f j q h = rw (h j q).0 (h j q).1

module _ (s : State) (sh : Shape s) (iv : InvS s) (t : ℕ) (in_t : t < s.sizes.t) where
  -- what the handle of a set is to see
  abbrev pub Changed : ℕ → ℕ
  Changed j = if eqb j (task_at s t).cell then (task_at s t).value else value_at (here_of s (task_at s t)) (task_at s t).number j

  -- a set in place
  pub write-table : (task_at s t).stage ≡ Write → (j : ℕ)
      → value_at (block_at (step_at Write s t (counted (task_at s t))).0 (task_at s t).block) ((task_at s t).number + 1) j ≡ Changed j
  unfolding step_at finished counted with_task with_slot
  write-table e j = ap (λ (x : Block). value_at x ((task_at s t).number + 1) j) (same_block s sh iv t in_t (task_at s t).block _ st.in_b) ∙ there
    where
      h : OkAt s.sizes.n s.sizes.h s.sizes.b Write (slot_at s) (block_at s) (task_at s t)
      h = my_ok s sh iv t in_t Write e

      st : Stands s.sizes.n s.sizes.b (block_at s) (task_at s t).block (task_at s t).number
      st = my_stands s sh iv t in_t h.0

      here : Block
      here = here_of s (task_at s t)

      there : value_at (with_cell here (task_at s t).cell (task_at s t).value) ((task_at s t).number + 1) j ≡ Changed j
      there = seen here (task_at s t).number (task_at s t).cell (task_at s t).value j (omega (arith, h.2, (wide_at s sh iv t in_t (task_at s t).block st.in_b).wide_cells)) (rw h.3.raised at (st.below (task_at s t).cell)) h.5

  -- a set that copies
  pub put-table : (task_at s t).stage ≡ Put → (j : ℕ) → j < s.sizes.n
      → value_at (block_at (step_at Put s t (counted (task_at s t))).0 (task_at s t).target) 0 j ≡ Changed j
  unfolding step_at filled finished counted with_task with_slot
  put-table e j q =
      let h = my_ok s sh iv t in_t Put e in
      ap (λ (x : Block). value_at x 0 j) (same_block s sh iv t in_t (task_at s t).target _ h.3.in_b) ∙
      held-value _ s.sizes.n Changed j q (holds-put s.sizes.n (task_at s t).cell (task_at s t).value (value_at (here_of s (task_at s t)) (task_at s t).number) _ (wide_at s sh iv t in_t _ h.3.in_b) h.2 h.4)

  -- a new
  pub fill-table : (task_at s t).stage ≡ FillNew → (task_at s t).hand.cell + 1 ≡ s.sizes.n → (j : ℕ) → j < s.sizes.n
      → value_at (block_at (filled s (counted (task_at s t)) (task_at s t).hand.cell (task_at s t).value) (task_at s t).target) 0 j ≡ (task_at s t).value
  unfolding filled counted
  fill-table e last j q =
      let h = my_ok s sh iv t in_t FillNew e in
      ap (λ (x : Block). value_at x 0 j) (same_block s sh iv t in_t (task_at s t).target _ h.1.in_b) ∙
      held-value _ ((task_at s t).hand.cell + 1) (λ _. (task_at s t).value) j (omega (arith, last)) (holds-write s.sizes.n (task_at s t).hand.cell (task_at s t).value (λ _. (task_at s t).value) _ (wide_at s sh iv t in_t _ h.1.in_b) h.3 h.2 refl)
