-- A loop that looks for a row that fails, and that a row or a block's version as it lies is the state's.
use Rattle.std.specs.Prelude.{◌+◌, ◌<◌, ◌≤◌, ℕ, Bool, false, not, true, List, ◌≡◌}
use Rattle.std.proofs.lemmas.Bool.{false≢true}
use Rattle.std.proofs.Common.{◌∙◌, ap, sym, add-one, arith}
use Rattle.std.proofs.Math.Path.{refl}
use borrow.Author.Tests.{not-false, not-true}
use Rattle.rulebook.specs.declared.Sizes.{Sizes}
use Rattle.rulebook.specs.declared.Slot.{Slot}
use Rattle.rulebook.specs.declared.Task.{Task}
use Rattle.block.specs.Layout.{version_of}
use Rattle.block.specs.Reads.{version_at_lem}
use Rattle.layout.specs.Places.{block_part, slot_part, task_part}
use Rattle.layout.specs.Rows.{slot_read, task_read}
use Rattle.layout.specs.View.{view_block_at, view_slot_at, view_task_at}
use Rattle.rulebook.specs.State.{Block, block_at}
use Rattle.rulebook.specs.Tests.{by_test}
use Rattle.theorems.specs.Terms.{all_to}
use Rattle.survey.proofs.Deciding.{all-at}
use Rattle.survey.proofs.Decided.{slot-beyond}
use Rattle.survey.proofs.Finding.{some_end, some-on, some-start, some-stop}
use Rattle.survey.specs.Rules.{shown, slot, task}
use Rattle.rulebook.specs.declared.Status.TheVariants as status

-- ---- every row

module _ (f : ℕ → Bool) where
  pub all_start : all_to f 0 ≡ true
  unfolding all_to
  all_start = refl

  module _ (j : ℕ) (x : Bool) (e : x ≡ f j) where
    pub all-on : all_to f j ≡ true → not x ≡ false → all_to f (j + 1) ≡ true
    all-on so g = ap (all_to f) (add-one j) ∙ (unfold all_to in (rw (so, ← e, not-false x g)))

    pub all-stop : (m : ℕ) → j < m → not x ≡ true → false ≡ all_to f m
    all-stop m l g = sym (by_test (all_to f m) (λ q. absurd (false≢true (sym (not-true x g) ∙ e ∙ all-at f m q j l))) (λ q. q))

  pub all_end : (j m : ℕ) → all_to f j ≡ true → j ≤ m → m ≤ j → true ≡ all_to f m
  all_end j m so l n = let e : j ≡ m = omega arith in sym so ∙ ap (all_to f) e

pub ruleset loops = (all_start, all-on, all-stop, all_end, some-start, some-on, some-stop, some_end)

-- ---- a row as it lies is the state's

module _ (d : Sizes) (p : List ℕ) where
  pub slot_as : (j : ℕ) (x : Slot) → x ≡ slot_read (slot_part p j) → j < d.h → slot d p j ≡ x
  slot_as j x e l = view_slot_at d p j l ∙ sym e

  pub task_as : (t : ℕ) (k : Task) → k ≡ task_read (task_part p d t) → t < d.t → task d p t ≡ k
  task_as t k e l = view_task_at d p t l ∙ sym e

  pub version-here : (k : ℕ) → k < d.b → (v : ℕ) → v ≡ version_of (block_part p d k) → (block_at (shown d p) k).version ≡ v
  version-here k l v e = ap (λ (b : Block). b.version) (view_block_at d p k l) ∙ version_at_lem d.n (block_part p d k) ∙ sym e

  -- a slot beyond the last is free
  pub beyond : (j : ℕ) → d.h ≤ j → (slot d p j).status ≡ status.Free
  beyond j l = ap (λ (x : Slot). x.status) (slot-beyond d p j l)

pub ruleset versions = (version-here)
