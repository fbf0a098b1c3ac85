-- What a set in place and a task that fills have done: what the words of a block's logs give.
-- Rests on LogsDone, Reads and Ways.
use Rattle.std.specs.Prelude.{◌<◌, suc, zero, ℕ, Bool, ◌&&◌, ◌||◌, false, true, List, ◌≡◌, refl, length}
use Rattle.std.proofs.Math.Bool.{not}
use Rattle.std.proofs.Common.{◌∙◌}
use Rattle.std.proofs.Math.Path.{ap, sym}
use Rattle.std.proofs.Math.Dec.{eqb, ltb}
use borrow.Author.Tests.{le-leb, lt-leb, lt-ltb, ltb-false, ltb-true}
use Rattle.rulebook.specs.declared.Sizes.{Sizes}
use Rattle.rulebook.specs.declared.Task.{Task}
use Rattle.block.specs.Layout.{length_of}
use Rattle.block.specs.Reads.{log-length_at}
use Rattle.layout.specs.Places.{block_part}
use Rattle.layout.specs.Pool.{view_of}
use Rattle.layout.specs.View.{view_block_at, view_block-logs}
use Rattle.rulebook.specs.State.{Block, block_at, log_at}
use Rattle.theorems.specs.Terms.{all_to, version_at}
use Rattle.survey.specs.Holds.{all_below, every_entry, to_write}
use Rattle.survey.specs.Decide.{◌implies◌, some_to}
use Rattle.survey.specs.Rules.{shown}
use Rattle.survey.proofs.Ways.{version-here}
use Rattle.audit.specs.Gets.{log_in, older_in}
use Rattle.rulebook.specs.Tests.{by_test}
use Rattle.audit.specs.LogsDone.{cell_below, cell_from, entry_from, other_below}

module _ (d : Sizes) (p : List ℕ) (k : ℕ) where
  -- a log's length is the word of its cell
  pub log_long : k < d.b → (i : ℕ) → i < d.n → length (log_in d p k i) ≡ length_of d.n (block_part p d k) i
  unfolding log_in
  log_long b i l = ap (λ (x : Block). length (log_at x i)) (view_block_at d p k b) ∙ log-length_at d.n (block_part p d k) i l

-- ---- every log

all_same : (f g : ℕ → Bool) → ((i : ℕ) → f i ≡ g i) → (n : ℕ) → all_to f n ≡ all_to g n
unfolding all_to
all_same f g h zero = refl
all_same f g h (suc n) = rw (all_same f g h n, h n)

all_true : (n : ℕ) → all_to (λ (q : ℕ). true) n ≡ true
unfolding all_to
all_true zero = refl
all_true (suc n) = rw (all_true n)

-- some entry passes where not every one fails
some-fails : (f g : ℕ → Bool) → ((i : ℕ) → g i ≡ not (f i)) → (n : ℕ) → some_to g n ≡ not (all_to f n)
unfolding some_to all_to
some-fails f g h zero = refl
some-fails f g h (suc n) = rw (some-fails f g h n, h n) (sym (not-both (all_to f n) (f n)))
  where
    not-both : (a b : Bool) → not (a && b) ≡ (not a || not b)
    not-both true b = refl
    not-both false b = refl

-- what every entry is asked only where b is, is asked where b is
all-only : (b : Bool) (f : ℕ → Bool) (n : ℕ) → all_to (λ (q : ℕ). b implies f q) n ≡ (b implies all_to f n)
all-only true f n = refl
all-only false f n = all_true n

module _ (d : Sizes) (p : List ℕ) (k : ℕ) where
  newer-from : (v i q : ℕ) → entry_from d p k v i q ≡ not (older_in d p k i v q)
  unfolding older_in entry_from
  newer-from v i q =
      by_test (ltb (version_at (log_in d p k i) q) v)
      (λ e. rw (e, lt-leb v _ (ltb-true _ v e)))
      (λ e. rw (e, le-leb v _ (ltb-false _ v e)))

  pub from-below : (v i : ℕ) → cell_from d p k v i ≡ not (cell_below d p k v i)
  unfolding cell_from cell_below
  from-below v i = some-fails (older_in d p k i v) (entry_from d p k v i) (newer-from v i) (length (log_in d p k i))

module _ (d : Sizes) (p : List ℕ) (k : ℕ) (b : k < d.b) where
  pub below_all : (v : ℕ) → all_below (block_at (shown d p) k) v ≡ all_to (cell_below d p k v) d.n
  unfolding all_below cell_below older_in log_in
  below_all v = ap (all_to (cell_below d p k v)) (view_block-logs d p k b)

  pub others-all : (c v : ℕ) → every_entry (block_at (shown d p) k) (λ (i q : ℕ). not (eqb i c) implies ltb (version_at (log_at (block_at (shown d p) k) i) q) v) ≡ all_to (other_below d p k c v) d.n
  unfolding other_below cell_below older_in log_in
  others-all c v =
      all_same (λ (i : ℕ). all_to (λ (q : ℕ). not (eqb i c) implies ltb (version_at (log_in d p k i) q) v) (length (log_in d p k i))) (other_below d p k c v)
      (λ i. all-only (not (eqb i c)) (older_in d p k i v) (length (log_in d p k i))) (length (block_at (shown d p) k).logs)
      ∙ ap (all_to (other_below d p k c v)) (view_block-logs d p k b)

-- ---- what a task has done

module _ (d : Sizes) (p : List ℕ) where
  pub cells-of : (shown d p).sizes.n ≡ d.n
  unfolding view_of
  cells-of = refl

  pub target-low : (k : Task) → k.target < d.b → ltb k.target (shown d p).sizes.b ≡ true
  unfolding view_of
  target-low k = lt-ltb k.target d.b

  pub write-is : (k : Task) → k.block < d.b → to_write (shown d p) k ≡ (ltb k.number d.n && (all_to (other_below d p k.block k.cell k.number) d.n && not (cell_below d p k.block k.number k.cell)))
  unfolding to_write cell_from entry_from log_in
  write-is k b = rw (others-all d p k.block b k.cell k.number, from-below d p k.block k.number k.cell, cells-of)

pub ruleset dones = (cells-of, target-low, version-here, below_all, write-is)
