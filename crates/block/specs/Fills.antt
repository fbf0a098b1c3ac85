-- A block being filled: each filling write brings it one cell further, and a block filled throughout is sound with empty logs, whatever lay
-- there before. Rests on Writes.
use Rattle.std.specs.Prelude.{ℕ, ◌+◌, ◌*◌, ◌≤◌, ◌<◌, ◌≡◌, List, [], set, eqb}
use Rattle.std.proofs.Common.{sym, ap, ◌∙◌, arith, get_or-set_same, get_or-set_other, eqb-true}
use Rattle.std.proofs.lemmas.Bool.{eqb-false}
use Rattle.rulebook.specs.State.{log_at}
use Rattle.rulebook.specs.Tests.{by_test}
use Rattle.block.specs.Layout.{cell_ix, length_ix, length_of, bump_of, space_of, Sized}
use Rattle.block.specs.Words.{fill_in}
use Rattle.block.specs.Sound.{view_of, block_of, Laid, Filling}
use Rattle.block.specs.Sums.{sum-none}
use Rattle.block.specs.Chunks.{space-most}
use Rattle.block.specs.Stores.{lengths-left, head-low, cell-low, cell_not_head, length_not_low, length-apart, length_in_lem}
use Rattle.block.specs.Reads.{log_at_lem, log-none}
use Rattle.block.specs.Writes.{set-sized, fill_is}

module _ {c n : ℕ} {w : List ℕ} (F : Filling c n w) (i v : ℕ) (h : i < n) where
  abbrev cell_written : List ℕ
  cell_written = set w (cell_ix n i) v

  cell-sized : Sized n cell_written
  cell-sized = set-sized (cell_ix n i) v F.sized

  fill-own : length_of n (set cell_written (length_ix n i) 0) i ≡ 0
  fill-own = get_or-set_same cell_written (length_ix n i) 0 0 (length_in_lem cell-sized i h)

  fill-other : (k : ℕ) → (k ≡ i → ⊥) → length_of n (set cell_written (length_ix n i) 0) k ≡ length_of n w k
  fill-other k d =
      get_or-set_other cell_written (length_ix n i) (length_ix n k) 0 0 (length-apart n i k d)
      ∙ ap (λ (f : ℕ → ℕ). f k) (lengths-left n w (cell_ix n i) v (cell-low n i h))

  fill-bump : bump_of (set cell_written (length_ix n i) 0) ≡ 0
  fill-bump =
      get_or-set_other cell_written (length_ix n i) 1 0 0 (length_not_low n i 1 (head-low n 1 (omega arith)))
      ∙ get_or-set_other w (cell_ix n i) 1 v 0 (cell_not_head n i 1 (omega arith)) ∙ F.bump

  -- the cells below d are filled now, where all but cell i were
  fill-to : (d : ℕ) → ((k : ℕ) → k < d → (k ≡ i → ⊥) → k < c) → Filling d n (fill_in n w i v).0
  fill-to d most =
      rw (fill_is F.sized i v h) (record {
        sized = set-sized (length_ix n i) 0 cell-sized;
        bump = fill-bump;
        empty = λ k l g.
            by_test (eqb k i)
            (λ q. ap (length_of n (set cell_written (length_ix n i) 0)) (eqb-true k i q) ∙ fill-own)
            (λ q. fill-other k (eqb-false k i q) ∙ F.empty k (most k l (eqb-false k i q)) g);
      })

  -- a filling write of any cell keeps what is filled
  pub fill-keeps : Filling c n (fill_in n w i v).0
  fill-keeps = fill-to c (λ k l _. l)

  -- and that of the next cell adds it
  pub fill_next : i ≡ c → Filling (c + 1) n (fill_in n w i v).0
  fill_next e = fill-to (c + 1) (λ k l d. omega arith)

module _ {n : ℕ} {w : List ℕ} (F : Filling n n w) where
  no-space : (i j : ℕ) → i < n → j < space_of (length_of n w i) → ⊥
  no-space i j h l =
      let e = F.empty i h h in
      let s : space_of (length_of n w i) ≡ space_of 0 = ap space_of e in
      let z : space_of 0 ≤ 0 = space-most 0 (omega arith) in
      omega arith

  pub filled-laid : Laid n w
  filled-laid = record {
    sized = F.sized;
    sound = record {
      short = λ i h. let e = F.empty i h h in omega arith;
      below = λ i j h l. absurd (no-space i j h l);
      once = λ i j k t h g l. absurd (no-space i j h l);
      tally =
          F.bump ∙ sym (sum-none n (λ (i : ℕ). space_of (length_of n w i))
          (λ i h. let z : space_of (length_of n w i) ≤ 2 * length_of n w i = space-most (length_of n w i) (let e = F.empty i h h in omega arith) in let e = F.empty i h h in omega arith));
      fits = let b = F.bump in omega arith;
    };
  }

  pub filled-logs : (i : ℕ) → i < n → log_at (block_of n w) i ≡ []
  filled-logs i h = log_at_lem n w i h ∙ log-none (view_of n w) i (F.empty i h h)
