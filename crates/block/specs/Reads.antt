-- What the reading functions answer on a sound block: the machine's V, cell, log's length and entry.
-- Rests on Sound, Words and Ways.
use Rattle.std.specs.Prelude.{ℕ, ◌<◌, ◌≡◌, get_or, Ok}
use Rattle.std.proofs.Math.Path.{refl, sym}
use Rattle.std.proofs.Common.{ap, ◌∙◌, arith}
use mathlib.Core.List.{List, []}
use Rattle.std.proofs.Math.ListN.{length}
use borrow.Author.Tests.{lt-ltb, le-leb}
use Rattle.rulebook.specs.State.{no_entry, cell_at, log_at, entry_at, list_to}
use Rattle.rulebook.specs.Lists.{list_to-length, list_to-get}
use Rattle.rulebook.specs.declared.Entry.{Entry}
use Rattle.block.specs.Layout.{arena, version_of, cell_of, length_of, place_of, entry_of, Sized}
use Rattle.block.specs.Words.{version_in, cell_in, length_in, entry_under, entry_in}
use Rattle.block.specs.Sound.{View, view_of, log_of, block_of, sum_to, entries_in, Laid}
use Rattle.block.specs.Sums.{sum_same}
use Rattle.block.specs.Ways.{sized-block, block-cell}
use Rattle.block.specs.Chunks.{space_least}

-- ---- the machine's block

module _ (n : ℕ) (w : List ℕ) where
  pub version_at_lem : (block_of n w).version ≡ version_of w
  unfolding block_of
  version_at_lem = refl

  module _ (i : ℕ) (h : i < n) where
    pub cell_at_lem : cell_at (block_of n w) i ≡ cell_of n w i
    unfolding block_of
    cell_at_lem = list_to-get n (cell_of n w) i 0 h

    pub log_at_lem : log_at (block_of n w) i ≡ log_of (view_of n w) i
    unfolding block_of
    log_at_lem = list_to-get n (log_of (view_of n w)) i [] h

    pub log-length_at : length (log_at (block_of n w) i) ≡ length_of n w i
    log-length_at = ap length log_at_lem ∙ list_to-length (length_of n w i) (λ (j : ℕ). entry_of n w (place_of n w i j))

    pub entry_at_lem : (j : ℕ) → j < length_of n w i → entry_at (log_at (block_of n w) i) j ≡ entry_of n w (place_of n w i j)
    entry_at_lem j l =
        ap (λ (x : List Entry). get_or x j no_entry) log_at_lem ∙ list_to-get (length_of n w i) (λ (k : ℕ). entry_of n w (place_of n w i k)) j no_entry l

  pub entries_are : entries_in n (block_of n w) ≡ sum_to n (length_of n w)
  unfolding entries_in
  entries_are = sum_same n (λ (i : ℕ). length (log_at (block_of n w) i)) (length_of n w) log-length_at

-- a log of length 0 is empty
pub log-none : (v : View) (i : ℕ) → v.len i ≡ 0 → log_of v i ≡ []
unfolding list_to
log-none v i e = ap (λ (m : ℕ). list_to m (λ (j : ℕ). v.entry (v.place i j))) e

-- ---- the answers

under : (n : ℕ) (w : List ℕ) (i m j : ℕ) → j < m → place_of n w i j < arena n → entry_under (Ok m) n w i j ≡ Ok (entry_of n w (place_of n w i j))
unfolding entry_under
under n w i m j l p = simp (lt-ltb _ _ l, lt-ltb _ _ p)

module _ {n : ℕ} {w : List ℕ} where
  pub version-reads : Sized n w → version_in n w ≡ Ok (block_of n w).version
  unfolding version_in
  version-reads s = simp (sized-block n w s, version_at_lem n w)

  module _ (i : ℕ) (h : i < n) where
    pub cell-reads : Sized n w → cell_in n w i ≡ Ok (cell_at (block_of n w) i)
    unfolding cell_in
    cell-reads s = simp (block-cell n w i s h) (sym (ap Ok (cell_at_lem n w i h)))

    pub length-reads : Laid n w → length_in n w i ≡ Ok (length (log_at (block_of n w) i))
    unfolding length_in
    length-reads L =
        simp (block-cell n w i L.sized h, le-leb _ _ (L.sound.short i h)) (sym (ap Ok (log-length_at n w i h)))

    pub entry-reads : Laid n w → (j : ℕ) → j < length (log_at (block_of n w) i) → entry_in n w i j ≡ Ok (entry_at (log_at (block_of n w) i) j)
    unfolding entry_in
    entry-reads L j l =
        let f = L.sized.few in
        let s = L.sound.short i h in
        let m = log-length_at n w i h in
        let a = space_least (length_of n w i) (omega arith) in
        let p = L.sound.below i j h (omega arith) in
        let r = L.sound.fits in
        rw (length-reads L) (under n w i (length (log_at (block_of n w) i)) j l (omega arith) ∙ sym (ap Ok (entry_at_lem n w i h j (omega arith))))
