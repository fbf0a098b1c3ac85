-- What the writing functions leave of a block: exactly the machine's change, and soundness where it was.
-- Rests on Reads, Stores and Ways.
use Rattle.std.specs.Prelude.{ℕ, ◌+◌, ◌≤◌, ◌<◌, ◌≡◌, true, length, get_or, set, leb, eqb, None, Ok, Option, Some, false}
use Rattle.std.proofs.Math.Path.{refl}
use Rattle.std.proofs.Common.{sym, ap, ◌∙◌, subst, lt_of_lt_of_le, arith}
use mathlib.Core.List.{List, []}
use Rattle.std.proofs.Math.ListN.{length-set}
use Rattle.std.proofs.Math.Seq.{get_or-set_same, get_or-set_other}
use borrow.Author.Tests.{le-leb, eq-eqb, ne_eqb}
use Rattle.rulebook.specs.State.{Block, list_to, with_version, with_cell, with_log}
use Rattle.rulebook.specs.Tests.{if_case}
use Rattle.rulebook.specs.Lists.{list_to-same, list_to-set}
use Rattle.block.specs.Layout.{cell_ix, length_ix, base_ix, version_of, cell_of, is_block, has_cell, Sized}
use Rattle.block.specs.Words.{exchange_in, write_in, take_in, fill_in, room_in, stored, append_at, append_in}
use Rattle.block.specs.Sound.{View, view_of, log_of, block_of, Sound, Laid, Filling, Done}
use Rattle.block.specs.Ways.{sized-block, block-cell, head_in}
use Rattle.block.specs.Stores.{cells_left, lengths-left, places-left, entries-left, head-low, cell-low, cell_not_head, length-low, lengths-low, length_not_low, cell_apart, length-apart, cell_in_lem, length_in_lem}
use Rattle.block.specs.Reads.{version_at_lem, log-none}
use Rattle.block.specs.declared.change.Spot.{Spot}

-- ---- a store before the directory

pub set-sized : {n : ℕ} {w : List ℕ} (x a : ℕ) → Sized n w → Sized n (set w x a)
set-sized {n} {w} x a s = record { some = s.some; few = s.few; long = length-set w x a ∙ s.long }

module _ (n : ℕ) (w : List ℕ) (x a : ℕ) (low : x < length_ix n 0) where
  before : x < base_ix n 0 0
  before = lt_of_lt_of_le low (lengths-low n)

  logs-left : (i : ℕ) → log_of (view_of n (set w x a)) i ≡ log_of (view_of n w) i
  logs-left i =
      λ t. list_to (lengths-left n w x a low t i) (λ (j : ℕ). entries-left n w x a before t (places-left n w x a before t i j))

  view_left : (x ≡ 1 → ⊥) → view_of n (set w x a) ≡ view_of n w
  view_left d =
      λ t. record {
        bump = get_or-set_other w x 1 a 0 (λ q. d (sym q)) t;
        len = lengths-left n w x a low t;
        place = places-left n w x a before t;
        entry = entries-left n w x a before t;
      }

  laid-left : (x ≡ 1 → ⊥) → Laid n w → Laid n (set w x a)
  laid-left d L = record { sized = set-sized x a L.sized; sound = subst (λ (v : View). Sound n v) (sym (view_left d)) L.sound }

module _ {n : ℕ} {w : List ℕ} (s : Sized n w) where
  version-set : (a : ℕ) → Done n w (set w 0 a) (with_version (block_of n w) a)
  unfolding block_of with_version
  version-set a = record {
    sized = set-sized 0 a s;
    block = λ t. record {
      version = get_or-set_same w 0 a 0 (head_in s 0 (omega arith)) t;
      cells = list_to n (cells_left n w 0 a (omega arith) t);
      logs = list_to n (λ (i : ℕ). logs-left n w 0 a (head-low n 0 (omega arith)) i t);
    };
    laid = laid-left n w 0 a (head-low n 0 (omega arith)) (λ q. omega arith);
  }

  bump-set : (a : ℕ) → block_of n (set w 1 a) ≡ block_of n w
  unfolding block_of
  bump-set a =
      λ t. record {
        version = get_or-set_other w 1 0 a 0 (λ q. omega arith) t;
        cells = list_to n (cells_left n w 1 a (omega arith) t);
        logs = list_to n (λ (i : ℕ). logs-left n w 1 a (head-low n 1 (omega arith)) i t);
      }

  module _ (i : ℕ) (h : i < n) where
    cell_set : (a : ℕ) → Done n w (set w (cell_ix n i) a) (with_cell (block_of n w) i a)
    unfolding block_of with_cell
    cell_set a = record {
      sized = set-sized (cell_ix n i) a s;
      block = λ t. record {
        version = get_or-set_other w (cell_ix n i) 0 a 0 (cell_not_head n i 0 (omega arith)) t;
        cells =
            list_to-set 0 n i (cell_of n w) (cell_of n (set w (cell_ix n i) a)) a h (get_or-set_same w (cell_ix n i) a 0 (cell_in_lem s i h))
            (λ k l d. get_or-set_other w (cell_ix n i) (cell_ix n k) a 0 (cell_apart n i k d)) t;
        logs = list_to n (λ (k : ℕ). logs-left n w (cell_ix n i) a (cell-low n i h) k t);
      };
      laid = laid-left n w (cell_ix n i) a (cell-low n i h) (λ q. cell_not_head n i 1 (omega arith) (sym q));
    }

    -- a length of 0 empties the log
    abbrev cut : List ℕ
    cut = set w (length_ix n i) 0

    cut-other : (x : ℕ) → x < length_ix n 0 → get_or cut x 0 ≡ get_or w x 0
    cut-other x l = get_or-set_other w (length_ix n i) x 0 0 (length_not_low n i x l)

    cut-own : log_of (view_of n cut) i ≡ []
    cut-own = log-none (view_of n cut) i (get_or-set_same w (length_ix n i) 0 0 (length_in_lem s i h))

    cut-logs : (k : ℕ) → k < n → (k ≡ i → ⊥) → log_of (view_of n cut) k ≡ log_of (view_of n w) k
    cut-logs k l d =
        λ t. list_to (get_or-set_other w (length_ix n i) (length_ix n k) 0 0 (length-apart n i k d) t)
        (λ (j : ℕ). entries-left n w (length_ix n i) 0 (length-low n i h) t (places-left n w (length_ix n i) 0 (length-low n i h) t k j))

    log-emptied : block_of n cut ≡ with_log (block_of n w) i []
    unfolding block_of with_log
    log-emptied =
        λ t. record {
          version = cut-other 0 (head-low n 0 (omega arith)) t;
          cells = list_to-same n (cell_of n cut) (cell_of n w) (λ k l. cut-other (cell_ix n k) (cell-low n k l)) t;
          logs = list_to-set [] n i (log_of (view_of n w)) (log_of (view_of n cut)) [] h cut-own cut-logs t;
        }

-- ---- what each function does on the words of a block

module _ {n : ℕ} {w : List ℕ} (s : Sized n w) where
  pub exchange-is : (l : ℕ) → version_of w ≡ l → l ≤ n → exchange_in n w l ≡ (set w 0 (l + 1), Ok true)
  unfolding exchange_in
  exchange-is l e h = simp (sized-block n w s, eq-eqb _ _ e, le-leb _ _ h)

  pub write-is : (i v : ℕ) → i < n → write_in n w i v ≡ (set w (cell_ix n i) v, true)
  unfolding write_in
  write-is i v h = simp (block-cell n w i s h)

  pub take-is : take_in n w ≡ (set (set w 0 0) 1 0, true)
  unfolding take_in
  take-is = simp (sized-block n w s)

  pub fill_is : (i v : ℕ) → i < n → fill_in n w i v ≡ (set (set w (cell_ix n i) v) (length_ix n i) 0, true)
  unfolding fill_in
  fill_is i v h = simp (block-cell n w i s h)

  -- V = l: V is raised, and nothing else changes
  pub exchange_first : (l : ℕ) → (block_of n w).version ≡ l → l ≤ n
      → ((exchange_in n w l).1 ≡ Ok true) × Done n w (exchange_in n w l).0 (with_version (block_of n w) (l + 1))
  exchange_first l e h = rw (exchange-is l (sym (version_at_lem n w) ∙ e) h) (refl, version-set s (l + 1))

  -- V differs: nothing changes
  pub exchange-later : (l : ℕ) → ((block_of n w).version ≡ l → ⊥) → exchange_in n w l ≡ (w, Ok false)
  unfolding exchange_in
  exchange-later l d = simp (sized-block n w s, ne_eqb (version_of w) l (λ q. d (version_at_lem n w ∙ q)))

  -- the cell is written, and nothing else changes
  pub write_done : (i v : ℕ) → i < n → ((write_in n w i v).1 ≡ true) × Done n w (write_in n w i v).0 (with_cell (block_of n w) i v)
  write_done i v h = rw (write-is i v h) (refl, cell_set s i h v)

  -- V = 0, and a block in which no cell is filled yet
  pub take_done : ((take_in n w).1 ≡ true) × (block_of n (take_in n w).0 ≡ with_version (block_of n w) 0) × Filling 0 n (take_in n w).0
  take_done =
      rw take-is (
        refl,
        bump-set (set-sized 0 0 s) 0 ∙ (version-set s 0).block,
        record {
          sized = set-sized 1 0 (set-sized 0 0 s);
          bump = get_or-set_same (set w 0 0) 1 0 0 (head_in (set-sized 0 0 s) 1 (omega arith));
          empty = λ i h. absurd (omega arith);
        },
      )

  -- the cell is written and its log is empty, and nothing else changes
  pub fill_done : (i v : ℕ) → i < n
      → ((fill_in n w i v).1 ≡ true) × Sized n (fill_in n w i v).0 × (block_of n (fill_in n w i v).0 ≡ with_log (with_cell (block_of n w) i v) i [])
  fill_done i v h =
      rw (fill_is i v h) (
        refl,
        set-sized (length_ix n i) 0 (set-sized (cell_ix n i) v s),
        log-emptied (set-sized (cell_ix n i) v s) i h ∙ ap (λ (b : Block). with_log b i []) (cell_set s i h v).block,
      )

-- ---- the number of words stays, whatever they are

module _ (n : ℕ) (w : List ℕ) where
  abbrev Long : {A : Type 0} → List ℕ × A → Type 0
  Long x = length x.0 ≡ length w

  pub exchange-long : (l : ℕ) → length (exchange_in n w l).0 ≡ length w
  unfolding exchange_in
  exchange-long l =
      if_case Long (is_block n w)
      (λ _. if_case Long (eqb (version_of w) l) (λ _. if_case Long (leb l n) (λ _. length-set w 0 (l + 1)) (λ _. refl)) (λ _. refl))
      (λ _. refl)

  pub write-long : (i v : ℕ) → length (write_in n w i v).0 ≡ length w
  unfolding write_in
  write-long i v = if_case Long (has_cell n w i) (λ _. length-set w (cell_ix n i) v) (λ _. refl)

  pub take_long : length (take_in n w).0 ≡ length w
  unfolding take_in
  take_long = if_case Long (is_block n w) (λ _. simp length-set) (λ _. refl)

  pub fill-long : (i v : ℕ) → length (fill_in n w i v).0 ≡ length w
  unfolding fill_in
  fill-long i v = if_case Long (has_cell n w i) (λ _. simp length-set) (λ _. refl)

  at_long : (r : Option Spot) (i v o : ℕ) → length (append_at r n w i v o).0 ≡ length w
  unfolding append_at stored
  at_long (Some s) i v o = simp length-set
  at_long None i v o = refl

  pub append-long : (i v o : ℕ) → length (append_in n w i v o).0 ≡ length w
  unfolding append_in
  append-long i v o = at_long (room_in n w i) i v o
