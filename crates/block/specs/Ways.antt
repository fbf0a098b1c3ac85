-- The tests of the slice decide what they are named for; and what each way out of a function that makes them owes, with the premises as the
-- code's tests and calls give them: rules for the proofs of the functions. Rests on Words.
use Rattle.std.specs.Prelude.{ℕ, ◌≤◌, ◌<◌, ◌+◌, ◌≡◌, Bool, true, false, not, ◌&&◌, List, length, get_or, set, leb, ltb, eqb, Err, Ok}
use Rattle.std.proofs.Common.{sym, ◌∙◌, length-set, arith}
use borrow.Author.Tests.{ltb-true, leb-true, eqb-true, not-true, not-false, lt-ltb, le-leb, lt-leb, eq-eqb, ne_eqb}
use Rattle.rulebook.specs.Sizes.{most_cells, block_words}
use Rattle.rulebook.specs.Tests.{by_test, and_both}
use Rattle.block.specs.Layout.{is_block, has_cell, Sized, cell_ix, length_ix, version_of}
use Rattle.block.specs.Words.{version_in, cell_in, length_in, exchange_in, write_in, take_in, fill_in}
use Rattle.rulebook.specs.Codes.{damaged}

-- ---- the two tests decide what they are named for

pub block-sized : (n : ℕ) (w : List ℕ) → is_block n w ≡ true → Sized n w
unfolding is_block
block-sized n w h =
    let a = and_both (leb 1 n && leb n most_cells) (eqb (length w) (block_words n)) h in
    let b = and_both (leb 1 n) (leb n most_cells) a.0 in
    record { some = leb-true 1 n b.0; few = leb-true n most_cells b.1; long = eqb-true (length w) (block_words n) a.1 }

pub sized-block : (n : ℕ) (w : List ℕ) → Sized n w → is_block n w ≡ true
unfolding is_block
sized-block n w s = simp (le-leb 1 n s.some, le-leb n most_cells s.few, eq-eqb (length w) (block_words n) s.long)

pub cell-block : (n : ℕ) (w : List ℕ) (i : ℕ) → has_cell n w i ≡ true → Sized n w × (i < n)
unfolding has_cell
cell-block n w i h =
    let a = and_both (is_block n w) (ltb i n) h in
    (block-sized n w a.0, ltb-true i n a.1)

pub block-cell : (n : ℕ) (w : List ℕ) (i : ℕ) → Sized n w → i < n → has_cell n w i ≡ true
unfolding has_cell
block-cell n w i s h = simp (sized-block n w s, lt-ltb i n h)

-- V and the bump are words of a block
pub head_in : {n : ℕ} {w : List ℕ} → Sized n w → (x : ℕ) → x < 2 → x < length w
unfolding block_words
head_in s x h = let l = s.long in omega arith

-- ---- a test that the code has made

module _ (n : ℕ) (w : List ℕ) where
  pub no_cells : n < 1 → false ≡ is_block n w
  unfolding is_block
  no_cells h = simp (lt-leb 1 n h)

  pub many_cells : most_cells < n → false ≡ is_block n w
  unfolding is_block
  many_cells h = by_test (leb 1 n) (λ e. simp (e, lt-leb n most_cells h)) (λ e. simp e)

  pub long_as : (x : ℕ) → x ≡ block_words n → 1 ≤ n → n ≤ most_cells → eqb (length w) x ≡ is_block n w
  unfolding is_block
  long_as x e h l = simp (le-leb 1 n h, le-leb n most_cells l, e)

pub ruleset sizes = (no_cells, many_cells, long_as)

-- ---- after the test of the slice

module _ (r : Bool) (n : ℕ) (w : List ℕ) (e : r ≡ is_block n w) where
  module _ (h : not r ≡ true) where
    no : is_block n w ≡ false
    no = sym e ∙ not-true r h

    pub has_no : (i : ℕ) → false ≡ has_cell n w i
    unfolding has_cell
    has_no i = simp no

    pub version-no : (Err damaged) ≡ version_in n w
    unfolding version_in
    version-no = simp no

    pub exchange-no : (l : ℕ) → (w, Err damaged) ≡ exchange_in n w l
    unfolding exchange_in
    exchange-no l = simp no

    pub take_no : (w, false) ≡ take_in n w
    unfolding take_in
    take_no = simp no

  module _ (h : not r ≡ false) where
    yes : is_block n w ≡ true
    yes = sym e ∙ not-false r h

    pub first_in : 0 < length w
    first_in = head_in (block-sized n w yes) 0 (omega arith)

    pub second_in : 1 < length w
    second_in = head_in (block-sized n w yes) 1 (omega arith)

    pub second-after : (x v : ℕ) → 1 < length (set w x v)
    second-after x v = simp length-set second_in

    pub has_as : (i : ℕ) → ltb i n ≡ has_cell n w i
    unfolding has_cell
    has_as i = simp yes

    pub version-yes : Ok (version_of w) ≡ version_in n w
    unfolding version_in
    version-yes = simp yes

    pub exchange-same : (l : ℕ) → (version_of w ≡ l → ⊥) → (w, Ok false) ≡ exchange_in n w l
    unfolding exchange_in
    exchange-same l d = simp (yes, ne_eqb _ _ d)

    module _ (l : ℕ) (q : version_of w ≡ l) where
      pub exchange-past : n < l → (w, Err damaged) ≡ exchange_in n w l
      unfolding exchange_in
      exchange-past g = simp (yes, eq-eqb _ _ q, lt-leb _ _ g)

      pub exchange-raised : l ≤ n → (set w 0 (l + 1), Ok true) ≡ exchange_in n w l
      unfolding exchange_in
      exchange-raised g = simp (yes, eq-eqb _ _ q, le-leb _ _ g)

    pub next_small : (l : ℕ) → l ≤ n → l + 1 < 4294967296
    next_small l g = let s = block-sized n w yes in omega arith

    pub take-yes : (set (set w 0 0) 1 0, true) ≡ take_in n w
    unfolding take_in
    take-yes = simp yes

pub ruleset blocks = (has_no, has_as, version-no, version-yes, first_in, second_in, second-after, take_no, take-yes)

pub ruleset exchanges = (exchange-no, exchange-same, exchange-past, exchange-raised, next_small, first_in)

-- ---- after the test of the slice and a cell

module _ (r : Bool) (n : ℕ) (w : List ℕ) (i : ℕ) (e : r ≡ has_cell n w i) where
  module _ (h : not r ≡ true) where
    none : has_cell n w i ≡ false
    none = sym e ∙ not-true r h

    pub cell-no : (Err damaged) ≡ cell_in n w i
    unfolding cell_in
    cell-no = simp none

    pub length-no : (Err damaged) ≡ length_in n w i
    unfolding length_in
    length-no = simp none

    pub write-no : (v : ℕ) → (w, false) ≡ write_in n w i v
    unfolding write_in
    write-no v = simp none

    pub fill-no : (v : ℕ) → (w, false) ≡ fill_in n w i v
    unfolding fill_in
    fill-no v = simp none

  module _ (h : not r ≡ false) where
    one : has_cell n w i ≡ true
    one = sym e ∙ not-false r h

    pub cell-few : n ≤ most_cells
    cell-few = (cell-block n w i one).0.few

    pub cell_below : i < n
    cell_below = (cell-block n w i one).1

    pub cell-inside : (x : ℕ) → x < block_words n → x < length w
    cell-inside x l = rw (cell-block n w i one).0.long l

    pub cell-yes : (x : ℕ) → x ≡ cell_ix n i → Ok (get_or w x 0) ≡ cell_in n w i
    unfolding cell_in
    cell-yes x q = simp (one, q)

    pub length-long : (x : ℕ) → x ≡ length_ix n i → n < get_or w x 0 → Err damaged ≡ length_in n w i
    unfolding length_in
    length-long x q g = simp (one, lt-leb _ _ (rw q at g))

    pub length-yes : (x : ℕ) → x ≡ length_ix n i → get_or w x 0 ≤ n → Ok (get_or w x 0) ≡ length_in n w i
    unfolding length_in
    length-yes x q g = simp (one, q, le-leb _ _ (rw q at g))

    pub write-yes : (x v : ℕ) → x ≡ cell_ix n i → (set w x v, true) ≡ write_in n w i v
    unfolding write_in
    write-yes x v q = simp (one, q)

    pub fill-yes : (x y v : ℕ) → x ≡ cell_ix n i → y ≡ length_ix n i → (set (set w x v) y 0, true) ≡ fill_in n w i v
    unfolding fill_in
    fill-yes x y v q p = simp (one, q, p)

pub ruleset cells = (cell-no, cell-few, cell_below, cell-inside, cell-yes, length-no, length-long, length-yes, write-no, write-yes, fill-no, fill-yes)
