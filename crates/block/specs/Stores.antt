-- What is read of a block's words after a store: which parts of the block each store leaves.
-- Rests on Layout and Words. What the laws above it use of the order of a block's words is here.
use Rattle.std.specs.Prelude.{ℕ, ◌+◌, ◌≤◌, ◌<◌, ◌≡◌, List, length, get_or, set}
use Rattle.std.proofs.Math.Path.{ap₂}
use Rattle.std.proofs.Common.{◌∙◌, get_or-set_same}
use native.Mathlib.Omega.{arith}
use Rattle.std.proofs.Math.ListN.{length-set}
use Rattle.std.proofs.Math.Seq.{get_or-set_other}
use Rattle.rulebook.specs.Sizes.{block_words, directory_width}
use Rattle.block.specs.declared.change.Spot.{Spot}
use Rattle.block.specs.Layout.{cell_ix, length_ix, base_ix, entry_ix, arena, chunk_of, offset_of, version_of, bump_of, cell_of, length_of, base_of, place_of, entry_of, Sized}
use Rattle.block.specs.Words.{stored}
use Rattle.block.specs.Ways.{head_in}

-- ---- one store: what lies behind it is as it was

module _ (n : ℕ) (w : List ℕ) (x a : ℕ) where
  -- the cells, after a store to V or the bump
  pub cells_left : x < 2 → cell_of n (set w x a) ≡ cell_of n w
  unfolding cell_ix
  cells_left h = λ t i. get_or-set_other w x (cell_ix n i) a 0 (λ q. omega arith) t

  -- the lengths, after a store to one of these or a cell
  pub lengths-left : x < length_ix n 0 → length_of n (set w x a) ≡ length_of n w
  unfolding length_ix
  lengths-left h = λ t i. get_or-set_other w x (length_ix n i) a 0 (λ q. omega arith) t

  -- the places and the entries, after a store to one of these or a length
  module _ (h : x < base_ix n 0 0) where
    pub places-left : place_of n (set w x a) ≡ place_of n w
    unfolding base_ix directory_width
    places-left = λ t i j. get_or-set_other w x (base_ix n i (chunk_of j)) a 0 (λ q. omega arith) t + offset_of j

    pub entries-left : entry_of n (set w x a) ≡ entry_of n w
    unfolding base_ix entry_ix directory_width
    entries-left =
        λ t p. record {
          version = get_or-set_other w x (entry_ix n p) a 0 (λ q. omega arith) t;
          old = get_or-set_other w x (entry_ix n p + 1) a 0 (λ q. omega arith) t;
        }

-- ---- which words lie before which

module _ (n : ℕ) where
  pub head-low : (x : ℕ) → x < 2 → x < length_ix n 0
  unfolding length_ix
  head-low x h = omega arith

  pub cell-low : (i : ℕ) → i < n → cell_ix n i < length_ix n 0
  unfolding cell_ix length_ix
  cell-low i h = omega arith

  pub cell_not_head : (i x : ℕ) → x < 2 → x ≡ cell_ix n i → ⊥
  unfolding cell_ix
  cell_not_head i x h q = omega arith

  pub length-low : (i : ℕ) → i < n → length_ix n i < base_ix n 0 0
  unfolding length_ix base_ix directory_width
  length-low i h = omega arith

  pub lengths-low : length_ix n 0 ≤ base_ix n 0 0
  unfolding length_ix base_ix directory_width
  lengths-low = omega arith

  pub length_not_low : (i x : ℕ) → x < length_ix n 0 → x ≡ length_ix n i → ⊥
  unfolding length_ix
  length_not_low i x h q = omega arith

  pub cell_apart : (i k : ℕ) → (k ≡ i → ⊥) → cell_ix n k ≡ cell_ix n i → ⊥
  unfolding cell_ix
  cell_apart i k h q = h (omega arith)

  pub length-apart : (i k : ℕ) → (k ≡ i → ⊥) → length_ix n k ≡ length_ix n i → ⊥
  unfolding length_ix
  length-apart i k h q = h (omega arith)

-- they lie in the block
module _ {n : ℕ} {w : List ℕ} (s : Sized n w) where
  pub cell_in_lem : (i : ℕ) → i < n → cell_ix n i < length w
  unfolding block_words cell_ix
  cell_in_lem i h = let l = s.long in omega arith

  pub length_in_lem : (i : ℕ) → i < n → length_ix n i < length w
  unfolding block_words length_ix
  length_in_lem i h = let l = s.long in omega arith

-- ---- five stores

module _ (w : List ℕ) (x₁ a₁ x₂ a₂ x₃ a₃ x₄ a₄ x₅ a₅ : ℕ) where
  abbrev one : List ℕ
  one = set w x₁ a₁

  abbrev two : List ℕ
  two = set one x₂ a₂

  abbrev three : List ℕ
  three = set two x₃ a₃

  abbrev four : List ℕ
  four = set three x₄ a₄

  abbrev five : List ℕ
  five = set four x₅ a₅

  module _ (x : ℕ) (h₅ : x ≡ x₅ → ⊥) where
    since-four : get_or five x 0 ≡ get_or four x 0
    since-four = get_or-set_other four x₅ x a₅ 0 h₅

    module _ (h₄ : x ≡ x₄ → ⊥) where
      since-three : get_or five x 0 ≡ get_or three x 0
      since-three = since-four ∙ get_or-set_other three x₄ x a₄ 0 h₄

      module _ (h₃ : x ≡ x₃ → ⊥) where
        since-two : get_or five x 0 ≡ get_or two x 0
        since-two = since-three ∙ get_or-set_other two x₃ x a₃ 0 h₃

        module _ (h₂ : x ≡ x₂ → ⊥) where
          since-one : get_or five x 0 ≡ get_or one x 0
          since-one = since-two ∙ get_or-set_other one x₂ x a₂ 0 h₂

          pub since : (x ≡ x₁ → ⊥) → get_or five x 0 ≡ get_or w x 0
          since h₁ = since-one ∙ get_or-set_other w x₁ x a₁ 0 h₁

  pub at_five : x₅ < length w → get_or five x₅ 0 ≡ a₅
  at_five l = get_or-set_same four x₅ a₅ 0 (simp length-set l)

  pub at-four : (x₄ ≡ x₅ → ⊥) → x₄ < length w → get_or five x₄ 0 ≡ a₄
  at-four h₅ l = since-four x₄ h₅ ∙ get_or-set_same three x₄ a₄ 0 (simp length-set l)

  pub at-three : (x₃ ≡ x₅ → ⊥) → (x₃ ≡ x₄ → ⊥) → x₃ < length w → get_or five x₃ 0 ≡ a₃
  at-three h₅ h₄ l = since-three x₃ h₅ h₄ ∙ get_or-set_same two x₃ a₃ 0 (simp length-set l)

  pub at-two : (x₂ ≡ x₅ → ⊥) → (x₂ ≡ x₄ → ⊥) → (x₂ ≡ x₃ → ⊥) → x₂ < length w → get_or five x₂ 0 ≡ a₂
  at-two h₅ h₄ h₃ l = since-two x₂ h₅ h₄ h₃ ∙ get_or-set_same one x₂ a₂ 0 (simp length-set l)

  pub at_one : (x₁ ≡ x₅ → ⊥) → (x₁ ≡ x₄ → ⊥) → (x₁ ≡ x₃ → ⊥) → (x₁ ≡ x₂ → ⊥) → x₁ < length w → get_or five x₁ 0 ≡ a₁
  at_one h₅ h₄ h₃ h₂ l = since-one x₁ h₅ h₄ h₃ h₂ ∙ get_or-set_same w x₁ a₁ 0 l

-- ---- what an append stores

-- the words that it writes are words of the block
pub record Inside (n : ℕ) (w : List ℕ) (i : ℕ) (s : Spot) : Type 0 where
  pub sized : Sized n w
  pub cell : i < n
  pub chunk : s.chunk < directory_width n
  pub place : s.place < arena n

module _ {n : ℕ} {w : List ℕ} {i : ℕ} {s : Spot} (F : Inside n w i s) (v o : ℕ) where
  abbrev b : ℕ
  b = base_ix n i s.chunk

  abbrev e : ℕ
  e = entry_ix n s.place

  other : (x : ℕ) → (x ≡ length_ix n i → ⊥) → (x ≡ e + 1 → ⊥) → (x ≡ e → ⊥) → (x ≡ 1 → ⊥) → (x ≡ b → ⊥) → get_or (stored n w i s v o) x 0 ≡ get_or w x 0
  unfolding stored
  other = since w b s.base 1 s.bump e v (e + 1) o (length_ix n i) s.length

  pub stored-version : version_of (stored n w i s v o) ≡ version_of w
  unfolding length_ix base_ix entry_ix
  stored-version = other 0 (λ q. omega arith) (λ q. omega arith) (λ q. omega arith) (λ q. omega arith) (λ q. omega arith)

  pub stored-cell : (k : ℕ) → k < n → cell_of n (stored n w i s v o) k ≡ cell_of n w k
  unfolding cell_ix length_ix base_ix entry_ix
  stored-cell k h = other (cell_ix n k) (λ q. omega arith) (λ q. omega arith) (λ q. omega arith) (λ q. omega arith) (λ q. omega arith)

  pub stored-length : length_of n (stored n w i s v o) i ≡ s.length
  unfolding stored
  stored-length = at_five w b s.base 1 s.bump e v (e + 1) o (length_ix n i) s.length (length_in_lem F.sized i F.cell)

  pub stored-lengths : (k : ℕ) → k < n → (k ≡ i → ⊥) → length_of n (stored n w i s v o) k ≡ length_of n w k
  unfolding length_ix base_ix entry_ix directory_width
  stored-lengths k h d = other (length_ix n k) (λ q. d (omega arith)) (λ q. omega arith) (λ q. omega arith) (λ q. omega arith) (λ q. omega arith)

  pub stored-bump : bump_of (stored n w i s v o) ≡ s.bump
  unfolding stored length_ix entry_ix
  stored-bump = at-two w b s.base 1 s.bump e v (e + 1) o (length_ix n i) s.length (λ q. omega arith) (λ q. omega arith) (λ q. omega arith) (head_in F.sized 1 (omega arith))

  pub stored-base : base_of n (stored n w i s v o) i s.chunk ≡ s.base
  unfolding stored length_ix base_ix entry_ix directory_width block_words
  stored-base =
      at_one w b s.base 1 s.bump e v (e + 1) o (length_ix n i) s.length (λ q. omega arith) (λ q. omega arith) (λ q. omega arith) (λ q. omega arith)
      (let l = F.sized.long in omega arith)

  pub stored_bases : (k c : ℕ) → k < n → c < directory_width n → (k ≡ i → c ≡ s.chunk → ⊥) → base_of n (stored n w i s v o) k c ≡ base_of n w k c
  unfolding length_ix base_ix entry_ix directory_width
  stored_bases k c h l d =
      other (base_ix n k c) (λ q. omega arith) (λ q. omega arith) (λ q. omega arith) (λ q. omega arith) (λ q. d (omega arith) (omega arith))

  pub stored-entry : entry_of n (stored n w i s v o) s.place ≡ record { version = v; old = o }
  unfolding stored length_ix entry_ix directory_width block_words arena
  stored-entry =
      let l = F.sized.long in
      ap₂ (λ (x y : ℕ). record { version = x; old = y })
      (at-three w b s.base 1 s.bump e v (e + 1) o (length_ix n i) s.length (λ q. omega arith) (λ q. omega arith) (omega arith))
      (at-four w b s.base 1 s.bump e v (e + 1) o (length_ix n i) s.length (λ q. omega arith) (omega arith))

  pub stored-entries : (p : ℕ) → (p ≡ s.place → ⊥) → entry_of n (stored n w i s v o) p ≡ entry_of n w p
  unfolding length_ix base_ix entry_ix directory_width
  stored-entries p d =
      ap₂ (λ (x y : ℕ). record { version = x; old = y })
      (other (entry_ix n p) (λ q. omega arith) (λ q. omega arith) (λ q. d (omega arith)) (λ q. omega arith) (λ q. omega arith))
      (other (entry_ix n p + 1) (λ q. omega arith) (λ q. d (omega arith)) (λ q. omega arith) (λ q. omega arith) (λ q. omega arith))

  pub stored-long : length (stored n w i s v o) ≡ length w
  unfolding stored
  stored-long = simp length-set
