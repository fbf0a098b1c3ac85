-- The spot that an append has found: what it says of the words, and what the ways out of `append` owe.
-- Rests on Rooms.
use Rattle.std.specs.Prelude.{ℕ, ◌+◌, ◌≤◌, ◌<◌, ◌≡◌, ◌⊎◌, true, false, List, length, set, leb, ltb, eqb, Err, None, Ok, Option, Result, Some}
use Rattle.std.proofs.Math.Path.{refl, sym}
use Rattle.std.proofs.Common.{ap, ◌∙◌, subst, inl, inr, arith}
use borrow.Author.Tests.{ltb-true, leb-true, eqb-true, eqb-false}
use Rattle.rulebook.specs.Sizes.{most_cells, block_words, directory_width}
use Rattle.rulebook.specs.Tests.{by_test}
use Rattle.block.specs.declared.change.Spot.{Spot}
use Rattle.block.specs.Layout.{length_ix, base_ix, entry_ix, arena, chunk_of, offset_of, bump_of, length_of, base_of, place_of, Sized}
use Rattle.block.specs.Words.{length_in, fresh_spot, fresh_room, held_spot, held_room, room_under, room_in, stored, append_at, append_in}
use Rattle.block.specs.Ways.{head_in}
use Rattle.block.specs.Rooms.{length-told, told-reach}
use Rattle.rulebook.specs.declared.Damaged.{Damaged}

-- a new chunk at the bump
pub record Fresh (n : ℕ) (w : List ℕ) (m : ℕ) (s : Spot) : Type 0 where
  pub opens : offset_of m ≡ 0
  pub base : s.base ≡ bump_of w
  pub bump : s.bump ≡ bump_of w + (m + 1)
  pub fits : bump_of w + (m + 1) ≤ arena n

-- a place in a chunk that stands
pub record Held (n : ℕ) (w : List ℕ) (i m : ℕ) (s : Spot) : Type 0 where
  pub stands : offset_of m ≡ 0 → ⊥
  pub base : s.base ≡ base_of n w i (chunk_of m)
  pub bump : s.bump ≡ bump_of w

-- the spot of entry m, the next of cell i's log
pub record Planned (n : ℕ) (w : List ℕ) (i m : ℕ) (s : Spot) : Type 0 where
  pub sized : Sized n w
  pub cell : i < n
  pub is : m ≡ length_of n w i
  pub short : m < n
  pub chunk : s.chunk ≡ chunk_of m
  pub place : s.place ≡ s.base + offset_of m
  pub inside : s.place < arena n
  pub length : s.length ≡ m + 1
  pub kind : Fresh n w m s ⊎ Held n w i m s

no_room_lem : {A : Type 0} {s : Spot} → None ≡ Some s → A
no_room_lem q = let z : ◌≡◌ {A = ℕ} 0 1 = cc in absurd (omega arith)

module _ (n : ℕ) (w : List ℕ) (i m : ℕ) (s : Spot) (t : length_in n w i ≡ Ok m) (short : m < n) where
  planned_by : (a : Spot) → Some a ≡ Some s → a.chunk ≡ chunk_of m → a.place ≡ a.base + offset_of m → a.place < arena n → a.length ≡ m + 1
      → Fresh n w m a ⊎ Held n w i m a → Planned n w i m s
  planned_by a q c p f l k =
      let e : a ≡ s = cc in
      let d = length-told n w i m t in
      subst (λ (x : Spot). Planned n w i m x) e
      (record { sized = d.sized; cell = d.cell; is = d.is; short = short; chunk = c; place = p; inside = f; length = l; kind = k })

  fresh_planned : offset_of m ≡ 0 → fresh_room n w m ≡ Some s → Planned n w i m s
  unfolding fresh_room
  fresh_planned z h =
      by_test (leb (bump_of w + (m + 1)) (arena n))
      (λ e.
      let l = leb-true (bump_of w + (m + 1)) (arena n) e in
      planned_by (fresh_spot w m) (simp e at h) refl (omega arith) (omega arith) refl (inl (record { opens = z; base = refl; bump = refl; fits = l })))
      (λ e. no_room_lem (simp e at h))

  held_planned : (offset_of m ≡ 0 → ⊥) → held_room n w i m ≡ Some s → Planned n w i m s
  unfolding held_room
  held_planned z h =
      by_test (ltb (place_of n w i m) (arena n))
      (λ e. planned_by (held_spot n w i m) (simp e at h) refl refl (ltb-true _ _ e) refl (inr (record { stands = z; base = refl; bump = refl })))
      (λ e. no_room_lem (simp e at h))

under : (n : ℕ) (w : List ℕ) (i : ℕ) (s : Spot) (l : Result ℕ Damaged) → length_in n w i ≡ l → room_under l n w i ≡ Some s → (m : ℕ) × Planned n w i m s
unfolding room_under
under n w i s (Err _) t h = no_room_lem h
under n w i s (Ok m) t h =
    by_test (ltb m n)
    (λ e. by_test (eqb (offset_of m) 0)
    (λ f. (m, fresh_planned n w i m s t (ltb-true m n e) (eqb-true _ _ f) (simp (e, f) at h)))
    (λ f. (m, held_planned n w i m s t (ltb-true m n e) (eqb-false _ _ f) (simp (e, f) at h))))
    (λ e. no_room_lem (simp e at h))

pub room_planned : (n : ℕ) (w : List ℕ) (i : ℕ) (s : Spot) → room_in n w i ≡ Some s → (m : ℕ) × Planned n w i m s
unfolding room_in
room_planned n w i s h = under n w i s (length_in n w i) refl h

pub planned_wide : {n : ℕ} {w : List ℕ} {i m : ℕ} {s : Spot} → Planned n w i m s → s.chunk < directory_width n
planned_wide {n} {w} {i} {m} {s} p =
    let h = p.short in
    rw p.chunk (told-reach n w i m (record { sized = p.sized; cell = p.cell; is = p.is; short = omega arith }) m h).chunk

-- ---- the ways out of `append`

module _ (r : Option Spot) (n : ℕ) (w : List ℕ) (i : ℕ) (e : r ≡ room_in n w i) where
  pub append-no : (v o : ℕ) → r ≡ None → (w, false) ≡ append_in n w i v o
  unfolding append_in append_at
  append-no v o q = sym (ap (λ (x : Option Spot). append_at x n w i v o) (sym e ∙ q))

  module _ (s : Spot) (q : r ≡ Some s) where
    plan : (m : ℕ) × Planned n w i m s
    plan = room_planned n w i s (sym e ∙ q)

    pub spot_few : n ≤ most_cells
    spot_few = plan.1.sized.few

    pub spot_cell : i < n
    spot_cell = plan.1.cell

    pub spot_chunk : s.chunk < directory_width n
    spot_chunk = planned_wide plan.1

    pub spot_place : s.place < arena n
    spot_place = plan.1.inside

    pub spot_inside : (x : ℕ) → x < block_words n → x < length w
    spot_inside x h = rw plan.1.sized.long h

    pub spot_bump : 1 < length w
    spot_bump = head_in plan.1.sized 1 (omega arith)

    pub append-yes : (v o x y z : ℕ) → x ≡ base_ix n i s.chunk → y ≡ entry_ix n s.place → z ≡ length_ix n i
        → (set (set (set (set (set w x s.base) 1 s.bump) y v) (y + 1) o) z s.length, true) ≡ append_in n w i v o
    unfolding append_in append_at stored
    append-yes v o x y z a b c = simp (sym e ∙ q, a, b, c)

pub ruleset appends = (append-no, spot_few, spot_cell, spot_chunk, spot_place, spot_inside, spot_bump, append-yes)
