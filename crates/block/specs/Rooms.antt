-- What a log's length, once answered, and the room found for an entry say of the words; and what the ways out of `entry` and `append` owe.
-- Rests on Words, Ways and Chunks.
use Rattle.std.specs.Prelude.{ℕ, ◌+◌, ◌≤◌, ◌<◌, ◌≡◌, List, length, get_or, leb, Err, None, Ok, Option, Result, Some}
use Rattle.std.proofs.Common.{sym, ◌∙◌, arith}
use borrow.Author.Tests.{leb-true, lt-ltb, le-ltb, le-leb, lt-leb, eq-eqb, ne_eqb}
use Rattle.rulebook.specs.Sizes.{most_cells, block_words}
use Rattle.rulebook.specs.Tests.{by_test}
use Rattle.block.specs.Layout.{base_ix, entry_ix, arena, chunk_of, offset_of, bump_of, length_of, place_of, has_cell, Sized, Reach}
use Rattle.block.specs.Words.{length_in, entry_under, entry_in, fresh_room, held_room, room_under, room_in}
use Rattle.block.specs.Ways.{cell-block, head_in}
use Rattle.block.specs.Chunks.{space_least, width_holds}
use Rattle.rulebook.specs.Codes.{damaged}
use Rattle.rulebook.specs.declared.Damaged.{Damaged}
use Rattle.block.specs.declared.change.Spot.{Spot}

-- ---- a length that was answered

pub record Told (n : ℕ) (w : List ℕ) (i m : ℕ) : Type 0 where
  pub sized : Sized n w
  pub cell : i < n
  pub is : m ≡ length_of n w i
  pub short : m ≤ n

pub length-told : (n : ℕ) (w : List ℕ) (i m : ℕ) → length_in n w i ≡ Ok m → Told n w i m
unfolding length_in
length-told n w i m h =
    by_test (has_cell n w i)
    (λ e. by_test (leb (length_of n w i) n)
    (λ f.
    let q : Ok (length_of n w i) ≡ Ok m = simp (e, f) at h in
    let z : m ≡ length_of n w i = cc in
    record { sized = (cell-block n w i e).0; cell = (cell-block n w i e).1; is = z; short = rw z (leb-true _ _ f) })
    (λ f. let q : (Err damaged) ≡ Ok m = simp (e, f) at h in let z : ◌≡◌ {A = ℕ} 0 1 = cc in absurd (omega arith)))
    (λ e. let q : (Err damaged) ≡ Ok m = simp e at h in let z : ◌≡◌ {A = ℕ} 0 1 = cc in absurd (omega arith))

-- the entries of a log, and the next one, have words in the directory
pub told-reach : (n : ℕ) (w : List ℕ) (i m : ℕ) → Told n w i m → (j : ℕ) → j < n → Reach n w i j
told-reach n w i m t j h =
    let f = t.sized.few in
    let s = space_least n (omega arith) in
    record { sized = t.sized; cell = t.cell; small = omega arith; chunk = width_holds n n j f (omega arith) (omega arith) }

module _ (l : Result ℕ Damaged) (n : ℕ) (w : List ℕ) (i : ℕ) (e : l ≡ length_in n w i) where
  module _ (q : l ≡ Err damaged) where
    pub entry-none : (j : ℕ) → Err damaged ≡ entry_in n w i j
    unfolding entry_in entry_under
    entry-none j = simp (sym e ∙ q)

    pub room-none : None ≡ room_in n w i
    unfolding room_in room_under
    room-none = simp (sym e ∙ q)

  module _ (m : ℕ) (q : l ≡ Ok m) where
    told : Told n w i m
    told = length-told n w i m (sym e ∙ q)

    pub told-few : n ≤ most_cells
    told-few = told.sized.few

    pub told-inside : (x : ℕ) → x < block_words n → x < length w
    told-inside x h = rw told.sized.long h

    pub entry-reach : (j : ℕ) → j < m → Reach n w i j
    entry-reach j h = let s = told.short in told-reach n w i m told j (omega arith)

    pub entry_past : (j : ℕ) → m ≤ j → Err damaged ≡ entry_in n w i j
    unfolding entry_in entry_under
    entry_past j h = simp (sym e ∙ q, le-ltb _ _ h)

    module _ (j : ℕ) (h : j < m) (p a : ℕ) (at : p ≡ place_of n w i j) (all : a ≡ arena n) where
      pub entry-out : a ≤ p → Err damaged ≡ entry_in n w i j
      unfolding entry_in entry_under
      entry-out g = simp (sym e ∙ q, lt-ltb _ _ h, le-ltb (place_of n w i j) (arena n) (rw (at, all) at g))

      pub entry_found : p < a → (x : ℕ) → x ≡ entry_ix n p → Ok (record { version = get_or w x 0; old = get_or w (x + 1) 0 }) ≡ entry_in n w i j
      unfolding entry_in entry_under
      entry_found g x y = simp (sym e ∙ q, lt-ltb _ _ h, lt-ltb (place_of n w i j) (arena n) (rw (at, all) at g), y, at)

    pub room-full : n ≤ m → None ≡ room_in n w i
    unfolding room_in room_under
    room-full h = simp (sym e ∙ q, le-ltb _ _ h)

    pub room-sized : Sized n w
    room-sized = told.sized

    pub room-reach : m < n → Reach n w i m
    room-reach h = told-reach n w i m told m h

    module _ (h : m < n) (r : Option Spot) (o : ℕ) (f : o ≡ offset_of m) where
      pub room-fresh : o ≡ 0 → r ≡ fresh_room n w m → r ≡ room_in n w i
      unfolding room_in room_under
      room-fresh z g = simp (sym e ∙ q, lt-ltb _ _ h, eq-eqb _ _ (sym f ∙ z), g)

      pub room-held : (o ≡ 0 → ⊥) → r ≡ held_room n w i m → r ≡ room_in n w i
      unfolding room_in room_under
      room-held z g = simp (sym e ∙ q, lt-ltb _ _ h, ne_eqb _ _ (λ y. z (f ∙ y)), g)

pub ruleset entries = (entry-none, told-few, told-inside, entry-reach, entry_past, entry-out, entry_found)

pub ruleset rooms = (room-none, room-full, room-sized, room-reach, room-fresh, room-held)

-- ---- a room for entry m

pub bump_in : (n : ℕ) (w : List ℕ) → Sized n w → 1 < length w
bump_in n w s = head_in s 1 (omega arith)

module _ (n : ℕ) (w : List ℕ) (m a t x : ℕ) (all : a ≡ arena n) (at : t ≡ bump_of w) (more : x ≡ m + 1) where
  pub fresh-no : a < t + x → None ≡ fresh_room n w m
  unfolding fresh_room
  fresh-no h = simp (lt-leb (bump_of w + (m + 1)) (arena n) (rw (all, at, more) at h))

  pub fresh-yes : t + x ≤ a → (c : ℕ) → c ≡ chunk_of m
      → Some (record { chunk = c; base = bump_of w; bump = bump_of w + (m + 1); place = t; length = m + 1 }) ≡ fresh_room n w m
  unfolding fresh_room
  fresh-yes h c q = simp (le-leb (bump_of w + (m + 1)) (arena n) (rw (all, at, more) at h), q, at)

module _ (n : ℕ) (w : List ℕ) (i m a p : ℕ) (all : a ≡ arena n) (at : p ≡ place_of n w i m) where
  pub held-no : a ≤ p → None ≡ held_room n w i m
  unfolding held_room
  held-no h = simp (le-ltb (place_of n w i m) (arena n) (rw (all, at) at h))

  pub held-yes : p < a → (c x : ℕ) → c ≡ chunk_of m → x ≡ base_ix n i c
      → Some (record { chunk = c; base = get_or w x 0; bump = bump_of w; place = p; length = m + 1 }) ≡ held_room n w i m
  unfolding held_room
  held-yes h c x q y = simp (lt-ltb (place_of n w i m) (arena n) (rw (all, at) at h), y, q, at)

pub ruleset spots = (bump_in, fresh-no, fresh-yes, held-no, held-yes)
