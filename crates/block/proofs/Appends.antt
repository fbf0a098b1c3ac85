-- An append to a sound block with fewer than n entries is done: it is the machine's, and leaves the block sound.
-- Rests on Plans, Stores, Growth and Writes.
use Rattle.std.specs.Prelude.{ℕ, ◌+◌, ◌*◌, ◌^◌, ◌≤◌, ◌<◌, ◌≡◌, refl, true, get_or, eqb, Ok, Some}
use Rattle.std.proofs.Common.{sym, ap, ap₂, ◌∙◌, inl, inr, ⊎_elim, arith}
use mathlib.Core.List.{List, [], ◌∷◌, ◌++◌}
use borrow.Author.Tests.{eqb-true, eqb-false, lt-ltb, le-leb, eq-eqb, ne_eqb}
use Rattle.rulebook.specs.Sizes.{most_cells}
use Rattle.rulebook.specs.State.{list_to, with_log}
use Rattle.rulebook.specs.Steps.{appended}
use Rattle.rulebook.specs.Tests.{by_test}
use Rattle.rulebook.specs.Lists.{list_to-same, list_to-get, list_to-set}
use Rattle.rulebook.specs.declared.Entry.{Entry}
use Rattle.block.specs.declared.change.Spot.{Spot}
use Rattle.block.specs.Layout.{arena, chunk_of, offset_of, space_of, bump_of, cell_of, length_of, base_of, place_of, Sized}
use Rattle.block.specs.Words.{length_in, fresh_spot, fresh_room, held_spot, held_room, room_under, room_in, stored, append_at, append_in}
use Rattle.block.specs.Sound.{view_of, log_of, block_of, sum_to, entries_in, Laid, Done}
use Rattle.block.specs.Sums.{sum-at, sum_slack}
use Rattle.block.specs.Chunks.{space-most, space_least, fresh-before, fresh-chunk, fresh-offset, fresh-new, held_after, width_holds}
use Rattle.block.proofs.Plans.{Fresh, Held, Planned, room_planned, planned_wide}
use Rattle.block.specs.Growth.{Grown, grown_sound, grown_other, grown_own}
use Rattle.block.specs.Stores.{Inside, stored-version, stored-cell, stored-length, stored-lengths, stored-bump, stored-base, stored_bases, stored-entry, stored-entries, stored-long}
use Rattle.block.specs.Reads.{length-reads, log-length_at, entries_are}

pub arena-room : (n : ℕ) → 2 * n ≤ arena n
unfolding arena
arena-room n = omega arith

planned_inside : {n : ℕ} {w : List ℕ} {i m : ℕ} {s : Spot} → Planned n w i m s → Inside n w i s
planned_inside p = record { sized = p.sized; cell = p.cell; chunk = planned_wide p; place = p.inside }

-- ---- the stores at the spot that was found make the view grow

module _ (n : ℕ) (w : List ℕ) (i m : ℕ) (s : Spot) (v o : ℕ) (L : Laid n w) (P : Planned n w i m s) where
  abbrev after : List ℕ
  after = stored n w i s v o

  small : m < most_cells
  small = let f = L.sized.few in let h = P.short in omega arith

  -- entry j's place, where its chunk's base is
  place_by : (k j b : ℕ) → base_of n after k (chunk_of j) ≡ b → place_of n after k j ≡ b + offset_of j
  place_by k j b e = ap (λ (x : ℕ). x + offset_of j) e

  base-own : (j : ℕ) → chunk_of j ≡ chunk_of m → base_of n after i (chunk_of j) ≡ s.base
  base-own j q =
      ap (base_of n after i) (q ∙ sym P.chunk) ∙ stored-base (planned_inside P) v o

  place-own : place_of n after i m ≡ s.place
  place-own = place_by i m s.base (base-own m refl) ∙ sym P.place

  base-other : (k j : ℕ) → k < n → j < space_of (length_of n w k) → (k ≡ i → chunk_of j ≡ s.chunk → ⊥) → base_of n after k (chunk_of j) ≡ base_of n w k (chunk_of j)
  base-other k j h l d =
      stored_bases (planned_inside P) v o k (chunk_of j) h
      (width_holds n (length_of n w k) j L.sized.few (L.sound.short k h) l) d

  -- a chunk that the logs had is where it was
  base_kept : (k j : ℕ) → k < n → j < space_of (length_of n w k) → base_of n after k (chunk_of j) ≡ base_of n w k (chunk_of j)
  base_kept k j h l =
      by_test (eqb k i)
      (λ q. by_test (eqb (chunk_of j) s.chunk)
      (λ r.
      let own : k ≡ i = eqb-true k i q in
      let last : chunk_of j ≡ chunk_of m = eqb-true (chunk_of j) s.chunk r ∙ P.chunk in
      ⊎_elim
      (λ (f : Fresh n w m s).
      let c = small in
      let u : space_of (length_of n w k) ≡ space_of m = ap (λ (x : ℕ). space_of (length_of n w x)) own ∙ ap space_of (sym P.is) in
      let y = fresh-before m (omega arith) f.opens in
      absurd (fresh-new m (omega arith) f.opens j (omega arith) last))
      (λ (g : Held n w i m s).
      ap (λ (x : ℕ). base_of n after x (chunk_of j)) own ∙ base-own j last ∙ g.base ∙ sym (ap₂ (base_of n w) own last))
      P.kind)
      (λ r. base-other k j h l (λ _. eqb-false (chunk_of j) s.chunk r)))
      (λ q. base-other k j h l (λ y _. eqb-false k i q y))

  pub stored_grown : Grown n i m (record { version = v; old = o }) (view_of n w) (view_of n after)
  stored_grown = record {
    cell = P.cell;
    was = sym P.is;
    grew = stored-length (planned_inside P) v o ∙ P.length;
    others = stored-lengths (planned_inside P) v o;
    kept = λ k j h l. place_by k j (base_of n w k (chunk_of j)) (base_kept k j h l);
    kind =
        ⊎_elim
        (λ (f : Fresh n w m s). inl (record {
          opens = f.opens;
          bump = bump-own ∙ f.bump;
          places = λ t h.
              place_by i (m + t) (bump_of w) (base-own (m + t) (fresh-chunk m (let c = small in omega arith) f.opens t h) ∙ f.base)
              ∙ ap (λ (x : ℕ). bump_of w + x) (fresh-offset m (let c = small in omega arith) f.opens t h);
        }))
        (λ (g : Held n w i m s). inr (record { stands = g.stands; bump = bump-own ∙ g.bump }))
        P.kind;
    put = ap (view_of n after).entry place-own ∙ stored-entry (planned_inside P) v o;
    rest = λ p d. stored-entries (planned_inside P) v o p (λ q. d (q ∙ sym place-own));
  }
    where
      bump-own : bump_of after ≡ s.bump
      bump-own = stored-bump (planned_inside P) v o

-- ---- a sound block with fewer than n entries has room

module _ {n : ℕ} {w : List ℕ} (L : Laid n w) (i : ℕ) (h : i < n) (less : sum_to n (length_of n w) < n) where
  short : length_of n w i < n
  short = let a = sum-at n i (length_of n w) h in omega arith

  told : length_in n w i ≡ Ok (length_of n w i)
  told = length-reads i h L ∙ ap Ok (log-length_at n w i h)

  room-opens : offset_of (length_of n w i) ≡ 0 → (s : Spot) × (room_in n w i ≡ Some s)
  unfolding room_in room_under fresh_room
  room-opens z =
      let f = L.sized.few in
      let l = short in
      let a = fresh-before (length_of n w i) (omega arith) z in
      let t = L.sound.tally in
      let r = arena-room n in
      let u = sum_slack n i (λ (k : ℕ). space_of (length_of n w k)) (length_of n w) h (λ k g. space-most (length_of n w k) (let y = L.sound.short k g in omega arith)) in
      (fresh_spot w (length_of n w i), simp (told, lt-ltb _ _ l, eq-eqb _ _ z, le-leb (bump_of w + (length_of n w i + 1)) (arena n) (omega arith)))

  room-stands : (offset_of (length_of n w i) ≡ 0 → ⊥) → (s : Spot) × (room_in n w i ≡ Some s)
  unfolding room_in room_under held_room
  room-stands z =
      let f = L.sized.few in
      let l = short in
      let a = held_after (length_of n w i) (omega arith) z in
      let b = space_least (length_of n w i + 1) (omega arith) in
      let c = L.sound.below i (length_of n w i) h (omega arith) in
      let r = L.sound.fits in
      (held_spot n w i (length_of n w i), simp (told, lt-ltb _ _ l, ne_eqb _ _ z, lt-ltb (place_of n w i (length_of n w i)) (arena n) (omega arith)))

  pub room-found : (s : Spot) × (room_in n w i ≡ Some s)
  room-found = by_test (eqb (offset_of (length_of n w i)) 0) (λ e. room-opens (eqb-true _ _ e)) (λ e. room-stands (eqb-false _ _ e))

-- ---- the law

module _ (n : ℕ) (w : List ℕ) (i m : ℕ) (s : Spot) (v o : ℕ) (L : Laid n w) (P : Planned n w i m s) (less : sum_to n (length_of n w) < n) where
  abbrev next : List ℕ
  next = stored n w i s v o

  few : n < 2 ^ 31
  few = let f = L.sized.few in omega arith

  own : log_of (view_of n next) i ≡ get_or (list_to n (log_of (view_of n w))) i [] ++ (record { version = v; old = o } ∷ [])
  own =
      grown_own few (arena-room n) L.sound (stored_grown n w i m s v o L P) less
      ∙ ap (λ (x : List Entry). x ++ (record { version = v; old = o } ∷ [])) (sym (list_to-get n (log_of (view_of n w)) i [] P.cell))

  next_sized : Sized n next
  next_sized = let z = L.sized in record { some = z.some; few = z.few; long = stored-long (planned_inside P) v o ∙ z.long }

  stored-done : Done n w next (appended (block_of n w) i v o)
  unfolding block_of with_log
  stored-done = record {
    sized = next_sized;
    block = λ t. record {
      version = stored-version (planned_inside P) v o t;
      cells = list_to-same n (cell_of n next) (cell_of n w) (stored-cell (planned_inside P) v o) t;
      logs = list_to-set [] n i (log_of (view_of n w)) (log_of (view_of n next)) _ P.cell own (grown_other few (arena-room n) L.sound (stored_grown n w i m s v o L P) less) t;
    };
    laid = λ _. record { sized = next_sized; sound = grown_sound few (arena-room n) L.sound (stored_grown n w i m s v o L P) less };
  }

pub append-done : {n : ℕ} {w : List ℕ} (L : Laid n w) (i v o : ℕ) → i < n → entries_in n (block_of n w) < n
    → ((append_in n w i v o).1 ≡ true) × Done n w (append_in n w i v o).0 (appended (block_of n w) i v o)
unfolding append_in append_at
append-done {n} {w} L i v o h less =
    let l : sum_to n (length_of n w) < n = rw (entries_are n w) at less in
    let r = room-found L i h l in
    let p = room_planned n w i r.0 r.1 in
    rw r.1 (refl, stored-done n w i p.0 r.0 v o L p.1 l)
