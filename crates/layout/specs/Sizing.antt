-- What the sizes of a store and the header say of each other and of the pool.
-- Rests on Header and Places.
use Rattle.std.specs.Prelude.{IfSome, ℕ, ◌+◌, ◌-◌, ◌*◌, ◌/◌, ◌≤◌, ◌<◌, min, ◌≡◌, refl, true, ◌&&◌, List, length, get_or, ltb, leb, eqb, None, Some, Option}
use Rattle.std.proofs.Common.{sym, ap, ◌∙◌, subst, le_trans, mul-le-mul_left, le-div_iff_mul-le, div-lt_iff_lt-mul, arith, ltb-true, ltb-false, leb-true, eqb-true, le-leb, eq-eqb}
use Rattle.std.proofs.Math.Nat.{min-eq_left, min-eq_right, min-le_left, min-le_right, le-min, mul-div-le}
use Rattle.rulebook.specs.Sizes.{most_cells, most_handles, most_tasks, most_blocks, most_words, header_words, control_words, block_words, room, within, opens}
use Rattle.rulebook.specs.Tests.{by_test, and_both}
use Rattle.rulebook.specs.declared.Sizes.{Sizes}
use Rattle.layout.specs.Places.{Spans}
use Rattle.layout.specs.Header.{mark, form, limited, sizes_of, sizes_in, header_of}

-- ---- the limits

-- what the limits say
pub record Limits (n h t : ℕ) : Type 0 where
  pub some_cells : 1 ≤ n
  pub cells : n ≤ most_cells
  pub some_handles : 1 ≤ h
  pub handles : h ≤ most_handles
  pub some_tasks : 1 ≤ t
  pub tasks : t ≤ most_tasks

pub within_both : (a x b : ℕ) → within a x b ≡ true → (a ≤ x) × (x ≤ b)
within_both a x b h = let z = and_both (leb a x) (leb x b) h in (leb-true a x z.0, leb-true x b z.1)

pub limited_says : (n h t : ℕ) → limited n h t ≡ true → Limits n h t
unfolding limited
limited_says n h t e =
    let a = and_both (within 1 n most_cells) (within 1 h most_handles && within 1 t most_tasks) e in
    let b = and_both (within 1 h most_handles) (within 1 t most_tasks) a.1 in
    let x = within_both 1 n most_cells a.0 in
    let y = within_both 1 h most_handles b.0 in
    let z = within_both 1 t most_tasks b.1 in
    record { some_cells = x.0; cells = x.1; some_handles = y.0; handles = y.1; some_tasks = z.0; tasks = z.1 }

-- the limits, the length, the room for one block
pub opens_by : (n h t words : ℕ) → opens n h t words ≡ (limited n h t && (leb words most_words && leb 1 (room n h t words)))
unfolding opens limited
opens_by n h t words = by_test (within 1 n most_cells) (λ a. rw a (by_test (within 1 h most_handles) (λ b. rw b) (λ b. rw b))) (λ a. rw a)

block-some : (n : ℕ) → 0 < block_words n
unfolding block_words
block-some n = omega arith

-- so many blocks have room, and no more
pub room-none : (n h t words : ℕ) → words < control_words h t + block_words n → room n h t words ≡ 0
unfolding room
room-none n h t words l =
    let q = (div-lt_iff_lt-mul {k = block_words n} {x = words - control_words h t} {y = 1} (block-some n)).1 (let s = block-some n in omega arith) in
    let e : (words - control_words h t) / block_words n ≡ 0 = omega arith in
    ap (min most_blocks) e

pub room-some : (n h t words : ℕ) → control_words h t + block_words n ≤ words → 1 ≤ room n h t words
unfolding room
room-some n h t words l = le-min (omega arith) ((le-div_iff_mul-le {k = block_words n} {x = 1} (block-some n)).1 (omega arith))

pub block_positive : (n z : ℕ) → z ≡ block_words n → 0 < z
block_positive n z e = let s = block-some n in omega arith

pub room_fits : (n h t words : ℕ) → 1 ≤ room n h t words → control_words h t + block_words n * room n h t words ≤ words
unfolding room
room_fits n h t words some =
    let m : room n h t words ≤ (words - control_words h t) / block_words n = min-le_right most_blocks _ in
    let a : block_words n * room n h t words ≤ words - control_words h t = le_trans (mul-le-mul_left (block_words n) m) (mul-div-le _ _) in
    let b : block_words n * 1 ≤ block_words n * room n h t words = mul-le-mul_left (block_words n) some in
    let z = block-some n in
    omega arith

-- a block that is not among them would end beyond the words
pub room-all : (n h t words k : ℕ) → k < most_blocks → room n h t words ≤ k → words < control_words h t + block_words n * k + block_words n
unfolding room
room-all n h t words k few l =
    let x = (words - control_words h t) / block_words n in
    let e : x < k + 1 = by_test (ltb x most_blocks)
    (λ a. omega (arith, min-eq_right {n = x} {m = most_blocks} (omega (arith, ltb-true x most_blocks a))))
    (λ a. absurd (omega (arith, min-eq_left {n = most_blocks} {m = x} (ltb-false x most_blocks a)))) in
    let f = (div-lt_iff_lt-mul {k = block_words n} {x = words - control_words h t} {y = k + 1} (block-some n)).0 e in
    omega arith

room_most : (n h t words : ℕ) → room n h t words ≤ most_blocks
unfolding room
room_most n h t words = min-le_left most_blocks _

-- ---- when a pool may be opened

pub record Openable (n h t words : ℕ) : Type 0 where
  pub limits : Limits n h t
  pub few : words ≤ most_words
  pub some : 1 ≤ room n h t words
  pub most : room n h t words ≤ most_blocks
  pub fits : control_words h t + block_words n * room n h t words ≤ words

pub opens_says : (n h t words : ℕ) → opens n h t words ≡ true → Openable n h t words
opens_says n h t words e =
    let a = and_both (limited n h t) (leb words most_words && leb 1 (room n h t words)) (sym (opens_by n h t words) ∙ e) in
    let b = and_both (leb words most_words) (leb 1 (room n h t words)) a.1 in
    let s = leb-true 1 (room n h t words) b.1 in
    record { limits = limited_says n h t a.0; few = leb-true words most_words b.0; some = s; most = room_most n h t words; fits = room_fits n h t words s }

bad-good : {A : Type 0} {d : Sizes} → None ≡ Some d → A
bad-good q = let z : ◌≡◌ {A = ℕ} 0 1 = cc in absurd (omega arith)

pub sizes-good : (n h t words : ℕ) (d : Sizes) → sizes_in n h t words ≡ Some d → (opens n h t words ≡ true) × (sizes_of n h t words ≡ d)
unfolding sizes_in
sizes-good n h t words d e =
    by_test (opens n h t words)
    (λ o. (o, (let q : Some (sizes_of n h t words) ≡ Some d = rw o at e in cc)))
    (λ o. bad-good (rw o at e))

-- ---- the header

-- what words 0 to 5 say, and that B is the room
pub record Described (d : Sizes) (p : List ℕ) : Type 0 where
  pub long : header_words ≤ length p
  pub mark : get_or p 0 0 ≡ mark
  pub cells : get_or p 1 0 ≡ d.n
  pub handles : get_or p 2 0 ≡ d.h
  pub tasks : get_or p 3 0 ≡ d.t
  pub words : get_or p 4 0 ≡ length p
  pub form : get_or p 5 0 ≡ form
  pub blocks : d.b ≡ room d.n d.h d.t (length p)
  pub opens : opens d.n d.h d.t (length p) ≡ true

pub header_describes : (p : List ℕ) (d : Sizes) → header_of p ≡ Some d → Described d p
unfolding header_of
header_describes p d e =
    by_test (leb header_words (length p) && (eqb (get_or p 0 0) mark && (eqb (get_or p 5 0) form && eqb (get_or p 4 0) (length p))))
    (λ o.
    let a = and_both (leb header_words (length p)) _ o in
    let b = and_both (eqb (get_or p 0 0) mark) _ a.1 in
    let c = and_both (eqb (get_or p 5 0) form) _ b.1 in
    let g = sizes-good (get_or p 1 0) (get_or p 2 0) (get_or p 3 0) (length p) d (rw o at e) in
    subst (λ (x : Sizes). Described x p) g.1
    (record {
      long = leb-true header_words (length p) a.0;
      mark = eqb-true (get_or p 0 0) mark b.0;
      cells = refl;
      handles = refl;
      tasks = refl;
      words = eqb-true (get_or p 4 0) (length p) c.1;
      form = eqb-true (get_or p 5 0) form c.0;
      blocks = refl;
      opens = g.0;
    }))
    (λ o. bad-good (rw o at e))

pub described-header : (p : List ℕ) (d : Sizes) → Described d p → header_of p ≡ Some d
unfolding header_of sizes_in
described-header p d s =
    rw (le-leb header_words (length p) s.long, eq-eqb _ _ s.mark, eq-eqb _ _ s.form, eq-eqb _ _ s.words, s.cells, s.handles, s.tasks, s.opens)
    (ap (λ (b : ℕ). Some (record { n = d.n; h = d.h; t = d.t; b = b })) (sym s.blocks))

pub described-spans : (p : List ℕ) (d : Sizes) → Described d p → Spans d p
described-spans p d s =
    let o = opens_says d.n d.h d.t (length p) s.opens in
    let l = o.limits in
    let b = s.blocks in
    record {
      some_cells = l.some_cells;
      some_handles = l.some_handles;
      some_tasks = l.some_tasks;
      some_blocks = rw b o.some;
      cells = l.cells;
      handles = l.handles;
      tasks = l.tasks;
      blocks = rw b o.most;
      long = rw b o.fits;
      room = b;
    }

pub header-spans : (p : List ℕ) (d : Sizes) → header_of p ≡ Some d → Spans d p
header-spans p d e = described-spans p d (header_describes p d e)

-- the sizes that a header says are those of the pool
pub spanned : (p : List ℕ) (h : Option Sizes) → h ≡ header_of p → IfSome h (λ d. Spans d p)
spanned p None e = tt
spanned p (Some d) e = header-spans p d (sym e)
