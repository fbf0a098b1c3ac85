-- Laws of a log's chunks: where entry j lies in them, and how many places they have, before and after one entry more.
-- Rests on Layout.
use Rattle.std.specs.Prelude.{ℕ, suc, ◌+◌, ◌*◌, ◌-◌, ◌%◌, ◌^◌, ◌≤◌, ◌<◌, ◌≡◌}
use Rattle.std.proofs.Common.{sym, ◌∙◌, subst, le_trans, lt_of_lt_of_le, le_antisymm, le_of_suc-le-suc, lt_of_not-le, not-le_of_lt, pow-suc, mod-eq_of_lt, one-mul, arith, pow_pos, pow_mono}
use Rattle.std.proofs.Math.Path.{ap}
use Rattle.std.specs.Int.Count.{count_leading_zeros}
use Rattle.std.proofs.lemmas.Nat.{leading_le, leading_top, leading_length}
use Rattle.rulebook.specs.Sizes.{most_cells, directory_width}
use Rattle.block.specs.Layout.{most_places, chunk_of, offset_of, space_of}

-- ---- entry j's chunk and its place there

pub record InChunk (j c : ℕ) : Type 0 where
  pub low : 2 ^ c ≤ j + 1
  pub high : j + 1 < 2 ^ suc c

chunk_le : {j c d : ℕ} → InChunk j c → InChunk j d → c ≤ d
chunk_le p q = le_of_suc-le-suc (lt_of_not-le (λ g. not-le_of_lt (lt_of_lt_of_le q.high (pow_mono g)) p.low))

pub chunk-fits : (j : ℕ) → j < 4294967295 → count_leading_zeros 32 (j + 1) ≤ 31
chunk-fits j h = let t = leading_top 32 (j + 1) (omega arith) (omega arith) in omega (arith, t.1)

pub chunk_in : (j : ℕ) → j < 4294967295 → InChunk j (chunk_of j)
unfolding chunk_of
chunk_in j h =
    let t = leading_top 32 (j + 1) (omega arith) (omega arith) in
    let e : 31 - count_leading_zeros 32 (j + 1) ≡ t.0 = omega (arith, t.1) in
    subst (λ (c : ℕ). InChunk j c) (sym e) (record { low = t.2; high = t.3 })

pub chunk-is : (j c : ℕ) → j < 4294967295 → InChunk j c → chunk_of j ≡ c
chunk-is j c h t = le_antisymm (chunk_le (chunk_in j h) t) (chunk_le t (chunk_in j h))

pub chunk_lt : (k j : ℕ) → j < 4294967295 → j + 1 < 2 ^ k → chunk_of j < k
chunk_lt k j h l = lt_of_not-le (λ g. not-le_of_lt l (le_trans (pow_mono g) (chunk_in j h).low))

pub offset-is : (j : ℕ) → j < 4294967295 → 2 ^ chunk_of j + offset_of j ≡ j + 1
unfolding offset_of
offset-is j h = let l = (chunk_in j h).low in omega arith

-- ---- the places of a log of m entries

-- space_of m is 2^k - 1 where m < 2^k ≤ 2m + 1
space_width : (m : ℕ) → m < 2 ^ 32 → (k : ℕ) × (m < 2 ^ k) × (2 ^ k ≤ 2 * m + 1) × (space_of m ≡ 2 ^ k - 1) × (count_leading_zeros 32 m + k ≡ 32)
unfolding space_of
space_width m f =
    let s = leading_length 32 m f in
    let e : 32 - count_leading_zeros 32 m ≡ s.0 = omega (arith, s.1) in
    (s.0, s.2, s.3, ap (λ (x : ℕ). 2 ^ x - 1) e, s.1)

width_le : (m a b : ℕ) → 2 ^ a ≤ 2 * m + 1 → m < 2 ^ b → a ≤ b
width_le m a b p q = le_of_suc-le-suc (lt_of_not-le (λ (g : suc b ≤ a).
    let r : 2 ^ suc b ≤ 2 ^ a = pow_mono g in
    let t : 2 ^ suc b ≡ 2 ^ b * 2 = pow-suc 2 b in
    omega arith))

pub space-is : (m k : ℕ) → m < 2 ^ 32 → m < 2 ^ k → 2 ^ k ≤ 2 * m + 1 → space_of m ≡ 2 ^ k - 1
space-is m k f h l =
    let s = space_width m f in
    s.3 ∙ ap (λ (x : ℕ). 2 ^ x - 1) (le_antisymm (width_le m s.0 k s.2 h) (width_le m k s.0 l s.1))

-- every entry has a place, and at most half of the places have none
pub space-most : (m : ℕ) → m < 2 ^ 32 → space_of m ≤ 2 * m
space-most m f = let s = space_width m f in omega (arith, s.2, s.3)

pub space_least : (m : ℕ) → m < 2 ^ 32 → m ≤ space_of m
space_least m f = let s = space_width m f in omega (arith, s.1, s.3)

pub space-below : (k m : ℕ) → m < 2 ^ 32 → m < 2 ^ k → space_of m < 2 ^ k
space-below k m f h =
    let s = space_width m f in
    let a : 2 ^ s.0 ≤ 2 ^ k = pow_mono (width_le m s.0 k s.2 h) in
    let z = pow_pos s.0 in
    omega (arith, s.3)

-- ---- one entry more

module _ (m : ℕ) (f : m < 2 ^ 31) where
  -- m + 1 is a power of two: entry m opens a chunk of m + 1 places
  module _ (z : offset_of m ≡ 0) where
    opens : 2 ^ chunk_of m ≡ m + 1
    opens = let o = offset-is m (omega arith) in omega arith

    pub fresh-before : space_of m ≡ m
    fresh-before =
        let e = opens in
        let a : space_of m ≡ 2 ^ chunk_of m - 1 = space-is m (chunk_of m) (omega arith) (omega arith) (omega arith) in
        omega arith

    pub fresh-after : space_of (m + 1) ≡ m + (m + 1)
    fresh-after =
        let e = opens in
        let t : 2 ^ suc (chunk_of m) ≡ 2 ^ chunk_of m * 2 = pow-suc 2 (chunk_of m) in
        let a : space_of (m + 1) ≡ 2 ^ suc (chunk_of m) - 1 = space-is (m + 1) (suc (chunk_of m)) (omega arith) (omega arith) (omega arith) in
        omega arith

    -- its places are those of entries m, .. 2m, in order
    pub fresh-chunk : (t : ℕ) → t ≤ m → chunk_of (m + t) ≡ chunk_of m
    fresh-chunk t h =
        let e = opens in
        let d : 2 ^ suc (chunk_of m) ≡ 2 ^ chunk_of m * 2 = pow-suc 2 (chunk_of m) in
        chunk-is (m + t) (chunk_of m) (omega arith) (record { low = omega arith; high = omega arith })

    pub fresh-offset : (t : ℕ) → t ≤ m → offset_of (m + t) ≡ t
    fresh-offset t h =
        let e = opens in
        let o = offset-is (m + t) (omega arith) in
        let p : 2 ^ chunk_of (m + t) ≡ 2 ^ chunk_of m = ap (λ (x : ℕ). 2 ^ x) (fresh-chunk t h) in
        omega arith

    -- and no earlier entry's
    pub fresh-new : (j : ℕ) → j < m → chunk_of j ≡ chunk_of m → ⊥
    fresh-new j h q =
        let e = opens in
        let l = (chunk_in j (omega arith)).low in
        let g = (chunk_in m (omega arith)).low in
        let p : 2 ^ chunk_of j ≡ 2 ^ chunk_of m = ap (λ (x : ℕ). 2 ^ x) q in
        omega arith

  -- else entry m has its place in the last chunk
  pub held_after : (offset_of m ≡ 0 → ⊥) → space_of (m + 1) ≡ space_of m
  held_after z =
      let o = offset-is m (omega arith) in
      let i = chunk_in m (omega arith) in
      let l = i.low in
      let h = i.high in
      let t : 2 ^ suc (chunk_of m) ≡ 2 ^ chunk_of m * 2 = pow-suc 2 (chunk_of m) in
      let y : 0 < offset_of m = lt_of_not-le (λ g. z (omega arith)) in
      let a : space_of m ≡ 2 ^ suc (chunk_of m) - 1 = space-is m (suc (chunk_of m)) (omega arith) (omega arith) (omega arith) in
      let b : space_of (m + 1) ≡ 2 ^ suc (chunk_of m) - 1 = space-is (m + 1) (suc (chunk_of m)) (omega arith) (omega arith) (omega arith) in
      omega arith

-- ---- the directory is wide enough for a log of at most n entries

pub space-small : (m : ℕ) → m ≤ most_cells → space_of m < most_places
space-small m h =
    let l : m < 2 ^ 13 = omega arith in
    space-below 13 m (omega arith) l

pub width_holds : (n m j : ℕ) → n ≤ most_cells → m ≤ n → j < space_of m → chunk_of j < directory_width n
unfolding directory_width
width_holds n m j f h l =
    let s = space-small m (omega arith) in
    let t : j + 1 < 2 ^ 13 = omega arith in
    chunk_lt 13 j (omega arith) t

-- ---- what the code computes by shifts: rules for the proofs of `chunk`, `offset` and `space`

shifted : (c : ℕ) → 2 ^ c < 4294967296 → (1 * 2 ^ c) % 4294967296 ≡ 2 ^ c
shifted c h = ap (λ (x : ℕ). x % 4294967296) (one-mul (2 ^ c)) ∙ mod-eq_of_lt h

module _ (j c : ℕ) (e : c ≡ chunk_of j) (h : j < 4294967295) where
  one_shifted : (1 * 2 ^ c) % 4294967296 ≡ 2 ^ chunk_of j
  one_shifted = let l = (chunk_in j h).low in rw e (shifted (chunk_of j) (omega arith))

  pub offset-below : (1 * 2 ^ c) % 4294967296 ≤ j + 1
  offset-below = let l = (chunk_in j h).low in let s = one_shifted in omega arith

  pub offset_as : j + 1 - (1 * 2 ^ c) % 4294967296 ≡ offset_of j
  offset_as = let o = offset-is j h in let s = one_shifted in omega arith

module _ (m : ℕ) (h : m ≤ most_cells) where
  digits-few : 32 - count_leading_zeros 32 m < 14
  digits-few =
      let s = space_width m (omega arith) in
      let l : m < 2 ^ 13 = omega arith in
      let w = width_le m s.0 13 s.2 l in
      omega (arith, s.4)

  pub digits_fit : 32 - count_leading_zeros 32 m < 32
  digits_fit = let f = digits-few in omega arith

  space-shifted : (1 * 2 ^ (32 - count_leading_zeros 32 m)) % 4294967296 ≡ 2 ^ (32 - count_leading_zeros 32 m)
  space-shifted =
      let f : 32 - count_leading_zeros 32 m ≤ 13 = (let f = digits-few in omega arith) in
      let l : 2 ^ (32 - count_leading_zeros 32 m) ≤ 2 ^ 13 = pow_mono f in
      shifted (32 - count_leading_zeros 32 m) (omega arith)

  pub space-some : 1 ≤ (1 * 2 ^ (32 - count_leading_zeros 32 m)) % 4294967296
  space-some = let z = pow_pos (32 - count_leading_zeros 32 m) in let s = space-shifted in omega arith

  pub space_as : (1 * 2 ^ (32 - count_leading_zeros 32 m)) % 4294967296 - 1 ≡ space_of m
  unfolding space_of
  space_as = ap (λ (x : ℕ). x - 1) space-shifted

  pub space-top : (1 * 2 ^ (32 - count_leading_zeros 32 m)) % 4294967296 - 1 < most_places
  space-top = let s = space_as in let l = space-small m h in omega arith

pub ruleset shifts = (chunk-fits, offset-below, offset_as, leading_le, digits_fit, space-some, space_as, space-top)
