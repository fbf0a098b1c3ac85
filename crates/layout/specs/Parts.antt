-- A part of a list of words, a splice into it, and rows of one width: what is read after a splice.
-- Rests on nothing.
use Rattle.std.specs.Prelude.{ℕ, ◌+◌, ◌-◌, ◌*◌, ◌≤◌, ◌<◌, ◌≡◌, List, ◌++◌, take}
use Rattle.std.proofs.Common.{sym, ◌∙◌, length-append, length-drop, take-append-drop, drop_at, ext_get_or}
use Rattle.std.proofs.Math.Path.{ap}
use native.Mathlib.Omega.{arith}
use Rattle.std.proofs.Math.ListN.{length, drop, get_or, length-take, get_or-append}
use Rattle.std.proofs.Math.Seq.{length-take-le, take_at, get_or-append-add, get_or-take, get_or-drop}

-- the words s to e of p
unfoldable pub part : List ℕ → ℕ → ℕ → List ℕ
part p s e = take (e - s) (drop s p)

-- p with w in place of the words s to e
unfoldable pub splice : List ℕ → ℕ → ℕ → List ℕ → List ℕ
splice p s e w = take s p ++ (w ++ drop (e - s) (drop s p))

-- row j of the rows of one width that begin at base
abbrev pub row_part : List ℕ → ℕ → ℕ → ℕ → List ℕ
row_part p base width j = part p (base + width * j) (base + width * j + width)

abbrev pub put_row : List ℕ → ℕ → ℕ → ℕ → List ℕ → List ℕ
put_row p base width j w = splice p (base + width * j) (base + width * j + width) w

-- s to e lies in p, and w is as long
pub record Fitting (p : List ℕ) (s e : ℕ) (w : List ℕ) : Type 0 where
  pub order : s ≤ e
  pub within : e ≤ length p
  pub long : length w ≡ e - s

pub length_part : (p : List ℕ) (s e : ℕ) → s ≤ e → e ≤ length p → length (part p s e) ≡ e - s
unfolding part
length_part p s e a b = simp (length-take, length-drop) (omega arith)

pub get_or-part : (p : List ℕ) (s e i : ℕ) → i < e - s → get_or (part p s e) i 0 ≡ get_or p (s + i) 0
unfolding part
get_or-part p s e i h = rw (get_or-take, get_or-drop)

-- what is read of a part, beyond its end too, where the list is as another one from its start on
pub part_same : (p q : List ℕ) (s e : ℕ) → s ≤ e → e ≤ length p → e ≤ length q → ((i : ℕ) → s ≤ i → i < e → get_or p i 0 ≡ get_or q i 0)
    → part p s e ≡ part q s e
part_same p q s e h a b same =
    let l = length_part p s e h a in
    let m = length_part q s e h b in
    ext_get_or 0 _ _ (omega arith)
    (λ i w. get_or-part p s e i (omega arith) ∙ same (s + i) (omega arith) (omega arith) ∙ sym (get_or-part q s e i (omega arith)))

-- what was there, put there
pub splice-same : (p : List ℕ) (s e : ℕ) → splice p s e (part p s e) ≡ p
unfolding splice part
splice-same p s e = rw (take-append-drop, take-append-drop)

module _ (p : List ℕ) (s e : ℕ) (w : List ℕ) (f : Fitting p s e w) where
  pub splice-length : length (splice p s e w) ≡ length p
  unfolding splice
  splice-length = simp (length-append, length-take, length-drop) (omega arith)

  pub splice-before : (i : ℕ) → i < s → get_or (splice p s e w) i 0 ≡ get_or p i 0
  unfolding splice
  splice-before i h =
      get_or-append (take s p) (w ++ drop (e - s) (drop s p)) 0 i (omega (arith, length-take-le s p (omega arith)))
      ∙ get_or-take s p i 0 h

  pub splice-after : (i : ℕ) → e ≤ i → get_or (splice p s e w) i 0 ≡ get_or p i 0
  unfolding splice
  splice-after i h =
      let l = length-take-le s p (omega arith) in
      let i1 : i ≡ length (take s p) + (length w + (i - e)) = omega arith in
      let i2 : s + (e - s + (i - e)) ≡ i = omega arith in
      ap (λ (n : ℕ). get_or (take s p ++ (w ++ drop (e - s) (drop s p))) n 0) i1
      ∙ get_or-append-add (take s p) (w ++ drop (e - s) (drop s p)) (length w + (i - e)) 0
      ∙ get_or-append-add w (drop (e - s) (drop s p)) (i - e) 0
      ∙ get_or-drop (e - s) (drop s p) (i - e) 0
      ∙ get_or-drop s p (e - s + (i - e)) 0
      ∙ ap (λ (n : ℕ). get_or p n 0) i2

  pub splice-part : part (splice p s e w) s e ≡ w
  unfolding splice part
  splice-part =
      ap (take (e - s)) (drop_at (take s p) (w ++ drop (e - s) (drop s p)) s (length-take-le s p (omega arith)))
      ∙ take_at w (drop (e - s) (drop s p)) (e - s) f.long

  pub part-before : (x y : ℕ) → x ≤ y → y ≤ s → part (splice p s e w) x y ≡ part p x y
  part-before x y h k =
      part_same _ p x y h (omega (arith, splice-length)) (omega arith) (λ i a b. splice-before i (omega arith))

  pub part-after : (x y : ℕ) → x ≤ y → e ≤ x → y ≤ length p → part (splice p s e w) x y ≡ part p x y
  part-after x y h k l =
      part_same _ p x y h (omega (arith, splice-length)) l (λ i a b. splice-after i (omega arith))
