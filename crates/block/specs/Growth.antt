-- One entry more in a sound view: it is sound again, the log has the entry at its end, and no other log has changed.
-- Rests on Sound and Chunks; nothing here knows how the words lie.
use Rattle.std.specs.Prelude.{ℕ, ◌+◌, ◌*◌, ◌-◌, ◌^◌, ◌≤◌, ◌<◌, ◌≡◌, ◌⊎◌, List, [], ◌∷◌, ◌++◌, eqb, leb}
use Rattle.std.proofs.Common.{sym, ap, ap₂, ◌∙◌, subst, inl, inr, ⊎_elim, add-one, arith, eqb-true, leb-true, leb-false}
use Rattle.std.proofs.lemmas.Bool.{eqb-false}
use Rattle.rulebook.specs.State.{list_to}
use Rattle.rulebook.specs.Tests.{by_test}
use Rattle.rulebook.specs.Lists.{list_to-same, list_to_snoc}
use Rattle.rulebook.specs.declared.Entry.{Entry}
use Rattle.block.specs.Layout.{arena, offset_of, space_of}
use Rattle.block.specs.Sound.{View, log_of, Sound, sum_to}
use Rattle.block.specs.Sums.{sum_one, sum-at, sum_twice}
use Rattle.block.specs.Chunks.{space_least, space-most, fresh-before, fresh-after, held_after}

-- a chunk of m + 1 places is opened at the bump
pub record Opened (i m : ℕ) (v v' : View) : Type 0 where
  pub opens : offset_of m ≡ 0
  pub bump : v'.bump ≡ v.bump + (m + 1)
  pub places : (t : ℕ) → t ≤ m → v'.place i (m + t) ≡ v.bump + t

-- or the last one has a place left
pub record Stayed (m : ℕ) (v v' : View) : Type 0 where
  pub stands : offset_of m ≡ 0 → ⊥
  pub bump : v'.bump ≡ v.bump

-- cell i's log of m entries has grown by e
pub record Grown (n i m : ℕ) (e : Entry) (v v' : View) : Type 0 where
  pub cell : i < n
  pub was : v.len i ≡ m
  pub grew : v'.len i ≡ m + 1
  pub others : (k : ℕ) → k < n → (k ≡ i → ⊥) → v'.len k ≡ v.len k
  pub kept : (k j : ℕ) → k < n → j < space_of (v.len k) → v'.place k j ≡ v.place k j
  pub kind : Opened i m v v' ⊎ Stayed m v v'
  pub put : v'.entry (v'.place i m) ≡ e
  pub rest : (p : ℕ) → (p ≡ v'.place i m → ⊥) → v'.entry p ≡ v.entry p

-- the spaces taken are at most twice the entries
pub space_twice : (n : ℕ) (v : View) → n < 2 ^ 31 → ((i : ℕ) → i < n → v.len i ≤ n) → sum_to n (λ (i : ℕ). space_of (v.len i)) ≤ 2 * sum_to n v.len
space_twice n v few short = sum_twice n (λ (i : ℕ). space_of (v.len i)) v.len (λ k h. space-most (v.len k) (let s = short k h in omega arith))

module _ {n i m : ℕ} {e : Entry} {v v' : View} (few : n < 2 ^ 31) (room : 2 * n ≤ arena n) (S : Sound n v) (G : Grown n i m e v v') (less : sum_to n v.len < n) where
  next : m + 1 ≤ n
  next = let a = sum-at n i v.len G.cell in let w = G.was in omega arith

  more : v.bump ≤ v'.bump
  more = ⊎_elim (λ (o : Opened i m v v'). let b = o.bump in omega arith) (λ (s : Stayed m v v'). let b = s.bump in omega arith) G.kind

  short' : (k : ℕ) → k < n → v'.len k ≤ n
  short' k h =
      by_test (eqb k i)
      (λ q. let a : v'.len k ≡ v'.len i = ap v'.len (eqb-true k i q) in let g = G.grew in let x = next in omega arith)
      (λ q. let a = G.others k h (eqb-false k i q) in let s = S.short k h in omega arith)

  longer : (k : ℕ) → k < n → v.len k ≤ v'.len k
  longer k h =
      by_test (eqb k i)
      (λ q.
      let a : v'.len k ≡ v'.len i = ap v'.len (eqb-true k i q) in
      let b : v.len k ≡ v.len i = ap v.len (eqb-true k i q) in
      let g = G.grew in
      let w = G.was in
      omega arith)
      (λ q. let a = G.others k h (eqb-false k i q) in omega arith)

  -- a place of the log now: one that it had, or place t of the new chunk
  pub record New (k j t : ℕ) : Type 0 where
    pub own : k ≡ i
    pub nth : j ≡ m + t
    pub inside : t ≤ m
    pub opened : Opened i m v v'

  old_or_new : (k j : ℕ) → k < n → j < space_of (v'.len k) → (j < space_of (v.len k)) ⊎ ((t : ℕ) × New k j t)
  old_or_new k j h l =
      by_test (eqb k i)
      (λ q.
      let x = next in
      let a : v'.len k ≡ m + 1 = ap v'.len (eqb-true k i q) ∙ G.grew in
      let b : v.len k ≡ m = ap v.len (eqb-true k i q) ∙ G.was in
      let sa : space_of (v'.len k) ≡ space_of (m + 1) = ap space_of a in
      let sb : space_of (v.len k) ≡ space_of m = ap space_of b in
      ⊎_elim
      (λ (o : Opened i m v v').
      let u = fresh-before m (omega arith) o.opens in
      let w = fresh-after m (omega arith) o.opens in
      by_test (leb m j)
      (λ g. let y = leb-true m j g in inr (j - m, record { own = eqb-true k i q; nth = omega arith; inside = omega arith; opened = o }))
      (λ g. let y = leb-false m j g in inl (omega arith)))
      (λ (s : Stayed m v v'). let u = held_after m (omega arith) s.stands in inl (omega arith))
      G.kind)
      (λ q. inl (rw (ap space_of (G.others k h (eqb-false k i q))) at l))

  new-place : (k j t : ℕ) → New k j t → v'.place k j ≡ v.bump + t
  new-place k j t w = ap₂ v'.place w.own w.nth ∙ w.opened.places t w.inside

  below' : (k j : ℕ) → k < n → j < space_of (v'.len k) → v'.place k j < v'.bump
  below' k j h l =
      ⊎_elim
      (λ (o : j < space_of (v.len k)). let a = S.below k j h o in let p = G.kept k j h o in let b = more in omega arith)
      (λ (w : (t : ℕ) × New k j t). let p = new-place k j w.0 w.1 in let y = w.1.inside in let b = w.1.opened.bump in omega arith)
      (old_or_new k j h l)

  once' : (k j l t : ℕ) → k < n → l < n → j < space_of (v'.len k) → t < space_of (v'.len l) → v'.place k j ≡ v'.place l t → (k ≡ l) × (j ≡ t)
  once' k j l t h g a b q =
      ⊎_elim
      (λ (o : j < space_of (v.len k)).
      ⊎_elim
      (λ (p : t < space_of (v.len l)). S.once k j l t h g o p (sym (G.kept k j h o) ∙ q ∙ G.kept l t g p))
      (λ (w : (x : ℕ) × New l t x).
      let c = S.below k j h o in
      let d = G.kept k j h o in
      let y = new-place l t w.0 w.1 in
      absurd (omega arith))
      (old_or_new l t g b))
      (λ (w : (x : ℕ) × New k j x).
      let y = new-place k j w.0 w.1 in
      ⊎_elim
      (λ (p : t < space_of (v.len l)).
      let c = S.below l t g p in
      let d = G.kept l t g p in
      absurd (omega arith))
      (λ (z : (x : ℕ) × New l t x).
      let y₂ = new-place l t z.0 z.1 in
      let a₁ = w.1.nth in
      let a₂ = z.1.nth in
      (w.1.own ∙ sym z.1.own, omega arith))
      (old_or_new l t g b))
      (old_or_new k j h a)

  tally' : v'.bump ≡ sum_to n (λ (k : ℕ). space_of (v'.len k))
  tally' =
      let r = next in
      let s = sum_one n i (λ (k : ℕ). space_of (v.len k)) (λ (k : ℕ). space_of (v'.len k)) G.cell (λ k h q. ap space_of (G.others k h q)) in
      let a : space_of (v.len i) ≡ space_of m = ap space_of G.was in
      let b : space_of (v'.len i) ≡ space_of (m + 1) = ap space_of G.grew in
      let t = S.tally in
      ⊎_elim
      (λ (o : Opened i m v v').
      let x = fresh-before m (omega arith) o.opens in
      let y = fresh-after m (omega arith) o.opens in
      let z = o.bump in
      omega arith)
      (λ (o : Stayed m v v'). let x = held_after m (omega arith) o.stands in let z = o.bump in omega arith)
      G.kind

  fits' : v'.bump ≤ arena n
  fits' =
      let s = space_twice n v' few short' in
      let t = tally' in
      let u = sum_one n i v.len v'.len G.cell G.others in
      let a = G.was in
      let b = G.grew in
      omega arith

  pub grown_sound : Sound n v'
  grown_sound = record { short = short'; below = below'; once = once'; tally = tally'; fits = fits' }

  -- an entry that was there is there still
  same : (k j : ℕ) → k < n → j < v.len k → v'.entry (v'.place k j) ≡ v.entry (v.place k j)
  same k j h l =
      let s = S.short k h in
      let s' = short' k h in
      let x = next in
      let g = longer k h in
      let a = space_least (v.len k) (omega arith) in
      let b = space_least (v'.len k) (omega arith) in
      let c : v'.len i ≤ space_of (v'.len i) = space_least (v'.len i) (let y = short' i G.cell in omega arith) in
      let r = G.grew in
      let apart : v'.place k j ≡ v'.place i m → ⊥ =
      λ q.
      let o = once' k j i m h G.cell (omega arith) (omega arith) q in
      let d : v.len k ≡ v.len i = ap v.len o.0 in
      let w = G.was in
      omega (arith, o.1) in
      G.rest (v'.place k j) apart ∙ ap v.entry (G.kept k j h (omega arith))

  pub grown_other : (k : ℕ) → k < n → (k ≡ i → ⊥) → log_of v' k ≡ log_of v k
  grown_other k h q =
      ap (λ (x : ℕ). list_to x (λ (j : ℕ). v'.entry (v'.place k j))) (G.others k h q)
      ∙ list_to-same (v.len k) (λ (j : ℕ). v'.entry (v'.place k j)) (λ (j : ℕ). v.entry (v.place k j)) (λ j l. same k j h l)

  pub grown_own : log_of v' i ≡ log_of v i ++ (e ∷ [])
  grown_own =
      ap (λ (x : ℕ). list_to x (λ (j : ℕ). v'.entry (v'.place i j))) (G.grew ∙ add-one m)
      ∙ list_to_snoc m (λ (j : ℕ). v'.entry (v'.place i j))
      ∙ ap₂ (λ (l : List Entry) (x : Entry). l ++ (x ∷ []))
      (list_to-same m (λ (j : ℕ). v'.entry (v'.place i j)) (λ (j : ℕ). v.entry (v.place i j)) (λ j l. same i j G.cell (subst (λ (x : ℕ). j < x) (sym G.was) l))
      ∙ ap (λ (x : ℕ). list_to x (λ (j : ℕ). v.entry (v.place i j))) (sym G.was))
      G.put
