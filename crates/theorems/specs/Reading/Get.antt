-- A get beside the writes of other tasks: whatever is appended between its steps, it answers the value that its handle sees.
-- Rests on Search and Append.
use Rattle.std.specs.Prelude.{◌<◌, ◌≤◌, ℕ, false, List, [], ◌++◌, ◌∷◌, ◌≡◌, refl, eqb, leb, length, take}
use Rattle.std.proofs.Common.{◌∙◌, ap, sym, arith, length-append, length-take, get_or-take, length-take-le, take_all}
use Rattle.std.proofs.lemmas.List.{take-append-le}
use borrow.Author.Tests.{eqb-false, eqb-true}
use Rattle.rulebook.specs.declared.Entry.{Entry}
use Rattle.rulebook.specs.declared.Hand.{Hand}
use Rattle.rulebook.specs.declared.Progress.{Progress}
use Rattle.rulebook.specs.declared.Progress.TheVariants.{Going, Settled}
use Rattle.rulebook.specs.declared.Reading.{Reading}
use Rattle.rulebook.specs.declared.Reading.TheVariants.{Guess, Length, Probe, Version}
use Rattle.rulebook.specs.State.{Block, log_at, no_entry}
use Rattle.rulebook.specs.Steps.{answer, get_step, middle, probed, searching}
use Rattle.rulebook.specs.Tests.{if_case}
use Rattle.theorems.specs.Reading.Append.{entry, value_snoc}
use Rattle.theorems.specs.Reading.Search.{Below, Rises, Sought, sought-end, sought_probe, sought-start, value_none}
use Rattle.theorems.specs.Terms.{value_at, value_in, version_at}

-- the search in the log's first m entries has not ended, and will give x
pub record Searching (l : List Entry) (n : ℕ) (w : Hand) (x : ℕ) : Type 0 where
  pub size : ℕ
  pub inside : size ≤ length l
  pub sought : Sought (take size l) n w
  pub left : w.lo < w.hi
  pub gives : value_in (take size l) n w.guess ≡ x

-- what holds before the step r of a get on the log l, by a handle of number n that sees x
abbrev pub Good : Reading → List Entry → ℕ → Hand → ℕ → Type 0
Good Guess l n w x = Unit
Good Version l n w x = (value_in l n w.guess ≡ x) × (w.found ≡ false)
Good Length l n w x = (value_in l n w.guess ≡ x) × (w.found ≡ false)
Good Probe l n w x = Searching l n w x

-- what holds after it
abbrev pub After : List Entry → ℕ → ℕ → ℕ → Progress → Type 0
After l n i x (Going r w) = Good r l n w x × (w.cell ≡ i)
After l n i x (Settled w) = (answer w ≡ x) × (w.cell ≡ i)

version-take : (k : ℕ) (l : List Entry) (p : ℕ) → p < k → version_at (take k l) p ≡ version_at l p
version-take k l p h = ap (λ (e : Entry). e.version) (get_or-take k l p no_entry h)

pub rises-take : (k : ℕ) (l : List Entry) → Rises l → Rises (take k l)
rises-take k l r p q h inside =
    let fits = simp length-take at inside in
    omega (arith, r p q h (omega arith), version-take k l p (omega arith), version-take k l q (omega arith))

-- a probe below k reads the same of the first k entries
pub probed-take : (k : ℕ) (l : List Entry) (n : ℕ) (w : Hand) → middle w < k → probed (take k l) n w ≡ probed l n w
unfolding probed
probed-take k l n w h = rw (get_or-take k l (middle w) no_entry h)

pub probed-cell : (l : List Entry) (n : ℕ) (w : Hand) → (probed l n w).cell ≡ w.cell
unfolding probed
probed-cell l n w = if_case (λ (q : Hand). q.cell ≡ w.cell) (leb n (version_at l (middle w))) (λ e. refl) (λ e. refl)

-- the search begins
pub search_begins : (l : List Entry) (n x : ℕ) (w : Hand) → value_in l n w.guess ≡ x → 0 < length l → Searching l n (searching w (length l)) x
search_begins l n x w sees some =
    record {
      size = length l;
      inside = omega arith;
      sought = rw (take_all (length l) l (omega arith)) (sought-start l n w);
      left = some;
      gives = rw (take_all (length l) l (omega arith)) sees;
    }

-- and goes on
pub probe_on : (l : List Entry) (n x : ℕ) (w : Hand) → Rises l → (g : Searching l n w x) → Sought (take g.size l) n (probed l n w) × (value_in (take g.size l) n (probed l n w).guess ≡ x)
probe_on l n x w rises g =
    let fits : middle w < g.size = omega (arith, g.left, g.sought.inside, length-take-le g.size l g.inside) in
    let p = sought_probe (take g.size l) n w (rises-take g.size l rises) g.sought g.left in
    rw (← probed-take g.size l n w fits) (p.0, ap (value_in (take g.size l) n) p.2 ∙ g.gives)

module _ (b : Block) (n x : ℕ) (w : Hand) (rises : Rises (log_at b w.cell)) (below : Below (log_at b w.cell) b.version) (sees : value_at b n w.cell ≡ x) where
  -- the get's own step
  pub get_step_lem : (r : Reading) → Good r (log_at b w.cell) n w x → After (log_at b w.cell) n w.cell x (get_step r b n w)
  unfolding get_step value_at
  get_step_lem Guess g = ((sees, refl), refl)
  get_step_lem Version g =
      if_case (After (log_at b w.cell) n w.cell x) (eqb b.version n)
      (λ e. (rw g.1 (sym (value_none (log_at b w.cell) n w.guess (λ j q. omega (arith, below j q, eqb-true b.version n e))) ∙ g.0), refl))
      (λ e. (g, refl))
  get_step_lem Length g =
      if_case (After (log_at b w.cell) n w.cell x) (eqb (length (log_at b w.cell)) 0)
      (λ e. (rw g.1 (sym (value_none (log_at b w.cell) n w.guess (λ j q. absurd (omega (arith, eqb-true (length (log_at b w.cell)) 0 e)))) ∙ g.0), refl))
      (λ e. (search_begins (log_at b w.cell) n x w g.0 (omega (arith, eqb-false (length (log_at b w.cell)) 0 e)), refl))
  get_step_lem Probe g =
      let q = probed (log_at b w.cell) n w in
      let p = probe_on (log_at b w.cell) n x w rises g in
      if_case (After (log_at b w.cell) n w.cell x) (eqb q.lo q.hi)
      (λ e. (sought-end (take g.size (log_at b w.cell)) n q p.0 (eqb-true q.lo q.hi e) ∙ p.1, probed-cell (log_at b w.cell) n w))
      (λ e. (record { size = g.size; inside = g.inside; sought = p.0; left = omega (arith, p.0.order, eqb-false q.lo q.hi e); gives = p.1 }, probed-cell (log_at b w.cell) n w))

-- another task's append to that log, by a set of a handle that is not older
pub good-append : (r : Reading) (l : List Entry) (n m c x : ℕ) (w : Hand) → n ≤ m → value_in l n c ≡ x → Good r l n w x → Good r (l ++ (entry m c ∷ [])) n w x
good-append Guess l n m c x w h sees g = tt
good-append Version l n m c x w h sees g = (value_snoc l m c w.guess n h ∙ sees, g.1)
good-append Length l n m c x w h sees g = (value_snoc l m c w.guess n h ∙ sees, g.1)
good-append Probe l n m c x w h sees g =
    record {
      size = g.size;
      inside = simp length-append (omega (arith, g.inside));
      sought = rw (take-append-le g.size l (entry m c ∷ []) g.inside) g.sought;
      left = g.left;
      gives = rw (take-append-le g.size l (entry m c ∷ []) g.inside) g.gives;
    }
