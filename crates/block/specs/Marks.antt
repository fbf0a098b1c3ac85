-- A walk over the pairs (i, j), j below count i, in order, that marks f i j with a 0: what the marks tell, and that f takes no value twice.
-- Rests on nothing.
use Rattle.std.specs.Prelude.{ℕ, ◌+◌, ◌≤◌, ◌<◌, ◌≡◌, refl, ◌⊎◌, List, length, get_or, set, eqb}
use Rattle.std.proofs.Common.{sym, ap, ap₂, ◌∙◌, inl, inr, ⊎_elim, arith, length-set, get_or-set_same, get_or-set_other, eqb-true}
use Rattle.std.proofs.lemmas.Bool.{eqb-false}
use Rattle.rulebook.specs.Tests.{by_test}

module _ (count : ℕ → ℕ) (f : ℕ → ℕ → ℕ) where
  -- the pairs that come before (i, j)
  abbrev pub Before : ℕ → ℕ → ℕ → ℕ → Type 0
  Before i j k t = (t < count k) × ((k < i) ⊎ ((k ≡ i) × (t < j)))

  pub record Walked (size : ℕ) (marks : List ℕ) (i j : ℕ) : Type 0 where
    pub long : length marks ≡ size
    pub blank : (p : ℕ) → p < size → (get_or marks p 0 ≡ 0 → ⊥) → (k t : ℕ) → Before i j k t → f k t ≡ p → ⊥
    pub marked : (p : ℕ) → p < size → get_or marks p 0 ≡ 0 → (k : ℕ) × (t : ℕ) × Before i j k t × (f k t ≡ p)
    pub once : (k t l u : ℕ) → Before i j k t → Before i j l u → f k t ≡ f l u → (k ≡ l) × (t ≡ u)

  none : (k t : ℕ) → Before 0 0 k t → ⊥
  none k t b = ⊎_elim (λ (x : k < 0). omega arith) (λ (x : (k ≡ 0) × (t < 0)). omega (arith, x.1)) b.1

  pub walk_start : (size : ℕ) (marks : List ℕ) → length marks ≡ size → ((p : ℕ) → p < size → get_or marks p 0 ≡ 0 → ⊥) → Walked size marks 0 0
  walk_start size marks l z = record {
    long = l;
    blank = λ p h e k t b _. none k t b;
    marked = λ p h e. absurd (z p h e);
    once = λ k t l u b. absurd (none k t b);
  }

  module _ {size : ℕ} {marks : List ℕ} {i j : ℕ} (w : Walked size marks i j) where
    -- a pair before the next one: before this one, or this one
    later : (k t : ℕ) → Before i (j + 1) k t → Before i j k t ⊎ ((k ≡ i) × (t ≡ j))
    later k t b =
        ⊎_elim
        (λ (x : k < i). inl (b.0, inl x))
        (λ (x : (k ≡ i) × (t < j + 1)).
        by_test (eqb t j) (λ e. inr (x.0, eqb-true t j e)) (λ e. inl (b.0, inr (x.0, omega (arith, x.1, eqb-false t j e)))))
        b.1

    sooner : (k t : ℕ) → Before i j k t → Before i (j + 1) k t
    sooner k t b = (b.0, ⊎_elim (λ (x : k < i). inl x) (λ (x : (k ≡ i) × (t < j)). inr (x.0, omega (arith, x.1))) b.1)

    -- f i j is not marked yet
    pub walk_step : j < count i → f i j < size → (get_or marks (f i j) 0 ≡ 0 → ⊥) → Walked size (set marks (f i j) 0) i (j + 1)
    walk_step h l z = record {
      long = length-set marks (f i j) 0 ∙ w.long;
      blank = λ p q e k t b g.
          by_test (eqb p (f i j))
          (λ x. e (own p (eqb-true p (f i j) x)))
          (λ x.
          ⊎_elim
          (λ (y : Before i j k t). w.blank p q (λ u. e (get_or-set_other marks (f i j) p 0 0 (eqb-false p (f i j) x) ∙ u)) k t y g)
          (λ (y : (k ≡ i) × (t ≡ j)). eqb-false p (f i j) x (sym g ∙ ap₂ f y.0 y.1))
          (later k t b));
      marked = λ p q e.
          by_test (eqb p (f i j))
          (λ x. (i, j, (h, inr (refl, omega arith)), sym (eqb-true p (f i j) x)))
          (λ x.
          let m = w.marked p q (sym (get_or-set_other marks (f i j) p 0 0 (eqb-false p (f i j) x)) ∙ e) in
          (m.0, m.1, sooner m.0 m.1 m.2, m.3));
      once = λ k t a u b c g.
          ⊎_elim
          (λ (y : Before i j k t).
          ⊎_elim
          (λ (x : Before i j a u). w.once k t a u y x g)
          (λ (x : (a ≡ i) × (u ≡ j)). absurd (w.blank (f i j) l z k t y (g ∙ ap₂ f x.0 x.1)))
          (later a u c))
          (λ (y : (k ≡ i) × (t ≡ j)).
          ⊎_elim
          (λ (x : Before i j a u). absurd (w.blank (f i j) l z a u x (sym g ∙ ap₂ f y.0 y.1)))
          (λ (x : (a ≡ i) × (u ≡ j)). (y.0 ∙ sym x.0, y.1 ∙ sym x.1))
          (later a u c))
          (later k t b);
    }
      where
        own : (p : ℕ) → p ≡ f i j → get_or (set marks (f i j) 0) p 0 ≡ 0
        own p x = ap (λ (y : ℕ). get_or (set marks (f i j) 0) y 0) x ∙ get_or-set_same marks (f i j) 0 0 (rw w.long l)

    -- the row is done
    row : count i ≤ j → (k t : ℕ) → Before (i + 1) 0 k t → Before i j k t
    row l k t b =
        ⊎_elim
        (λ (x : k < i + 1).
        by_test (eqb k i)
        (λ e. let a : count k ≡ count i = ap count (eqb-true k i e) in let z = b.0 in (b.0, inr (eqb-true k i e, omega arith)))
        (λ e. (b.0, inl (omega (arith, eqb-false k i e)))))
        (λ (x : (k ≡ i + 1) × (t < 0)). absurd (omega (arith, x.1)))
        b.1

    up : (k t : ℕ) → Before i j k t → Before (i + 1) 0 k t
    up k t b = (b.0, ⊎_elim (λ (x : k < i). inl (omega arith)) (λ (x : (k ≡ i) × (t < j)). inl (omega (arith, x.0))) b.1)

    pub walk_row : count i ≤ j → Walked size marks (i + 1) 0
    walk_row l = record {
      long = w.long;
      blank = λ p q e k t b. w.blank p q e k t (row l k t b);
      marked = λ p q e. let m = w.marked p q e in (m.0, m.1, up m.0 m.1 m.2, m.3);
      once = λ k t a u b c. w.once k t a u (row l k t b) (row l a u c);
    }
