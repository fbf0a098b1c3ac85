-- Laws of the lists that the demands speak of: hand-outs of one version, ordered by cell, and their values.
-- Rests on Terms.
use Rattle.std.specs.Prelude.{suc, zero, ℕ, List, [], ◌∷◌, ◌≡◌, refl, eqb, leb, get_or, length}
use Rattle.std.proofs.Common.{◌∙◌, ap, ap₂, arith}
use borrow.Author.Tests.{eqb-true}
use Rattle.rulebook.specs.History.{Value}
use Rattle.rulebook.specs.State.{list_to}
use Rattle.rulebook.specs.Tests.{if_case}
use Rattle.theorems.specs.Terms.{Every, In, by_cell, cells_of, here, insert, more, none, on_version, there, values_of}

pub every_in : {A : Type 0} {P : A → Type 0} {x : A} {l : List A} → Every P l → In x l → P x
every_in {A = A} {P = P} none x = elim x [ ]
every_in (more p e) here = p
every_in (more p e) (there q) = every_in e q

module _ {P : Value → Type 0} where
  every_insert : (r : Value) {l : List Value} → P r → Every P l → Every P (insert r l)
  unfolding insert
  every_insert r p none = more p none
  every_insert r p (more {x = x} {l = l} q e) = if_case (Every P) (leb r.cell x.cell) (λ _. more p (more q e)) (λ _. more q (every_insert r p e))

  pub every_by_cell : {l : List Value} → Every P l → Every P (by_cell l)
  unfolding by_cell
  every_by_cell none = none
  every_by_cell (more p e) = every_insert _ p (every_by_cell e)

  pub every_version : (h : ℕ) {l : List Value} → Every P l → Every (λ (r : Value). P r × (r.handle ≡ h)) (on_version h l)
  unfolding on_version
  every_version h none = none
  every_version h (more {x = x} p e) =
      if_case (Every (λ (r : Value). P r × (r.handle ≡ h))) (eqb x.handle h) (λ b. more (p, eqb-true x.handle h b) (every_version h e)) (λ b. every_version h e)

-- values that are x's at their cells, where the cells are f 0, f 1 ..
pub values_are : (n : ℕ) (f : ℕ → ℕ) (x : List ℕ) {l : List Value} → Every (λ (r : Value). r.value ≡ get_or x r.cell 0) l → cells_of l ≡ list_to n f → values_of l ≡ list_to n (λ (i : ℕ). get_or x (f i) 0)
unfolding cells_of values_of list_to
values_are zero f x none e = refl
values_are zero f x (more p h) e = absurd (omega (arith, ap length e))
values_are (suc n) f x none e = absurd (omega (arith, ap length e))
values_are (suc n) f x (more {x = r} p h) e =
    ap₂ (λ (b : ℕ) (y : List ℕ). b ∷ y) (p ∙ ap (λ (i : ℕ). get_or x i 0) (ap (λ (l : List ℕ). get_or l 0 0) e)) (values_are n (λ (i : ℕ). f (suc i)) x h (ap tail e))
  where
    tail : List ℕ → List ℕ
    tail [] = []
    tail (a ∷ l) = l
