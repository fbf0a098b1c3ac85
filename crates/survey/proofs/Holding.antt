-- No other task holds what a task holds: from task to task, and that it is what rule 6 says.
use Rattle.std.specs.Prelude.{◌+◌, ◌<◌, ℕ, suc, zero, Bool, false, true, List, ◌≡◌, refl, Option, Some, eqb}
use Rattle.std.proofs.Common.{◌∙◌, sym}
use Rattle.std.specs.Option.{option_eq}
use borrow.Author.Tests.{eq-eqb, eqb-false, eqb-true, ne_eqb}
use Rattle.rulebook.specs.declared.Sizes.{Sizes}
use Rattle.rulebook.specs.declared.Stage.{Stage}
use Rattle.rulebook.specs.declared.Task.{Task}
use Rattle.rulebook.specs.State.{fills, reserves}
use Rattle.rulebook.specs.Tests.{by_test}
use Rattle.layout.specs.Places.{task_part}
use Rattle.layout.specs.Rows.{task_read}
use Rattle.theorems.specs.Terms.{all_to}
use Rattle.survey.specs.Broken.{fresh_apart, target_apart}
use Rattle.survey.specs.Decide.{◌implies◌}
use Rattle.survey.specs.Rules.{task}
use Rattle.survey.proofs.Ways.{task_as, all-stop, all-on}
use Rattle.survey.specs.Held.{held_by, reserved_by, filled_by, alone_at}

all_same : (f g : ℕ → Bool) → ((i : ℕ) → f i ≡ g i) → (n : ℕ) → all_to f n ≡ all_to g n
unfolding all_to
all_same f g h zero = refl
all_same f g h (suc n) = rw (all_same f g h n, h n)

flip : (a b : ℕ) → eqb a b ≡ eqb b a
flip a b = by_test (eqb a b) (λ e. e ∙ sym (eq-eqb b a (sym (eqb-true a b e)))) (λ e. e ∙ sym (ne_eqb b a (λ z. eqb-false a b e (sym z))))

-- no task but t holds what the task x, which is task t, does
module _ (d : Sizes) (p : List ℕ) (x : Task) (t : ℕ) where
  module _ (f : Stage → Bool) (g : Task → ℕ) where
    apart_at : (u : ℕ) → alone_at d p (held_by f g) t (g x) u ≡ (f (task d p u).stage implies (eqb (g x) (g (task d p u)) implies eqb t u))
    unfolding alone_at
    apart_at u = by_test (f (task d p u).stage) (λ e. rw (e, flip (g (task d p u)) (g x))) (λ e. rw e)

    pub alone_held : (n : ℕ) → all_to (alone_at d p (held_by f g) t (g x)) n ≡ all_to (λ (u : ℕ). f (task d p u).stage implies (eqb (g x) (g (task d p u)) implies eqb t u)) n
    alone_held n = all_same _ _ apart_at n

  pub alone_fresh : (n : ℕ) → all_to (alone_at d p reserved_by t x.fresh) n ≡ all_to (fresh_apart d p x t) n
  unfolding reserved_by fresh_apart
  alone_fresh n = alone_held reserves (λ y. y.fresh) n

  pub alone_target : (n : ℕ) → all_to (alone_at d p filled_by t x.target) n ≡ all_to (target_apart d p x t) n
  unfolding filled_by target_apart
  alone_target n = alone_held fills (λ y. y.target) n

-- ---- from task to task: what task u holds is r

module _ (d : Sizes) (p : List ℕ) (held : Task → Option ℕ) (t thing u : ℕ) (l : u < d.t) (x : Task) (e : x ≡ task_read (task_part p d u))
    (r : Option ℕ) (f : r ≡ held x) where
  holds_as : held (task d p u) ≡ r
  holds_as = rw (task_as d p u x e l) (sym f)

  pub alone_stop : option_eq eqb r (Some thing) ≡ true → (u ≡ t → ⊥) → false ≡ all_to (alone_at d p held t thing) d.t
  alone_stop g o = all-stop (alone_at d p held t thing) u false (unfold alone_at in rw (holds_as, g, ne_eqb t u (λ z. o (sym z)))) d.t l refl

  module _ (so : all_to (alone_at d p held t thing) u ≡ true) where
    pub alone_own : u ≡ t → all_to (alone_at d p held t thing) (u + 1) ≡ true
    alone_own g = all-on (alone_at d p held t thing) u true (unfold alone_at in by_test (option_eq eqb (held (task d p u)) (Some thing)) (λ z. rw (z, eq-eqb t u (sym g))) (λ z. rw z)) so refl

    pub alone_else : option_eq eqb r (Some thing) ≡ false → all_to (alone_at d p held t thing) (u + 1) ≡ true
    alone_else g = all-on (alone_at d p held t thing) u true (unfold alone_at in rw (holds_as, g)) so refl
