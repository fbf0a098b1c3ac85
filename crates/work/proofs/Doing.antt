-- Doing an act: nothing, a task that goes on, one that ends, with or without a touch of its block.
-- Rests on layout's laws of acts.
use Rattle.std.specs.Prelude.{ℕ, Bool, true, false, List, ◌≡◌, refl}
use Rattle.std.proofs.Common.{ap, sym, ◌∙◌}
use Rattle.rulebook.specs.declared.Reply.{Reply}
use Rattle.rulebook.specs.declared.Reply.TheVariants as reply
use Rattle.rulebook.specs.declared.Sizes.{Sizes}
use Rattle.rulebook.specs.declared.Slot.{Slot}
use Rattle.rulebook.specs.declared.Task.{Task}
use Rattle.acts.specs.Plans.{answers, ends, goes, refused}
use Rattle.acts.specs.Told.{refused_as}
use Rattle.acts.specs.Touch.{Touch}
use Rattle.acts.specs.Touch as touch
use Rattle.acts.specs.Acts as change
use Rattle.acts.specs.declared.Refusal.{Refusal}
use Rattle.layout.specs.Acts.{applied_done, applied_not}
use Rattle.layout.specs.Does.{untouched}
use Rattle.layout.specs.Pool.{acted_in, applied_in, put_slot, put_task, seated_in, touch_near, touched_in, touched_near, turned_in}

module _ (p : List ℕ) (d : Sizes) where
  pub does_answers : (r : Reply) → (p, r) ≡ applied_in p d (answers r)
  unfolding applied_in acted_in touched_in touched_near touch_near seated_in turned_in
  does_answers r = refl

  pub does_refused : (r : Refusal) → (p, refused_as r) ≡ applied_in p d (refused r)
  does_refused r = does_answers (refused_as r)

  pub does_slot : (j : ℕ) (y : Slot) (r : Reply) → (put_slot p j y, r) ≡ applied_in p d (record { touch = touch.Nothing; slot = change.To j y; task = change.Same; reply = r })
  unfolding applied_in acted_in touched_in touched_near touch_near seated_in turned_in
  does_slot j y r = refl

  module _ (t : ℕ) (z : Task) (r : Reply) where
    pub does_goes : (put_task p d t z, r) ≡ applied_in p d (goes touch.Nothing t z r)
    unfolding applied_in acted_in touched_in touched_near touch_near seated_in turned_in
    does_goes = refl

    pub does_seats : (j : ℕ) (y : Slot) → (put_task (put_slot p j y) d t z, r) ≡ applied_in p d (ends touch.Nothing j y t z r)
    unfolding applied_in acted_in touched_in touched_near touch_near seated_in turned_in
    does_seats j y = refl

    module _ (x : Touch) (q : List ℕ) where
      module _ (e : (q, true) ≡ touched_in p d x) where
        pub does_touches : (put_task q d t z, r) ≡ applied_in p d (goes x t z r)
        unfolding seated_in turned_in
        does_touches = rw (applied_done p d (goes x t z r) (sym (ap (λ (y : List ℕ × Bool). y.1) e)), ← (ap (λ (y : List ℕ × Bool). y.0) e))

        pub does_ends : (j : ℕ) (y : Slot) → (put_task (put_slot q j y) d t z, r) ≡ applied_in p d (ends x j y t z r)
        unfolding seated_in turned_in
        does_ends j y = rw (applied_done p d (ends x j y t z r) (sym (ap (λ (y : List ℕ × Bool). y.1) e)), ← (ap (λ (y : List ℕ × Bool). y.0) e))

      module _ (e : (q, false) ≡ touched_in p d x) where
        same : q ≡ p
        same = ap (λ (y : List ℕ × Bool). y.0) e ∙ untouched p d x (sym (ap (λ (y : List ℕ × Bool). y.1) e))

        pub goes_not : (q, reply.Refused 2) ≡ applied_in p d (goes x t z r)
        goes_not = rw (applied_not p d (goes x t z r) (sym (ap (λ (y : List ℕ × Bool). y.1) e)), same)

        pub ends_not : (j : ℕ) (y : Slot) → (q, reply.Refused 2) ≡ applied_in p d (ends x j y t z r)
        ends_not j y = rw (applied_not p d (ends x j y t z r) (sym (ap (λ (y : List ℕ × Bool). y.1) e)), same)

pub ruleset doing = (does_answers, does_slot, does_goes, does_seats, does_touches, does_ends, goes_not, ends_not)
