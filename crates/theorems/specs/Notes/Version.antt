-- A step that makes a version: its number is new, and its handle shows its table.
-- Rests on Told.
use Rattle.std.specs.Prelude.{◌%◌, ◌+◌, ◌/◌, ◌<◌, ◌≤◌, ℕ, ◌≡◌, refl, eqb, get_or, length, set}
use mathlib.Core.List.{List, ◌∷◌}
use Rattle.std.proofs.Common.{◌∙◌, ap₂, arith, get_or-set_other, get_or-set_same, eq-eqb, eqb-true}
use Rattle.std.proofs.Math.Path.{ap, subst, sym}
use Rattle.std.proofs.lemmas.Bool.{eqb-false}
use Rattle.rulebook.specs.declared.Slot.{Slot}
use Rattle.rulebook.specs.declared.Status.TheVariants.{Live}
use Rattle.rulebook.specs.Array.{get_table}
use Rattle.rulebook.specs.History.{Numbered, Past, table_of}
use Rattle.rulebook.specs.Sizes.{public_number}
use Rattle.rulebook.specs.State.{State, block_at, freed, idle, slot_at}
use Rattle.rulebook.specs.Tests.{by_test}
use Rattle.theorems.specs.Invariant.Moves.{Goes}
use Rattle.theorems.specs.Invariant.Shape.{Shape}
use Rattle.theorems.specs.Notes.Told.{Known, Old, Shows, Tasks, Told, every_map, live_slot, number-old, number_of, old-on, shown-on, told-on}
use Rattle.theorems.specs.Terms.{Every, Once, more, value_at}

-- ---- a new version

-- the next number_of of a slot is not an old one
pub new_not_old : (s : State) (f h : ℕ) → f < 256 → Old s h → h ≡ public_number f ((slot_at s f).serial + 1) → ⊥
new_not_old s f h small o e =
    let r : h % 256 ≡ f = omega arith in
    let z : h / 256 ≤ (slot_at s f).serial = subst (λ (x : ℕ). h / 256 ≤ (slot_at s x).serial) r o in
    omega arith

pub table-old : (s : State) (f h : ℕ) (x : List ℕ) (vs : List Numbered) → f < 256 → Old s h → table_of (record { handle = public_number f ((slot_at s f).serial + 1); table = x } ∷ vs) h ≡ table_of vs h
unfolding table_of
table-old s f h x vs small o =
    by_test (eqb h (public_number f ((slot_at s f).serial + 1))) (λ e. absurd (new_not_old s f h small o (eqb-true h _ e))) (λ e. rw e)

module _ (p : Past) (told : Told p) (q : Past) (f b n : ℕ) (x : List ℕ) where
  abbrev pub Made-slot : Slot
  Made-slot = record { serial = (slot_at p.store f).serial + 1; status = Live; block = b; number = n }

  pub slots-rise : q.store.slots ≡ set p.store.slots f Made-slot → f < p.store.sizes.h → (j : ℕ) → (slot_at p.store j).serial ≤ (slot_at q.store j).serial
  slots-rise sl in_h j =
      by_test (eqb j f)
      (λ e. omega (arith, ap (λ (c : ℕ). (slot_at p.store c).serial) (eqb-true j f e), ap (λ (z : Slot). z.serial) (ap₂ (λ (l : List Slot) (c : ℕ). get_or l c (freed 0)) sl (eqb-true j f e) ∙ get_or-set_same p.store.slots f Made-slot (freed 0) (omega (arith, in_h, told.shape.slots_len)))))
      (λ e. omega (arith, ap (λ (z : Slot). z.serial) (ap (λ (l : List Slot). get_or l j (freed 0)) sl ∙ get_or-set_other p.store.slots f j Made-slot (freed 0) (eqb-false j f e))))

  -- the task ends, and its slot f carries a handle on block b with number_of n, whose table is x
  pub told-new : (t : ℕ) → Shape q.store → Goes p.store q.store → Tasks p told q t idle
      → q.store.slots ≡ set p.store.slots f Made-slot → f < p.store.sizes.h
      → q.versions ≡ record { handle = public_number f ((slot_at p.store f).serial + 1); table = x } ∷ p.versions
      → length x ≡ q.store.sizes.n → ((i : ℕ) → i < q.store.sizes.n → value_at (block_at q.store b) n i ≡ get_table x i)
      → Told q
  unfolding table_of
  told-new t sh goes c sl in_h vs long sees =
      told-on p told q t idle sh goes c (λ h o. ap (λ (y : List Numbered). table_of y h) vs ∙ table-old p.store f h x p.versions small o)
      (λ j l. by_test (eqb j f)
      (λ e. subst (λ (z : ℕ). Shows q.store z (table_of q.versions (number_of q.store z))) (sym (eqb-true j f e)) there)
      (λ e. let o = unmoved j (eqb-false j f e) in
      let was : (slot_at p.store j).status ≡ Live = ap (λ (z : Slot). z.status) (sym o) ∙ l in
      let fits = live_slot p.store told.shape j was in
      shown-on p told q j _ c.cells goes.1 was o
      (subst (λ (y : List Numbered). Shows p.store j (table_of y (number_of q.store j))) (sym vs)
      (subst (λ (z : Slot). Shows p.store j (table_of (new ∷ p.versions) (public_number j z.serial))) (sym o)
      (subst (Shows p.store j) (sym (table-old p.store f (number_of p.store j) x p.versions small (number-old p.store j (omega (arith, fits, told.shape.few_slots))))) (told.shown j was))))))
      (subst (Every (Known q.store)) (sym vs)
      (more (new-old, long) (every_map (λ v o. (old-on p told q rises v.handle o.0, o.1 ∙ sym c.cells)) told.olds)))
      (subst Once (sym vs) (every_map (λ v o e. new_not_old p.store f v.handle small o.0 e) told.olds, told.once))
    where
      small : f < 256
      small = omega (arith, in_h, told.shape.few_slots)

      new : Numbered
      new = record { handle = public_number f ((slot_at p.store f).serial + 1); table = x }

      mine : slot_at q.store f ≡ Made-slot
      mine = ap (λ (l : List Slot). get_or l f (freed 0)) sl ∙ get_or-set_same p.store.slots f Made-slot (freed 0) (omega (arith, in_h, told.shape.slots_len))

      unmoved : (j : ℕ) → (j ≡ f → ⊥) → slot_at q.store j ≡ slot_at p.store j
      unmoved j d = ap (λ (l : List Slot). get_or l j (freed 0)) sl ∙ get_or-set_other p.store.slots f j Made-slot (freed 0) d

      rises : (j : ℕ) → (slot_at p.store j).serial ≤ (slot_at q.store j).serial
      rises = slots-rise sl in_h

      new-old : Old q.store new.handle
      new-old =
          let r : new.handle % 256 ≡ f = omega arith in
          subst (λ (c : ℕ). new.handle / 256 ≤ (slot_at q.store c).serial) (sym r) (omega (arith, ap (λ (z : Slot). z.serial) mine))

      head : table_of q.versions (number_of q.store f) ≡ x
      head =
          ap₂ (λ (y : List Numbered) (z : Slot). table_of y (public_number f z.serial)) vs mine ∙ rw (eq-eqb (public_number f ((slot_at p.store f).serial + 1)) (public_number f ((slot_at p.store f).serial + 1)) refl)

      there : Shows q.store f (table_of q.versions (number_of q.store f))
      there =
          subst (Shows q.store f) (sym head)
          (record { long = long; sees = λ i h. ap (λ (z : Slot). value_at (block_at q.store z.block) z.number i) mine ∙ sees i h })
