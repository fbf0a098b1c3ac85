-- What a stage tells of its task, what a free block is free of, and where a live handle stands.
-- Rests on Tasks.
use Rattle.std.specs.Prelude.{◌<◌, suc, zero, ℕ, Bool, ◌&&◌, false, not, true, List, ◌≡◌, get_or, length}
use Rattle.std.proofs.lemmas.Bool.{false≢true, not-true}
use Rattle.std.proofs.Math.Bool.{true≢false}
use Rattle.std.proofs.Common.{◌∙◌, ap₂, sym, not-suc-le-zero, arith, eq-eqb}
use Rattle.std.proofs.Math.Path.{refl}
use Rattle.std.proofs.Math.Dec.{eqb}
use Rattle.rulebook.specs.declared.Slot.{Slot}
use Rattle.rulebook.specs.declared.Stage.{Stage}
use Rattle.rulebook.specs.declared.Stage.TheVariants.{Append, Copying, Exchange, FillCopy, FillNew, Getting, Idle, Paging, Put, Read, TakeCopy, TakeNew, Write}
use Rattle.rulebook.specs.declared.Status.{Status}
use Rattle.rulebook.specs.declared.Status.TheVariants.{Live}
use Rattle.rulebook.specs.declared.Task.{Task}
use Rattle.rulebook.specs.Lists.{any_none, any_some, lowest-found}
use Rattle.rulebook.specs.State.{Block, State, busy, filling, fills, free_block, freed, held, idle, is_live, names, reserves, slot_at, stood, task_at, writes}
use Rattle.rulebook.specs.Tests.{or_neither}
use Rattle.theorems.specs.Invariant.Tasks.{Filler, Fresh, Named, OkAt, Writer}
use Rattle.theorems.specs.Terms.{Every, more, none}

-- ---- parts of a task's condition

module _ (cells handles room : ℕ) (σ : ℕ → Slot) (β : ℕ → Block) (k : Task) where
  pub ok_named : (g : Stage) → names g ≡ true → OkAt cells handles room g σ β k → Named σ k.slot k.block k.number
  ok_named Idle n h = absurd (false≢true n)
  ok_named (Getting r) n h = h.0
  ok_named (Paging r) n h = h.0
  ok_named Exchange n h = h.0
  ok_named Read n h = h.0
  ok_named Append n h = h.0
  ok_named Write n h = h.0
  ok_named TakeCopy n h = h.0
  ok_named (Copying r) n h = h.0
  ok_named FillCopy n h = h.0
  ok_named Put n h = h.0
  ok_named TakeNew n h = absurd (false≢true n)
  ok_named FillNew n h = absurd (false≢true n)

  pub ok-fresh : (g : Stage) → reserves g ≡ true → OkAt cells handles room g σ β k → Fresh handles σ k.fresh
  ok-fresh Idle n h = absurd (false≢true n)
  ok-fresh (Getting r) n h = absurd (false≢true n)
  ok-fresh (Paging r) n h = absurd (false≢true n)
  ok-fresh Exchange n h = h.1
  ok-fresh Read n h = h.1
  ok-fresh Append n h = h.1
  ok-fresh Write n h = h.1
  ok-fresh TakeCopy n h = h.1
  ok-fresh (Copying r) n h = h.1
  ok-fresh FillCopy n h = h.1
  ok-fresh Put n h = h.1
  ok-fresh TakeNew n h = h.0
  ok-fresh FillNew n h = h.0

  pub ok-writer : (g : Stage) → writes g ≡ true → OkAt cells handles room g σ β k → Named σ k.slot k.block k.number × Writer cells σ β k.block k.number
  ok-writer Idle n h = absurd (false≢true n)
  ok-writer (Getting r) n h = absurd (false≢true n)
  ok-writer (Paging r) n h = absurd (false≢true n)
  ok-writer Exchange n h = absurd (false≢true n)
  ok-writer Read n h = (h.0, h.3)
  ok-writer Append n h = (h.0, h.3)
  ok-writer Write n h = (h.0, h.3)
  ok-writer TakeCopy n h = absurd (false≢true n)
  ok-writer (Copying r) n h = absurd (false≢true n)
  ok-writer FillCopy n h = absurd (false≢true n)
  ok-writer Put n h = absurd (false≢true n)
  ok-writer TakeNew n h = absurd (false≢true n)
  ok-writer FillNew n h = absurd (false≢true n)

  pub ok-filler : (g : Stage) → fills g ≡ true → OkAt cells handles room g σ β k → Filler room σ β k.target
  ok-filler Idle n h = absurd (false≢true n)
  ok-filler (Getting r) n h = absurd (false≢true n)
  ok-filler (Paging r) n h = absurd (false≢true n)
  ok-filler Exchange n h = absurd (false≢true n)
  ok-filler Read n h = absurd (false≢true n)
  ok-filler Append n h = absurd (false≢true n)
  ok-filler Write n h = absurd (false≢true n)
  ok-filler TakeCopy n h = absurd (false≢true n)
  ok-filler (Copying r) n h = h.3
  ok-filler FillCopy n h = h.3
  ok-filler Put n h = h.3
  ok-filler TakeNew n h = absurd (false≢true n)
  ok-filler FillNew n h = h.1

-- a task that has reserved a slot is busy
pub reserves-busy : (g : Stage) → busy g ≡ false → reserves g ≡ false
reserves-busy Idle n = refl
reserves-busy TakeNew n = absurd (true≢false n)
reserves-busy FillNew n = absurd (true≢false n)
reserves-busy (Getting r) n = refl
reserves-busy Exchange n = absurd (true≢false n)
reserves-busy Read n = absurd (true≢false n)
reserves-busy Append n = absurd (true≢false n)
reserves-busy Write n = absurd (true≢false n)
reserves-busy TakeCopy n = absurd (true≢false n)
reserves-busy (Copying r) n = absurd (true≢false n)
reserves-busy FillCopy n = absurd (true≢false n)
reserves-busy Put n = absurd (true≢false n)
reserves-busy (Paging r) n = refl

pub every_at : {A : Type 0} {P : A → Type 0} {l : List A} → Every P l → (k : ℕ) (d : A) → k < length l → P (get_or l k d)
every_at none k d h = absurd (not-suc-le-zero h)
every_at (more p e) zero d h = p
every_at (more p e) (suc k) d h = every_at e k d (omega arith)

-- ---- the free block

pub not_held : (s : State) → free_block s < s.sizes.b → held s (free_block s) ≡ false
unfolding free_block
not_held s h = not-true _ (lowest-found (λ (k : ℕ). not (held s k)) s.sizes.b 0 (omega arith))

module _ (s : State) (b : ℕ) (h : held s b ≡ false) where
  pub no-stander : (j : ℕ) → (slot_at s j).status ≡ Live → (slot_at s j).block ≡ b → ⊥
  unfolding held stood
  no-stander j l o =
      let p = any_none (λ (x : Slot). is_live x.status && eqb x.block b) s.slots (freed 0) (or_neither (stood s b) _ h).0 refl j in
      true≢false (sym (ap₂ (λ (x : Status) (y : Bool). is_live x && y) l (eq-eqb _ b o)) ∙ p)

  pub no-filler : (u : ℕ) → fills (task_at s u).stage ≡ true → (task_at s u).target ≡ b → ⊥
  unfolding held filling
  no-filler u l o =
      let p = any_none (λ (x : Task). fills x.stage && eqb x.target b) s.tasks idle (or_neither (stood s b) _ h).1 refl u in
      true≢false (sym (ap₂ (λ (x : Bool) (y : Bool). x && y) l (eq-eqb _ b o)) ∙ p)

-- a live handle stands where it stands
pub stood_by : (s : State) (j b : ℕ) → (slot_at s j).status ≡ Live → (slot_at s j).block ≡ b → stood s b ≡ true
unfolding stood
stood_by s j b l o =
    any_some (λ (x : Slot). is_live x.status && eqb x.block b) s.slots (freed 0) j refl (ap₂ (λ (x : Status) (y : Bool). is_live x && y) l (eq-eqb _ b o))
