-- What holds for the task at each stage, and what a change by one task has to leave alone for the others: one frame for all stages.
-- Rests on Reading.
use Rattle.std.specs.Prelude.{◌+◌, ◌<◌, ◌≤◌, ℕ, true, List, [], ◌≡◌, refl, get_or, length}
use Rattle.std.proofs.Common.{◌∙◌, ap, subst, sym, arith}
use Rattle.rulebook.specs.declared.Entry.{Entry}
use Rattle.rulebook.specs.declared.Hand.{Hand}
use Rattle.rulebook.specs.declared.Reading.{Reading}
use Rattle.rulebook.specs.declared.Slot.{Slot}
use Rattle.rulebook.specs.declared.Stage.{Stage}
use Rattle.rulebook.specs.declared.Stage.TheVariants.{Append, Copying, Exchange, FillCopy, FillNew, Getting, Idle, Paging, Put, Read, TakeCopy, TakeNew, Write}
use Rattle.rulebook.specs.declared.Status.TheVariants.{Live, Reserved}
use Rattle.rulebook.specs.declared.Task.{Task}
use Rattle.rulebook.specs.Sizes.{last_serial}
use Rattle.rulebook.specs.State.{Block, fills, log_at, names, reserves, writes}
use Rattle.rulebook.specs.Steps.{answer}
use Rattle.theorems.specs.Reading.Get.{Good}
use Rattle.theorems.specs.Reading.Search.{Below, Rises}
use Rattle.theorems.specs.Terms.{entries, value_at, value_in, version_at}

-- no version stands in two logs
abbrev pub Distinct : Block → Type 0
Distinct b = (i j p q : ℕ) → (i ≡ j → ⊥) → p < length (log_at b i) → q < length (log_at b j) → version_at (log_at b i) p ≡ version_at (log_at b j) q → ⊥

-- a handle of number n may stand on block b
pub record Stands (cells room : ℕ) (β : ℕ → Block) (b n : ℕ) : Type 0 where
  pub in_b : b < room
  pub reach : n ≤ (β b).version
  pub small : n ≤ cells
  pub top : (β b).version ≤ cells + 1
  pub rises : (i : ℕ) → Rises (log_at (β b) i)
  pub below : (i : ℕ) → Below (log_at (β b) i) (β b).version
  pub few : entries (β b).logs ≤ (β b).version
  pub few_cells : entries (β b).logs ≤ cells
  pub distinct : Distinct (β b)

-- the handle that the task names is live, and the task knows where it stands
pub record Named (σ : ℕ → Slot) (j b n : ℕ) : Type 0 where
  pub lives : (σ j).status ≡ Live
  pub on : (σ j).block ≡ b
  pub at : (σ j).number ≡ n

pub record Fresh (handles : ℕ) (σ : ℕ → Slot) (j : ℕ) : Type 0 where
  pub in_h : j < handles
  pub slot_is_reserved : (σ j).status ≡ Reserved
  pub spare : (σ j).serial < last_serial

pub record Reads (cells : ℕ) (r : Reading) (b : Block) (n : ℕ) (w : Hand) : Type 0 where
  pub in_n : w.cell < cells
  pub good : Good r (log_at b w.cell) n w (value_at b n w.cell)

pub record Writer (cells : ℕ) (σ : ℕ → Slot) (β : ℕ → Block) (b n : ℕ) : Type 0 where
  pub raised : (β b).version ≡ n + 1
  pub room : n < cells
  pub oldest : (j : ℕ) → (σ j).status ≡ Live → (σ j).block ≡ b → (σ j).number ≤ n

abbrev pub Early : Block → ℕ → Type 0
Early b n = (i : ℕ) → Below (log_at b i) n

-- what a handle up to m sees does not depend on the cell any more
abbrev pub Covered : List Entry → ℕ → Type 0
Covered l m = (n c d : ℕ) → n ≤ m → value_in l n c ≡ value_in l n d

pub record Filler (room : ℕ) (σ : ℕ → Slot) (β : ℕ → Block) (b : ℕ) : Type 0 where
  pub in_b : b < room
  pub alone : (j : ℕ) → (σ j).status ≡ Live → (σ j).block ≡ b → ⊥
  pub start : (β b).version ≡ 0

-- the cells below c of the block being filled hold f
abbrev pub Holds : Block → ℕ → (ℕ → ℕ) → Type 0
Holds b c f = (i : ℕ) → i < c → (log_at b i ≡ []) × (get_or b.cells i 0 ≡ f i)

abbrev pub Copied : ℕ → (ℕ → Block) → ℕ → ℕ → ℕ → Type 0
Copied c β a b n = Holds (β a) c (value_at (β b) n)

module _ (cells handles room : ℕ) where
  abbrev pub OkAt : Stage → (ℕ → Slot) → (ℕ → Block) → Task → Type 0
  OkAt Idle σ β k = Unit
  OkAt (Getting r) σ β k = Named σ k.slot k.block k.number × Reads cells r (β k.block) k.number k.hand
  OkAt (Paging r) σ β k = Named σ k.slot k.block k.number × Reads cells r (β k.block) k.number k.hand × (k.hand.cell < k.until) × (k.until ≤ cells)
  OkAt Exchange σ β k = Named σ k.slot k.block k.number × Fresh handles σ k.fresh × (k.cell < cells)
  OkAt Read σ β k = Named σ k.slot k.block k.number × Fresh handles σ k.fresh × (k.cell < cells) × Writer cells σ β k.block k.number × Early (β k.block) k.number × (entries (β k.block).logs ≤ k.number)
  OkAt Append σ β k = Named σ k.slot k.block k.number × Fresh handles σ k.fresh × (k.cell < cells) × Writer cells σ β k.block k.number × Early (β k.block) k.number × (k.hand.guess ≡ get_or (β k.block).cells k.cell 0) × (entries (β k.block).logs ≤ k.number)
  OkAt Write σ β k = Named σ k.slot k.block k.number × Fresh handles σ k.fresh × (k.cell < cells) × Writer cells σ β k.block k.number × Covered (log_at (β k.block) k.cell) k.number × ((i : ℕ) → (i ≡ k.cell → ⊥) → Below (log_at (β k.block) i) k.number)
  OkAt TakeCopy σ β k = Named σ k.slot k.block k.number × Fresh handles σ k.fresh × (k.cell < cells) × (k.number < (β k.block).version)
  OkAt (Copying r) σ β k = Named σ k.slot k.block k.number × Fresh handles σ k.fresh × (k.cell < cells) × Filler room σ β k.target × Copied k.hand.cell β k.target k.block k.number × Reads cells r (β k.block) k.number k.hand × (k.number < (β k.block).version)
  OkAt FillCopy σ β k = Named σ k.slot k.block k.number × Fresh handles σ k.fresh × (k.cell < cells) × Filler room σ β k.target × Copied k.hand.cell β k.target k.block k.number × (k.hand.cell < cells) × (answer k.hand ≡ value_at (β k.block) k.number k.hand.cell) × (k.number < (β k.block).version)
  OkAt Put σ β k = Named σ k.slot k.block k.number × Fresh handles σ k.fresh × (k.cell < cells) × Filler room σ β k.target × Copied cells β k.target k.block k.number
  OkAt TakeNew σ β k = Fresh handles σ k.fresh × (0 < cells)
  OkAt FillNew σ β k = Fresh handles σ k.fresh × Filler room σ β k.target × Holds (β k.target) k.hand.cell (λ i. k.value) × (k.hand.cell < cells)

-- what a reader of number n needs of a block that changes from b to b'
pub record Keeps (n : ℕ) (b b' : Block) : Type 0 where
  pub same : (i : ℕ) → value_at b' n i ≡ value_at b n i
  pub goes_on : (r : Reading) (i : ℕ) (w : Hand) → Good r (log_at b i) n w (value_at b n i) → Good r (log_at b' i) n w (value_at b n i)
  pub grows : (i : ℕ) → length (log_at b i) ≤ length (log_at b' i)
  pub newer : b.version ≤ b'.version

-- what a change leaves alone for a task at stage g
pub record Frame (g : Stage) (σ σ' : ℕ → Slot) (β β' : ℕ → Block) (k : Task) : Type 0 where
  pub f_slot : names g ≡ true → σ' k.slot ≡ σ k.slot
  pub f_fresh : reserves g ≡ true → σ' k.fresh ≡ σ k.fresh
  pub f_keep : names g ≡ true → Keeps k.number (β k.block) (β' k.block)
  pub f_write : writes g ≡ true → β' k.block ≡ β k.block
  pub f_oldest : writes g ≡ true → (j : ℕ) → (σ' j).status ≡ Live → (σ' j).block ≡ k.block → ((σ j).status ≡ Live) × ((σ j).block ≡ k.block) × ((σ j).number ≡ (σ' j).number)
  pub f_fill : fills g ≡ true → β' k.target ≡ β k.target
  pub f_alone : fills g ≡ true → (j : ℕ) → (σ' j).status ≡ Live → (σ' j).block ≡ k.target → ((σ j).status ≡ Live) × ((σ j).block ≡ k.target)

module _ (cells handles room : ℕ) (σ σ' : ℕ → Slot) (β β' : ℕ → Block) (k : Task) where
  named-on : (g : Stage) → names g ≡ true → Frame g σ σ' β β' k → Named σ k.slot k.block k.number → Named σ' k.slot k.block k.number
  named-on g n f h =
      record {
        lives = ap (λ (x : Slot). x.status) (f.f_slot n) ∙ h.lives;
        on = ap (λ (x : Slot). x.block) (f.f_slot n) ∙ h.on;
        at = ap (λ (x : Slot). x.number) (f.f_slot n) ∙ h.at;
      }

  fresh_on : (g : Stage) → reserves g ≡ true → Frame g σ σ' β β' k → Fresh handles σ k.fresh → Fresh handles σ' k.fresh
  fresh_on g n f h =
      record {
        in_h = h.in_h;
        slot_is_reserved = ap (λ (x : Slot). x.status) (f.f_fresh n) ∙ h.slot_is_reserved;
        spare = subst (λ (x : Slot). x.serial < last_serial) (sym (f.f_fresh n)) h.spare;
      }

  reads_on : (g : Stage) (r : Reading) → names g ≡ true → Frame g σ σ' β β' k → Reads cells r (β k.block) k.number k.hand → Reads cells r (β' k.block) k.number k.hand
  reads_on g r n f h =
      record {
        in_n = h.in_n;
        good = subst (Good r (log_at (β' k.block) k.hand.cell) k.number k.hand) (sym ((f.f_keep n).same k.hand.cell)) ((f.f_keep n).goes_on r k.hand.cell k.hand h.good);
      }

  writer-on : (g : Stage) → writes g ≡ true → Frame g σ σ' β β' k → Writer cells σ β k.block k.number → Writer cells σ' β' k.block k.number
  writer-on g n f h =
      record {
        raised = ap (λ (b : Block). b.version) (f.f_write n) ∙ h.raised;
        room = h.room;
        oldest = λ j l o. let p = f.f_oldest n j l o in omega (arith, h.oldest j p.0 p.1, p.2);
      }

  filler-on : (g : Stage) → fills g ≡ true → Frame g σ σ' β β' k → Filler room σ β k.target → Filler room σ' β' k.target
  filler-on g n f h =
      record {
        in_b = h.in_b;
        alone = λ j l o. let p = f.f_alone n j l o in h.alone j p.0 p.1;
        start = ap (λ (b : Block). b.version) (f.f_fill n) ∙ h.start;
      }

  copied_on : (g : Stage) (c : ℕ) → names g ≡ true → fills g ≡ true → Frame g σ σ' β β' k → Copied c β k.target k.block k.number → Copied c β' k.target k.block k.number
  copied_on g c n m f h i q =
      (ap (λ (b : Block). log_at b i) (f.f_fill m) ∙ (h i q).0, ap (λ (b : Block). get_or b.cells i 0) (f.f_fill m) ∙ (h i q).1 ∙ sym ((f.f_keep n).same i))

  pub frame : (g : Stage) → Frame g σ σ' β β' k → OkAt cells handles room g σ β k → OkAt cells handles room g σ' β' k
  frame Idle f h = tt
  frame (Getting r) f h = (named-on _ refl f h.0, reads_on _ r refl f h.1)
  frame (Paging r) f h = (named-on _ refl f h.0, reads_on _ r refl f h.1, h.2, h.3)
  frame Exchange f h = (named-on _ refl f h.0, fresh_on _ refl f h.1, h.2)
  frame Read f h =
      (named-on _ refl f h.0, fresh_on _ refl f h.1, h.2, writer-on _ refl f h.3, subst (λ (b : Block). (i : ℕ) → Below (log_at b i) k.number) (sym (f.f_write refl)) h.4, subst (λ (b : Block). entries b.logs ≤ k.number) (sym (f.f_write refl)) h.5)
  frame Append f h =
      (named-on _ refl f h.0, fresh_on _ refl f h.1, h.2, writer-on _ refl f h.3, subst (λ (b : Block). (i : ℕ) → Below (log_at b i) k.number) (sym (f.f_write refl)) h.4, h.5 ∙ ap (λ (b : Block). get_or b.cells k.cell 0) (sym (f.f_write refl)), subst (λ (b : Block). entries b.logs ≤ k.number) (sym (f.f_write refl)) h.6)
  frame Write f h =
      (named-on _ refl f h.0, fresh_on _ refl f h.1, h.2, writer-on _ refl f h.3, subst (λ (b : Block). Covered (log_at b k.cell) k.number) (sym (f.f_write refl)) h.4, subst (λ (b : Block). (i : ℕ) → (i ≡ k.cell → ⊥) → Below (log_at b i) k.number) (sym (f.f_write refl)) h.5)
  frame TakeCopy f h = (named-on _ refl f h.0, fresh_on _ refl f h.1, h.2, omega (arith, h.3, (f.f_keep refl).newer))
  frame (Copying r) f h =
      (named-on _ refl f h.0, fresh_on _ refl f h.1, h.2, filler-on _ refl f h.3, copied_on _ _ refl refl f h.4, reads_on _ r refl f h.5, omega (arith, h.6, (f.f_keep refl).newer))
  frame FillCopy f h =
      (named-on _ refl f h.0, fresh_on _ refl f h.1, h.2, filler-on _ refl f h.3, copied_on _ _ refl refl f h.4, h.5, h.6 ∙ sym ((f.f_keep refl).same k.hand.cell), omega (arith, h.7, (f.f_keep refl).newer))
  frame Put f h =
      (named-on _ refl f h.0, fresh_on _ refl f h.1, h.2, filler-on _ refl f h.3, copied_on _ _ refl refl f h.4)
  frame TakeNew f h = (fresh_on _ refl f h.0, h.1)
  frame FillNew f h =
      (fresh_on _ refl f h.0, filler-on _ refl f h.1, subst (λ (b : Block). Holds b k.hand.cell (λ i. k.value)) (sym (f.f_fill refl)) h.2, h.3)
