-- The ranges of every task's and every slot's numbers, and a bound on a task's steps by its stage, so that 32-bit words hold them.
-- Rests on the rule book's definitions and on what a get may still take.
use Rattle.std.specs.Prelude.{◌*◌, ◌+◌, ◌-◌, ◌<◌, ◌≤◌, ℕ, ◌≡◌}
use Rattle.std.proofs.Common.{mul-le-mul_right, arith}
use Rattle.rulebook.specs.declared.Sizes.{Sizes}
use Rattle.rulebook.specs.declared.Slot.{Slot}
use Rattle.rulebook.specs.declared.Stage.{Stage}
use Rattle.rulebook.specs.declared.Stage.TheVariants.{Append, Copying, Exchange, FillCopy, FillNew, Getting, Idle, Paging, Put, Read, TakeCopy, TakeNew, Write}
use Rattle.rulebook.specs.declared.Status.TheVariants.{Live}
use Rattle.rulebook.specs.declared.Task.{Task}
use Rattle.rulebook.specs.Sizes.{last_serial, most_cells}
use Rattle.rulebook.specs.State.{State, idle, slot_at, task_at}
use Rattle.theorems.specs.Prices.Digits.{digits_mono, left_of}
use Rattle.theorems.specs.Terms.{digits, digits_in}

-- the steps that a copy has taken at most when c of n cells are copied: the exchange, the take, and each cell's get and write
abbrev pub copy_steps : ℕ → ℕ → ℕ
copy_steps n c = 2 + c * (4 + digits n)

-- the steps of a task, by its stage; an idle task is `idle`
abbrev pub Pace : ℕ → Stage → Task → Type 0
Pace n Idle k = k ≡ idle
Pace n TakeNew k = k.steps ≡ 0
Pace n FillNew k = k.steps ≡ k.hand.cell + 1
Pace n (Getting r) k = k.steps + left_of n r k.hand ≤ 3 + digits n
Pace n Exchange k = k.steps ≡ 0
Pace n Read k = k.steps ≡ 1
Pace n Append k = k.steps ≡ 2
Pace n Write k = k.steps ≡ 3
Pace n TakeCopy k = k.steps ≡ 1
Pace n (Copying r) k = k.steps + left_of n r k.hand ≤ copy_steps n k.hand.cell + (3 + digits n)
Pace n FillCopy k = k.steps ≤ copy_steps n k.hand.cell + (3 + digits n)
Pace n Put k = k.steps ≤ copy_steps n n
Pace n (Paging r) k = (k.cell ≤ k.hand.cell) × (k.steps + left_of n r k.hand ≤ (k.hand.cell - k.cell + 1) * (3 + digits n))

pub record TaskRange (z : Sizes) (k : Task) : Type 0 where
  pub slot_below : k.slot < z.h
  pub block_below : k.block < z.b
  pub number_within : k.number ≤ z.n
  pub cell_below : k.cell < z.n
  pub until_within : k.until ≤ z.n
  pub fresh_below : k.fresh < z.h
  pub target_below : k.target < z.b
  pub hand_below : k.hand.cell < z.n
  pub pace : Pace z.n k.stage k

-- only a live slot has a block and a number, and it has carried a handle
pub record SlotRange (x : Slot) : Type 0 where
  pub serial_not_above : x.serial ≤ last_serial
  pub nowhere : (x.status ≡ Live → ⊥) → (x.block ≡ 0) × (x.number ≡ 0)
  pub carried : x.status ≡ Live → 1 ≤ x.serial

pub record Paced (s : State) : Type 0 where
  pub tasks : (t : ℕ) → TaskRange s.sizes (task_at s t)
  pub slots : (j : ℕ) → SlotRange (slot_at s j)

-- ---- with at most 4096 cells no task has taken 1,000,000,000 steps

pub digits-few : (n : ℕ) → n ≤ most_cells → digits n ≤ 13
unfolding digits digits_in
digits-few n h = digits_mono n most_cells h

-- a cells, each of at most 17 steps
pub product-few : (a d : ℕ) → a ≤ most_cells → d ≤ 17 → a * d ≤ 69632
product-few a d h q = let z : a * d ≤ 4096 * d = mul-le-mul_right d h in omega arith

copy-few : (n c : ℕ) → n ≤ most_cells → c ≤ n → copy_steps n c ≤ 69634
copy-few n c m h = omega (arith, product-few c (4 + digits n) (omega arith) (omega (arith, digits-few n m)))

pub steps-few : (n : ℕ) (g : Stage) (k : Task) → n ≤ most_cells → k.hand.cell < n → Pace n g k → k.steps < 1000000000
steps-few n Idle k m c p = rw p (omega arith)
steps-few n TakeNew k m c p = omega arith
steps-few n FillNew k m c p = omega arith
steps-few n (Getting r) k m c p = omega (arith, digits-few n m)
steps-few n Exchange k m c p = omega arith
steps-few n Read k m c p = omega arith
steps-few n Append k m c p = omega arith
steps-few n Write k m c p = omega arith
steps-few n TakeCopy k m c p = omega arith
steps-few n (Copying r) k m c p = omega (arith, digits-few n m, copy-few n k.hand.cell m (omega arith))
steps-few n FillCopy k m c p = omega (arith, digits-few n m, copy-few n k.hand.cell m (omega arith))
steps-few n Put k m c p = omega (arith, copy-few n n m (omega arith))
steps-few n (Paging r) k m c p = omega (arith, p.1, product-few (k.hand.cell - k.cell + 1) (3 + digits n) (omega arith) (omega (arith, digits-few n m)))

pub paced-small : (s : State) → Paced s → s.sizes.n ≤ most_cells → (t : ℕ) → (task_at s t).steps < 1000000000
paced-small s p m t = steps-few s.sizes.n (task_at s t).stage (task_at s t) m (p.tasks t).hand_below (p.tasks t).pace
