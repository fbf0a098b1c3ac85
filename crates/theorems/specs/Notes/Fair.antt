-- What a step has to show whatever its stage: the notes still agree, and what it hands out or tells is right.
-- Rests on Told and Version.
use Rattle.std.specs.Prelude.{◌+◌, ◌<◌, ◌≤◌, ℕ, true, ◌≡◌, eqb, length, set}
use Rattle.std.proofs.lemmas.Bool.{false≢true, eqb-false}
use mathlib.Core.List.{List, [], ◌++◌, ◌∷◌}
use Rattle.std.proofs.Common.{◌∙◌, arith, get_or-set_other, get_or-set_same, eqb-true}
use Rattle.std.proofs.Math.Path.{ap, refl, subst, sym}
use Rattle.std.proofs.Math.ListN.{get_or}
use Rattle.rulebook.specs.declared.Reply.{Reply}
use Rattle.rulebook.specs.declared.Reply.TheVariants.{Full, Made}
use Rattle.rulebook.specs.declared.Slot.{Slot}
use Rattle.rulebook.specs.declared.Status.TheVariants.{Free, Live}
use Rattle.rulebook.specs.declared.Task.{Task}
use Rattle.rulebook.specs.Answers.{word}
use Rattle.rulebook.specs.Array.{get_table}
use Rattle.rulebook.specs.History.{Numbered, Past, Value, Work, ends, got, made, making, one, paged, paging, probing, reading, resting, setting, stepped, table_of}
use Rattle.rulebook.specs.State.{Block, Result, State, block_at, busy, freed, idle, names, slot_at, task_at, with_block, with_slot, with_task}
use Rattle.rulebook.specs.Steps.{counted, finished, here_of, no_room}
use Rattle.rulebook.specs.Tests.{by_test}
use Rattle.theorems.specs.Invariant.Blocks.{free≢live}
use Rattle.theorems.specs.Invariant.Moves.{Goes}
use Rattle.theorems.specs.Invariant.Shape.{Shape}
use Rattle.theorems.specs.Invariant.Tasks.{Fresh}
use Rattle.theorems.specs.Notes.Told.{For, Old, Slots, Told, change-other, change-same, number_of, told_same}
use Rattle.theorems.specs.Notes.Version.{slots-rise, table-old, told-new}
use Rattle.theorems.specs.Prices.Budget.{Within}
use Rattle.theorems.specs.Terms.{Every, Spent, none, page_of, price, value_at}

-- ---- what is right

-- the value is the functional array's, at that cell of that version
pub record Right (p : Past) (r : Value) : Type 0 where
  pub value_is : r.value ≡ get_table (table_of p.versions r.handle) r.cell
  pub whole : length (table_of p.versions r.handle) ≡ p.store.sizes.n
  pub known : Old p.store r.handle
  pub inside : r.cell < p.store.sizes.n

-- what a get, and a page of m cells, has handed out when it ends
abbrev pub Gave : Past → Work → List Value → Type 0
Gave p resting l = ⊥
Gave p (making v) l = Unit
Gave p (reading h i) l = (l ≡ page_of h (table_of p.versions h) i 1) × Old p.store h
Gave p (setting h i v) l = Unit
Gave p (paging h from m) l = (l ≡ page_of h (table_of p.versions h) from m) × Old p.store h

-- a step of a task that was started for w, from p to the result r
pub record Fair (p : Past) (t : ℕ) (w : Work) (r : Result) : Type 0 where
  pub told : Told (stepped w t r.0 r.1 p)
  pub rises : (j : ℕ) → (slot_at p.store j).serial ≤ (slot_at r.0 j).serial
  pub keeps : (h : ℕ) → Old p.store h → table_of (stepped w t r.0 r.1 p).versions h ≡ table_of p.versions h
  pub cells : r.0.sizes.n ≡ p.store.sizes.n
  pub fair_got : Every (Right p) (got w r.1)
  pub fair_paged : Every (Right p) (paged w r.1)
  pub fair_end : ends r.1 ≡ true → (word 1 r.1 ≡ p.counts t + 1) × Spent p.store.sizes.n (task_at p.store t).stage (word 1 r.1) (p.probes t + one (probing (task_at p.store t).stage)) × (word 1 r.1 ≤ price p.store.sizes.n w) × Gave p w (p.given t ++ (got w r.1 ++ paged w r.1))

module _ (p : Past) (tp : Told p) (t : ℕ) (in_t : t < p.store.sizes.t) where
  abbrev s : State
  s = p.store

  abbrev k : Task
  k = task_at p.store t

  -- what a result whose state has its shape and invariant is to be
  abbrev pub Leads : Work → Result → Type 0
  Leads w r = Shape r.0 → Goes p.store r.0 → Fair p t w r

  pub slots_kept : (q : Past) → q.store.slots ≡ s.slots → Slots p tp q
  slots_kept q e =
      record { back = λ j l. ap (λ (z : List Slot). get_or z j (freed 0)) e; rises = λ j. omega (arith, ap (λ (z : List Slot). (get_or z j (freed 0)).serial) e) }

  -- the task moves on to k', and no version is made
  pub fair-same : (w : Work) (x : State) (a : Reply) (k' : Task) → busy k.stage ≡ true
      → x.sizes.n ≡ s.sizes.n → x.tasks ≡ set s.tasks t k' → Slots p tp (stepped w t x a p)
      → (busy k'.stage ≡ true → k'.steps ≡ k.steps + 1)
      → (names k'.stage ≡ true → (slot_at s k'.slot).status ≡ Live)
      → For s.sizes.n k'.stage (p.works t) (number_of s k'.slot) k' (p.given t ++ (got w a ++ paged w a)) (table_of p.versions (number_of s k'.slot))
      → (Goes p.store x → Within s.sizes.n k'.stage k' (here_of x k') (p.probes t + one (probing k.stage)))
      → made s.sizes.n p.versions w a ++ p.versions ≡ p.versions
      → Every (Right p) (got w a) → Every (Right p) (paged w a)
      → (ends a ≡ true → (word 1 a ≡ k.steps + 1) × Spent s.sizes.n k.stage (word 1 a) (p.probes t + one (probing k.stage)) × (word 1 a ≤ price s.sizes.n w) × Gave p w (p.given t ++ (got w a ++ paged w a)))
      → Leads w (x, a)
  unfolding stepped
  fair-same w x a k' bz ec et sl es lives own wi vs gs ps en sh goes =
      record {
        told = told_same p tp (stepped w t x a p) t k' sh goes
            (record {
              cells = ec;
              tasks = et;
              in_t = in_t;
              works = λ u d. refl;
              counts = λ u d. change-other p.counts t (p.counts t + 1) u d;
              probes = λ u d. change-other p.probes t (p.probes t + one (probing k.stage)) u d;
              lives = lives;
              given = λ u d. change-other p.given t (p.given t ++ (got w a ++ paged w a)) u d;
              own = subst (λ (l : List Value). For s.sizes.n k'.stage (p.works t) (number_of s k'.slot) k' l (table_of p.versions (number_of s k'.slot))) (sym (change-same p.given t (p.given t ++ (got w a ++ paged w a)))) own;
              own_count = λ i. es i ∙ ap (◌+ 1) (tp.count t bz) ∙ sym (change-same p.counts t (p.counts t + 1));
              own_within = subst (Within s.sizes.n k'.stage k' (here_of x k')) (sym (change-same p.probes t (p.probes t + one (probing k.stage)))) (wi goes);
            }) sl vs;
        rises = sl.rises;
        keeps = λ h o. ap (λ (y : List Numbered). table_of y h) vs;
        cells = ec;
        fair_got = gs;
        fair_paged = ps;
        fair_end = λ e. ((en e).0 ∙ ap (◌+ 1) (tp.count t bz), (en e).1, (en e).2, (en e).3);
      }

  -- the task ends, and its slot carries a handle on block b with number_of n; one block has changed
  pub fair-new : (w : Work) (c : ℕ) (x : Block) (b n : ℕ) (y : List ℕ) → busy k.stage ≡ true → Fresh s.sizes.h (slot_at s) k.fresh
      → ((h m : ℕ) → made s.sizes.n p.versions w (Made m h) ++ p.versions ≡ record { handle = h; table = y } ∷ p.versions)
      → ((a : Reply) → got w a ≡ []) → ((a : Reply) → paged w a ≡ []) → Spent s.sizes.n k.stage (k.steps + 1) (p.probes t + one (probing k.stage)) → k.steps + 1 ≤ price s.sizes.n w → ((l : List Value) → Gave p w l)
      → length y ≡ s.sizes.n → ((i : ℕ) → i < s.sizes.n → value_at (block_at (with_block s c x) b) n i ≡ get_table y i)
      → Leads w (finished (with_block s c x) t (counted k) b n)
  unfolding stepped finished with_block with_slot with_task counted
  fair-new w c x b n y bz fr mk ng np sp pr ga long sees sh goes =
      record {
        told = told-new p tp q k.fresh b n y t sh goes
            (record { cells = refl; tasks = refl; in_t = in_t; works = λ u d. refl; counts = λ u d. change-other p.counts t (p.counts t + 1) u d; probes = λ u d. change-other p.probes t _ u d; lives = λ e. absurd (false≢true e); given = λ u d. change-other p.given t _ u d; own = tt; own_count = λ e. absurd (false≢true e); own_within = tt })
            refl fr.in_h (mk _ _) long sees;
        rises = slots-rise p tp q k.fresh b n y refl fr.in_h;
        keeps = λ h o. ap (λ (l : List Numbered). table_of l h) (mk _ _) ∙ table-old s k.fresh h y p.versions (omega (arith, fr.in_h, tp.shape.few_slots)) o;
        cells = refl;
        fair_got = subst (Every (Right p)) (sym (ng _)) none;
        fair_paged = subst (Every (Right p)) (sym (np _)) none;
        fair_end = λ e. (ap (◌+ 1) (tp.count t bz), sp, pr, ga _);
      }
    where
      q : Past
      q = stepped w t (finished (with_block s c x) t (counted k) b n).0 (finished (with_block s c x) t (counted k) b n).1 p

  -- refused 10
  pub fair-none : (w : Work) → busy k.stage ≡ true → Fresh s.sizes.h (slot_at s) k.fresh
      → ((a : Reply) → got w a ≡ []) → ((a : Reply) → paged w a ≡ []) → Spent s.sizes.n k.stage (k.steps + 1) (p.probes t + one (probing k.stage)) → k.steps + 1 ≤ price s.sizes.n w → ((l : List Value) → Gave p w l)
      → ((m : ℕ) → made s.sizes.n p.versions w (Full m) ++ p.versions ≡ p.versions)
      → Leads w (no_room s t (counted k))
  unfolding no_room with_slot with_task counted stepped
  fair-none w bz fr ng np sp pr ga vs =
      fair-same w _ _ idle bz refl refl
      (record {
        back = λ j l. other j (λ e. free≢live (ap (λ (z : Slot). z.status) (sym (ap (λ (c : ℕ). get_or new c (freed 0)) e ∙ mine)) ∙ l));
        rises = λ j. by_test (eqb j k.fresh)
            (λ e. omega (arith, ap (λ (c : ℕ). (slot_at s c).serial) (eqb-true j _ e), ap (λ (z : Slot). z.serial) (ap (λ (c : ℕ). get_or new c (freed 0)) (eqb-true j _ e) ∙ mine)))
            (λ e. omega (arith, ap (λ (z : Slot). z.serial) (other j (eqb-false j _ e))));
      })
      (λ e. absurd (false≢true e)) (λ e. absurd (false≢true e)) tt (λ _. tt) (vs _) (subst (Every (Right p)) (sym (ng _)) none) (subst (Every (Right p)) (sym (np _)) none) (λ e. (refl, sp, pr, ga _))
    where
      y : Slot
      y = record { serial = (slot_at s k.fresh).serial; status = Free; block = 0; number = 0 }

      new : List Slot
      new = set s.slots k.fresh y

      mine : get_or new k.fresh (freed 0) ≡ y
      mine = get_or-set_same s.slots k.fresh y (freed 0) (omega (arith, fr.in_h, tp.shape.slots_len))

      other : (j : ℕ) → (j ≡ k.fresh → ⊥) → get_or new j (freed 0) ≡ slot_at s j
      other j d = get_or-set_other s.slots k.fresh j y (freed 0) d
