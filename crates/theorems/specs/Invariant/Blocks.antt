-- Blocks that are filled cell by cell, and a new handle on a block that has changed.
-- Rests on Moves and Entries.
use Rattle.std.specs.Prelude.{◌+◌, ◌<◌, ◌≤◌, ℕ, false, List, [], ◌≡◌, eqb, ltb, length, if◌then◌else◌}
use Rattle.std.proofs.Common.{zero-le, ◌∙◌, ap, subst, sym, not-suc-le-zero, arith, get_or-set_other, get_or-set_same, eqb-true, ltb-false, ltb-true}
use Rattle.std.proofs.lemmas.Bool.{false≢true, eqb-false}
use Rattle.std.proofs.Math.ListN.{get_or-eq_default}
use Rattle.rulebook.specs.declared.Entry.{Entry}
use Rattle.rulebook.specs.declared.Hand.{Hand}
use Rattle.rulebook.specs.declared.Progress.TheVariants.{Going}
use Rattle.rulebook.specs.declared.Reading.{Reading}
use Rattle.rulebook.specs.declared.Slot.{Slot}
use Rattle.rulebook.specs.declared.Stage.{Stage}
use Rattle.rulebook.specs.declared.Status.TheVariants.{Free, Live, Reserved}
use Rattle.rulebook.specs.declared.Task.{Task}
use Rattle.rulebook.specs.State.{Block, fills, log_at, reserves, with_cell, with_log, writes}
use Rattle.rulebook.specs.Tests.{by_test}
use Rattle.theorems.specs.Invariant.Entries.{total_empty}
use Rattle.theorems.specs.Invariant.Moves.{Apart}
use Rattle.theorems.specs.Invariant.Shape.{Wide}
use Rattle.theorems.specs.Invariant.Tasks.{Distinct, Holds, Reads, Stands}
use Rattle.theorems.specs.Reading.Get.{After, Good}
use Rattle.theorems.specs.Reading.Search.{Below, Rises}
use Rattle.theorems.specs.Terms.{entries, value_at}

-- a task that takes nothing is apart from all
pub no_flags : (g : Stage) (k : Task) (h : Stage) (u : Task) → writes g ≡ false → fills g ≡ false → reserves g ≡ false → Apart g k h u
no_flags g k h u w f r =
    record {
      a_write = λ p. absurd (false≢true (sym w ∙ p));
      a_fill = λ p. absurd (false≢true (sym f ∙ p));
      a_fresh = λ p. absurd (false≢true (sym r ∙ p));
    }

-- what is left of a get after its step, at the cell that it now has in hand
pub reads-after : (cells n i : ℕ) (b : Block) (r : Reading) (w : Hand) → i < cells → After (log_at b i) n i (value_at b n i) (Going r w) → Reads cells r b n w
reads-after cells n i b r w h a =
    record {
      in_n = omega (arith, a.1);
      good = subst (λ (x : ℕ). Good r (log_at b x) n w (value_at b n x)) (sym a.1) a.0;
    }

-- the cells of a block being filled
pub holds-write : (cells i v : ℕ) (f : ℕ → ℕ) (b : Block) → Wide cells b → i < cells → Holds b i f → v ≡ f i → Holds (with_log (with_cell b i v) i []) (i + 1) f
unfolding with_log with_cell
holds-write cells i v f b w inside h e j q =
    by_test (eqb j i)
    (λ t. rw (eqb-true j i t) (get_or-set_same b.logs i [] [] (omega (arith, w.wide_logs)), get_or-set_same b.cells i v 0 (omega (arith, w.wide_cells)) ∙ e))
    (λ t. let p = h j (omega (arith, eqb-false j i t)) in
    (get_or-set_other b.logs i j [] [] (eqb-false j i t) ∙ p.0, get_or-set_other b.cells i j v 0 (eqb-false j i t) ∙ p.1))

-- one cell of a filled block changed
pub holds-put : (cells i v : ℕ) (f : ℕ → ℕ) (b : Block) → Wide cells b → i < cells → Holds b cells f → Holds (with_log (with_cell b i v) i []) cells (λ j. if eqb j i then v else f j)
unfolding with_log with_cell
holds-put cells i v f b w inside h j q =
    by_test (eqb j i)
    (λ t. rw t (rw (eqb-true j i t) (get_or-set_same b.logs i [] [] (omega (arith, w.wide_logs)), get_or-set_same b.cells i v 0 (omega (arith, w.wide_cells)))))
    (λ t. rw t (get_or-set_other b.logs i j [] [] (eqb-false j i t) ∙ (h j q).0, get_or-set_other b.cells i j v 0 (eqb-false j i t) ∙ (h j q).1))

-- a filled block's logs are all empty
pub all_empty : (cells : ℕ) (f : ℕ → ℕ) (b : Block) → length b.logs ≡ cells → Holds b cells f → (i : ℕ) → log_at b i ≡ []
all_empty cells f b w h i =
    by_test (ltb i cells) (λ t. (h i (ltb-true i cells t)).0) (λ t. get_or-eq_default b.logs [] (omega (arith, ltb-false i cells t)))

-- a new handle on a filled block
pub stands-filled : (cells room a : ℕ) (f : ℕ → ℕ) (β : ℕ → Block) → a < room → (β a).version ≡ 0 → length (β a).logs ≡ cells → Holds (β a) cells f → Stands cells room β a 0
stands-filled cells room a f β in_b zero_ver w h =
    record {
      in_b = in_b;
      reach = zero-le;
      small = zero-le;
      top = omega (arith, zero_ver);
      rises = λ i. rw (all_empty cells f (β a) w h i) (λ p q d e. absurd (not-suc-le-zero e));
      below = λ i. rw (all_empty cells f (β a) w h i) (λ j e. absurd (not-suc-le-zero e));
      few = omega (arith, total_empty (β a).logs (all_empty cells f (β a) w h));
      few_cells = omega (arith, total_empty (β a).logs (all_empty cells f (β a) w h));
      distinct = λ i j p q d hp. absurd (not-suc-le-zero (subst (λ (l : List Entry). p < length l) (all_empty cells f (β a) w h i) hp));
    }

-- a handle on a block that has become x
pub stands-new : {cells room b n : ℕ} {x : Block} {β : ℕ → Block} → b < room → n ≤ cells → β b ≡ x → n ≤ x.version → x.version ≤ cells + 1
    → ((i : ℕ) → Rises (log_at x i)) → ((i : ℕ) → Below (log_at x i) x.version) → entries x.logs ≤ x.version → entries x.logs ≤ cells → Distinct x → Stands cells room β b n
stands-new {cells} {x} in_b small e reach top rises below few few_cells distinct =
    record {
      in_b = in_b;
      reach = omega (arith, reach, ap (λ (y : Block). y.version) e);
      small = small;
      top = omega (arith, top, ap (λ (y : Block). y.version) e);
      rises = λ i. subst (λ (y : Block). Rises (log_at y i)) (sym e) (rises i);
      below = λ i. subst (λ (y : Block). Below (log_at y i) y.version) (sym e) (below i);
      few = subst (λ (y : Block). entries y.logs ≤ y.version) (sym e) few;
      few_cells = subst (λ (y : Block). entries y.logs ≤ cells) (sym e) few_cells;
      distinct = subst Distinct (sym e) distinct;
    }

-- a statement about each log of a block of which one has become l
pub log_cases : (P : List Entry → Type 0) (b : Block) (i : ℕ) (l : List Entry) → i < length b.logs → P l → ((j : ℕ) → P (log_at b j)) → (j : ℕ) → P (log_at (with_log b i l) j)
unfolding with_log
log_cases P b i l inside new old j =
    by_test (eqb j i)
    (λ e. rw (eqb-true j i e) (subst P (sym (get_or-set_same b.logs i l [] inside)) new))
    (λ e. subst P (sym (get_or-set_other b.logs i j l [] (eqb-false j i e))) (old j))

pub free≢live : Free ≡ Live → ⊥
free≢live q = let z : ◌≡◌ {A = ℕ} 0 1 = cc in omega arith

pub live≢reserved : (x : Slot) → x.status ≡ Live → x.status ≡ Reserved → ⊥
live≢reserved x p q = let z : ◌≡◌ {A = ℕ} 0 1 = cc in omega arith

pub free≢reserved : Free ≡ Reserved → ⊥
free≢reserved q = let z : ◌≡◌ {A = ℕ} 0 1 = cc in omega arith
