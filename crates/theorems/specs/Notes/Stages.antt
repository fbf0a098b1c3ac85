-- Each stage's step shows it.
-- Rests on Fair and Tables.
use Rattle.std.specs.Prelude.{◌*◌, ◌+◌, ◌-◌, ◌<◌, ◌≤◌, suc, zero, ℕ, ◌≡◌, eqb, leb, ltb, set}
use Rattle.std.proofs.lemmas.Bool.{false≢true}
use Rattle.std.proofs.Math.Bool.{true}
use mathlib.Core.List.{List, [], ◌++◌, ◌∷◌, append-nil}
use Rattle.std.proofs.Common.{◌∙◌, ap₂, suc-mul, length-set, get_or-set_other, get_or-set_same}
use Rattle.std.proofs.Math.Path.{ap, refl, subst, sym}
use native.Mathlib.Omega.{arith}
use Rattle.std.proofs.lemmas.List.{get_or-replicate, length-replicate}
use Rattle.std.proofs.Math.ListN.{length}
use borrow.Author.Tests.{eqb-false, eqb-true}
use Rattle.rulebook.specs.declared.Progress.{Progress}
use Rattle.rulebook.specs.declared.Progress.TheVariants.{Going, Settled}
use Rattle.rulebook.specs.declared.Reading.{Reading}
use Rattle.rulebook.specs.declared.Reading.TheVariants.{Guess}
use Rattle.rulebook.specs.declared.Reply.TheVariants.{Quiet}
use Rattle.rulebook.specs.declared.Stage.{Stage}
use Rattle.rulebook.specs.declared.Stage.TheVariants.{Append, Copying, Exchange, FillCopy, FillNew, Getting, Idle, Paging, Put, Read, TakeCopy, TakeNew, Write}
use Rattle.rulebook.specs.declared.Task.{Task}
use Rattle.rulebook.specs.Array.{get_table, new_table, set_table}
use Rattle.rulebook.specs.History.{Past, Value, Work, making, one, paging, probing, reading, setting, stepped, table_of}
use Rattle.rulebook.specs.State.{Block, Result, State, block_at, busy, free_block, hand_of, idle, log_at, slot_at, task_at, with_block, with_cell, with_log, with_slot, with_task, with_version}
use Rattle.rulebook.specs.Steps.{aimed, answer, counted, exchanged, filled, finished, get_step, got_copy, got_get, got_page, here_of, moved, step_at, taken}
use Rattle.rulebook.specs.Tests.{by_test, if_case}
use Rattle.theorems.specs.Invariant.Readings.{my_ok, my_stands, read-on}
use Rattle.theorems.specs.Invariant.Shape.{shape-step_at}
use Rattle.theorems.specs.Invariant.Steps.{inv-step_at}
use Rattle.theorems.specs.Invariant.Tasks.{Fresh, Named, Reads}
use Rattle.theorems.specs.Notes.Fair.{Fair, Leads, Right, fair-new, fair-none, fair-same, slots_kept}
use Rattle.theorems.specs.Notes.Tables.{Changed, fill-table, put-table, write-table}
use Rattle.theorems.specs.Notes.Told.{For, PageFor, Told, live_slot, most, number-old, number_of}
use Rattle.theorems.specs.Prices.Budget.{CopyAt, CopyLess, Within, copy_at, copy-less, log-entries, passed, passed_total, within-grows}
use Rattle.theorems.specs.Prices.Digits.{Less, get-less, left_of, unsettled-good}
use Rattle.theorems.specs.Reading.Get.{After}
use Rattle.theorems.specs.Terms.{Spent, digits, more, none, page_of, value_at}

-- one cell more of a page
page-more : (h : ℕ) (x : List ℕ) (i n : ℕ) → page_of h x i n ++ (record { handle = h; cell = i + n; value = get_table x (i + n) } ∷ []) ≡ page_of h x i (suc n)
unfolding page_of
page-more h x i zero = ap (λ (j : ℕ). record { handle = h; cell = j; value = get_table x j } ∷ []) (omega arith)
page-more h x i (suc n) =
    ap (λ (l : List Value). record { handle = h; cell = i; value = get_table x i } ∷ l)
    (ap (λ (j : ℕ). page_of h x (i + 1) n ++ (record { handle = h; cell = j; value = get_table x j } ∷ [])) (omega arith) ∙ page-more h x (i + 1) n)

module _ (p : Past) (tp : Told p) (t : ℕ) (in_t : t < p.store.sizes.t) where
  abbrev s : State
  s = p.store

  abbrev k : Task
  k = task_at p.store t

  abbrev m : ℕ
  m = number_of p.store (task_at p.store t).slot

  abbrev Here : Work → Result → Type 0
  Here w r = Leads p tp t in_t w r

  -- what the handle that the task names sees is its version's table
  my_table : Named (slot_at s) k.slot k.block k.number → (i : ℕ) → i < s.sizes.n → value_at (here_of s k) k.number i ≡ get_table (table_of p.versions m) i
  my_table h i q =
      ap₂ (λ (b n : ℕ). value_at (block_at s b) n i) (sym h.on) (sym h.at) ∙ (tp.shown k.slot h.lives).sees i q

  my_right : Named (slot_at s) k.slot k.block k.number → (i v : ℕ) → i < s.sizes.n → v ≡ value_at (here_of s k) k.number i → Right p (record { handle = m; cell = i; value = v })
  my_right h i v q e =
      record {
        value_is = e ∙ my_table h i q;
        whole = (tp.shown k.slot h.lives).long;
        known = number-old s k.slot (omega (arith, live_slot s tp.shape k.slot h.lives, tp.shape.few_slots));
        inside = q;
      }

  -- what the task has spent
  my_within : (g : Stage) → k.stage ≡ g → Within s.sizes.n g k (here_of s k) (p.probes t)
  my_within g e = subst (λ (x : Stage). Within s.sizes.n x k (here_of s k) (p.probes t)) e (tp.within t)

  -- the task's probes, this step's too
  abbrev probes : ℕ
  probes = p.probes t + one (probing k.stage)

  probes-at : (g : Stage) → k.stage ≡ g → probes ≡ p.probes t + one (probing g)
  probes-at g e = ap (λ (x : Stage). p.probes t + one (probing x)) e

  my_spent : (g : Stage) → k.stage ≡ g → Spent s.sizes.n g (k.steps + 1) probes → Spent s.sizes.n k.stage (k.steps + 1) probes
  my_spent g e h = subst (λ (x : Stage). Spent s.sizes.n x (k.steps + 1) probes) (sym e) h

  -- ---- reading

  abbrev Reached : Progress → Type 0
  Reached q = After (log_at (here_of s k) k.hand.cell) k.number k.hand.cell (value_at (here_of s k) k.number k.hand.cell) q

  fair-get : (q : Progress) (x : ℕ) (rd : Reading) → k.stage ≡ Getting rd → busy k.stage ≡ true → Named (slot_at s) k.slot k.block k.number → k.hand.cell < s.sizes.n → Reached q → Less s.sizes.n x q
      → p.works t ≡ reading m k.hand.cell → k.steps + x ≤ most s.sizes.n → p.given t ≡ [] → Here (reading m k.hand.cell) (got_get q s t (counted k))
  unfolding got_get moved counted with_task stepped page_of
  fair-get (Going r w) x rd e bz named in_n a less is cheap nil =
      fair-same p tp t in_t _ _ _ (moved (counted k) (Getting r) w) bz refl refl (slots_kept p tp t in_t _ refl) (λ e. refl) (λ e. named.lives)
      (is ∙ ap (reading m) (sym a.1), omega arith, ap (λ (l : List Value). l ++ []) nil) (λ _. tt) refl none none (λ e. absurd (false≢true e))
  fair-get (Settled w) x rd e bz named in_n a less is cheap nil =
      fair-same p tp t in_t _ _ _ idle bz refl refl (slots_kept p tp t in_t _ refl) (λ e. absurd (false≢true e)) (λ e. absurd (false≢true e)) tt (λ _. tt) refl
      (more right none) none (λ _. (refl, my_spent (Getting rd) e (omega arith), omega arith, (ap (λ (l : List Value). l ++ (record { handle = m; cell = k.hand.cell; value = answer w } ∷ [])) nil ∙ ap (λ (v : ℕ). record { handle = m; cell = k.hand.cell; value = v } ∷ []) right.value_is, right.known)))
    where
      right : Right p (record { handle = m; cell = k.hand.cell; value = answer w })
      right = my_right named k.hand.cell (answer w) in_n a.0

  fair-page : (q : Progress) (r : Reading) (h : PageFor s.sizes.n r (p.works t) m k (p.given t) (table_of p.versions m)) → k.stage ≡ Paging r → busy k.stage ≡ true → Named (slot_at s) k.slot k.block k.number → k.hand.cell < s.sizes.n → Reached q → Less s.sizes.n (left_of s.sizes.n r k.hand) q
      → Here (paging m h.from h.size) (got_page q s t (counted k))
  unfolding got_page moved counted with_task stepped
  fair-page (Going r' w) r h e bz named in_n a less =
      fair-same p tp t in_t _ _ _ (moved (counted k) (Paging r') w) bz refl refl (slots_kept p tp t in_t _ refl) (λ e. refl) (λ e. named.lives)
      (record { from = h.from; size = h.size; done = h.done; is = h.is; at = a.1 ∙ h.at; until_is = h.until_is; price = omega (arith, h.price); so_far = append-nil (p.given t) ∙ h.so_far }) (λ _. tt) refl none none (λ e. absurd (false≢true e))
  fair-page (Settled w) r h e bz named in_n a less =
      if_case (Here (paging m h.from h.size)) (eqb (w.cell + 1) k.until)
      (λ z. fair-same p tp t in_t _ _ _ idle bz refl refl (slots_kept p tp t in_t _ refl) (λ e. absurd (false≢true e)) (λ e. absurd (false≢true e)) tt (λ _. tt) refl
      none (more given none) (λ _. (refl, my_spent (Paging r) e tt, last (eqb-true (w.cell + 1) k.until z), (so_on ∙ ap (page_of m (table_of p.versions m) h.from) (size_is (eqb-true (w.cell + 1) k.until z)), given.known))))
      (λ e. fair-same p tp t in_t _ _ _ (moved (counted k) (Paging Guess) (hand_of (w.cell + 1))) bz refl refl (slots_kept p tp t in_t _ refl) (λ e. refl) (λ e. named.lives)
      (record { from = h.from; size = h.size; done = h.done + 1; is = h.is; at = omega (arith, a.1, h.at); until_is = h.until_is; price = dearer; so_far = so_on }) (λ _. tt) refl none (more given none) (λ e. absurd (false≢true e)))
    where
      given : Right p (record { handle = m; cell = w.cell; value = answer w })
      given = subst (λ (i : ℕ). Right p (record { handle = m; cell = i; value = answer w })) (sym a.1) (my_right named k.hand.cell (answer w) in_n a.0)

      so_on : p.given t ++ (record { handle = m; cell = w.cell; value = answer w } ∷ []) ≡ page_of m (table_of p.versions m) h.from (h.done + 1)
      so_on =
          ap₂ (λ (l : List Value) (v : ℕ). l ++ (record { handle = m; cell = w.cell; value = v } ∷ [])) h.so_far given.value_is
          ∙ ap (λ (i : ℕ). page_of m (table_of p.versions m) h.from h.done ++ (record { handle = m; cell = i; value = get_table (table_of p.versions m) i } ∷ [])) (a.1 ∙ h.at)
          ∙ page-more m (table_of p.versions m) h.from h.done ∙ ap (page_of m (table_of p.versions m) h.from) (omega arith)

      size_is : w.cell + 1 ≡ k.until → h.done + 1 ≡ h.size
      size_is e = omega (arith, a.1, h.at, h.until_is)

      last : w.cell + 1 ≡ k.until → k.steps + 1 ≤ h.size * (3 + digits s.sizes.n)
      last e =
          let all : h.size ≡ suc h.done = omega (arith, size_is e) in
          rw all (omega (arith, suc-mul h.done (3 + digits s.sizes.n), h.price))

      dearer : k.steps + 1 + (3 + digits s.sizes.n) ≤ (h.done + 1) * most s.sizes.n + most s.sizes.n
      dearer =
          let e : (h.done + 1) * most s.sizes.n ≡ h.done * most s.sizes.n + most s.sizes.n = ap (λ (z : ℕ). z * most s.sizes.n) (omega arith) ∙ suc-mul h.done (most s.sizes.n) in
          omega (arith, h.price)

  fair-copy : (q : Progress) (x : ℕ) → busy k.stage ≡ true → Named (slot_at s) k.slot k.block k.number → p.works t ≡ setting m k.cell k.value → CopyLess s.sizes.n (here_of s k) x q → CopyAt (k.steps + 1) probes q → k.steps + x ≤ 5 * s.sizes.n + 3
      → Here (setting m k.cell k.value) (got_copy q s t (counted k))
  unfolding got_copy moved counted with_task stepped
  fair-copy (Going r w) x bz named is less at wi =
      fair-same p tp t in_t _ _ _ (moved (counted k) (Copying r) w) bz refl refl (slots_kept p tp t in_t _ refl) (λ e. refl) (λ e. named.lives) is (λ _. (at, omega (arith, less))) refl none none (λ e. absurd (false≢true e))
  fair-copy (Settled w) x bz named is less at wi =
      fair-same p tp t in_t _ _ _ (moved (counted k) FillCopy w) bz refl refl (slots_kept p tp t in_t _ refl) (λ e. refl) (λ e. named.lives) is (λ _. (at, omega (arith, less))) refl none none (λ e. absurd (false≢true e))

  -- ---- a set, and a new

  -- the task moves on within a set
  fair-set : (x : State) (k' : Task) → busy k.stage ≡ true → x.sizes.n ≡ s.sizes.n → x.tasks ≡ set s.tasks t k' → x.slots ≡ s.slots
      → k'.steps ≡ k.steps + 1 → Named (slot_at s) k'.slot k'.block k'.number
      → For s.sizes.n k'.stage (p.works t) (number_of s k'.slot) k' (p.given t ++ []) (table_of p.versions (number_of s k'.slot)) → Within s.sizes.n k'.stage k' (here_of s k') probes → Here (setting m k.cell k.value) (x, Quiet)
  unfolding stepped
  fair-set x k' bz ec et es st named own wi =
      fair-same p tp t in_t _ x Quiet k' bz ec et (slots_kept p tp t in_t _ es) (λ e. st) (λ e. named.lives) own
      (λ goes. within-grows s.sizes.n k'.stage k' (here_of s k') (here_of x k') probes
      (λ n i. subst (λ (c : ℕ). length (log_at (block_at s c) i) ≤ length (log_at (block_at x c) i)) named.on ((goes.1 k'.slot named.lives).2 i)) wi)
      refl none none (λ e. absurd (false≢true e))

  -- and ends with the version's new table
  fair-made : (c : ℕ) (x : Block) (b n : ℕ) → busy k.stage ≡ true → Fresh s.sizes.h (slot_at s) k.fresh → Named (slot_at s) k.slot k.block k.number → k.cell < s.sizes.n
      → Spent s.sizes.n k.stage (k.steps + 1) probes → k.steps + 1 ≤ 5 * s.sizes.n + 3
      → ((j : ℕ) → j < s.sizes.n → value_at (block_at (with_block s c x) b) n j ≡ Changed s tp.shape tp.inv t in_t j)
      → Here (setting m k.cell k.value) (finished (with_block s c x) t (counted k) b n)
  fair-made c x b n bz fr named in_n sp cheap sees =
      fair-new p tp t in_t _ c x b n (set_table old k.cell k.value) bz fr (λ h z. refl) (λ a. refl) (λ a. refl) sp cheap (λ l. tt)
      (length-set old k.cell k.value ∙ long)
      (λ j q. sees j q ∙ by_test (eqb j k.cell)
      (λ e. rw (e, eqb-true j k.cell e) (sym (get_or-set_same old k.cell k.value 0 (omega (arith, long)))))
      (λ e. rw e (my_table named j q ∙ sym (get_or-set_other old k.cell j k.value 0 (eqb-false j k.cell e)))))
    where
      old : List ℕ
      old = table_of p.versions m

      long : length old ≡ s.sizes.n
      long = (tp.shown k.slot named.lives).long

  fair-take-copy : k.stage ≡ TakeCopy → p.works t ≡ setting m k.cell k.value → Here (setting m k.cell k.value) (taken s t (counted k) (Copying Guess))
  unfolding taken with_task with_block aimed moved counted
  fair-take-copy e is =
      let h = my_ok s tp.shape tp.inv t in_t TakeCopy e in
      let bz : busy k.stage ≡ true = ap busy e in
      if_case (Here (setting m k.cell k.value)) (leb s.sizes.b (free_block s))
      (λ q. fair-none p tp t in_t _ bz h.1 (λ a. refl) (λ a. refl) (my_spent TakeCopy e (omega (arith, my_within TakeCopy e))) (omega (arith, my_within TakeCopy e)) (λ l. tt) (λ z. refl))
      (λ q. fair-set _ _ bz refl refl refl refl h.0 is (begun-at, begin h.2))
    where
      begun-at : k.steps + 1 ≡ 2 + 4 * 0 + 0 + probes
      begun-at = omega (arith, my_within TakeCopy e, probes-at TakeCopy e)

      begin : k.cell < s.sizes.n → k.steps + 1 + (4 * (s.sizes.n - (0 + 1)) + 5 + (s.sizes.n - passed (here_of s k) 0)) ≤ 5 * s.sizes.n + 3
      begin q = omega (arith, my_within TakeCopy e)

  fair-take-new : k.stage ≡ TakeNew → p.works t ≡ making k.value → Here (making k.value) (taken s t (counted k) FillNew)
  unfolding taken with_task with_block aimed moved counted stepped
  fair-take-new e is =
      let h = my_ok s tp.shape tp.inv t in_t TakeNew e in
      let bz : busy k.stage ≡ true = ap busy e in
      if_case (Here (making k.value)) (leb s.sizes.b (free_block s))
      (λ q. fair-none p tp t in_t _ bz h.0 (λ a. refl) (λ a. refl) (my_spent TakeNew e (omega (arith, my_within TakeNew e))) (omega (arith, my_within TakeNew e)) (λ l. tt) (λ z. refl))
      (λ q. fair-same p tp t in_t _ _ Quiet _ bz refl refl (slots_kept p tp t in_t _ refl) (λ z. refl) (λ z. absurd (false≢true z)) is (λ _. ap (◌+ 1) (my_within TakeNew e)) refl none none (λ z. absurd (false≢true z)))

  fair-exchange : k.stage ≡ Exchange → p.works t ≡ setting m k.cell k.value → Here (setting m k.cell k.value) (exchanged s t (counted k))
  unfolding exchanged with_task with_block moved counted
  fair-exchange e is =
      let h = my_ok s tp.shape tp.inv t in_t Exchange e in
      let bz : busy k.stage ≡ true = ap busy e in
      if_case (Here (setting m k.cell k.value)) (eqb (here_of s k).version k.number)
      (λ q. if_case (λ (x : Task). Here (setting m k.cell k.value) (with_task (with_block s k.block (with_version (here_of s k) (k.number + 1))) t x, Quiet)) (ltb k.number s.sizes.n)
      (λ _. fair-set _ (moved (counted k) Read k.hand) bz refl refl refl refl h.0 is (omega (arith, my_within Exchange e)))
      (λ _. fair-set _ (moved (counted k) TakeCopy (hand_of 0)) bz refl refl refl refl h.0 is copies))
      (λ q. fair-set _ (moved (counted k) TakeCopy (hand_of 0)) bz refl refl refl refl h.0 is copies)
    where
      copies : (k.steps + 1 ≡ 1) × (probes ≡ 0)
      copies = (omega (arith, my_within Exchange e), omega (arith, my_within Exchange e, probes-at Exchange e))

  fair-fill : k.stage ≡ FillNew → p.works t ≡ making k.value → Here (making k.value) (step_at FillNew s t (counted k))
  unfolding step_at filled with_task with_block moved counted stepped
  fair-fill e is =
      let h = my_ok s tp.shape tp.inv t in_t FillNew e in
      let bz : busy k.stage ≡ true = ap busy e in
      if_case (Here (making k.value)) (eqb (k.hand.cell + 1) s.sizes.n)
      (λ q. fair-new p tp t in_t (making k.value) k.target _ k.target 0 (new_table s.sizes.n k.value) bz h.0 (λ a z. refl) (λ a. refl) (λ a. refl) (my_spent FillNew e (omega (arith, my_within FillNew e, eqb-true (k.hand.cell + 1) s.sizes.n q))) (omega (arith, my_within FillNew e, eqb-true (k.hand.cell + 1) s.sizes.n q)) (λ l. tt)
      (length-replicate s.sizes.n k.value)
      (λ j z. fill-table s tp.shape tp.inv t in_t e (eqb-true (k.hand.cell + 1) s.sizes.n q) j z ∙ sym (get_or-replicate s.sizes.n j k.value 0 z)))
      (λ q. fair-same p tp t in_t _ _ Quiet _ bz refl refl (slots_kept p tp t in_t _ refl) (λ z. refl) (λ z. absurd (false≢true z)) is (λ _. ap (◌+ 1) (my_within FillNew e)) refl none none (λ z. absurd (false≢true z)))

  -- ---- every stage

  -- a log of the block on which the task's handle stands
  few_entries : Named (slot_at s) k.slot k.block k.number → (i : ℕ) → length (log_at (here_of s k) i) ≤ s.sizes.n
  few_entries h i = omega (arith, log-entries (here_of s k) i, (my_stands s tp.shape tp.inv t in_t h).few_cells)

  my_less : (r : Reading) → Named (slot_at s) k.slot k.block k.number → Reads s.sizes.n r (here_of s k) k.number k.hand → Less s.sizes.n (left_of s.sizes.n r k.hand) (get_step r (here_of s k) k.number k.hand)
  my_less r h rd = get-less r s.sizes.n (here_of s k) k.number k.hand (few_entries h k.hand.cell) (unsettled-good r _ _ _ _ rd.good)

  my_for : (g : Stage) → k.stage ≡ g → For s.sizes.n g (p.works t) m k (p.given t) (table_of p.versions m)
  my_for g e = subst (λ (x : Stage). For s.sizes.n x (p.works t) m k (p.given t) (table_of p.versions m)) e (tp.fors t)

  abbrev Own : Result → Type 0
  Own r = Here (p.works t) r

  own_as : (w : Work) (r : Result) → p.works t ≡ w → Here w r → Own r
  own_as w r e h = subst (λ (z : Work). Here z r) (sym e) h

  fair-at : (g : Stage) → k.stage ≡ g → busy g ≡ true → Own (step_at g s t (counted k))
  unfolding step_at moved counted with_task with_block filled
  fair-at Idle e b = absurd (false≢true b)
  fair-at (Getting r) e b =
      let h = my_ok s tp.shape tp.inv t in_t (Getting r) e in
      let f = my_for (Getting r) e in
      own_as _ _ f.0 (fair-get _ _ r e (ap busy e) h.0 h.1.in_n (read-on s tp.shape tp.inv t in_t r h.0 h.1) (my_less r h.0 h.1) f.0 f.1 f.2)
  fair-at (Paging r) e b =
      let h = my_ok s tp.shape tp.inv t in_t (Paging r) e in
      let f = my_for (Paging r) e in
      own_as _ _ f.is (fair-page _ r f e (ap busy e) h.0 h.1.in_n (read-on s tp.shape tp.inv t in_t r h.0 h.1) (my_less r h.0 h.1))
  fair-at Exchange e b = own_as _ _ (my_for Exchange e) (fair-exchange e (my_for Exchange e))
  fair-at Read e b =
      let h = my_ok s tp.shape tp.inv t in_t Read e in
      own_as _ _ (my_for Read e) (fair-set _ (moved (counted k) Append _) (ap busy e) refl refl refl refl h.0 (my_for Read e) (omega (arith, my_within Read e)))
  fair-at Append e b =
      let h = my_ok s tp.shape tp.inv t in_t Append e in
      own_as _ _ (my_for Append e) (fair-set _ (moved (counted k) Write _) (ap busy e) refl refl refl refl h.0 (my_for Append e) (omega (arith, my_within Append e)))
  fair-at Write e b =
      let h = my_ok s tp.shape tp.inv t in_t Write e in
      own_as _ _ (my_for Write e) (fair-made k.block (with_cell (here_of s k) k.cell k.value) k.block (k.number + 1) (ap busy e) h.1 h.0 h.2 (my_spent Write e (omega (arith, my_within Write e))) (omega (arith, my_within Write e, h.2)) (λ j q. unfold step_at finished counted with_task with_slot with_block in write-table s tp.shape tp.inv t in_t e j))
  fair-at TakeCopy e b = own_as _ _ (my_for TakeCopy e) (fair-take-copy e (my_for TakeCopy e))
  fair-at (Copying r) e b =
      let h = my_ok s tp.shape tp.inv t in_t (Copying r) e in
      own_as _ _ (my_for (Copying r) e) (fair-copy _ _ (ap busy e) h.0 (my_for (Copying r) e)
      (copy-less r s.sizes.n (here_of s k) k.number k.hand (omega (arith, passed_total (here_of s k) (k.hand.cell + 1), (my_stands s tp.shape tp.inv t in_t h.0).few_cells)) (unsettled-good r _ _ _ _ h.5.good))
      (subst (λ (x : ℕ). CopyAt (k.steps + 1) x (get_step r (here_of s k) k.number k.hand)) (sym (probes-at (Copying r) e)) (copy_at r (here_of s k) k.number k.hand k.steps (p.probes t) h.6 (my_within (Copying r) e).0))
      (my_within (Copying r) e).1)
  fair-at FillCopy e b =
      let h = my_ok s tp.shape tp.inv t in_t FillCopy e in
      own_as _ _ (my_for FillCopy e)
      (if_case (λ (x : Task). Here (setting m k.cell k.value) (with_task (filled s (counted k) k.hand.cell (answer k.hand)) t x, Quiet)) (eqb (k.hand.cell + 1) s.sizes.n)
      (λ q. fair-set _ (moved (counted k) Put (hand_of k.cell)) (ap busy e) refl refl refl refl h.0 (my_for FillCopy e) (all-at (eqb-true (k.hand.cell + 1) s.sizes.n q), omega (arith, my_within FillCopy e)))
      (λ q. fair-set _ (moved (counted k) (Copying Guess) (hand_of (k.hand.cell + 1))) (ap busy e) refl refl refl refl h.0 (my_for FillCopy e) (next-at, onward h.5 (eqb-false (k.hand.cell + 1) s.sizes.n q))))
    where
      onward : k.hand.cell < s.sizes.n → (k.hand.cell + 1 ≡ s.sizes.n → ⊥) → k.steps + 1 + (4 * (s.sizes.n - (k.hand.cell + 1 + 1)) + 5 + (s.sizes.n - passed (here_of s k) (k.hand.cell + 1))) ≤ 5 * s.sizes.n + 3
      onward a d = omega (arith, my_within FillCopy e)

      all-at : k.hand.cell + 1 ≡ s.sizes.n → k.steps + 1 ≡ 2 + 4 * s.sizes.n + probes
      all-at z = omega (arith, my_within FillCopy e, probes-at FillCopy e)

      next-at : k.steps + 1 ≡ 2 + 4 * (k.hand.cell + 1) + 0 + probes
      next-at = omega (arith, my_within FillCopy e, probes-at FillCopy e)
  fair-at Put e b =
      let h = my_ok s tp.shape tp.inv t in_t Put e in
      own_as _ _ (my_for Put e) (fair-made k.target (with_log (with_cell (block_at s k.target) k.cell k.value) k.cell []) k.target 0 (ap busy e) h.1 h.0 h.2 (my_spent Put e (omega (arith, my_within Put e, probes-at Put e))) (omega (arith, my_within Put e)) (λ j q. unfold step_at finished filled counted with_task with_slot with_block in put-table s tp.shape tp.inv t in_t e j q))
  fair-at TakeNew e b = own_as _ _ (my_for TakeNew e) (fair-take-new e (my_for TakeNew e))
  fair-at FillNew e b = own_as _ _ (my_for FillNew e) (fair-fill e (my_for FillNew e))

  pub fair-step : busy k.stage ≡ true → Fair p t (p.works t) (step_at k.stage s t (counted k))
  fair-step b =
      fair-at k.stage refl b (shape-step_at k.stage s t (counted k) tp.shape) (inv-step_at s tp.shape tp.inv t in_t k.stage refl)
