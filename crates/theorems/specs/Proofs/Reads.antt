-- The demands on reads, pages, tables, steps and prices, from what is noted of every history.
-- Rests on Notes.
use Rattle.std.specs.Prelude.{◌<◌, ◌≤◌, suc, zero, ℕ, true, ◌≡◌, refl, eqb, length}
use mathlib.Core.List.{List, [], ◌∷◌}
use Rattle.std.proofs.Common.{◌∙◌, sym, arith, eqb-true}
use Rattle.std.proofs.Math.Path.{ap}
use Rattle.std.proofs.lemmas.Bool.{eqb-false}
use Rattle.rulebook.specs.Answers.{operation}
use Rattle.rulebook.specs.Array.{get_table}
use Rattle.rulebook.specs.History.{Ended, IsOpened, Numbered, Past, Value, Work, making, paging, past, reading, resting, sets_bound, setting, table_of, work_code}
use Rattle.rulebook.specs.Lists.{list_to-all, list_to-same}
use Rattle.rulebook.specs.Machine.{Call}
use Rattle.rulebook.specs.Sizes.{slot_of}
use Rattle.rulebook.specs.State.{State, list_to, live_handle}
use Rattle.rulebook.specs.Tests.{by_test}
use Rattle.theorems.specs.Invariant.Calls.{live_handle_lem}
use Rattle.theorems.specs.Notes.Calls.{notes-past, same_number}
use Rattle.theorems.specs.Notes.Fair.{Gave, Right}
use Rattle.theorems.specs.Notes.Step.{Notes}
use Rattle.theorems.specs.Notes.Told.{every_map, number_of}
use Rattle.theorems.specs.Proofs.Lists.{every_by_cell, every_in, every_version, values_are}
use Rattle.theorems.specs.Terms.{Every, HasGiven, In, IsRead, Once, Spent, by_cell, cells_of, more, none, on_version, price, shown, up_to, values_of}

-- the first of a list
first_of : {P : Value → Type 0} (m : ℕ) (l : List Value) → Every P l → cells_of l ≡ up_to (suc m) → (r : Value) × P r
unfolding cells_of list_to
first_of m [] none e = absurd (omega (arith, ap length e))
first_of m (r ∷ l) (more q h) e = (r, q)

module _ (s : State) (o : IsOpened s) (cs : List Call) where
  abbrev p : Past
  p = past s cs

  abbrev N : ℕ
  N = (past s cs).store.sizes.n

  n : Notes (past s cs)
  n = notes-past s o cs

  -- ---- reads and joins

  is_read : (r : Value) → Right p r → IsRead p r
  is_read r h = (omega (arith, h.inside, h.whole), h.value_is)

  pub reads_proof : Every (IsRead p) p.gets × Every (IsRead p) p.pages
  reads_proof = (every_map is_read n.gets_right, every_map is_read n.pages_right)

  -- a table is empty, or has a value for each cell
  table-long : (h : ℕ) (vs : List Numbered) → Every (λ (v : Numbered). length v.table ≡ N) vs → 0 < length (table_of vs h) → length (table_of vs h) ≡ N
  unfolding table_of
  table-long h [] none q = absurd (omega arith)
  table-long h (v ∷ vs) (more e es) q =
      by_test (eqb h v.handle) (λ b. rw b e) (λ b. rw b (table-long h vs es (rw b at q)))

  -- right values of version h whose cells are 0, 1, .. N - 1 are its table
  join-list : (h : ℕ) (l : List Value) → Every (λ (r : Value). Right p r × (r.handle ≡ h)) l → cells_of l ≡ up_to N → values_of l ≡ table_of p.versions h
  join-list h l all e =
      values_are N (λ (i : ℕ). i) x (every_map (λ r q. q.0.value_is ∙ ap (λ (y : ℕ). get_table (table_of p.versions y) r.cell) q.1) all) e
      ∙ ap (λ (m : ℕ). list_to m (get_table x)) (sym (long N refl)) ∙ list_to-all 0 x
    where
      x : List ℕ
      x = table_of p.versions h

      long : (m : ℕ) → N ≡ m → length x ≡ N
      long zero z =
          by_test (eqb (length x) 0) (λ b. eqb-true (length x) 0 b ∙ sym z)
          (λ b. table-long h p.versions (every_map (λ v q. q.1) n.told.olds) (omega (arith, eqb-false (length x) 0 b)))
      long (suc m) z =
          let q = first_of m l all (e ∙ ap up_to z) in
          ap (λ (y : ℕ). length (table_of p.versions y)) (sym q.1.1) ∙ q.1.0.whole

  pub join_proof : (h : ℕ) → cells_of (by_cell (on_version h p.pages)) ≡ up_to N → values_of (by_cell (on_version h p.pages)) ≡ table_of p.versions h
  join_proof h e = join-list h _ (every_by_cell (every_version h n.pages_right)) e

  pub join_any_proof : (h : ℕ) (l : List Value) → Every (λ (r : Value). In r p.pages × (r.handle ≡ h)) l → cells_of l ≡ up_to N → values_of l ≡ table_of p.versions h
  join_any_proof h l some e = join-list h l (every_map (λ r q. (every_in n.pages_right q.0, q.1)) some) e

  -- ---- tables

  pub tables_proof : (h : ℕ) → live_handle p.store h ≡ true → shown p.store h ≡ table_of p.versions h
  unfolding shown
  tables_proof h l =
      let a = live_handle_lem p.store h l in
      let b = n.told.shown (slot_of h) a.lives in
      list_to-same N _ (get_table (table_of p.versions (number_of p.store (slot_of h)))) b.sees
      ∙ ap (λ (m : ℕ). list_to m (get_table (table_of p.versions (number_of p.store (slot_of h))))) (sym b.long)
      ∙ list_to-all 0 (table_of p.versions (number_of p.store (slot_of h)))
      ∙ ap (table_of p.versions) (same_number p n 0 h a)

  pub numbers_proof : Once p.versions
  numbers_proof = n.told.once

  -- ---- ends and sets

  has_given : (w : Work) (l : List Value) → Gave p w l → HasGiven p w l
  has_given resting l h = h
  has_given (making v) l h = tt
  has_given (reading x i) l h = h.0
  has_given (setting x i v) l h = tt
  has_given (paging x from m) l h = h.0

  pub order_proof : Every (λ (e : Ended). HasGiven p e.work e.given) p.ends
  order_proof = every_map (λ e h. has_given e.work e.given h.gave) n.ends_right

  pub steps_proof : Every (λ (e : Ended). e.told ≡ e.counted) p.ends
  steps_proof = every_map (λ e h. h.same_steps) n.ends_right

  pub price_proof : Every (λ (e : Ended). e.told ≤ price N e.work) p.ends
  price_proof = every_map (λ e h. h.cheap) n.ends_right

  pub spent_proof : Every (λ (e : Ended). (operation e.last ≡ work_code e.work) × Spent N e.last e.told e.probes) p.ends
  spent_proof = every_map (λ e h. (h.as_started, h.spent)) n.ends_right

  pub sets_proof : p.set_steps ≤ sets_bound N p.firsts p.laters
  sets_proof = omega (arith, n.paid)
