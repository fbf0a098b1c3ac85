-- From a sight that shows a state, the pool's or the state's own, the looks and the report answer what the machine's do.
-- Rests on Alike and on rule 2: a live handle stands on a block that is there.
use Rattle.std.specs.Prelude.{◌+◌, ◌<◌, suc, zero, ℕ, Bool, ◌&&◌, ◌||◌, false, true, List, [], ◌∷◌, ◌≡◌, refl, eqb, get_or, if◌then◌else◌, Err, None, Ok, Option, Result, Some}
use Rattle.std.proofs.lemmas.Bool.{false≢true}
use Rattle.std.proofs.Math.Bool.{not}
use Rattle.std.proofs.Common.{true≢false, ◌∙◌, arith}
use Rattle.std.proofs.Math.Path.{ap, ap₂, sym}
use Rattle.std.proofs.Math.Dec.{leb}
use Rattle.std.proofs.Math.ListN.{length}
use borrow.Author.Tests.{eqb-true, leb-false, leb-true}
use Rattle.acts.specs.Acts.{Found, is_none}
use Rattle.rulebook.specs.declared.Reply.{Reply}
use Rattle.rulebook.specs.declared.Sizes.{Sizes}
use Rattle.rulebook.specs.declared.Slot.{Slot}
use Rattle.acts.specs.Looks.{count_of, live_at, lives_at, plus, reports, sees_cell, sees_entry, sees_log, sees_report, sees_row, sees_task, sees_under, sees_version, shows, shows_entry, visible, visible_in, where_visible}
use Rattle.acts.specs.Plans.{found_if, stander_in}
use Rattle.acts.specs.Sight.{Sight, sight_of}
use Rattle.layout.specs.Calls.{look_cell_in, look_entry_in, look_log_in, look_task_in, look_version_in, report_in, seen_in}
use Rattle.layout.specs.Header.{header_of}
use Rattle.layout.specs.Pool.{sight, view_of}
use Rattle.rulebook.specs.History.{one}
use Rattle.rulebook.specs.Machine.{look_cell, look_entry, look_log, look_task, look_version, report}
use Rattle.rulebook.specs.State.{State, any, block_at, count, freed, is_live, log_at, slot_at, stood}
use Rattle.rulebook.specs.Tests.{and_both, by_test}
use Rattle.rules.specs.Rules.{Rules}
use Rattle.theorems.specs.Invariant.Calls.{is_live_lem}
use Rattle.theorems.specs.Invariant.Shape.{Shape}
use Rattle.bridge.specs.Alike.{stander-alike}
use Rattle.bridge.specs.Planned.{found_case, stander-good, stander-is}
use Rattle.bridge.specs.Searches.{good_if, is_bad}
use Rattle.bridge.specs.Shown.{Shows, sight-shows, sound-shape}
use Rattle.bridge.specs.Sound.{Sound}
use Rattle.acts.specs.declared.Refusal.{Refusal}
use Rattle.acts.specs.declared.Refusal.TheVariants as refusal
use Rattle.rulebook.specs.declared.Reply.TheVariants as reply
use Rattle.rulebook.specs.declared.Status.TheVariants as status
use Rattle.rulebook.specs.declared.Damaged.{Damaged}

-- what `any` finds is there
pub any_found : {A : Type 0} (p : A → Bool) (l : List A) (d : A) → any p l ≡ true → (j : ℕ) × (p (get_or l j d) ≡ true)
unfolding any
any_found p [] d h = absurd (false≢true h)
any_found p (x ∷ l) d h = by_test (p x) (λ e. (0, e)) (λ e. let r = any_found p l d (rw e at h) in (suc r.0, r.1))

-- a block on which a live handle stands: which one, and that the block is there
pub stander-of : (s : State) (b : ℕ) → stood s b ≡ true → (j : ℕ) × ((slot_at s j).status ≡ status.Live) × ((slot_at s j).block ≡ b)
unfolding stood
stander-of s b h =
    let r = any_found (λ (x : Slot). is_live x.status && eqb x.block b) s.slots (freed 0) h in
    let q = and_both _ _ r.1 in
    (r.0, is_live_lem _ q.0, eqb-true _ b q.1)

pub stood-below : (s : State) → Rules s → (b : ℕ) → stood s b ≡ true → b < s.sizes.b
stood-below s r b h = let j = stander-of s b h in rw (← j.2) (r.valid.below_b j.0 j.1)

-- ---- counting

-- one more at the end
count-more : (q : ℕ → Bool) (m k : ℕ) → count q (suc m) k ≡ count q m k + one (q (k + m))
unfolding count
count-more q zero k = let z : k ≡ k + 0 = omega arith in ap (λ (x : ℕ). one (q x) + 0) z ∙ omega arith
count-more q (suc m) k =
    let h = count-more q m (suc k) in
    let z : suc k + m ≡ k + suc m = omega arith in
    let g : one (q (suc k + m)) ≡ one (q (k + suc m)) = ap (λ (x : ℕ). one (q x)) z in
    omega arith

plus_one : (m : ℕ) (x : Found) (b : Bool) → is_bad x ≡ false → is_none x ≡ not b → plus (Ok m) x ≡ Ok (m + one b)
unfolding plus
plus_one m (Err _) b g n = absurd (true≢false g)
plus_one m (Ok (Some j)) true g n = refl
plus_one m (Ok (Some j)) false g n = absurd (false≢true n)
plus_one m (Ok None) true g n = absurd (true≢false n)
plus_one m (Ok None) false g n = ap Ok (omega arith)

-- a count of what is found is the count of the test that finds it
count-found : (f : ℕ → Found) (q : ℕ → Bool) (m : ℕ) → ((j : ℕ) → j < m → (is_bad (f j) ≡ false) × (is_none (f j) ≡ not (q j))) → count_of f m ≡ Ok (count q m 0)
unfolding count_of count
count-found f q zero h = refl
count-found f q (suc m) h =
    let a = h m (omega arith) in
    let z : m ≡ 0 + m = omega arith in
    ap (λ (x : Result ℕ Damaged). plus x (f m)) (count-found f q m (λ j l. h j (omega arith))) ∙ plus_one (count q m 0) (f m) (q m) a.0 a.1
    ∙ ap Ok (ap (λ (x : ℕ). count q m 0 + one (q x)) z ∙ sym (count-more q m 0))

none_if : (b : Bool) (j : ℕ) → is_none (found_if b j) ≡ not b
none_if true j = refl
none_if false j = refl

-- ---- the looks

refuse_both : {A : Type 0} (a b : Bool) (x y : A) → (if a || b then x else y) ≡ (if a then x else if b then x else y)
refuse_both true b x y = refl
refuse_both false b x y = refl

module _ {e : Sight} {s : State} (W : Shows e s) (sh : Shape s) (r : Rules s) where
  visible-is : (b : ℕ) → visible_in e b ≡ (if stood s b then Ok tt else Err refusal.Unseen)
  unfolding visible_in visible
  visible-is b =
      ap (λ (z : Sizes). if leb z.b b then Err refusal.Unseen else visible (stander_in e b)) W.sizes ∙ by_test (leb s.sizes.b b)
      (λ q. by_test (stood s b) (λ l. absurd (omega (arith, leb-true s.sizes.b b q, stood-below s r b l))) (λ l. rw (q, l)))
      (λ q. rw q (ap visible (stander-alike W sh b) ∙ found_case s sh (λ (x : Found). visible x ≡ (if stood s b then Ok tt else Err refusal.Unseen)) (stander_in (sight_of s) b) (stood s b) (stander-good s sh b) (stander-is s sh b) (λ l. rw l) (λ j l. rw l)))

  look_or : (b : ℕ) (x y : Reply) → (stood s b ≡ true → x ≡ y) → where_visible (visible_in e b) x ≡ (if not (stood s b) then reply.Refused 12 else y)
  unfolding where_visible
  look_or b x y h =
      ap (λ (z : Result Unit Refusal). where_visible z x) (visible-is b) ∙ by_test (stood s b) (λ l. rw l (h l)) (λ l. rw l)

  -- at a cell that is there
  cell_or : (b i : ℕ) (x y : Reply) → (stood s b ≡ true → i < s.sizes.n → x ≡ y)
      → where_visible (visible_in e b) (if leb e.sizes.n i then reply.Refused 12 else x) ≡ (if not (stood s b) then reply.Refused 12 else if leb s.sizes.n i then reply.Refused 12 else y)
  cell_or b i x y h =
      look_or b _ _ (λ l. ap (λ (z : Sizes). if leb z.n i then reply.Refused 12 else x) W.sizes ∙ by_test (leb s.sizes.n i) (λ q. rw q) (λ q. rw q (h l (leb-false _ _ q))))

  pub version-sees : (b : ℕ) → sees_version e b ≡ look_version s b
  unfolding sees_version look_version shows
  version-sees b = look_or b _ _ (λ l. ap shows (W.version b (stood-below s r b l)))

  pub cell-sees : (b i : ℕ) → sees_cell e b i ≡ look_cell s b i
  unfolding sees_cell look_cell shows
  cell-sees b i = cell_or b i _ _ (λ l q. ap shows (W.cell b i (stood-below s r b l) q)) ∙ sym (refuse_both (not (stood s b)) (leb s.sizes.n i) _ _)

  pub log-sees : (b i : ℕ) → sees_log e b i ≡ look_log s b i
  unfolding sees_log look_log shows
  log-sees b i = cell_or b i _ _ (λ l q. ap shows (W.log b i (stood-below s r b l) q l)) ∙ sym (refuse_both (not (stood s b)) (leb s.sizes.n i) _ _)

  pub entry-sees : (b i j : ℕ) → sees_entry e b i j ≡ look_entry s b i j
  unfolding sees_entry look_entry sees_under shows_entry
  entry-sees b i j =
      let m = length (log_at (block_at s b) i) in
      cell_or b i _ _ (λ l q. ap (λ (x : Result ℕ Damaged). sees_under x e b i j) (W.log b i (stood-below s r b l) q l) ∙ by_test (leb m j)
      (λ g. rw g)
      (λ g. rw g (ap shows_entry (W.entry b i j (stood-below s r b l) q l (leb-false m j g)))))
      ∙ ap (λ (x : Reply). if not (stood s b) then reply.Refused 12 else x) (sym (refuse_both (leb s.sizes.n i) (leb m j) _ _))
      ∙ sym (refuse_both (not (stood s b)) (leb s.sizes.n i || leb m j) _ _)

  pub task-sees : (t : ℕ) → sees_task e t ≡ look_task s t
  unfolding sees_task look_task sees_row
  task-sees t =
      ap (λ (z : Sizes). if leb z.t t then reply.Refused 4 else sees_row (e.task t)) W.sizes ∙ by_test (leb s.sizes.t t)
      (λ q. rw q)
      (λ q. rw (q, W.task t (leb-false _ _ q)))

  -- ---- the report

  lives_are : count_of (lives_at e) s.sizes.h ≡ Ok (count (λ (j : ℕ). is_live (slot_at s j).status) s.sizes.h 0)
  unfolding lives_at live_at
  lives_are = count-found (lives_at e) _ s.sizes.h (λ j l. rw (W.slot j l) (good_if (is_live (slot_at s j).status) j, none_if (is_live (slot_at s j).status) j))

  standers_are : count_of (stander_in e) s.sizes.b ≡ Ok (count (stood s) s.sizes.b 0)
  standers_are = count-found (stander_in e) (stood s) s.sizes.b (λ b l. (ap is_bad (stander-alike W sh b) ∙ stander-good s sh b, ap is_none (stander-alike W sh b) ∙ stander-is s sh b))

  pub report-sees : sees_report e ≡ report s
  unfolding sees_report report reports
  report-sees =
      ap (λ (z : Sizes). reports (count_of (lives_at e) z.h) (count_of (stander_in e) z.b)) W.sizes ∙ ap₂ reports lives_are standers_are

-- ---- on a sound pool

module _ {d : Sizes} {p : List ℕ} (S : Sound d p) where
  seen : (x : Sight → Reply) (r : Reply) → x (sight p d) ≡ r → seen_in (header_of p) p x ≡ r
  unfolding seen_in
  seen x r e = ap (λ (z : Option Sizes). seen_in z p x) S.header ∙ e

  W : Shows (sight p d) (view_of d p)
  W = sight-shows d p S

  sh : Shape (view_of d p)
  sh = sound-shape d p S

  pub look_version_lem : (b : ℕ) → look_version_in p b ≡ look_version (view_of d p) b
  unfolding look_version_in
  look_version_lem b = seen _ _ (version-sees W sh S.rules b)

  pub look_cell_lem : (b i : ℕ) → look_cell_in p b i ≡ look_cell (view_of d p) b i
  unfolding look_cell_in
  look_cell_lem b i = seen _ _ (cell-sees W sh S.rules b i)

  pub look_log_lem : (b i : ℕ) → look_log_in p b i ≡ look_log (view_of d p) b i
  unfolding look_log_in
  look_log_lem b i = seen _ _ (log-sees W sh S.rules b i)

  pub look_entry_lem : (b i j : ℕ) → look_entry_in p b i j ≡ look_entry (view_of d p) b i j
  unfolding look_entry_in
  look_entry_lem b i j = seen _ _ (entry-sees W sh S.rules b i j)

  pub look_task_lem : (t : ℕ) → look_task_in p t ≡ look_task (view_of d p) t
  unfolding look_task_in
  look_task_lem t = seen _ _ (task-sees W sh S.rules t)

  pub the_report : report_in p ≡ report (view_of d p)
  unfolding report_in
  the_report = seen _ _ (report-sees W sh S.rules)
