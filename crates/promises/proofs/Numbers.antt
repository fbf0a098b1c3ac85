-- Demand 1: which number is returned: on any pool before the store is looked at, on a pool that passes the check by document 01's table; and what 10 leaves and tells.
-- Rests on Calls, the bridge and the machine's theorems.
use Rattle.std.specs.Prelude.{◌+◌, ◌≤◌, ℕ, Bool, false, List, [], ◌∷◌, refl, eqb, leb, length, replicate, take, if◌then◌else◌, None, Option}
use Rattle.std.proofs.Common.{true≢false, ◌∙◌, ap, sym, arith, get_or-take, le-ltb}
use Rattle.std.proofs.Math.Path.{◌≡◌, subst⁻¹}
use Rattle.std.proofs.lemmas.Bool.{eqb-false}
use Rattle.acts.specs.Acts.{Act}
use Rattle.acts.specs.Sight.{Sight}
use Rattle.bridge.specs.Asked.{Asked, Get, LookCell, LookEntry, LookLog, LookTask, LookVersion, New, Open, Page, Release, Report, Set, Step, asked, call_of, sizes_after}
use Rattle.bridge.specs.Bridge.{bridge}
use Rattle.bridge.specs.Shown.{sound-shape}
use Rattle.bridge.specs.Sound.{Sound}
use Rattle.layout.specs.Calls.{called_in, look_cell_in, look_entry_in, look_log_in, look_task_in, look_version_in, release_in, report_in, seen_in, start_get_in, start_new_in, start_page_in, start_set_in, step_in}
use Rattle.layout.specs.Header.{header_of}
use Rattle.layout.specs.Opened.{open_not, open-reply}
use Rattle.layout.specs.Pool.{open_in, view_of}
use Rattle.rulebook.specs.Answers.{refusal, word}
use Rattle.rulebook.specs.declared.Progress.{Progress}
use Rattle.rulebook.specs.declared.Progress.TheVariants as progress
use Rattle.rulebook.specs.declared.Reading.TheVariants as reading
use Rattle.rulebook.specs.declared.Reply.{Reply}
use Rattle.rulebook.specs.declared.Sizes.{Sizes}
use Rattle.rulebook.specs.declared.Stage.{Stage}
use Rattle.rulebook.specs.declared.Stage.TheVariants as stage
use Rattle.rulebook.specs.declared.Status.TheVariants.{Live}
use Rattle.rulebook.specs.declared.Task.{Task}
use Rattle.rulebook.specs.Machine as machine
use Rattle.rulebook.specs.Machine.{call}
use Rattle.rulebook.specs.Sizes.{opens, room}
use Rattle.rulebook.specs.State.{Result, State, free_block, list_to, slot_at, task_at}
use Rattle.rulebook.specs.Steps.{counted, exchanged, finished, got_copy, got_get, got_page, here_of, no_room, step, step_at, taken}
use Rattle.rulebook.specs.Tests.{by_test, if_case}
use Rattle.rules.specs.Blind.{erase_call_lem}
use Rattle.rules.specs.Erase.{erase, erase-shape}
use Rattle.rules.proofs.Kept.{rules-inv}
use Rattle.rules.specs.Rules.{Rules}
use Rattle.theorems.specs.Invariant.Shape.{Shape}
use Rattle.theorems.specs.Invariant.Steps.{inv-step}
use Rattle.theorems.proofs.Causes.{fits-call}
use Rattle.theorems.specs.Proofs.Ten as ten
use Rattle.theorems.specs.Terms.{Every, Harmless, causes, due, more, none}
use Rattle.promises.specs.Promises.{MachineCall, OpenDue, RefusalDue, TenHarmless, Undescribed}
use Rattle.promises.proofs.Calls.{spoken_case, spoken-long, telling}
use Rattle.promises.specs.Said.{Ask, Build, Check, Outcome, answer_after, is_open, number_of, pool_after, spoken, state_in, word_of}

-- ---- before the store is looked at

-- the number and the words of open's answer, where it may open and where not
abbrev Opens : Bool → ℕ → Outcome → Type 0
Opens o b z = (z.1 ≡ (if o then 0 else 3)) × (take 16 z.0.1 ≡ (if o then b else 0) ∷ replicate 15 0)

opens-told : (p : List ℕ) (n h t : ℕ) (q a : List ℕ) → Opens (opens n h t (length p)) (room n h t (length p)) ((q, telling (open_in p n h t).1 a), refusal (open_in p n h t).1)
unfolding list_to
opens-told p n h t q a =
    by_test (opens n h t (length p))
    (λ o. rw (o, open-reply p n h t o) (refl, refl))
    (λ o. rw (o, open_not p n h t o) (refl, refl))

pub open_due : OpenDue spoken
unfolding asked
open_due n h t p a l =
    subst⁻¹ (Opens (opens n h t (length p)) (room n h t (length p))) (spoken-long (Ask (Open n h t)) p a (le-ltb (length a) 16 l)) (opens-told p n h t (open_in p n h t).0 a)

-- 1, whatever is planned or looked for
called-bad : (r : Option Sizes) (p : List ℕ) (f : Sight → Act) → r ≡ None → refusal (called_in r p f).1 ≡ 1
unfolding called_in
called-bad r p f e = rw e

seen-bad : (r : Option Sizes) (p : List ℕ) (f : Sight → Reply) → r ≡ None → refusal (seen_in r p f) ≡ 1
unfolding seen_in
seen-bad r p f e = rw e

asked-bad : (x : Asked) (p : List ℕ) → is_open x ≡ false → header_of p ≡ None → refusal (asked x p).1 ≡ 1
unfolding asked start_new_in start_get_in start_set_in start_page_in step_in release_in look_version_in look_cell_in look_log_in look_entry_in look_task_in report_in
asked-bad (Open n h t) p o e = absurd (true≢false o)
asked-bad (New t v) p o e = called-bad (header_of p) p _ e
asked-bad (Get t h i) p o e = called-bad (header_of p) p _ e
asked-bad (Set t h i v) p o e = called-bad (header_of p) p _ e
asked-bad (Page t h from m) p o e = called-bad (header_of p) p _ e
asked-bad (Step t) p o e = called-bad (header_of p) p _ e
asked-bad (Release h) p o e = called-bad (header_of p) p _ e
asked-bad (LookVersion b) p o e = seen-bad (header_of p) p _ e
asked-bad (LookCell b i) p o e = seen-bad (header_of p) p _ e
asked-bad (LookLog b i) p o e = seen-bad (header_of p) p _ e
asked-bad (LookEntry b i j) p o e = seen-bad (header_of p) p _ e
asked-bad (LookTask t) p o e = seen-bad (header_of p) p _ e
asked-bad Report p o e = seen-bad (header_of p) p _ e

pub undescribed : Undescribed spoken
undescribed x p a o l e = subst⁻¹ (λ (z : Outcome). z.1 ≡ 1) (spoken-long (Ask x) p a (le-ltb (length a) 16 l)) (asked-bad x p o e)

-- ---- on a pool that passes the check

pub refusal_due : RefusalDue spoken
refusal_due x p a d S l =
    subst⁻¹ (λ (z : Outcome). z.1 ≡ due (causes (call_of x p) (view_of d p))) (spoken-long (Ask x) p a (le-ltb (length a) 16 l))
    (ap refusal (bridge x S).reply ∙ (fits-call (view_of d p) (call_of x p)).is_due)

-- a step leaves the slots of live handles as they were: it does not look at amounts, and from a store with none the invariant says so
live_slots : (s : State) → Shape s → Rules s → (t j : ℕ) → (slot_at s j).status ≡ Live → slot_at (step s t).0 j ≡ slot_at s j
unfolding call
live_slots s sh r t j l =
    ap (λ (x : State). slot_at x j) (erase_call_lem (machine.Step t) s) ∙ ((inv-step (erase s) (erase-shape s sh) (rules-inv s r) t).1 j l).0

step_harmless : (t : ℕ) (p a : List ℕ) (d : Sizes) → Sound d p → number_of spoken (Ask (Step t)) p a ≡ 10 → Harmless (view_of d p) t (view_of d (pool_after spoken (Ask (Step t)) p a))
unfolding call_of sizes_after call
step_harmless t p a d S =
    let b = bridge (Step t) S in
    let s = view_of d p in
    spoken_case (Ask (Step t)) p a (λ (z : Outcome). z.1 ≡ 10 → Harmless s t (view_of d z.0.0))
    (λ _ e. absurd (let q : ◌≡◌ {A = ℕ} 15 10 = e in omega arith))
    (λ _ e. subst⁻¹ (Harmless s t) b.state (ten.ten_harmless s (sound-shape d p S) t (live_slots s (sound-shape d p S) S.rules t) (ap refusal (sym b.reply) ∙ e)))

-- no row of the table is 10
abbrev NoTen : List (Bool × ℕ) → Type 0
NoTen l = Every (λ (c : Bool × ℕ). eqb c.1 10 ≡ false) l

due_not : (l : List (Bool × ℕ)) → NoTen l → due l ≡ 10 → ⊥
unfolding due
due_not [] none e = let z : ◌≡◌ {A = ℕ} 0 10 = e in omega arith
due_not (c ∷ cs) (more h m) e = by_test c.0 (λ b. eqb-false c.1 10 h (rw b at e)) (λ b. due_not cs m (rw b at e))

-- so the call is never refused 10
never-ten : {Q : Type 0} (x : Asked) (p a : List ℕ) (d : Sizes) → Sound d p → NoTen (causes (call_of x p) (view_of d p)) → number_of spoken (Ask x) p a ≡ 10 → Q
never-ten {Q} x p a d S rows =
    spoken_case (Ask x) p a (λ (z : Outcome). z.1 ≡ 10 → Q)
    (λ _ e. absurd (let q : ◌≡◌ {A = ℕ} 15 10 = e in omega arith))
    (λ _ e. absurd (due_not (causes (call_of x p) (view_of d p)) rows (sym (ap refusal (bridge x S).reply ∙ (fits-call (view_of d p) (call_of x p)).is_due) ∙ e)))

pub ten_harmless : TenHarmless spoken
unfolding call_of
ten_harmless (Ask (Open n h t)) p a d S = never-ten (Open n h t) p a d S (more refl none)
ten_harmless (Ask (New t v)) p a d S = never-ten (New t v) p a d S (more refl (more refl (more refl none)))
ten_harmless (Ask (Get t h i)) p a d S = never-ten (Get t h i) p a d S (more refl (more refl (more refl (more refl none))))
ten_harmless (Ask (Set t h i v)) p a d S = never-ten (Set t h i v) p a d S (more refl (more refl (more refl (more refl (more refl none)))))
ten_harmless (Ask (Page t h i m)) p a d S = never-ten (Page t h i m) p a d S (more refl (more refl (more refl (more refl (more refl none)))))
ten_harmless (Ask (Step t)) p a d S = λ e. (t, refl, step_harmless t p a d S e)
ten_harmless (Ask (Release h)) p a d S = never-ten (Release h) p a d S (more refl (more refl none))
ten_harmless (Ask (LookVersion b)) p a d S = never-ten (LookVersion b) p a d S (more refl none)
ten_harmless (Ask (LookCell b i)) p a d S = never-ten (LookCell b i) p a d S (more refl (more refl none))
ten_harmless (Ask (LookLog b i)) p a d S = never-ten (LookLog b i) p a d S (more refl (more refl none))
ten_harmless (Ask (LookEntry b i j)) p a d S = never-ten (LookEntry b i j) p a d S (more refl (more refl (more refl none)))
ten_harmless (Ask (LookTask t)) p a d S = never-ten (LookTask t) p a d S (more refl none)
ten_harmless (Ask Report) p a d S = never-ten Report p a d S none
ten_harmless Check p a d S =
    spoken_case Check p a (λ (z : Outcome). z.1 ≡ 10 → (t : ℕ) × (Check ≡ Ask (Step t)) × Harmless (view_of d p) t (view_of d z.0.0))
    (λ _ e. absurd (let q : ◌≡◌ {A = ℕ} 15 10 = e in omega arith))
    (λ _ e. absurd (let q : ◌≡◌ {A = ℕ} 0 10 = e in omega arith))

-- ---- the step count is returned with 10: it follows from `MachineCall` alone, for any build

module _ (s : State) (t : ℕ) where
  -- where the answer is 10, its second word is the task's steps
  abbrev Counts : Task → Result → Type 0
  Counts k r = refusal r.1 ≡ 10 → word 1 r.1 ≡ k.steps

  not_ten : {Q : Type 0} → ◌≡◌ {A = ℕ} 0 10 → Q
  not_ten e = absurd (omega arith)

  taken-counts : (k : Task) (g : Stage) → Counts k (taken s t k g)
  unfolding taken no_room
  taken-counts k g = if_case (Counts k) (leb s.sizes.b (free_block s)) (λ _ _. refl) (λ _. not_ten)

  got-counts : (q : Progress) (k : Task) → Counts k (got_get q s t k) × Counts k (got_page q s t k) × Counts k (got_copy q s t k)
  unfolding got_get got_page got_copy
  got-counts (progress.Going r w) k = (not_ten, not_ten, not_ten)
  got-counts (progress.Settled w) k = (not_ten, if_case (Counts k) (eqb (w.cell + 1) k.until) (λ _. not_ten) (λ _. not_ten), not_ten)

  at-counts : (g : Stage) (k : Task) → Counts k (step_at g s t k)
  unfolding step_at finished exchanged
  at-counts stage.Idle k = λ e. absurd (let z : ◌≡◌ {A = ℕ} 6 10 = e in omega arith)
  at-counts stage.TakeNew k = taken-counts k stage.FillNew
  at-counts stage.FillNew k = if_case (Counts k) (eqb (k.hand.cell + 1) s.sizes.n) (λ _. not_ten) (λ _. not_ten)
  at-counts (stage.Getting r) k = (got-counts _ k).0
  at-counts stage.Exchange k = if_case (Counts k) (eqb (here_of s k).version k.number) (λ _. not_ten) (λ _. not_ten)
  at-counts stage.Read k = not_ten
  at-counts stage.Append k = not_ten
  at-counts stage.Write k = not_ten
  at-counts stage.TakeCopy k = taken-counts k (stage.Copying reading.Guess)
  at-counts (stage.Copying r) k = (got-counts _ k).2
  at-counts stage.FillCopy k = not_ten
  at-counts stage.Put k = not_ten
  at-counts (stage.Paging r) k = (got-counts _ k).1

  step_counts : Counts (counted (task_at s t)) (step s t)
  unfolding step
  step_counts =
      if_case (Counts (counted (task_at s t))) (leb s.sizes.t t)
      (λ _ e. absurd (let z : ◌≡◌ {A = ℕ} 4 10 = e in omega arith))
      (λ _. at-counts (task_at s t).stage (counted (task_at s t)))

-- the steps that the task's row has, and this one
pub ten-counts : (f : Build) → MachineCall f → (t : ℕ) (p a : List ℕ) (d : Sizes) → Sound d p → 16 ≤ length a → number_of f (Ask (Step t)) p a ≡ 10
    → word_of (answer_after f (Ask (Step t)) p a) 1 ≡ (task_at (state_in p) t).steps + 1
unfolding call_of call counted list_to
ten-counts f m t p a d S l e =
    let q = (m (Step t) p a d S l).1 in
    sym (get_or-take 16 (answer_after f (Ask (Step t)) p a) 1 0 (omega arith)) ∙ ap (λ (z : ℕ × List ℕ). word_of z.1 1) q ∙ step_counts (state_in p) t (sym (ap (λ (z : ℕ × List ℕ). z.0) q) ∙ e)
