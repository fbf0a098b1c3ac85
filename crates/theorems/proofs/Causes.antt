-- Each refusal is given exactly when document 01's table says, in its order; each but 10 says its number and nothing else, and changes nothing.
-- Rests on the machine's definitions alone.
use Rattle.std.specs.Prelude.{◌+◌, ◌<◌, suc, zero, ℕ, Bool, ◌&&◌, ◌||◌, not, ◌≡◌, eqb, leb, length, if◌then◌else◌}
use Rattle.std.proofs.Common.{zero-le, ◌∙◌, not-suc-le-zero, arith, eqb-true, leb-false, leb-true}
use Rattle.std.proofs.Math.Bool.{false, true}
use mathlib.Core.List.{List, [], ◌∷◌}
use Rattle.std.proofs.Math.Path.{refl, sym}
use Rattle.std.proofs.lemmas.Bool.{eqb-false, not-false}
use Rattle.rulebook.specs.declared.Entry.{Entry}
use Rattle.rulebook.specs.declared.Progress.{Progress}
use Rattle.rulebook.specs.declared.Progress.TheVariants.{Going, Settled}
use Rattle.rulebook.specs.declared.Reading.{Reading}
use Rattle.rulebook.specs.declared.Reading.TheVariants.{Guess, Length, Probe, Version}
use Rattle.rulebook.specs.declared.Reply.{Reply}
use Rattle.rulebook.specs.declared.Reply.TheVariants.{Opened, Refused, ShownEntry}
use Rattle.rulebook.specs.declared.Stage.{Stage}
use Rattle.rulebook.specs.declared.Stage.TheVariants.{Append, Copying, Exchange, FillCopy, FillNew, Getting, Idle, Paging, Put, Read, TakeCopy, TakeNew, Write}
use Rattle.rulebook.specs.declared.Task.{Task}
use Rattle.rulebook.specs.Answers.{reading_code, refusal, stage_code, words}
use Rattle.rulebook.specs.History.{accepted}
use Rattle.rulebook.specs.Lists.{lowest-none}
use Rattle.rulebook.specs.Machine.{Call, Get, LookCell, LookEntry, LookLog, LookTask, LookVersion, New, Open, Page, Release, Report, Set, Step, call, look_cell, look_entry, look_log, look_task, look_version, release, report}
use Rattle.rulebook.specs.Sizes.{opens, room}
use Rattle.rulebook.specs.Starts.{opened, opening, start_get, start_new, start_page, start_set, startable}
use Rattle.rulebook.specs.State.{Result, State, block_at, busy, free_block, held, log_at, stood, task_at}
use Rattle.rulebook.specs.Steps.{counted, exchanged, finished, got_copy, got_get, got_page, here_of, no_room, step, step_at, taken}
use Rattle.rulebook.specs.Tests.{by_test, if_case, or_neither}
use Rattle.theorems.specs.Invariant.Facts.{not_held}
use Rattle.theorems.specs.Terms.{all_to, causes, due, full}

-- ---- no block is free

all_to_lem : (p : ℕ → Bool) (n : ℕ) → ((k : ℕ) → k < n → p k ≡ true) → all_to p n ≡ true
unfolding all_to
all_to_lem p zero h = refl
all_to_lem p (suc n) h = rw (all_to_lem p n (λ k q. h k (omega arith)), h n (omega arith))

not_all : (p : ℕ → Bool) (n k : ℕ) → k < n → p k ≡ false → all_to p n ≡ false
unfolding all_to
not_all p zero k h e = absurd (not-suc-le-zero h)
not_all p (suc n) k h e =
    by_test (eqb k n)
    (λ q. by_test (all_to p n) (λ a. rw (a, ← eqb-true k n q) e) (λ a. rw a))
    (λ q. rw (not_all p n k (omega (arith, eqb-false k n q)) e))

-- the search for a free block finds none exactly where every block is held
full_is : (s : State) → leb s.sizes.b (free_block s) ≡ full s
unfolding free_block
full_is s =
    by_test (leb s.sizes.b (free_block s))
    (λ e. e ∙ sym (all_to_lem (held s) s.sizes.b (λ k h. not-false (held s k) (lowest-none (λ (j : ℕ). not (held s j)) s.sizes.b 0 k zero-le (omega (arith, h, leb-true s.sizes.b (free_block s) e))))))
    (λ e. e ∙ sym (not_all (held s) s.sizes.b (free_block s) (leb-false s.sizes.b (free_block s) e) (not_held s (leb-false s.sizes.b (free_block s) e))))

-- ---- one test after the other

module _ (s : State) where
  -- the refusal is the first cause's; it is none, or 10, or it says its number alone and leaves the state
  pub record Fits (l : List (Bool × ℕ)) (r : Result) : Type 0 where
    pub is_due : refusal r.1 ≡ due l
    pub mild : (refusal r.1 ≡ 0 → ⊥) → (refusal r.1 ≡ 10 → ⊥) → (r.0 ≡ s) × (words r.1 ≡ [])

  -- nothing speaks against the call
  accepted-fits : (r : Result) → refusal r.1 ≡ 0 → Fits [] r
  unfolding due
  accepted-fits r e = record { is_due = e; mild = λ a b. absurd (a e) }

  module _ (l : List (Bool × ℕ)) (n : ℕ) where
    fits_test : (b : Bool) (r : Result) → Fits l r → Fits ((b, n) ∷ l) (if b then (s, Refused n) else r)
    unfolding due
    fits_test true r h = record { is_due = refl; mild = λ _ _. (refl, refl) }
    fits_test false r h = record { is_due = h.is_due; mild = h.mild }

    fits_either : (a b : Bool) (r : Result) → Fits l r → Fits ((a, n) ∷ (b, n) ∷ l) (if a || b then (s, Refused n) else r)
    unfolding due
    fits_either true b r h = record { is_due = refl; mild = λ _ _. (refl, refl) }
    fits_either false true r h = record { is_due = refl; mild = λ _ _. (refl, refl) }
    fits_either false false r h = record { is_due = h.is_due; mild = h.mild }

    -- the same for a call that only answers
    look_test : (b : Bool) (a : Reply) → Fits l (s, a) → Fits ((b, n) ∷ l) (s, if b then Refused n else a)
    unfolding due
    look_test true a h = record { is_due = refl; mild = λ _ _. (refl, refl) }
    look_test false a h = record { is_due = h.is_due; mild = h.mild }

    look_either : (b c : Bool) (a : Reply) → Fits l (s, a) → Fits ((b, n) ∷ (c, n) ∷ l) (s, if b || c then Refused n else a)
    unfolding due
    look_either true c a h = record { is_due = refl; mild = λ _ _. (refl, refl) }
    look_either false true a h = record { is_due = refl; mild = λ _ _. (refl, refl) }
    look_either false false a h = record { is_due = h.is_due; mild = h.mild }

  fits-start : (t : ℕ) (l : List (Bool × ℕ)) (r : Result) → Fits l r
      → Fits ((leb s.sizes.t t, 4) ∷ (busy (task_at s t).stage, 5) ∷ l) (if not (eqb (startable s t) 0) then (s, Refused (startable s t)) else r)
  unfolding startable due
  fits-start t l r h =
      by_test (leb s.sizes.t t)
      (λ e. rw e (record { is_due = refl; mild = λ _ _. (refl, refl) }))
      (λ e. by_test (busy (task_at s t).stage)
      (λ b. rw (e, b) (record { is_due = refl; mild = λ _ _. (refl, refl) }))
      (λ b. rw (e, b) (record { is_due = h.is_due; mild = h.mild })))

  -- ---- a step

  -- a step of a get, a page or a copy is not refused
  fits-got : (q : Progress) (t : ℕ) (k : Task) → (refusal (got_get q s t k).1 ≡ 0) × (refusal (got_page q s t k).1 ≡ 0) × (refusal (got_copy q s t k).1 ≡ 0)
  unfolding got_get got_page got_copy
  fits-got (Going r w) t k = (refl, refl, refl)
  fits-got (Settled w) t k =
      (refl, if_case (λ (r : Result). refusal r.1 ≡ 0) (eqb (w.cell + 1) k.until) (λ e. refl) (λ e. refl), refl)

  no_code : (r : Reading) → eqb (reading_code r) 1 ≡ false
  no_code Guess = refl
  no_code Version = refl
  no_code Length = refl
  no_code Probe = refl

  abbrev Stepped : Stage → Result → Type 0
  Stepped g r = Fits ((not (busy g), 6) ∷ (eqb (stage_code g) 1 && full s, 10) ∷ []) r

  -- a stage that takes no block
  fits_on : (g : Stage) (r : Result) → busy g ≡ true → eqb (stage_code g) 1 ≡ false → refusal r.1 ≡ 0 → Stepped g r
  unfolding due
  fits_on g r b c e = record { is_due = rw (b, c) e; mild = λ a _. absurd (a e) }

  fits-take : (g h : Stage) (t : ℕ) (k : Task) → busy g ≡ true → eqb (stage_code g) 1 ≡ true → Stepped g (taken s t k h)
  unfolding taken no_room due
  fits-take g h t k b c =
      if_case (Stepped g) (leb s.sizes.b (free_block s))
      (λ e. record { is_due = rw (b, c, sym (full_is s) ∙ e) refl; mild = λ _ z. absurd (z refl) })
      (λ e. record { is_due = rw (b, c, sym (full_is s) ∙ e) refl; mild = λ z _. absurd (z refl) })

  fits-at : (g : Stage) (t : ℕ) (k : Task) → Stepped g (step_at g s t k)
  unfolding step_at finished exchanged due
  fits-at Idle t k = record { is_due = refl; mild = λ _ _. (refl, refl) }
  fits-at TakeNew t k = fits-take TakeNew FillNew t k refl refl
  fits-at FillNew t k =
      if_case (Stepped FillNew) (eqb (k.hand.cell + 1) s.sizes.n) (λ e. fits_on FillNew _ refl refl refl) (λ e. fits_on FillNew _ refl refl refl)
  fits-at (Getting r) t k = fits_on (Getting r) _ refl (no_code r) (fits-got _ t k).0
  fits-at Exchange t k =
      if_case (Stepped Exchange) (eqb (here_of s k).version k.number) (λ e. fits_on Exchange _ refl refl refl) (λ e. fits_on Exchange _ refl refl refl)
  fits-at Read t k = fits_on Read _ refl refl refl
  fits-at Append t k = fits_on Append _ refl refl refl
  fits-at Write t k = fits_on Write _ refl refl refl
  fits-at TakeCopy t k = fits-take TakeCopy (Copying Guess) t k refl refl
  fits-at (Copying r) t k = fits_on (Copying r) _ refl (no_code r) (fits-got _ t k).2
  fits-at FillCopy t k = fits_on FillCopy _ refl refl refl
  fits-at Put t k = fits_on Put _ refl refl refl
  fits-at (Paging r) t k = fits_on (Paging r) _ refl (no_code r) (fits-got _ t k).1

  -- ---- every call

  pub fits-call : (c : Call) → Fits (causes c s) (call c s)
  unfolding call opening start_new start_get start_set start_page step release look_version look_cell look_log look_entry look_task report
  fits-call (Open n h t words lie) = opens-fits (opens n h t words)
    where
      opens-fits : (b : Bool) → Fits ((not b, 3) ∷ []) (if b then (opened n h t words lie, Opened (room n h t words)) else (s, Refused 3))
      opens-fits true = unfold due in record { is_due = refl; mild = λ z _. absurd (z refl) }
      opens-fits false = unfold due in record { is_due = refl; mild = λ _ _. (refl, refl) }
  fits-call (New t v) = fits-start t _ _ (fits_test _ 9 _ _ (accepted-fits _ refl))
  fits-call (Get t h i) = fits-start t _ _ (fits_test _ 7 _ _ (fits_test _ 8 _ _ (accepted-fits _ refl)))
  fits-call (Set t h i v) = fits-start t _ _ (fits_test _ 7 _ _ (fits_test _ 8 _ _ (fits_test _ 9 _ _ (accepted-fits _ refl))))
  fits-call (Page t h from m) = fits-start t _ _ (fits_test _ 7 _ _ (fits_either _ 8 _ _ _ (accepted-fits _ refl)))
  fits-call (Step t) = fits_test _ 4 _ _ (fits-at (task_at s t).stage t (counted (task_at s t)))
  fits-call (Release h) = fits_test _ 7 _ _ (fits_test _ 11 _ _ (accepted-fits _ refl))
  fits-call (LookVersion b) = look_test _ 12 _ _ (accepted-fits _ refl)
  fits-call (LookCell b i) = look_either _ 12 _ _ _ (accepted-fits _ refl)
  fits-call (LookLog b i) = look_either _ 12 _ _ _ (accepted-fits _ refl)
  fits-call (LookEntry b i j) = entry-fits (not (stood s b)) (leb s.sizes.n i) (leb (length (log_at (block_at s b) i)) j) _
    where
      entry-fits : (x y z : Bool) (a : Entry) → Fits ((x, 12) ∷ (y, 12) ∷ (z, 12) ∷ []) (s, if x || (y || z) then Refused 12 else ShownEntry a)
      entry-fits true y z a = unfold due in record { is_due = refl; mild = λ _ _. (refl, refl) }
      entry-fits false y z a = let h = look_either [] 12 y z (ShownEntry a) (accepted-fits _ refl) in unfold due in record { is_due = h.is_due; mild = h.mild }
  fits-call (LookTask t) = look_test _ 4 _ _ (accepted-fits _ refl)
  fits-call Report = accepted-fits _ refl

  -- a call that is not accepted leaves the state
  pub refused-same : (c : Call) → accepted (call c s).1 ≡ false → (call c s).0 ≡ s
  refused-same c e =
      let h = or_neither _ _ e in
      ((fits-call c).mild (eqb-false (refusal (call c s).1) 0 h.0) (eqb-false (refusal (call c s).1) 10 h.1)).0
