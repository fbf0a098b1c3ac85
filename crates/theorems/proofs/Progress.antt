-- A started task ends within its price in steps of its own, whatever is called between them.
-- Rests on the price of a busy task, and on no step of a busy task being refused but by 10.
use Rattle.std.specs.Prelude.{◌+◌, ◌<◌, ◌≤◌, suc, ℕ, Bool, ◌&&◌, ◌||◌, false, List, [], ◌∷◌, ◌≡◌, eqb, leb, ltb, if◌then◌else◌}
use Rattle.std.proofs.lemmas.Bool.{false≢true, eqb-false, lt-leb}
use Rattle.std.proofs.Math.Bool.{true, true≢false}
use Rattle.std.proofs.Common.{◌∙◌, sym, mul-le-mul_right, suc-mul, eqb-true, ltb-false, ltb-true}
use Rattle.std.proofs.Math.Path.{ap, refl, subst}
use native.Mathlib.Omega.{arith}
use Rattle.std.proofs.Math.ListN.{get_or-eq_default}
use Rattle.rulebook.specs.declared.Reply.{Reply}
use Rattle.rulebook.specs.declared.Sizes.{Sizes}
use Rattle.rulebook.specs.declared.Slot.{Slot}
use Rattle.rulebook.specs.declared.Stage.{Stage}
use Rattle.rulebook.specs.declared.Stage.TheVariants.{Append, Copying, Exchange, FillCopy, FillNew, Getting, Idle, Paging, Put, Read, TakeCopy, TakeNew, Write}
use Rattle.rulebook.specs.declared.Task.{Task}
use Rattle.rulebook.specs.Answers.{refusal, stage_code}
use Rattle.rulebook.specs.History.{Past, Value, Work, accepted, change, fresh, making, next, noted, one, paging, reading, released, setting, started, stepped}
use Rattle.rulebook.specs.Lists.{replicate_get}
use Rattle.rulebook.specs.Machine.{Call, Get, LookCell, LookEntry, LookLog, LookTask, LookVersion, New, Open, Page, Release, Report, Set, Step, call, look_cell, look_entry, look_log, look_task, look_version, release, report}
use Rattle.rulebook.specs.Sizes.{opens}
use Rattle.rulebook.specs.Starts.{Lie, opened, opening}
use Rattle.rulebook.specs.State.{Block, Result, State, busy, idle, task_at}
use Rattle.rulebook.specs.Steps.{step}
use Rattle.rulebook.specs.Tests.{by_test, if_case}
use Rattle.theorems.specs.Invariant.Sizes.{sizes-get, sizes-new, sizes-page, sizes-release, sizes-set, sizes_step}
use Rattle.theorems.specs.Invariant.Tasks.{OkAt}
use Rattle.theorems.specs.Notes.Calls.{notes-next}
use Rattle.theorems.specs.Notes.Step.{Notes}
use Rattle.theorems.specs.Notes.Told.{For, change-other, change-same}
use Rattle.theorems.specs.Prices.Budget.{Within, copy_some}
use Rattle.theorems.specs.Prices.Digits.{left-some, unsettled-good}
use Rattle.theorems.proofs.Causes.{fits-call}
use Rattle.theorems.specs.Terms.{Ends, causes, digits, due, full, is_step, later, now, price, steps_in}

-- a step of a busy task is taken
pub busy-step : (s : State) (t : ℕ) → t < s.sizes.t → busy (task_at s t).stage ≡ true → accepted (step s t).1 ≡ true
unfolding due call
busy-step s t in_t b =
    let h = (fits-call s (Step t)).is_due in
    by_test (eqb (stage_code (task_at s t).stage) 1 && full s)
    (λ e. let z : refusal (step s t).1 ≡ 10 = rw (lt-leb s.sizes.t t in_t, b, e) at h in rw z)
    (λ e. let z : refusal (step s t).1 ≡ 0 = rw (lt-leb s.sizes.t t in_t, b, e) at h in rw z)

-- a start is taken only where its task is idle
start-idle : (s : State) (c : Call) (u : ℕ) (l : List (Bool × ℕ)) → causes c s ≡ (leb s.sizes.t u, 4) ∷ (busy (task_at s u).stage, 5) ∷ l → accepted (call c s).1 ≡ true → busy (task_at s u).stage ≡ false
unfolding due
start-idle s c u l is a =
    by_test (busy (task_at s u).stage)
    (λ b. absurd (by_test (leb s.sizes.t u)
    (λ e. false≢true (sym (ap (λ (x : ℕ). eqb x 0 || eqb x 10) (num e b)) ∙ a))
    (λ e. false≢true (sym (ap (λ (x : ℕ). eqb x 0 || eqb x 10) (num' e b)) ∙ a))))
    (λ b. b)
  where
    h : refusal (call c s).1 ≡ due ((leb s.sizes.t u, 4) ∷ (busy (task_at s u).stage, 5) ∷ l)
    h = (fits-call s c).is_due ∙ ap due is

    num : leb s.sizes.t u ≡ true → busy (task_at s u).stage ≡ true → refusal (call c s).1 ≡ 4
    num e b = rw e at h

    num' : leb s.sizes.t u ≡ false → busy (task_at s u).stage ≡ true → refusal (call c s).1 ≡ 5
    num' e b = rw (e, b) at h

module _ (p : Past) (np : Notes p) (t : ℕ) (bz : busy (task_at p.store t).stage ≡ true) where
  -- the task is busy in q too: it is the same work, with b steps more
  abbrev Stays : ℕ → Past → Type 0
  Stays b q = busy (task_at q.store t).stage ≡ true → (q.works t ≡ p.works t) × (q.counts t ≡ p.counts t + b) × (q.store.sizes.n ≡ p.store.sizes.n)

  still : Stays 0 p
  still _ = (refl, omega arith, refl)

  stays-start : (w : Work) (c : Call) (u : ℕ) (l : List (Bool × ℕ)) → causes c p.store ≡ (leb p.store.sizes.t u, 4) ∷ (busy (task_at p.store u).stage, 5) ∷ l
      → (call c p.store).0.sizes ≡ p.store.sizes → Stays 0 (if accepted (call c p.store).1 then started w u (call c p.store).0 p else p)
  unfolding started
  stays-start w c u l is sz =
      if_case (Stays 0) (accepted (call c p.store).1)
      (λ a _. (change-other p.works u w t (other a), change-other p.counts u 0 t (other a) ∙ omega arith, ap (λ (z : Sizes). z.n) sz))
      (λ _. still)
    where
      other : accepted (call c p.store).1 ≡ true → t ≡ u → ⊥
      other a e = true≢false (sym bz ∙ ap (λ (x : ℕ). busy (task_at p.store x).stage) e ∙ start-idle p.store c u l is a)

  -- a busy task is there
  in_tasks : t < p.store.sizes.t
  in_tasks =
      by_test (ltb t p.store.sizes.t) (λ e. ltb-true t _ e)
      (λ e. absurd (false≢true (ap (λ (k : Task). busy k.stage) (sym (get_or-eq_default p.store.tasks idle (omega (arith, ltb-false t p.store.sizes.t e, np.told.shape.tasks_len)))) ∙ bz)))

  stays_step : (u : ℕ) → Stays (one (eqb t u)) (if accepted (step p.store u).1 then stepped (p.works u) u (step p.store u).0 (step p.store u).1 p else p)
  unfolding stepped
  stays_step u =
      by_test (eqb t u)
      (λ e. rw e (
      let a : accepted (step p.store u).1 ≡ true = subst (λ (x : ℕ). accepted (step p.store x).1 ≡ true) (eqb-true t u e) (busy-step p.store t in_tasks bz) in
      rw a (λ _. (refl, subst (λ (x : ℕ). change p.counts x (p.counts x + 1) t ≡ p.counts t + 1) (eqb-true t u e) (change-same p.counts t (p.counts t + 1)), ap (λ (z : Sizes). z.n) (sizes_step p.store u)))))
      (λ e. rw e (
      if_case (Stays 0) (accepted (step p.store u).1)
      (λ _ _. (refl, change-other p.counts u (p.counts u + 1) t (eqb-false t u e) ∙ omega arith, ap (λ (z : Sizes). z.n) (sizes_step p.store u)))
      (λ _. still)))

  stays_open : (n h u words : ℕ) (lie : Lie) → Stays 0 (if accepted (opening p.store n h u words lie).1 then fresh (opening p.store n h u words lie).0 else p)
  unfolding opening
  stays_open n h u words lie =
      if_case (λ (r : Result). Stays 0 (if accepted r.1 then fresh r.0 else p)) (opens n h u words)
      (λ _ b. absurd (false≢true (ap (λ (k : Task). busy k.stage) (sym (none-busy t)) ∙ b)))
      (λ _. still)
    where
      none-busy : (j : ℕ) → task_at (opened n h u words lie) j ≡ idle
      none-busy j = unfold opened in replicate_get u idle j

  stays_look : (a : Reply) → Stays 0 (if accepted a then p else p)
  stays_look a = if_case (Stays 0) (accepted a) (λ _. still) (λ _. still)

  stays : (c : Call) → Stays (one (is_step t c)) (next c p)
  unfolding next noted call released
  stays (Open n h u words lie) = stays_open n h u words lie
  stays (New u v) = stays-start (making v) (New u v) u _ refl (sizes-new p.store u 0 v)
  stays (Get u h i) = stays-start (reading h i) (Get u h i) u _ refl (sizes-get p.store u h i)
  stays (Set u h i v) = stays-start (setting h i v) (Set u h i v) u _ refl (sizes-set p.store u h i v)
  stays (Page u h from m) = stays-start (paging h from m) (Page u h from m) u _ refl (sizes-page p.store u h from m)
  stays (Step u) = stays_step u
  stays (Release h) =
      if_case (Stays 0) (accepted (release p.store h).1) (λ _ _. (refl, omega arith, ap (λ (z : Sizes). z.n) (sizes-release p.store h))) (λ _. still)
  stays (LookVersion b) = stays_look (look_version p.store b)
  stays (LookCell b i) = stays_look (look_cell p.store b i)
  stays (LookLog b i) = stays_look (look_log p.store b i)
  stays (LookEntry b i j) = stays_look (look_entry p.store b i j)
  stays (LookTask u) = stays_look (look_task p.store u)
  stays Report = stays_look (report p.store)

-- a task at any stage but idle has not spent its price
still-cheap : (n handles room : ℕ) (σ : ℕ → Slot) (β : ℕ → Block) (g : Stage) (w : Work) (m : ℕ) (k : Task) (l : List Value) (x : List ℕ) (b : Block) (y : ℕ)
    → busy g ≡ true → OkAt n handles room g σ β k → For n g w m k l x → Within n g k b y → k.steps < price n w
still-cheap n a r σ β Idle w m k l x b y bz ok h q = absurd (false≢true bz)
still-cheap n a r σ β (Getting rd) w m k l x b y bz ok h q =
    subst (λ (z : Work). k.steps < price n z) (sym h.0) (omega (arith, h.1, left-some n rd k.hand (unsettled-good rd _ _ _ _ ok.1.good)))
still-cheap n a r σ β (Paging rd) w m k l x b y bz ok h q =
    subst (λ (z : Work). k.steps < price n z) (sym h.is)
    (let more : suc h.done ≤ h.size = omega (arith, ok.2, h.at, h.until_is) in
    omega (arith, h.price, left-some n rd k.hand (unsettled-good rd _ _ _ _ ok.1.good), suc-mul h.done (3 + digits n), mul-le-mul_right (3 + digits n) more))
still-cheap n a r σ β Exchange w m k l x b y bz ok h q = subst (λ (z : Work). k.steps < price n z) (sym h) (omega (arith, q, ok.2))
still-cheap n a r σ β Read w m k l x b y bz ok h q = subst (λ (z : Work). k.steps < price n z) (sym h) (omega (arith, q, ok.2))
still-cheap n a r σ β Append w m k l x b y bz ok h q = subst (λ (z : Work). k.steps < price n z) (sym h) (omega (arith, q, ok.2))
still-cheap n a r σ β Write w m k l x b y bz ok h q = subst (λ (z : Work). k.steps < price n z) (sym h) (omega (arith, q, ok.2))
still-cheap n a r σ β TakeCopy w m k l x b y bz ok h q = subst (λ (z : Work). k.steps < price n z) (sym h) (omega (arith, q, ok.2))
still-cheap n a r σ β (Copying rd) w m k l x b y bz ok h q =
    subst (λ (z : Work). k.steps < price n z) (sym h) (omega (arith, q.1, copy_some n rd k.hand b (unsettled-good rd _ _ _ _ ok.5.good)))
still-cheap n a r σ β FillCopy w m k l x b y bz ok h q = subst (λ (z : Work). k.steps < price n z) (sym h) (omega (arith, q, ok.2))
still-cheap n a r σ β Put w m k l x b y bz ok h q = subst (λ (z : Work). k.steps < price n z) (sym h) (omega (arith, q, ok.2))
still-cheap n a r σ β TakeNew w m k l x b y bz ok h q = subst (λ (z : Work). k.steps < price n z) (sym h) (omega (arith, q))
still-cheap n a r σ β FillNew w m k l x b y bz ok h q = subst (λ (z : Work). k.steps < price n z) (sym h) (omega (arith, q, ok.3))

-- a busy task has not spent its price
pub not_spent : (p : Past) → Notes p → (t : ℕ) → busy (task_at p.store t).stage ≡ true → p.counts t < price p.store.sizes.n (p.works t)
not_spent p n t b =
    subst (λ (x : ℕ). x < price p.store.sizes.n (p.works t)) (n.told.count t b)
    (still-cheap p.store.sizes.n _ _ _ _ (task_at p.store t).stage (p.works t) _ (task_at p.store t) _ _ _ _ b (n.told.inv.oks t) (n.told.fors t) (n.told.within t))

pub progress-on : (ds : List Call) (p : Past) → Notes p → (t : ℕ) → price p.store.sizes.n (p.works t) ≤ p.counts t + steps_in t ds → Ends t p ds
unfolding steps_in
progress-on [] p np t h =
    by_test (busy (task_at p.store t).stage) (λ b. absurd (omega (arith, not_spent p np t b))) (λ b. now b)
progress-on (c ∷ ds) p np t h =
    by_test (busy (task_at p.store t).stage)
    (λ b. later (by_test (busy (task_at (next c p).store t).stage)
    (λ a. let q = stays p np t b c a in
    progress-on ds (next c p) (notes-next c p np) t (subst (λ (w : Work). price (next c p).store.sizes.n w ≤ (next c p).counts t + steps_in t ds) (sym q.0)
    (subst (λ (n : ℕ). price n (p.works t) ≤ (next c p).counts t + steps_in t ds) (sym q.2) (omega (arith, q.1)))))
    (λ a. now a)))
    (λ b. now b)
