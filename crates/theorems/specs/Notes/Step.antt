-- A step keeps the notes right: all that was handed out and told, and the price of the sets.
-- Rests on Stages and the prices.
use Rattle.std.specs.Prelude.{◌%◌, ◌*◌, ◌+◌, ◌<◌, ◌≤◌, ℕ, ◌&&◌, false, not, List, ◌++◌, ◌≡◌, refl, eqb, leb, get_or, length, if◌then◌else◌}
use Rattle.std.proofs.lemmas.Bool.{false≢true}
use Rattle.std.proofs.Math.Bool.{true}
use Rattle.std.proofs.Common.{true≢false, ◌∙◌, ap, subst, sym, mul-add, arith, leb-false}
use Rattle.rulebook.specs.declared.Reply.{Reply}
use Rattle.rulebook.specs.declared.Stage.{Stage}
use Rattle.rulebook.specs.declared.Stage.TheVariants.{Append, Copying, Exchange, FillCopy, FillNew, Getting, Idle, Paging, Put, Read, TakeCopy, TakeNew, Write}
use Rattle.rulebook.specs.declared.Task.{Task}
use Rattle.rulebook.specs.Answers.{operation, word}
use Rattle.rulebook.specs.History.{Ended, Past, Value, Work, accepted, ends, is_set, making, not_yet_set, noted, one, over, paging, reading, resting, sets_bound, setting, stepped, table_of, work_code}
use Rattle.rulebook.specs.Machine.{Call, Step}
use Rattle.rulebook.specs.State.{Result, State, busy, exchanges, slot_at, task_at}
use Rattle.rulebook.specs.Steps.{counted, step, step_at}
use Rattle.rulebook.specs.Tests.{by_test, if_case}
use Rattle.theorems.specs.Invariant.Steps.{inv-step_at}
use Rattle.theorems.specs.Notes.Fair.{Fair, Gave, Right}
use Rattle.theorems.specs.Notes.Stages.{fair-step}
use Rattle.theorems.specs.Notes.Told.{For, Old, Told, every_map}
use Rattle.theorems.specs.Prices.Budget.{rests, savings}
use Rattle.theorems.specs.Prices.Spend.{cost_at, more_for}
use Rattle.theorems.specs.Terms.{Every, Spent, more, none, page_of, price}

-- a task's end is right: its steps are those counted, exactly what its last stage says, and within its price; it ends as what it was started
-- for, and has handed out what that asks
pub record Sound (p : Past) (e : Ended) : Type 0 where
  pub same_steps : e.told ≡ e.counted
  pub spent : Spent p.store.sizes.n e.last e.told e.probes
  pub cheap : e.told ≤ price p.store.sizes.n e.work
  pub gave : Gave p e.work e.given
  pub as_started : operation e.last ≡ work_code e.work

-- the steps of sets, what they may still spend and what the blocks have saved are within the price of the exchanges made
abbrev pub Paid : Past → Type 0
Paid p = p.set_steps + (rests p.store + savings p.store) ≤ sets_bound p.store.sizes.n p.firsts p.laters

pub record Notes (p : Past) : Type 0 where
  pub told : Told p
  pub gets_right : Every (Right p) p.gets
  pub pages_right : Every (Right p) p.pages
  pub ends_right : Every (Sound p) p.ends
  pub paid : Paid p

-- ---- a step

pub right-on : (p q : Past) → q.store.sizes.n ≡ p.store.sizes.n → ((j : ℕ) → (slot_at p.store j).serial ≤ (slot_at q.store j).serial)
    → ((h : ℕ) → Old p.store h → table_of q.versions h ≡ table_of p.versions h) → (r : Value) → Right p r → Right q r
right-on p q ec rises keeps r h =
    record {
      value_is = h.value_is ∙ ap (λ (x : List ℕ). get_or x r.cell 0) (sym (keeps r.handle h.known));
      whole = ap length (keeps r.handle h.known) ∙ h.whole ∙ sym ec;
      known = omega (arith, rises (r.handle % 256), h.known);
      inside = omega (arith, h.inside, ec);
    }

pub every_both : {A : Type 0} {P : A → Type 0} {l r : List A} → Every P l → Every P r → Every P (l ++ r)
every_both none f = f
every_both (more p e) f = more p (every_both e f)

every_over : (p : Past) (c x : ℕ) (l : List Value) (g : Stage) (w : Work) (a : Reply) → operation g ≡ work_code w
    → (ends a ≡ true → (word 1 a ≡ c) × Spent p.store.sizes.n g (word 1 a) x × (word 1 a ≤ price p.store.sizes.n w) × Gave p w l) → Every (Sound p) (over c x l g w a)
every_over p c x l g w a o h =
    if_case (Every (Sound p)) (ends a)
    (λ e. let q = h e in more (record { same_steps = q.0; spent = q.1; cheap = q.2; gave = q.3; as_started = o }) none)
    (λ e. none)

pub gave-on : (p q : Past) → ((j : ℕ) → (slot_at p.store j).serial ≤ (slot_at q.store j).serial) → ((h : ℕ) → Old p.store h → table_of q.versions h ≡ table_of p.versions h)
    → (w : Work) (l : List Value) → Gave p w l → Gave q w l
gave-on p q rises keeps resting l g = g
gave-on p q rises keeps (making v) l g = tt
gave-on p q rises keeps (reading h i) l g =
    (g.0 ∙ ap (λ (x : List ℕ). page_of h x i 1) (sym (keeps h g.1)), omega (arith, g.1, rises (h % 256)))
gave-on p q rises keeps (setting h i v) l g = tt
gave-on p q rises keeps (paging h from m) l g =
    (g.0 ∙ ap (λ (x : List ℕ). page_of h x from m) (sym (keeps h g.1)), omega (arith, g.1, rises (h % 256)))

pub sound-on : (p q : Past) → q.store.sizes.n ≡ p.store.sizes.n → ((j : ℕ) → (slot_at p.store j).serial ≤ (slot_at q.store j).serial)
    → ((h : ℕ) → Old p.store h → table_of q.versions h ≡ table_of p.versions h) → (e : Ended) → Sound p e → Sound q e
sound-on p q ec rises keeps e h =
    record {
      same_steps = h.same_steps;
      spent = subst (λ (n : ℕ). Spent n e.last e.told e.probes) (sym ec) h.spent;
      cheap = subst (λ (n : ℕ). e.told ≤ price n e.work) (sym ec) h.cheap;
      gave = gave-on p q rises keeps e.work e.given h.gave;
      as_started = h.as_started;
    }

-- a busy task does what it was started for
for_code : (n : ℕ) (g : Stage) (w : Work) (m : ℕ) (k : Task) (l : List Value) (x : List ℕ) → busy g ≡ true → For n g w m k l x → operation g ≡ work_code w
for_code n Idle w m k l x b h = absurd (false≢true b)
for_code n (Getting r) w m k l x b h = ap work_code (sym h.0)
for_code n (Paging r) w m k l x b h = ap work_code (sym h.is)
for_code n Exchange w m k l x b h = ap work_code (sym h)
for_code n Read w m k l x b h = ap work_code (sym h)
for_code n Append w m k l x b h = ap work_code (sym h)
for_code n Write w m k l x b h = ap work_code (sym h)
for_code n TakeCopy w m k l x b h = ap work_code (sym h)
for_code n (Copying r) w m k l x b h = ap work_code (sym h)
for_code n FillCopy w m k l x b h = ap work_code (sym h)
for_code n Put w m k l x b h = ap work_code (sym h)
for_code n TakeNew w m k l x b h = ap work_code (sym h)
for_code n FillNew w m k l x b h = ap work_code (sym h)

-- what a step costs, and what its exchange adds
abbrev Bill : Past → ℕ → Work → State → Type 0
Bill p t w x =
    one (is_set w) + (rests x + savings x) ≤ rests p.store + savings p.store + more_for p.store t (task_at p.store t).stage

notes-stepped : (p : Past) → Notes p → (t : ℕ) (w : Work) (r : Result) → operation (task_at p.store t).stage ≡ work_code w → Fair p t w r → Bill p t w r.0 → Notes (stepped w t r.0 r.1 p)
unfolding stepped
notes-stepped p np t w r o f bill =
    record {
      told = f.told;
      gets_right = every_map (right-on p q f.cells f.rises f.keeps) (every_both f.fair_got np.gets_right);
      pages_right = every_map (right-on p q f.cells f.rises f.keeps) (every_both f.fair_paged np.pages_right);
      ends_right = every_map (sound-on p q f.cells f.rises f.keeps) (every_both (every_over p _ _ _ _ w r.1 o f.fair_end) np.ends_right);
      paid = subst (λ (n : ℕ). q.set_steps + (rests r.0 + savings r.0) ≤ sets_bound n q.firsts q.laters) (sym f.cells)
          (omega (arith, bill, np.paid, mul-add (5 * p.store.sizes.n + 3) p.laters (one (exchanges (task_at p.store t).stage && not (not_yet_set p.store t)))));
    }
  where
    q : Past
    q = stepped w t r.0 r.1 p

-- a call's result, noted where it is accepted
abbrev pub Noted : Past → Call → Result → Type 0
Noted p c r = Notes (if accepted r.1 then noted c r.0 r.1 p else p)

pub not_busy : (g : Stage) → busy g ≡ false → g ≡ Idle
not_busy Idle h = refl
not_busy TakeNew h = absurd (true≢false h)
not_busy FillNew h = absurd (true≢false h)
not_busy (Getting r) h = absurd (true≢false h)
not_busy Exchange h = absurd (true≢false h)
not_busy Read h = absurd (true≢false h)
not_busy Append h = absurd (true≢false h)
not_busy Write h = absurd (true≢false h)
not_busy TakeCopy h = absurd (true≢false h)
not_busy (Copying r) h = absurd (true≢false h)
not_busy FillCopy h = absurd (true≢false h)
not_busy Put h = absurd (true≢false h)
not_busy (Paging r) h = absurd (true≢false h)

pub notes-step : (p : Past) → Notes p → (t : ℕ) → Noted p (Step t) (step p.store t)
unfolding step noted
notes-step p np t =
    if_case (Noted p (Step t)) (leb p.store.sizes.t t) (λ e. np) (λ e.
    by_test (busy (task_at p.store t).stage)
    (λ b. if_case Notes (accepted (step_at (task_at p.store t).stage p.store t (counted (task_at p.store t))).1)
    (λ _. notes-stepped p np t (p.works t) _ (as_started b) (fair-step p np.told t (leb-false p.store.sizes.t t e) b)
    (bill (leb-false p.store.sizes.t t e) b)) (λ _. np))
    (λ i. subst (λ (g : Stage). Noted p (Step t) (step_at g p.store t (counted (task_at p.store t)))) (sym (not_busy _ i)) (unfold step_at in np)))
  where
    as_started : busy (task_at p.store t).stage ≡ true → operation (task_at p.store t).stage ≡ work_code (p.works t)
    as_started b = for_code p.store.sizes.n (task_at p.store t).stage (p.works t) _ (task_at p.store t) _ _ b (np.told.fors t)

    bill : (in_t : t < p.store.sizes.t) → busy (task_at p.store t).stage ≡ true → Bill p t (p.works t) (step_at (task_at p.store t).stage p.store t (counted (task_at p.store t))).0
    bill in_t b =
        let h = cost_at p.store np.told.shape np.told.inv t in_t (task_at p.store t).stage refl b (inv-step_at p.store np.told.shape np.told.inv t in_t (task_at p.store t).stage refl) in
        omega (arith, h, ap (λ (c : ℕ). one (eqb c 3)) (as_started b))
