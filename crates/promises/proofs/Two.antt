-- Demand 2: on a pool that passes the check each call does what the rule book's machine does; so on a kept store, whose every read is the functional array's.
-- Rests on Histories, the bridge and the machine's theorems.
use Rattle.std.specs.Prelude.{ℕ, true, List, refl, length}
use Rattle.std.proofs.Common.{◌∙◌, ap, ap₂, subst, sym, arith, le-ltb}
use Rattle.std.proofs.Math.Path.{◌≡◌, subst⁻¹}
use Rattle.bridge.specs.Asked.{Asked, Bridged, Open, asked, asked_all, call_of, calls_of, sizes_after, sizes_after_all}
use Rattle.bridge.specs.Bridge.{bridge, bridge-all}
use Rattle.bridge.specs.Opening.{open-sound}
use Rattle.bridge.specs.Sound.{Sound}
use Rattle.layout.specs.Header.{sizes_of}
use Rattle.layout.specs.Opened.{open_not, open_view}
use Rattle.layout.specs.Pool.{lie_of, open_in, view_of}
use Rattle.rulebook.specs.Answers.{refusal}
use Rattle.rulebook.specs.declared.Reply.{Reply}
use Rattle.rulebook.specs.declared.Sizes.{Sizes}
use Rattle.rulebook.specs.History.{Ended, IsOpened, Past, Value, fresh, past, run, table_of}
use Rattle.rulebook.specs.Machine.{Call, call}
use Rattle.rulebook.specs.Sizes.{opens}
use Rattle.rulebook.specs.State.{Result, State, list_to, live_handle}
use Rattle.rulebook.specs.Tests.{by_test}
use Rattle.theorems.proofs.Demands as theorems
use Rattle.theorems.specs.Terms.{Every, HasGiven, In, IsRead, Once, by_cell, cells_of, on_version, shown, up_to, values_of}
use Rattle.promises.specs.Promises.{Kept, MachineAnswers, MachineCall, MachineHistory, MachineState, NumbersOnce, PagesJoin, PagesJoinAny, Reads, ReadsInOrder, StaysSound, Tables, diary, machine_calls, machine_first, pool_first}
use Rattle.promises.proofs.Calls.{spoken_case, spoken-long}
use Rattle.promises.proofs.Histories.{calls-all, heeded, noted_all_lem, pool_all_lem, sound-state, told_all_lem}
use Rattle.promises.specs.Said.{Ask, Outcome, spoken, state_in, tellings, tells, told}

-- ---- a pool that passes the check

pub machine_call : MachineCall spoken
unfolding view_of list_to
machine_call x p a d S l =
    let r : Result = call (call_of x p) (state_in p) in
    let b : Bridged (sizes_after x p d) (asked x p) r = subst⁻¹ (λ (s : State). Bridged (sizes_after x p d) (asked x p) (call (call_of x p) s)) (sound-state d p S) (bridge x S) in
    subst⁻¹ (λ (z : Outcome). (state_in z.0.0 ≡ r.0) × (told z ≡ tells r.1) × Sound r.0.sizes z.0.0) (spoken-long (Ask x) p a (le-ltb (length a) 16 l))
    (sound-state _ _ b.sound ∙ b.state, ap tells b.reply, subst (λ (c : Sizes). Sound c (asked x p).0) (ap (λ (s : State). s.sizes) b.state) b.sound)

-- ---- an open that returned 0

-- was accepted, and has left the pool that open leaves
accepts : (p : List ℕ) (n h t : ℕ) → refusal (open_in p n h t).1 ≡ 0 → opens n h t (length p) ≡ true
accepts p n h t e =
    by_test (opens n h t (length p))
    (λ o. o)
    (λ o. absurd (let z : ◌≡◌ {A = ℕ} 3 0 = sym (ap (λ (r : List ℕ × Reply). refusal r.1) (open_not p n h t o)) ∙ e in omega arith))

module _ (k : Kept spoken) where
  abbrev n : ℕ
  n = k.cells

  abbrev h : ℕ
  h = k.handles

  abbrev t : ℕ
  t = k.tasks

  abbrev w : List ℕ
  w = k.words

  abbrev d : Sizes
  d = sizes_of n h t (length w)

  is_open : (opens n h t (length w) ≡ true) × (pool_first spoken k ≡ (open_in w n h t).0)
  unfolding asked
  is_open =
      spoken_case (Ask (Open n h t)) w k.slice (λ (z : Outcome). z.1 ≡ 0 → (opens n h t (length w) ≡ true) × (z.0.0 ≡ (open_in w n h t).0))
      (λ _ e. absurd (let z : ◌≡◌ {A = ℕ} 15 0 = e in omega arith))
      (λ _ e. (accepts w n h t e, refl))
      k.accepted

  first-sound : Sound d (pool_first spoken k)
  first-sound = subst⁻¹ (Sound d) is_open.1 (open-sound w n h t is_open.0)

  first_view : view_of d (pool_first spoken k) ≡ machine_first spoken k
  first_view = ap (view_of d) is_open.1 ∙ open_view w n h t is_open.0

  pub first-opened : IsOpened (machine_first spoken k)
  first-opened = record { n = n; h = h; t = t; words = length w; lie = lie_of d w; allowed = is_open.0; state = refl }

  -- ---- the calls

  abbrev asks : List Asked
  asks = heeded k.calls

  calls_are : machine_calls spoken k ≡ calls_of asks (pool_first spoken k)
  calls_are = calls-all k.calls (pool_first spoken k)

  all : Bridged (sizes_after_all asks (pool_first spoken k) d) (asked_all asks (pool_first spoken k)) (run (machine_first spoken k) (machine_calls spoken k))
  all =
      subst⁻¹ (λ (cs : List Call). Bridged (sizes_after_all asks (pool_first spoken k) d) (asked_all asks (pool_first spoken k)) (run (machine_first spoken k) cs)) calls_are
      (subst (λ (s : State). Bridged (sizes_after_all asks (pool_first spoken k) d) (asked_all asks (pool_first spoken k)) (run s (calls_of asks (pool_first spoken k)))) first_view
      (bridge-all asks first-sound))

  pub stays_sound : StaysSound spoken k
  stays_sound = (sizes_after_all asks (pool_first spoken k) d, subst⁻¹ (Sound (sizes_after_all asks (pool_first spoken k) d)) (pool_all_lem k.calls (pool_first spoken k)) all.sound)

  pub machine_state : MachineState spoken k
  machine_state = ap state_in (pool_all_lem k.calls (pool_first spoken k)) ∙ sound-state _ _ all.sound ∙ all.state

  pub machine_answers : MachineAnswers spoken k
  machine_answers = told_all_lem k.calls (pool_first spoken k) ∙ ap tellings all.reply

  pub machine_history : MachineHistory spoken k
  machine_history =
      let seen = sound-state d (pool_first spoken k) first-sound in
      noted_all_lem k.calls first-sound (fresh (state_in (pool_first spoken k))) seen
      ∙ ap₂ (λ (s : State) (cs : List Call). past s cs) (seen ∙ first_view) (sym calls_are)

  -- what holds of the machine's history holds of what the caller has noted
  pub as_noted : (P : Past → Type 0) → P (past (machine_first spoken k) (machine_calls spoken k)) → P (diary spoken k)
  as_noted P h = subst⁻¹ P machine_history h

  -- ---- reads

  pub reads : Reads spoken k
  reads = as_noted (λ (y : Past). Every (IsRead y) y.gets × Every (IsRead y) y.pages) (theorems.reads (machine_first spoken k) first-opened (machine_calls spoken k))

  pub reads_in_order : ReadsInOrder spoken k
  reads_in_order =
      as_noted (λ (y : Past). Every (λ (e : Ended). HasGiven y e.work e.given) y.ends) (theorems.order (machine_first spoken k) first-opened (machine_calls spoken k))

  pub pages_join : PagesJoin spoken k
  pages_join =
      as_noted
      (λ (y : Past). (v : ℕ) → let l = by_cell (on_version v y.pages) in cells_of l ≡ up_to y.store.sizes.n → values_of l ≡ table_of y.versions v)
      (theorems.join (machine_first spoken k) first-opened (machine_calls spoken k))

  pub pages_join_any : PagesJoinAny spoken k
  pages_join_any =
      as_noted
      (λ (y : Past). (v : ℕ) (l : List Value) → Every (λ (r : Value). In r y.pages × (r.handle ≡ v)) l → cells_of l ≡ up_to y.store.sizes.n → values_of l ≡ table_of y.versions v)
      (theorems.join_any (machine_first spoken k) first-opened (machine_calls spoken k))

  pub tables : Tables spoken k
  tables =
      as_noted (λ (y : Past). (v : ℕ) → live_handle y.store v ≡ true → shown y.store v ≡ table_of y.versions v)
      (theorems.tables (machine_first spoken k) first-opened (machine_calls spoken k))

  pub numbers_once : NumbersOnce spoken k
  numbers_once = as_noted (λ (y : Past). Once y.versions) (theorems.numbers (machine_first spoken k) first-opened (machine_calls spoken k))
