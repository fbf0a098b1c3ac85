-- Every call keeps the notes right, and so every list of calls from an opened state has them.
-- Rests on Step.
use Rattle.std.specs.Prelude.{◌%◌, ◌+◌, ◌<◌, ◌≤◌, ℕ, Bool, ◌||◌, false, not, true, ◌≡◌, eqb, leb, get_or, set, if◌then◌else◌}
use Rattle.std.proofs.lemmas.Bool.{false≢true, eqb-false, not-false}
use mathlib.Core.List.{List, [], ◌∷◌}
use Rattle.std.proofs.Common.{◌∙◌, ap₂, get_or-set_other, get_or-set_same, eqb-true, leb-false}
use Rattle.std.proofs.Math.Path.{ap, refl, subst, sym}
use native.Mathlib.Omega.{arith}
use Rattle.std.proofs.Math.Dec.{ltb}
use Rattle.rulebook.specs.declared.Reading.TheVariants.{Guess}
use Rattle.rulebook.specs.declared.Reply.{Reply}
use Rattle.rulebook.specs.declared.Reply.TheVariants.{Quiet, Refused}
use Rattle.rulebook.specs.declared.Slot.{Slot}
use Rattle.rulebook.specs.declared.Stage.TheVariants.{Exchange, Getting, Paging, TakeNew}
use Rattle.rulebook.specs.declared.Status.TheVariants.{Live}
use Rattle.rulebook.specs.declared.Task.{Task}
use Rattle.rulebook.specs.History.{IsOpened, Past, Value, Work, accepted, change, fresh, making, next, noted, onward, paging, past, reading, released, resting, sets_bound, setting, started, table_of}
use Rattle.rulebook.specs.Lists.{any_replicate, any_set, replicate_get}
use Rattle.rulebook.specs.Machine.{Call, Get, LookCell, LookEntry, LookLog, LookTask, LookVersion, New, Open, Page, Release, Report, Set, Step, call, look_cell, look_entry, look_log, look_task, look_version, release, report}
use Rattle.rulebook.specs.Sizes.{opens, public_number}
use Rattle.rulebook.specs.Starts.{Lie, begun, no_slot, opened, opening, reserve, start_get, start_new, start_page, start_set, startable}
use Rattle.rulebook.specs.State.{Result, State, block_at, busy, free_slot, freed, hand_of, idle, in_use, live_handle, names, slot_at, stood, task_at, with_slot, with_task}
use Rattle.rulebook.specs.Steps.{here_of}
use Rattle.rulebook.specs.Tests.{by_test, if_case}
use Rattle.theorems.specs.Invariant.Blocks.{free≢live}
use Rattle.theorems.specs.Invariant.Calls.{Handle, idle_task, inv-get, inv_new, inv-opened, inv-page, inv-release, inv-set, live_handle_lem, reserved≢live}
use Rattle.theorems.specs.Invariant.Moves.{Goes, InvS}
use Rattle.theorems.specs.Invariant.Shape.{Shape, shape-call, shape-opened}
use Rattle.theorems.specs.Notes.Step.{Noted, Notes, notes-step, right-on, sound-on}
use Rattle.theorems.specs.Notes.Told.{For, Shows, Slots, change-other, change-same, every_map, for_on, number_of, told_same}
use Rattle.theorems.specs.Prices.Budget.{Within, rest, rest_at, rests, rests-change, saved_at, savings, savings-same, sum-none, sum_to}
use Rattle.theorems.specs.Terms.{none, page_of, value_at}

-- ---- a start

-- a refusal of a start
pub refused-start : (s : State) (u : ℕ) → not (eqb (startable s u) 0) ≡ true → accepted (Refused (startable s u)) ≡ false
unfolding startable
refused-start s u h =
    by_test (leb s.sizes.t u) (λ e. rw e)
    (λ e. by_test (busy (task_at s u).stage) (λ i. rw (e, i)) (λ i. absurd (false≢true (rw (e, i) at h))))

module _ (p : Past) (np : Notes p) (t : ℕ) where
  abbrev s : State
  s = p.store

  -- a start whose state has its shape and invariant
  abbrev Starts : Work → Result → Type 0
  Starts w r = Shape r.0 → Goes p.store r.0 → Notes (if accepted r.1 then started w t r.0 p else p)

  not_now : (w : Work) → not (eqb (startable s t) 0) ≡ true → Starts w (s, Refused (startable s t))
  not_now w e sh goes = subst (λ (b : Bool). Notes (if b then started w t s p else p)) (sym (refused-start s t e)) np

  begins : (w : Work) (x : State) (k : Task) → x.sizes.n ≡ s.sizes.n → x.tasks ≡ set s.tasks t k → t < s.sizes.t → Slots p np.told (started w t x p)
      → (names k.stage ≡ true → (slot_at s k.slot).status ≡ Live) → For s.sizes.n k.stage w (number_of s k.slot) k [] (table_of p.versions (number_of s k.slot)) → k.steps ≡ 0
      → x.sizes.t ≡ s.sizes.t → x.sizes.b ≡ s.sizes.b → x.blocks ≡ s.blocks → ((j : ℕ) → stood x j ≡ true → stood s j ≡ true) → rest s.sizes.n k.stage k (here_of x k) ≡ 0 → Within s.sizes.n k.stage k (here_of x k) 0 → Starts w (x, Quiet)
  unfolding started
  begins w x k ec et in_t sl lives own st e_t e_b bl same-stood none_left wi sh goes =
      record {
        told = told_same p np.told q t k sh goes
            (record {
              cells = ec;
              tasks = et;
              in_t = in_t;
              works = λ u d. change-other p.works t w u d;
              counts = λ u d. change-other p.counts t 0 u d;
              probes = λ u d. change-other p.probes t 0 u d;
              lives = lives;
              given = λ u d. change-other p.given t [] u d;
              own = subst (λ (z : Work). For s.sizes.n k.stage z (number_of s k.slot) k (change p.given t [] t) (table_of p.versions (number_of s k.slot))) (sym (change-same p.works t w))
                  (subst (λ (l : List Value). For s.sizes.n k.stage w (number_of s k.slot) k l (table_of p.versions (number_of s k.slot))) (sym (change-same p.given t [])) own);
              own_count = λ _. st ∙ sym (change-same p.counts t 0);
              own_within = subst (Within s.sizes.n k.stage k (here_of x k)) (sym (change-same p.probes t 0)) wi;
            }) sl refl;
        gets_right = every_map (right-on p q ec sl.rises (λ h o. refl)) np.gets_right;
        pages_right = every_map (right-on p q ec sl.rises (λ h o. refl)) np.pages_right;
        ends_right = every_map (sound-on p q ec sl.rises (λ h o. refl)) np.ends_right;
        paid = subst (λ (n : ℕ). p.set_steps + (rests x + savings x) ≤ sets_bound n p.firsts p.laters) (sym ec)
            (omega (arith, np.paid, savings-same s x ec e_b bl same-stood, rests-change s x np.told.shape np.told.inv goes t k in_t ec e_t et, none_left));
      }
    where
      q : Past
      q = started w t x p

  inside : not (eqb (startable s t) 0) ≡ false → t < s.sizes.t
  inside e = (idle_task s np.told.shape np.told.inv t (not-false _ e)).0

  slots_same : (q : Past) → q.store.slots ≡ s.slots → Slots p np.told q
  slots_same q e =
      record { back = λ j l. ap (λ (z : List Slot). get_or z j (freed 0)) e; rises = λ j. omega (arith, ap (λ (z : List Slot). (get_or z j (freed 0)).serial) e) }

  -- one slot changes, is not live, and keeps its serial
  slots_but : (q : Past) (f : ℕ) (y : Slot) → f < s.sizes.h → y.serial ≡ (slot_at s f).serial → (y.status ≡ Live → ⊥) → q.store.slots ≡ set s.slots f y → Slots p np.told q
  slots_but q f y in_h ser dead e =
      record {
        back = λ j l. by_test (eqb j f)
            (λ z. absurd (dead (ap (λ (x : Slot). x.status) (sym (mine j (eqb-true j f z))) ∙ l)))
            (λ z. other j (eqb-false j f z));
        rises = λ j. by_test (eqb j f)
            (λ z. omega (arith, ap (λ (x : Slot). x.serial) (mine j (eqb-true j f z)), ser, ap (λ (c : ℕ). (slot_at s c).serial) (eqb-true j f z)))
            (λ z. omega (arith, ap (λ (x : Slot). x.serial) (other j (eqb-false j f z))));
      }
    where
      mine : (j : ℕ) → j ≡ f → slot_at q.store j ≡ y
      mine j z = ap₂ (λ (l : List Slot) (c : ℕ). get_or l c (freed 0)) e z ∙ get_or-set_same s.slots f y (freed 0) (omega (arith, in_h, np.told.shape.slots_len))

      other : (j : ℕ) → (j ≡ f → ⊥) → slot_at q.store j ≡ slot_at s j
      other j d = ap (λ (l : List Slot). get_or l j (freed 0)) e ∙ get_or-set_other s.slots f j y (freed 0) d

  -- the number_of of a live handle
  pub same_number : (h : ℕ) → Handle s h → number_of s (h % 256) ≡ h
  same_number h l = omega (arith, l.carried)

  abbrev maker : ℕ → Task
  maker v =
      record { stage = TakeNew; slot = 0; block = 0; number = 0; cell = 0; value = v; until = 0; fresh = free_slot s; target = 0; hand = hand_of 0; steps = 0 }

  notes-new : (v : ℕ) → Starts (making v) (start_new s t v)
  unfolding start_new reserve with_task with_slot started stood
  notes-new v =
      if_case (Starts (making v)) (not (eqb (startable s t) 0)) (λ e. not_now _ e) (λ e1.
      if_case (Starts (making v)) (no_slot s) (λ e sh goes. np) (λ e2.
      begins (making v) (with_task (reserve s) t (maker v)) (maker v) refl refl (inside e1) (slots_but _ (free_slot s) _ (leb-false _ _ e2) refl reserved≢live refl) (λ e. absurd (false≢true e)) refl refl refl refl refl
      (λ j z. any_set _ s.slots (free_slot s) _ refl z) refl refl))

  notes-get : (h i : ℕ) → Starts (reading h i) (start_get s t h i)
  unfolding start_get begun with_task started stood
  notes-get h i =
      if_case (Starts (reading h i)) (not (eqb (startable s t) 0)) (λ e. not_now _ e) (λ e1.
      if_case (Starts (reading h i)) (not (live_handle s h)) (λ e sh goes. np) (λ e2.
      if_case (Starts (reading h i)) (leb s.sizes.n i) (λ e sh goes. np) (λ e3.
      let l = live_handle_lem s h (not-false _ e2) in
      begins (reading h i) (with_task s t (begun s h (Getting Guess) i 0 0 0)) (begun s h (Getting Guess) i 0 0 0) refl refl (inside e1) (slots_same _ refl) (λ e. l.lives) (ap (λ (x : ℕ). reading x i) (sym (same_number h l)), omega arith, refl) refl refl refl refl
      (λ j z. z) refl tt)))

  notes-page : (h from n : ℕ) → Starts (paging h from n) (start_page s t h from n)
  unfolding start_page begun with_task started stood page_of
  notes-page h from n =
      if_case (Starts (paging h from n)) (not (eqb (startable s t) 0)) (λ e. not_now _ e) (λ e1.
      if_case (Starts (paging h from n)) (not (live_handle s h)) (λ e sh goes. np) (λ e2.
      if_case (Starts (paging h from n)) (eqb n 0 || ltb s.sizes.n (from + n)) (λ e sh goes. np) (λ e3.
      let l = live_handle_lem s h (not-false _ e2) in
      begins (paging h from n) (with_task s t (begun s h (Paging Guess) from 0 (from + n) 0)) (begun s h (Paging Guess) from 0 (from + n) 0) refl refl (inside e1) (slots_same _ refl) (λ e. l.lives)
      (record { from = from; size = n; done = 0; is = ap (λ (x : ℕ). paging x from n) (sym (same_number h l)); at = omega arith; until_is = refl; price = omega arith; so_far = refl }) refl refl refl refl
      (λ j z. z) refl tt)))

  notes-set : (h i v : ℕ) → Starts (setting h i v) (start_set s t h i v)
  unfolding start_set begun reserve with_task with_slot started stood
  notes-set h i v =
      if_case (Starts (setting h i v)) (not (eqb (startable s t) 0)) (λ e. not_now _ e) (λ e1.
      if_case (Starts (setting h i v)) (not (live_handle s h)) (λ e sh goes. np) (λ e2.
      if_case (Starts (setting h i v)) (leb s.sizes.n i) (λ e sh goes. np) (λ e3.
      if_case (Starts (setting h i v)) (no_slot s) (λ e sh goes. np) (λ e4.
      let l = live_handle_lem s h (not-false _ e2) in
      begins (setting h i v) (with_task (reserve s) t (begun s h Exchange i v 0 (free_slot s))) (begun s h Exchange i v 0 (free_slot s)) refl refl (inside e1) (slots_but _ (free_slot s) _ (leb-false _ _ e4) refl reserved≢live refl) (λ e. l.lives)
      (ap (λ (x : ℕ). setting x i v) (sym (same_number h l))) refl refl refl refl
      (λ j z. any_set _ s.slots (free_slot s) _ refl z) refl (refl, refl)))))

-- ---- a release

notes-release : (p : Past) → Notes p → (h : ℕ) → Noted p (Release h) (release p.store h)
unfolding release noted with_slot released
notes-release p np h =
    if_case (λ (r : Result). InvS r.0 → Shape r.0 → Noted p (Release h) r) (not (live_handle s h)) (λ e iv sh. np) (λ e1.
    if_case (λ (r : Result). InvS r.0 → Shape r.0 → Noted p (Release h) r) (in_use s (h % 256)) (λ e iv sh. np) (λ e2. let_go (live_handle_lem s h (not-false _ e1))))
    (inv-release s np.told.shape np.told.inv h) (unfold call in shape-call (Release h) s np.told.shape)
  where
    s : State
    s = p.store

    y : Slot
    y = freed (slot_at s (h % 256)).serial

    x : State
    x = with_slot s (h % 256) y

    let_go : Handle s h → InvS x → Shape x → Notes (released x p)
    let_go l iv sh =
        record {
          told = record {
            shape = sh;
            inv = iv;
            shown = λ j q. let e = sl.back j q in
                let o = np.told.shown j (ap (λ (z : Slot). z.status) (sym e) ∙ q) in
                subst (λ (z : ℕ). Shows x j (table_of p.versions z)) (sym (ap (λ (z : Slot). public_number j z.serial) e))
                (record { long = o.long; sees = λ i b. ap (λ (z : Slot). value_at (block_at s z.block) z.number i) e ∙ o.sees i b });
            fors = λ u. for_on s.sizes.n (task_at s u).stage (p.works u) (number_of s (task_at s u).slot) (number_of x (task_at s u).slot) (task_at s u) (p.given u) _ _ (λ _. ap (λ (z : ℕ). public_number (task_at s u).slot z) (serial (task_at s u).slot)) (λ _. ap (λ (z : ℕ). table_of p.versions (public_number (task_at s u).slot z)) (serial (task_at s u).slot)) (np.told.fors u);
            count = np.told.count;
            within = np.told.within;
            olds = every_map (λ v o. (omega (arith, o.0, sl.rises (v.handle % 256)), o.1)) np.told.olds;
            once = np.told.once;
          };
          gets_right = every_map (right-on p (released x p) refl sl.rises (λ h o. refl)) np.gets_right;
          pages_right = every_map (right-on p (released x p) refl sl.rises (λ h o. refl)) np.pages_right;
          ends_right = every_map (sound-on p (released x p) refl sl.rises (λ h o. refl)) np.ends_right;
          paid = omega (arith, np.paid, savings-same s x refl refl refl (λ j z. gone j z), same-rests);
        }
      where
        sl : Slots p np.told (released x p)
        sl = slots_but p np 0 (released x p) (h % 256) y l.in_h refl free≢live refl

        gone : (j : ℕ) → stood x j ≡ true → stood s j ≡ true
        gone j z = unfold stood in any_set _ s.slots (h % 256) _ refl z

        same-rests : rests x ≡ rests s
        same-rests = unfold rests in refl

        serial : (j : ℕ) → (slot_at x j).serial ≡ (slot_at s j).serial
        serial j =
            by_test (eqb j (h % 256))
            (λ e. rw (eqb-true j (h % 256) e) (ap (λ (z : Slot). z.serial) (get_or-set_same s.slots (h % 256) y (freed 0) (omega (arith, l.in_h, np.told.shape.slots_len)))))
            (λ e. ap (λ (z : Slot). z.serial) (get_or-set_other s.slots (h % 256) j y (freed 0) (eqb-false j (h % 256) e)))

-- ---- every call

-- a store in which nothing is live and nothing busy has nothing to note
notes-fresh : (s : State) → Shape s → InvS s → ((j : ℕ) → slot_at s j ≡ freed 0) → ((t : ℕ) → task_at s t ≡ idle) → ((c : ℕ) → stood s c ≡ false) → Notes (fresh s)
unfolding rests savings
notes-fresh s sh iv slots tasks empty =
    record {
      told = record {
        shape = sh;
        inv = iv;
        shown = λ j l. absurd (free≢live (ap (λ (z : Slot). z.status) (sym (slots j)) ∙ l));
        fors = λ t. subst (λ (k : Task). For s.sizes.n k.stage resting (number_of s k.slot) k [] (table_of [] (number_of s k.slot))) (sym (tasks t)) tt;
        count = λ t b. absurd (false≢true (ap (λ (k : Task). busy k.stage) (sym (tasks t)) ∙ b));
        within = λ t. subst (λ (k : Task). Within s.sizes.n k.stage k (here_of s k) 0) (sym (tasks t)) tt;
        olds = none;
        once = tt;
      };
      gets_right = none;
      pages_right = none;
      ends_right = none;
      paid = omega (arith, all-idle, none-saved);
    }
  where
    all-idle : sum_to s.sizes.t (rest_at s) ≡ 0
    all-idle = sum-none s.sizes.t (rest_at s) (λ t. ap (λ (k : Task). rest s.sizes.n k.stage k (here_of s k)) (tasks t))

    none-saved : sum_to s.sizes.b (saved_at s) ≡ 0
    none-saved = sum-none s.sizes.b (saved_at s) (λ c. rw (empty c))

-- an opened store: whatever lies in its blocks, no handle stands on one
pub notes-opened : (n h t words : ℕ) (lie : Lie) → opens n h t words ≡ true → Notes (fresh (opened n h t words lie))
unfolding opened stood
notes-opened n h t words lie e =
    notes-fresh _ (shape-opened n h t words lie e) (inv-opened n h t words lie) (replicate_get h (freed 0)) (replicate_get t idle) (λ c. any_replicate _ h (freed 0) refl)

notes-open : (p : Past) → Notes p → (n h t words : ℕ) (lie : Lie) → Noted p (Open n h t words lie) (opening p.store n h t words lie)
unfolding opening noted
notes-open p np n h t words lie =
    if_case (Noted p (Open n h t words lie)) (opens n h t words) (λ e. notes-opened n h t words lie e) (λ e. np)

-- a call that only looks
notes_look : (p : Past) → Notes p → (a : Reply) → Notes (if accepted a then p else p)
notes_look p np a = if_case Notes (accepted a) (λ e. np) (λ e. np)

pub notes-next : (c : Call) (p : Past) → Notes p → Notes (next c p)
unfolding next call noted
notes-next (Open n h t words lie) p np = notes-open p np n h t words lie
notes-next (New t v) p np = notes-new p np t v (shape-call (New t v) _ np.told.shape) (inv_new _ np.told.shape np.told.inv t v)
notes-next (Get t h i) p np = notes-get p np t h i (shape-call (Get t h i) _ np.told.shape) (inv-get _ np.told.shape np.told.inv t h i)
notes-next (Set t h i v) p np = notes-set p np t h i v (shape-call (Set t h i v) _ np.told.shape) (inv-set _ np.told.shape np.told.inv t h i v)
notes-next (Page t h from n) p np = notes-page p np t h from n (shape-call (Page t h from n) _ np.told.shape) (inv-page _ np.told.shape np.told.inv t h from n)
notes-next (Step t) p np = notes-step p np t
notes-next (Release h) p np = notes-release p np h
notes-next Report p np = notes_look p np (report p.store)
notes-next (LookVersion b) p np = notes_look p np (look_version p.store b)
notes-next (LookCell b i) p np = notes_look p np (look_cell p.store b i)
notes-next (LookLog b i) p np = notes_look p np (look_log p.store b i)
notes-next (LookEntry b i j) p np = notes_look p np (look_entry p.store b i j)
notes-next (LookTask t) p np = notes_look p np (look_task p.store t)

pub notes-onward : (cs : List Call) (p : Past) → Notes p → Notes (onward p cs)
unfolding onward
notes-onward [] p np = np
notes-onward (c ∷ cs) p np = notes-onward cs (next c p) (notes-next c p np)

-- what is noted after any calls from an opened state
pub notes-past : (s : State) → IsOpened s → (cs : List Call) → Notes (past s cs)
notes-past s o cs =
    notes-onward cs (fresh s) (subst (λ (x : State). Notes (fresh x)) (sym o.state) (notes-opened o.n o.h o.t o.words o.lie o.allowed))
