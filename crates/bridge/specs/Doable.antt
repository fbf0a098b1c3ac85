-- What an act needs to be done on a sound pool; and that then the pool shows the machine's next state, answers the machine's answer and is sound
-- again. Rests on layout's laws of an act and on the rules' that every call keeps them.
use Rattle.std.specs.Prelude.{◌<◌, ℕ, ◌&&◌, false, true, List, ◌++◌, ◌≡◌, set}
use Rattle.std.proofs.Common.{◌∙◌, sym, arith}
use Rattle.std.proofs.Math.Path.{ap, refl, subst, subst⁻¹}
use Rattle.std.proofs.Math.Dec.{eqb}
use Rattle.std.proofs.Math.ListN.{get_or}
use Rattle.std.proofs.Math.Seq.{get_or-set_other, get_or-set_same}
use borrow.Author.Tests.{eqb-false, eqb-true, ltb-true}
use Rattle.acts.specs.Acts.{Act, SlotChange, TaskChange}
use Rattle.acts.specs.Touch.{Touch}
use Rattle.rulebook.specs.declared.Entry.{Entry}
use Rattle.rulebook.specs.declared.Sizes.{Sizes}
use Rattle.rulebook.specs.declared.Slot.{Slot}
use Rattle.rulebook.specs.declared.Status.{Status}
use Rattle.rulebook.specs.declared.Task.{Task}
use Rattle.acts.specs.Acted.{acted, seated, touched, turned}
use Rattle.block.specs.Sound.{Filling, Laid}
use Rattle.layout.specs.Acts.{Appendable, applied_acted, applied_done, applied_keeps, seated-keeps, slot_named, task_named, touched-keeps, turned-keeps}
use Rattle.rulebook.specs.Codes.{code_of, status_code}
use Rattle.rulebook.proofs.Back.{stage_from_lem}
use Rattle.layout.specs.Keeps.{Keeps, keeps-header, keeps-spans, none, slot-keeps, slot-own, task-keeps, task-own}
use Rattle.layout.specs.Places.{Spans, block_part, slot_part, task_part}
use Rattle.layout.specs.Pool.{InReach, applied_in, put_slot, put_task, seated_in, slot_near, task_near, touched_in, turned_in, view_of}
use Rattle.layout.specs.Rows.{slot_words, task_read, task_words}
use Rattle.layout.specs.View.{view_tasks}
use Rattle.rulebook.specs.Lists.{any_set}
use Rattle.rulebook.specs.Machine.{Call, call}
use Rattle.rulebook.specs.State.{Result, State, any, fills, idle, is_live, stood, task_at, with_block, with_slot, with_task}
use Rattle.rulebook.specs.Tests.{and_both, by_test}
use Rattle.rules.proofs.Calls.{paced-call}
use Rattle.rules.proofs.Facts.{filled-block}
use Rattle.rules.proofs.Kept.{rules-call}
use Rattle.rules.specs.Paced.{Paced}
use Rattle.rules.specs.Rules.{Rules}
use Rattle.bridge.specs.Asked.{Bridged}
use Rattle.bridge.specs.Shown.{sound-shape, spans}
use Rattle.bridge.specs.Sound.{Sound, filled_to}
use Rattle.acts.specs.Touch as touch
use Rattle.acts.specs.Acts as change
use Rattle.rulebook.specs.declared.Status.TheVariants as status

module _ (d : Sizes) (p : List ℕ) where
  -- the words of block k after the touch x
  abbrev pub words_after : Touch → ℕ → List ℕ
  words_after x k = block_part (touched_in p d x).0 d k

  -- the block that the task k fills is laid out up to the cell that it has come to
  abbrev pub FillingAt : Touch → Task → Type 0
  FillingAt x k = Filling (filled_to k.stage d.n k.hand.cell) d.n (words_after x k.target)

  -- a slot that becomes live stands on a block that is laid out; a task that goes on filling has filled so far
  abbrev pub Seats : Touch → SlotChange → Type 0
  Seats x change.Same = Unit
  Seats x (change.To j y) = is_live y.status ≡ true → Laid d.n (words_after x y.block)

  abbrev pub Turns : Touch → TaskChange → Type 0
  Turns x change.Same = Unit
  Turns x (change.To t k) = fills k.stage ≡ true → FillingAt x k

  pub record Doable (a : Act) : Type 0 where
    pub reach : InReach d a
    -- the touch is done, and where an entry is appended there is room
    pub done : (touched_in p d a.touch).1 ≡ true
    pub room : Appendable d p a.touch
    -- the blocks on which live handles stand, the slot, the other tasks that fill, the task
    pub stands : (k : ℕ) → k < d.b → stood (view_of d p) k ≡ true → Laid d.n (words_after a.touch k)
    pub seats : Seats a.touch a.slot
    pub others : (u : ℕ) → task_named a.task u ≡ false → fills (task_at (view_of d p) u).stage ≡ true → FillingAt a.touch (task_at (view_of d p) u)
    pub turns : Turns a.touch a.task

-- a touch that appends no entry asks for no room
pub no-append : {d : Sizes} {p : List ℕ} {x : Touch} → ((k i : ℕ) (e : Entry) → x ≡ touch.Append k i e → ⊥) → Appendable d p x
no-append other = record { laid = λ k i e q. absurd (other k i e q); less = λ k i e q. absurd (other k i e q) }

-- ---- the codes in the rows

pub record Coded (d : Sizes) (p : List ℕ) : Type 0 where
  pub statuses : (j : ℕ) → j < d.h → get_or (slot_part p j) 1 0 < 3
  pub codes : (t : ℕ) → t < d.t → code_of (task_read (task_part p d t)).stage ≡ get_or (task_part p d t) 0 0

status-small : (x : Status) → status_code x < 3
status-small status.Free = omega arith
status-small status.Reserved = omega arith
status-small status.Live = omega arith

abbrev StatusIn : List ℕ → Type 0
StatusIn w = get_or w 1 0 < 3

abbrev CodeIn : List ℕ → Type 0
CodeIn w = code_of (task_read w).stage ≡ get_or w 0 0

module _ {d : Sizes} {p : List ℕ} (g : Spans d p) (c : Coded d p) where
  coded-touched : (x : Touch) → Coded d (touched_in p d x).0
  coded-touched x =
      let s = touched-keeps g x in
      record { statuses = λ j l. subst⁻¹ StatusIn (s.slots j l refl) (c.statuses j l); codes = λ t l. subst⁻¹ CodeIn (s.tasks t l refl) (c.codes t l) }

  status-words : (x : Slot) → StatusIn (slot_words x)
  unfolding slot_words
  status-words x = status-small x.status

  coded-seated : (y : SlotChange) → slot_near d y ≡ true → Coded d (seated_in p d y)
  unfolding seated_in slot_near
  coded-seated change.Same h = c
  coded-seated (change.To j x) h =
      let a = ltb-true j d.h h in
      let s = slot-keeps g j a x in
      record {
        statuses = λ i l.
            by_test (eqb i j)
            (λ e. subst⁻¹ StatusIn (ap (slot_part (put_slot p j x)) (eqb-true i j e) ∙ slot-own g j a x) (status-words x))
            (λ e. subst⁻¹ StatusIn (s.slots i l e) (c.statuses i l));
        codes = λ t l. subst⁻¹ CodeIn (s.tasks t l refl) (c.codes t l);
      }

  code-words : (k : Task) (l : List ℕ) → CodeIn (task_words k ++ l)
  unfolding task_words task_read
  code-words k l = ap code_of (stage_from_lem k.stage)

  coded-turned : (y : TaskChange) → task_near d y ≡ true → Coded d (turned_in p d y)
  unfolding turned_in task_near
  coded-turned change.Same h = c
  coded-turned (change.To t k) h =
      let a = ltb-true t d.t h in
      let s = task-keeps g t a k in
      record {
        statuses = λ j l. subst⁻¹ StatusIn (s.slots j l refl) (c.statuses j l);
        codes = λ u l.
            by_test (eqb u t)
            (λ e. subst⁻¹ CodeIn (ap (task_part (put_task p d t k) d) (eqb-true u t e) ∙ task-own g t a k) (code-words k _))
            (λ e. subst⁻¹ CodeIn (s.tasks u l e) (c.codes u l));
      }

-- ---- the slots and the tasks after an act

module _ (s : State) where
  touched_rows : (x : Touch) → ((touched s x).slots ≡ s.slots) × ((touched s x).tasks ≡ s.tasks)
  unfolding touched with_block
  touched_rows touch.Nothing = (refl, refl)
  touched_rows (touch.Exchange b L) = (refl, refl)
  touched_rows (touch.Append b i e) = (refl, refl)
  touched_rows (touch.Write b i v) = (refl, refl)
  touched_rows (touch.Take b) = (refl, refl)
  touched_rows (touch.Fill b i v) = (refl, refl)

  seated-tasks : (c : SlotChange) → (seated s c).tasks ≡ s.tasks
  unfolding seated with_slot
  seated-tasks change.Same = refl
  seated-tasks (change.To j y) = refl

  turned-slots : (c : TaskChange) → (turned s c).slots ≡ s.slots
  unfolding turned with_task
  turned-slots change.Same = refl
  turned-slots (change.To t k) = refl

-- the slots after a change, and the tasks
abbrev slots_after : SlotChange → List Slot → List Slot
slots_after change.Same l = l
slots_after (change.To j y) l = set l j y

abbrev tasks_after : TaskChange → List Task → List Task
tasks_after change.Same l = l
tasks_after (change.To t k) l = set l t k

seated-slots : (s : State) (c : SlotChange) → (seated s c).slots ≡ slots_after c s.slots
unfolding seated with_slot
seated-slots s change.Same = refl
seated-slots s (change.To j y) = refl

turned-tasks : (s : State) (c : TaskChange) → (turned s c).tasks ≡ tasks_after c s.tasks
unfolding turned with_task
turned-tasks s change.Same = refl
turned-tasks s (change.To t k) = refl

module _ (s : State) (a : Act) where
  acted-slots : (acted s a).0.slots ≡ slots_after a.slot s.slots
  unfolding acted
  acted-slots = turned-slots _ a.task ∙ seated-slots _ a.slot ∙ ap (slots_after a.slot) (touched_rows s a.touch).0

  acted-tasks : (acted s a).0.tasks ≡ tasks_after a.task s.tasks
  unfolding acted
  acted-tasks = turned-tasks _ a.task ∙ ap (tasks_after a.task) (seated-tasks _ a.slot ∙ (touched_rows s a.touch).1)

-- ---- an act that is done

module _ {d : Sizes} {p : List ℕ} (S : Sound d p) (a : Act) (D : Doable d p a) where
  abbrev s : State
  s = view_of d p

  abbrev q : List ℕ
  q = (touched_in p d a.touch).0

  g : Spans d p
  g = spans d p S

  spans-touched : Spans d q
  spans-touched = keeps-spans (touched-keeps g a.touch) g

  seated-near : Keeps d q (seated_in q d a.slot) (slot_named a.slot) none none
  seated-near = seated-keeps spans-touched a.slot D.reach.slot

  spans-seated : Spans d (seated_in q d a.slot)
  spans-seated = keeps-spans seated-near spans-touched

  -- only the touch changes a block
  block-after : (k : ℕ) → k < d.b → block_part (applied_in p d a).0 d k ≡ block_part q d k
  block-after k h =
      rw (applied_done p d a D.done) ((turned-keeps spans-seated a.task D.reach.task).blocks k h refl ∙ seated-near.blocks k h refl)

  coded : Coded d (applied_in p d a).0
  coded =
      rw (applied_done p d a D.done) (coded-turned spans-seated (coded-seated spans-touched (coded-touched g (record { statuses = S.statuses; codes = S.codes }) a.touch) a.slot D.reach.slot) a.task D.reach.task)

  seated-laid : (c : SlotChange) → Seats d p a.touch c → (k : ℕ) → k < d.b → any (λ (x : Slot). is_live x.status && eqb x.block k) (slots_after c s.slots) ≡ true → Laid d.n (words_after d p a.touch k)
  unfolding stood
  seated-laid change.Same y k h l = D.stands k h l
  seated-laid (change.To j x) y k h l =
      by_test (is_live x.status && eqb x.block k)
      (λ e. let b = and_both _ _ e in subst (λ (m : ℕ). Laid d.n (words_after d p a.touch m)) (eqb-true _ k b.1) (y b.0))
      (λ e. D.stands k h (any_set (λ (z : Slot). is_live z.status && eqb z.block k) s.slots j x e l))

  turned-filling : (c : TaskChange) → a.task ≡ c → Turns d p a.touch c → task_near d c ≡ true → (u : ℕ) → fills (get_or (tasks_after c s.tasks) u idle).stage ≡ true → FillingAt d p a.touch (get_or (tasks_after c s.tasks) u idle)
  unfolding task_near task_named
  turned-filling change.Same e y h u l = D.others u (rw e) l
  turned-filling (change.To t k) e y h u l =
      by_test (eqb u t)
      (λ r. let z : get_or (set s.tasks t k) u idle ≡ k = ap (λ (m : ℕ). get_or (set s.tasks t k) m idle) (eqb-true u t r) ∙ get_or-set_same s.tasks t k idle (omega (arith, ltb-true t d.t h, view_tasks d p)) in
      subst⁻¹ (FillingAt d p a.touch) z (y (ap (λ (m : Task). fills m.stage) (sym z) ∙ l)))
      (λ r. let z : get_or (set s.tasks t k) u idle ≡ task_at s u = get_or-set_other s.tasks t u k idle (eqb-false u t r) in
      subst⁻¹ (FillingAt d p a.touch) z (D.others u (rw e r) (ap (λ (m : Task). fills m.stage) (sym z) ∙ l)))

  -- the machine's call that the act does
  pub bridged_act : (c : Call) → acted (view_of d p) a ≡ call c (view_of d p) → Bridged d (applied_in p d a) (call c (view_of d p))
  bridged_act c e = record {
    state = state;
    reply = both.1 ∙ ap (λ (r : Result). r.1) e;
    sound = record {
      header = keeps-header (applied_keeps g a D.reach) ∙ S.header;
      statuses = coded.statuses;
      codes = coded.codes;
      rules = rules;
      paced = subst⁻¹ Paced state (paced-call c s S.rules S.paced);
      stood_laid = λ k h l. subst⁻¹ (Laid d.n) (block-after k h) (seated-laid a.slot D.seats k h (stands k l));
      filling_laid = λ t l. subst⁻¹ (Filling _ d.n) (block-after _ (below t l)) (filling t l);
    };
  }
    where
      both : (view_of d (applied_in p d a).0 ≡ (acted s a).0) × ((applied_in p d a).1 ≡ (acted s a).1)
      both = applied_acted g a D.reach D.done D.room

      state : view_of d (applied_in p d a).0 ≡ (call c s).0
      state = both.0 ∙ ap (λ (r : Result). r.0) e

      rules : Rules (view_of d (applied_in p d a).0)
      rules = subst⁻¹ Rules state (rules-call c s (sound-shape d p S) S.rules)

      stands : (k : ℕ) → stood (view_of d (applied_in p d a).0) k ≡ true → any (λ (x : Slot). is_live x.status && eqb x.block k) (slots_after a.slot s.slots) ≡ true
      stands k l = unfold stood in (sym (ap (any (λ (x : Slot). is_live x.status && eqb x.block k)) (ap (λ (z : State). z.slots) both.0 ∙ acted-slots s a)) ∙ l)

      below : (t : ℕ) → fills (task_at (view_of d (applied_in p d a).0) t).stage ≡ true → (task_at (view_of d (applied_in p d a).0) t).target < d.b
      below t l = unfold view_of in (filled-block _ rules t l).0

      filling : (t : ℕ) → fills (task_at (view_of d (applied_in p d a).0) t).stage ≡ true → FillingAt d p a.touch (task_at (view_of d (applied_in p d a).0) t)
      filling t =
          subst⁻¹ (λ (z : List Task). fills (get_or z t idle).stage ≡ true → FillingAt d p a.touch (get_or z t idle)) (ap (λ (z : State). z.tasks) both.0 ∙ acted-tasks s a)
          (turned-filling a.task refl D.turns D.reach.task t)
