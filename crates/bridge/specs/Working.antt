-- Acts of a task that touch a block of a sound pool and can be done: on the block of a set in place, on a free one, on one that the task fills.
-- Rests on Touching and Starting; the rules say that nothing else is at work there.
use Rattle.std.specs.Prelude.{◌<◌, ℕ, false, true, ◌≡◌, eqb, leb}
use Rattle.std.proofs.lemmas.Bool.{false≢true}
use Rattle.std.proofs.Common.{true≢false, ◌∙◌, ap, subst, sym}
use mathlib.Core.List.{List}
use Rattle.std.proofs.Math.Path.{refl, subst⁻¹, subst₂}
use borrow.Author.Tests.{eqb-false, eqb-true, lt-ltb, ne_eqb}
use Rattle.acts.specs.Acts.{SlotChange, TaskChange}
use Rattle.acts.specs.Touch.{Touch}
use Rattle.rulebook.specs.declared.Reply.{Reply}
use Rattle.rulebook.specs.declared.Sizes.{Sizes}
use Rattle.rulebook.specs.declared.Slot.{Slot}
use Rattle.rulebook.specs.declared.Stage.{Stage}
use Rattle.rulebook.specs.declared.Task.{Task}
use Rattle.acts.specs.Plans.{ends, goes, ticked}
use Rattle.acts.specs.StepPlans.{finishes}
use Rattle.acts.specs.Sight.{Sight, sight_of}
use Rattle.block.specs.Fills.{filled-laid}
use Rattle.block.specs.Sound.{Filling, Laid}
use Rattle.block.specs.Words.{fill_in}
use Rattle.layout.specs.Acts.{task_named, touched-keeps}
use Rattle.layout.specs.Places.{Spans, block_part}
use Rattle.layout.specs.Pool.{slot_near, task_near, view_of}
use Rattle.rulebook.specs.Sizes.{last_serial}
use Rattle.rulebook.specs.State.{State, fills, free_block, hand_of, idle, names, slot_at, stood, task_at}
use Rattle.rulebook.specs.Steps.{aimed, moved}
use Rattle.rulebook.specs.Tests.{by_test, if_case}
use Rattle.rules.proofs.Facts.{filled-block}
use Rattle.rules.specs.Paced.{TaskRange}
use Rattle.theorems.specs.Invariant.Facts.{no-filler, no-stander, not_held}
use Rattle.bridge.specs.Alike.{named-on}
use Rattle.bridge.specs.Doable.{Doable, Seats, Turns, words_after}
use Rattle.bridge.specs.Looking.{stander-of}
use Rattle.bridge.specs.Shown.{spans}
use Rattle.bridge.specs.Sound.{Sound, filled_to}
use Rattle.bridge.specs.Starting.{answers_act}
use Rattle.bridge.specs.Touching.{Touches, fill-touches, take-touches}
use Rattle.acts.specs.Acts as change
use Rattle.acts.specs.Touch as touch
use Rattle.rulebook.specs.declared.Status.TheVariants as status
use Rattle.rulebook.specs.declared.Reply.TheVariants as reply

-- a block filled up to its last cell
pub filled-whole : {c n : ℕ} {w : List ℕ} → c ≡ n → Filling c n w → Filling n n w
filled-whole {c} {n} {w} e F = subst (λ (m : ℕ). Filling m n w) e F

module _ {d : Sizes} {p : List ℕ} (S : Sound d p) where
  abbrev s : State
  s = view_of d p

  abbrev f : Sight
  f = sight_of s

  g : Spans d p
  g = spans d p S

  -- an act that touches block b, which no other task fills
  touch_act : {x : Touch} {b : ℕ} {z : List ℕ} (c : SlotChange) (e : TaskChange) (r : Reply) → Touches d p x b z → (stood s b ≡ true → Laid d.n z) → ((u : ℕ) → task_named e u ≡ false → fills (task_at s u).stage ≡ true → (task_at s u).target ≡ b → ⊥)
      → slot_near d c ≡ true → task_near d e ≡ true → Seats d p x c → Turns d p x e → Doable d p (record { touch = x; slot = c; task = e; reply = r })
  touch_act {x} {b} {z} c e r T laid alone i o seats turns = record {
    reach = record { slot = i; task = o };
    done = T.done;
    room = T.room;
    stands = λ k h l. by_test (eqb k b)
        (λ q. let y : k ≡ b = eqb-true k b q in subst⁻¹ (Laid d.n) (ap (words_after d p x) y ∙ T.own) (laid (ap (stood s) (sym y) ∙ l)))
        (λ q. subst⁻¹ (Laid d.n) (other k h q) (S.stood_laid k h l));
    seats = seats;
    others = λ u a l. subst⁻¹ (Filling _ d.n) (other _ (inside u l) (ne_eqb _ b (alone u a l))) (S.filling_laid u l);
    turns = turns;
  }
    where
      other : (k : ℕ) → k < d.b → eqb k b ≡ false → words_after d p x k ≡ block_part p d k
      other k h q = (touched-keeps g x).blocks k h (T.named k ∙ q)

      inside : (u : ℕ) → fills (task_at s u).stage ≡ true → (task_at s u).target < d.b
      inside u l = unfold view_of in (filled-block s S.rules u l).0

  -- ---- the step of task t

  module _ (t : ℕ) (in_t : t < d.t) where
    abbrev k : Task
    k = task_at s t

    -- the task is there, and the slot that it has reserved
    pub near-t : (k' : Task) → task_near d (change.To t k') ≡ true
    unfolding task_near
    near-t k' = lt-ltb _ _ in_t

    abbrev range : TaskRange s.sizes (task_at s t)
    range = S.paced.tasks t

    pub near-fresh : (y : Slot) → slot_near d (change.To k.fresh y) ≡ true
    unfolding slot_near view_of
    near-fresh y = lt-ltb _ _ range.fresh_below

    -- a set in place: the block of its handle stays laid out
    pub in_place : {x : Touch} {z : List ℕ} (c : SlotChange) (k' : Task) (r : Reply) → names k.stage ≡ true → Touches d p x k.block z → Laid d.n z → slot_near d c ≡ true → Seats d p x c → fills k'.stage ≡ false → Doable d p (record { touch = x; slot = c; task = change.To t k'; reply = r })
    in_place c k' r n T laid i seats e =
        let l = S.rules.valid.named_live t n in
        touch_act c (change.To t k') r T (λ _. laid) (λ u _ m o. S.rules.valid.none_on_it u k.slot m l.0 (l.1 ∙ sym o)) i (near-t k') seats (λ m. absurd (true≢false (sym m ∙ e)))

    -- a block that the task fills has no live handle and no other task
    filling : {x : Touch} {z : List ℕ} (c : SlotChange) (k' : Task) (r : Reply) → fills k.stage ≡ true → Touches d p x k.target z → slot_near d c ≡ true → Seats d p x c → Turns d p x (change.To t k') → Doable d p (record { touch = x; slot = c; task = change.To t k'; reply = r })
    unfolding task_named
    filling c k' r m T i seats turns =
        let v = S.rules.valid in
        touch_act c (change.To t k') r T
        (λ l. let j = stander-of s k.target l in absurd (v.none_on_it t j.0 m j.1 j.2))
        (λ u a l o. eqb-false u t a (v.one_filler u t l m o)) i (near-t k') seats turns

    -- its words so far
    pub filled_so : (g : Stage) → k.stage ≡ g → fills g ≡ true → Filling (filled_to g d.n k.hand.cell) d.n (block_part p d k.target)
    filled_so g q l =
        subst (λ (x : Stage). fills x ≡ true → Filling (filled_to x d.n k.hand.cell) d.n (block_part p d k.target)) q (S.filling_laid t) l

    pub named-laid : names k.stage ≡ true → Laid d.n (block_part p d k.block)
    unfolding view_of
    named-laid n = S.stood_laid _ range.block_below (named-on s S.rules t n)

    -- a task that ends with a handle
    pub finish_act : (x : Touch) (b L : ℕ) → ((serial : ℕ) (r : Reply) → Doable d p (ends x k.fresh (record { serial = serial; status = status.Live; block = b; number = L }) t idle r)) → Doable d p (finishes (f.slot k.fresh) x t (ticked k) b L)
    unfolding finishes sight_of ticked
    finish_act x b L h = if_case (Doable d p) (leb last_serial (slot_at s k.fresh).serial) (λ _. answers_act S _) (λ _. h _ _)

    -- the lowest free block is taken
    pub took_act : (x : Stage) → filled_to x d.n 0 ≡ 0 → free_block s < d.b → Doable d p (goes (touch.Take (free_block s)) t (aimed (moved (ticked k) x (hand_of 0)) (free_block s)) reply.Quiet)
    unfolding slot_near aimed moved view_of
    took_act x e h =
        let free = not_held s h in
        let T = take-touches g (free_block s) h in
        touch_act change.Same _ _ T.0 (λ l. let j = stander-of s (free_block s) l in absurd (no-stander s (free_block s) free j.0 j.1 j.2)) (λ u _ l o. no-filler s (free_block s) free u l o) refl (near-t _) tt
        (λ _. subst₂ (λ (c : ℕ) (w : List ℕ). Filling c d.n w) (sym e) (sym T.0.own) T.1)

    -- a cell of the block that it fills is written
    module _ (m : fills k.stage ≡ true) (i v : ℕ) (h : i < d.n) where
      touches : Touches d p (touch.Fill k.target i v) k.target (fill_in d.n (block_part p d k.target) i v).0
      unfolding view_of
      touches = fill-touches g k.target range.target_below i v h

      -- the task goes on
      pub fill_on : (k' : Task) (r : Reply) → k'.target ≡ k.target → (fills k'.stage ≡ true → Filling (filled_to k'.stage d.n k'.hand.cell) d.n (fill_in d.n (block_part p d k.target) i v).0) → Doable d p (goes (touch.Fill k.target i v) t k' r)
      unfolding slot_near
      fill_on k' r e F =
          filling change.Same k' r m touches refl tt (λ l. subst⁻¹ (Filling _ d.n) (ap (words_after d p (touch.Fill k.target i v)) e ∙ touches.own) (F l))

      -- the block is filled
      pub fill-ends : Filling d.n d.n (fill_in d.n (block_part p d k.target) i v).0 → (serial : ℕ) (r : Reply) → Doable d p (ends (touch.Fill k.target i v) k.fresh (record { serial = serial; status = status.Live; block = k.target; number = 0 }) t idle r)
      fill-ends F serial r =
          filling (change.To k.fresh _) idle r m touches (near-fresh _) (λ _. subst⁻¹ (Laid d.n) touches.own (filled-laid F)) (λ l. absurd (false≢true l))
