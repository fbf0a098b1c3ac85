-- What doing an act leaves: the machine's state that the act leads to; and all that it does not name, as it was.
-- Rests on View, Does and the block's laws.
use Rattle.std.specs.Prelude.{ℕ, ◌+◌, ◌≤◌, ◌<◌, ◌≡◌, Bool, true, false, List, [], ◌∷◌, ◌++◌, length, leb, eqb, Option, None, Some}
use Rattle.std.proofs.Math.Path.{refl, ap}
use Rattle.std.proofs.Common.{sym, ◌∙◌}
use Rattle.std.proofs.lemmas.Bool.{false≢true}
use borrow.Author.Tests.{ltb-true, leb-true, eqb-true}
use Rattle.rulebook.specs.Tests.{by_test}
use Rattle.rulebook.specs.State.{State, Block, block_at, log_at, with_block, with_version, with_cell, with_log}
use Rattle.rulebook.specs.declared.Sizes.{Sizes}
use Rattle.rulebook.specs.declared.Entry.{Entry}
use Rattle.rulebook.specs.declared.Reply.{Reply}
use Rattle.rulebook.specs.declared.Reply.TheVariants as reply
use Rattle.block.specs.Layout.{version_of, is_block, has_cell}
use Rattle.block.specs.Words.{exchange_in, write_in, fill_in, room_in, append_at, append_in}
use Rattle.block.specs.Sound.{block_of, entries_in, Laid}
use Rattle.block.specs.Ways.{cell-block}
use Rattle.block.specs.Reads.{version_at_lem}
use Rattle.block.specs.Writes.{append-long, exchange_first, exchange-long, fill_done, fill-long, take_done, take_long, write_done, write-long}
use Rattle.block.proofs.Appends.{append-done}
use Rattle.block.proofs.Plans.{room_planned}
use Rattle.acts.specs.Plans.{answers}
use Rattle.acts.specs.Acted.{touched, seated, turned, acted}
use Rattle.acts.specs.Touch.{Touch}
use Rattle.acts.specs.Touch as touch
use Rattle.acts.specs.Acts.{Act, SlotChange, TaskChange}
use Rattle.acts.specs.Acts as change
use Rattle.layout.specs.Places.{block_part, Spans}
use Rattle.layout.specs.Pool.{view_of, put_block, raised, put_done, touched_in, touched_near, seated_in, turned_in, acted_in, applied_in, touch_near, slot_near, task_near, InReach}
use Rattle.layout.specs.Keeps.{none, only, Keeps, keeps-spans, keeps-all, keeps-both, slots-alone, tasks-alone, blocks-alone, slot-keeps, task-keeps, block-own, block-keeps, block-length, block-sized}
use Rattle.layout.specs.Does.{done-near, touched_far, touched_near_lem}
use Rattle.layout.specs.View.{view_block_at, view_slot, view_task, view_block}
use Rattle.block.specs.declared.change.Spot.{Spot}

-- the touched block has the words that its touch has left
pub done-own : {d : Sizes} {p : List ℕ} → Spans d p → (k : ℕ) → k < d.b → (z : List ℕ × Bool) → length z.0 ≡ length (block_part p d k) → block_part (put_done p d k z).0 d k ≡ z.0
unfolding put_done
done-own g k h z l = block-own g k h z.0 (l ∙ block-length g k h)

-- ---- what an act names

unfoldable pub block_named : Touch → ℕ → Bool
block_named touch.Nothing = none
block_named (touch.Exchange k l) = only k
block_named (touch.Append k i e) = only k
block_named (touch.Write k i v) = only k
block_named (touch.Take k) = only k
block_named (touch.Fill k i v) = only k

unfoldable pub slot_named : SlotChange → ℕ → Bool
slot_named change.Same = none
slot_named (change.To j x) = only j

unfoldable pub task_named : TaskChange → ℕ → Bool
task_named change.Same = none
task_named (change.To t k) = only t

module _ {d : Sizes} {p : List ℕ} (g : Spans d p) where
  near-keeps : (x : Touch) → touch_near d x ≡ true → Keeps d p (touched_near p d x).0 none none (block_named x)
  unfolding touched_near put_done touch_near block_named
  near-keeps touch.Nothing h = keeps-all d p none none none
  near-keeps (touch.Exchange k l) h =
      let a = ltb-true k d.b h in block-keeps g k a _ (exchange-long d.n (block_part p d k) l ∙ block-length g k a)
  near-keeps (touch.Append k i e) h =
      let a = ltb-true k d.b h in block-keeps g k a _ (append-long d.n (block_part p d k) i e.version e.old ∙ block-length g k a)
  near-keeps (touch.Write k i v) h =
      let a = ltb-true k d.b h in block-keeps g k a _ (write-long d.n (block_part p d k) i v ∙ block-length g k a)
  near-keeps (touch.Take k) h =
      let a = ltb-true k d.b h in block-keeps g k a _ (take_long d.n (block_part p d k) ∙ block-length g k a)
  near-keeps (touch.Fill k i v) h =
      let a = ltb-true k d.b h in block-keeps g k a _ (fill-long d.n (block_part p d k) i v ∙ block-length g k a)

  pub touched-keeps : (x : Touch) → Keeps d p (touched_in p d x).0 none none (block_named x)
  touched-keeps x =
      by_test (touch_near d x) (λ q. rw (touched_near_lem p d x q) (near-keeps x q)) (λ q. rw (touched_far p d x q) (keeps-all d p none none (block_named x)))

  pub seated-keeps : (c : SlotChange) → slot_near d c ≡ true → Keeps d p (seated_in p d c) (slot_named c) none none
  unfolding seated_in slot_near slot_named
  seated-keeps change.Same h = keeps-all d p none none none
  seated-keeps (change.To j x) h = slot-keeps g j (ltb-true j d.h h) x

  pub turned-keeps : (c : TaskChange) → task_near d c ≡ true → Keeps d p (turned_in p d c) none (task_named c) none
  unfolding turned_in task_near task_named
  turned-keeps change.Same h = keeps-all d p none none none
  turned-keeps (change.To t k) h = task-keeps g t (ltb-true t d.t h) k

  pub view_seated : (c : SlotChange) → slot_near d c ≡ true → view_of d (seated_in p d c) ≡ seated (view_of d p) c
  unfolding seated_in slot_near seated
  view_seated change.Same h = refl
  view_seated (change.To j x) h = view_slot d p g j (ltb-true j d.h h) x

  pub view_turned : (c : TaskChange) → task_near d c ≡ true → view_of d (turned_in p d c) ≡ turned (view_of d p) c
  unfolding turned_in task_near turned
  view_turned change.Same h = refl
  view_turned (change.To t k) h = view_task d p g t (ltb-true t d.t h) k

-- ---- a touch that was done has done the machine's

module _ (n : ℕ) (w : List ℕ) where
  exchange-raised : (l : ℕ) → raised (exchange_in n w l).1 ≡ true → ((block_of n w).version ≡ l) × (l ≤ n)
  unfolding exchange_in
  exchange-raised l h =
      by_test (is_block n w)
      (λ a. by_test (eqb (version_of w) l)
      (λ b. by_test (leb l n)
      (λ c. (version_at_lem n w ∙ eqb-true (version_of w) l b, leb-true l n c))
      (λ c. absurd (false≢true (rw (a, b, c) at h))))
      (λ b. absurd (false≢true (rw (a, b) at h))))
      (λ a. absurd (false≢true (rw a at h)))

  append_at-cell : (r : Option Spot) (i v o : ℕ) → room_in n w i ≡ r → (append_at r n w i v o).1 ≡ true → i < n
  unfolding append_at
  append_at-cell (Some s) i v o e h = (room_planned n w i s e).1.cell
  append_at-cell None i v o e h = absurd (false≢true h)

  append-cell : (i v o : ℕ) → (append_in n w i v o).1 ≡ true → i < n
  unfolding append_in
  append-cell i v o h = append_at-cell (room_in n w i) i v o refl h

  write_cell : (i v : ℕ) → (write_in n w i v).1 ≡ true → i < n
  unfolding write_in
  write_cell i v h = by_test (has_cell n w i) (λ a. (cell-block n w i a).1) (λ a. absurd (false≢true (rw a at h)))

  fill-cell : (i v : ℕ) → (fill_in n w i v).1 ≡ true → i < n
  unfolding fill_in
  fill-cell i v h = by_test (has_cell n w i) (λ a. (cell-block n w i a).1) (λ a. absurd (false≢true (rw a at h)))

-- where an entry is appended, the block's logs are sound and have fewer than N entries
pub record Appendable (d : Sizes) (p : List ℕ) (x : Touch) : Type 0 where
  pub laid : (k i : ℕ) (e : Entry) → x ≡ touch.Append k i e → Laid d.n (block_part p d k)
  pub less : (k i : ℕ) (e : Entry) → x ≡ touch.Append k i e → entries_in d.n (block_of d.n (block_part p d k)) < d.n

module _ {d : Sizes} {p : List ℕ} (g : Spans d p) where
  -- block k has become w, which shows what `change` makes of it
  view_change : (k : ℕ) (h : k < d.b) (w : List ℕ) (change : Block → Block) → length w ≡ length (block_part p d k)
      → block_of d.n w ≡ change (block_of d.n (block_part p d k)) → view_of d (put_block p d k w) ≡ with_block (view_of d p) k (change (block_at (view_of d p) k))
  view_change k h w change l e =
      view_block d p g k h w (l ∙ block-length g k h)
      ∙ ap (with_block (view_of d p) k) (e ∙ ap change (sym (view_block_at d p k h)))

  view_near : (x : Touch) → touch_near d x ≡ true → (touched_near p d x).1 ≡ true → Appendable d p x → view_of d (touched_near p d x).0 ≡ touched (view_of d p) x
  unfolding touched_near put_done touch_near touched
  view_near touch.Nothing h y a = refl
  view_near (touch.Exchange k l) h y a =
      let b = ltb-true k d.b h in
      let r = exchange-raised d.n (block_part p d k) l y in
      view_change k b _ (λ (z : Block). with_version z (l + 1)) (exchange-long d.n (block_part p d k) l) (exchange_first (block-sized g k b) l r.0 r.1).1.block
  view_near (touch.Append k i e) h y a =
      let b = ltb-true k d.b h in
      view_change k b _ (λ (z : Block). with_log z i (log_at z i ++ (e ∷ []))) (append-long d.n (block_part p d k) i e.version e.old)
      (append-done (a.laid k i e refl) i e.version e.old (append-cell d.n (block_part p d k) i e.version e.old y) (a.less k i e refl)).1.block
  view_near (touch.Write k i v) h y a =
      let b = ltb-true k d.b h in
      view_change k b _ (λ (z : Block). with_cell z i v) (write-long d.n (block_part p d k) i v)
      (write_done (block-sized g k b) i v (write_cell d.n (block_part p d k) i v y)).1.block
  view_near (touch.Take k) h y a =
      let b = ltb-true k d.b h in
      view_change k b _ (λ (z : Block). with_version z 0) (take_long d.n (block_part p d k)) (take_done (block-sized g k b)).1
  view_near (touch.Fill k i v) h y a =
      let b = ltb-true k d.b h in
      view_change k b _ (λ (z : Block). with_log (with_cell z i v) i []) (fill-long d.n (block_part p d k) i v)
      (fill_done (block-sized g k b) i v (fill-cell d.n (block_part p d k) i v y)).2

  pub view_touched : (x : Touch) → (touched_in p d x).1 ≡ true → Appendable d p x → view_of d (touched_in p d x).0 ≡ touched (view_of d p) x
  view_touched x y a = let q = done-near p d x y in rw (touched_near_lem p d x q) (view_near x q (rw (touched_near_lem p d x q) at y) a)

-- ---- the whole act

module _ (p : List ℕ) (d : Sizes) where
  pub applied_answers : (r : Reply) → applied_in p d (answers r) ≡ (p, r)
  unfolding applied_in acted_in touched_in touched_near touch_near seated_in turned_in
  applied_answers r = refl

  -- refused refusal.Damaged: no word changes
  pub applied_not : (a : Act) → (touched_in p d a.touch).1 ≡ false → applied_in p d a ≡ (p, reply.Refused 2)
  unfolding applied_in acted_in
  applied_not a e = ap (λ (x : Bool). acted_in x (touched_in p d a.touch).0 p d a) e

  pub applied_done : (a : Act) → (touched_in p d a.touch).1 ≡ true
      → applied_in p d a ≡ (turned_in (seated_in (touched_in p d a.touch).0 d a.slot) d a.task, a.reply)
  unfolding applied_in acted_in
  applied_done a e = ap (λ (x : Bool). acted_in x (touched_in p d a.touch).0 p d a) e

module _ {d : Sizes} {p : List ℕ} (g : Spans d p) (a : Act) (r : InReach d a) where
  abbrev after : List ℕ
  after = (touched_in p d a.touch).0

  spans-touched : Spans d after
  spans-touched = keeps-spans (touched-keeps g a.touch) g

  spans-seated : Spans d (seated_in after d a.slot)
  spans-seated = keeps-spans (seated-keeps spans-touched a.slot r.slot) spans-touched

  -- what was done is the machine's act
  pub applied_acted : (touched_in p d a.touch).1 ≡ true → Appendable d p a.touch
      → (view_of d (applied_in p d a).0 ≡ (acted (view_of d p) a).0) × ((applied_in p d a).1 ≡ (acted (view_of d p) a).1)
  unfolding acted
  applied_acted y s =
      rw (applied_done p d a y) (
        view_turned spans-seated a.task r.task
            ∙ ap (λ (z : State). turned z a.task) (view_seated spans-touched a.slot r.slot
            ∙ ap (λ (z : State). seated z a.slot) (view_touched g a.touch y s)),
        refl,
      )

  -- done or refused, what the act does not name is as it was
  pub applied_keeps : Keeps d p (applied_in p d a).0 (slot_named a.slot) (task_named a.task) (block_named a.touch)
  applied_keeps =
      let f = slot_named a.slot in
      let h = task_named a.task in
      let b = block_named a.touch in
      by_test (touched_in p d a.touch).1
      (λ y.
      rw (applied_done p d a y) (keeps-both (blocks-alone f h b (touched-keeps g a.touch))
      (keeps-both (slots-alone f h b (seated-keeps spans-touched a.slot r.slot)) (tasks-alone f h b (turned-keeps spans-seated a.task r.task)))))
      (λ y. rw (applied_not p d a y) (keeps-all d p f h b))
