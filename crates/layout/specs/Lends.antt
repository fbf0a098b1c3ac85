-- What the functions that lend a row or a block on owe: rules for their proofs.
-- Rests on Places and Pool.
use Prim.Native.Nat.{ℕ, ◌+◌, ◌*◌, ◌^◌, ◌≤◌, ◌<◌}
use Rattle.std.specs.Prelude.{◌≡◌, Bool, true, false, not, length, drop, ltb, Err, Result}
use Rattle.std.proofs.Math.Path.{refl, ap}
use Rattle.std.proofs.Common.{sym, ◌∙◌, mul-le-mul, mul-le-mul_left, mul-suc, Fits}
use mathlib.Core.List.{List, ◌++◌}
use native.Mathlib.Omega.{arith}
use borrow.Author.Tests.{le-ltb, lt-ltb, ltb-false, ltb-true, not-false, not-true}
use Rattle.rulebook.specs.Tests.{by_test}
use Rattle.std.specs.Int.{w64}
use Rattle.rulebook.specs.Sizes.{most_cells, most_blocks, control_words, block_words}
use Rattle.rulebook.specs.declared.Sizes.{Sizes}
use Rattle.rulebook.specs.declared.Entry.{Entry}
use Rattle.rulebook.specs.declared.Slot.{Slot}
use Rattle.rulebook.specs.declared.Task.{Task}
use Rattle.block.specs.Words.{version_in, cell_in, length_in, entry_in, exchange_in, append_in, write_in, take_in, fill_in}
use Rattle.acts.specs.Touch.{Touch}
use Rattle.acts.specs.Touch as touch
use Rattle.layout.specs.Parts.{part, splice}
use Rattle.layout.specs.Rows.{slot_words, task_words, task_fields}
use Rattle.layout.specs.Places.{slot_start, task_start, block_start, task_part, block_part, Spans, Small, Place}
use Rattle.layout.specs.Pool.{put_slot, put_task, put_block, raised, put_done, touch_near, touched_in, touched_near, version_seen, cell_seen, length_seen, entry_seen, exchange_seen}
use Rattle.layout.specs.Sizing.{room-all}
use Rattle.layout.specs.Does.{touched_near_lem}
use Rattle.rulebook.specs.Codes.{damaged}
use Rattle.rulebook.specs.declared.Damaged.{Damaged}

-- row j of so many rows ends within what they take
pub row_ends : (width j count : ℕ) → j < count → width * j + width ≤ width * count
row_ends width j count h = rw (← mul-suc) (mul-le-mul_left width h)

-- ---- rows

module _ {d : Sizes} {p : List ℕ} (g : Spans d p) where
  pub slot-ends : (j s : ℕ) → j < d.h → s ≡ slot_start j → s + 4 ≤ length p
  unfolding control_words
  slot-ends j s h e = let l = g.long in omega arith

  pub task-ends : (t s : ℕ) → t < d.t → s ≡ task_start d t → s + 32 ≤ length p
  unfolding control_words
  task-ends t s h e = let l = g.long in omega arith

pub slot-put : (p w : List ℕ) (j s : ℕ) (x : Slot) → s ≡ slot_start j → w ≡ slot_words x → splice p s (s + 4) w ≡ put_slot p j x
unfolding put_slot
slot-put p w j s x e f = rw (f, e)

pub task-put : (p w : List ℕ) (d : Sizes) (t s : ℕ) (k : Task) → s ≡ task_start d t → w ≡ task_words k ++ drop task_fields (part p s (s + 32))
    → splice p s (s + 32) w ≡ put_task p d t k
unfolding put_task task_part
task-put p w d t s k e f = rw (f, e)

-- ---- where a block lies

-- of any block that a store may have
pub few-small : (d : Sizes) (p : List ℕ) (k : ℕ) → Spans d p → k < most_blocks → Small d k
unfolding block_words
few-small d p k g h = record {
  cells = g.cells;
  handles = g.handles;
  tasks = g.tasks;
  before = let a = g.cells in mul-le-mul {n₁ = block_words d.n} {m₁ = k} {n₂ = block_words most_cells} {m₂ = most_blocks} (omega arith) (omega arith);
}

module _ {d : Sizes} {k : ℕ} (s : Small d k) where
  module _ (z x : ℕ) (e : z ≡ block_words d.n) (f : x ≡ k) where
    before : z * x ≤ 81936 * 256
    unfolding block_words
    before = rw (e, f) s.before

    pub extent_mul : Fits w64 (z * x)
    extent_mul = let a = before in omega arith

    pub extent_start : (c : ℕ) → c ≤ 1552 → Fits w64 (c + z * x)
    extent_start c l = let a = before in omega arith

    pub extent_stop : (c : ℕ) → c ≤ 1552 → z ≤ 81936 → Fits w64 (c + z * x + z)
    extent_stop c l m = let a = before in omega arith

    pub extent_place : (c : ℕ) → c ≡ control_words d.h d.t → Place d k (c + z * x) (c + z * x + z)
    extent_place c q = record { start = rw (e, f, q); stop = rw (e, f, q) }

pub ruleset extents = (extent_mul, extent_start, extent_stop, extent_place)

pub spans-small : (d : Sizes) (p : List ℕ) (k : ℕ) → Spans d p → k < d.b → Small d k
spans-small d p k g h = let b = g.blocks in few-small d p k g (omega arith)

-- ---- a block

module _ {d : Sizes} {p : List ℕ} (g : Spans d p) (k : ℕ) (h : k < d.b) where
  pub block-ends : block_start d k + block_words d.n ≤ length p
  block-ends = let e = row_ends (block_words d.n) k d.b h in let l = g.long in omega arith

module _ (d : Sizes) (p : List ℕ) (k s e : ℕ) (q : Place d k s e) where
  pub block-got : part p s e ≡ block_part p d k
  unfolding block_part
  block-got = rw (q.start, q.stop)

  module _ (g : Spans d p) (h : k < d.b) where
    pub place_end : e ≤ length p
    place_end = let f = block-ends g k h in omega (arith, q.stop)

    pub place_scaled : length p * 4 < 2 ^ 63 → Fits w64 (s * 4)
    place_scaled l = let f = block-ends g k h in omega (arith, q.start)

  -- whether it is there

  module _ (g : Spans d p) (few : k < most_blocks) where
    pub near_not : length p < e → false ≡ ltb k d.b
    near_not l = by_test (ltb k d.b) (λ o. absurd (let f = block-ends g k (ltb-true k d.b o) in omega (arith, q.stop))) (λ o. sym o)

    pub near_so : e ≤ length p → true ≡ ltb k d.b
    near_so l =
        by_test (ltb k d.b) (λ o. sym o)
        (λ o. absurd (let f = room-all d.n d.h d.t (length p) k few (omega (arith, g.room, ltb-false k d.b o)) in omega (arith, q.stop)))

  put_as : (w : List ℕ) (r : Bool) (z : List ℕ × Bool) → (w, r) ≡ z → (splice p s e w, r) ≡ put_done p d k z
  unfolding put_done put_block
  put_as w r z f = rw (q.start, q.stop) (ap (λ (y : List ℕ × Bool). put_done p d k y) f)

  module _ (w : List ℕ) (h : k < d.b) where
    there : (x : Touch) → touch_near d x ≡ ltb k d.b → touched_near p d x ≡ touched_in p d x
    there x n = sym (touched_near_lem p d x (n ∙ lt-ltb k d.b h))

    pub exchange-put : (l : ℕ) (x : Result Bool Damaged) (r : Bool) → (w, x) ≡ exchange_in d.n (part p s e) l → r ≡ raised x
        → (splice p s e w, r) ≡ touched_in p d (touch.Exchange k l)
    unfolding touched_near touch_near
    exchange-put l x r f i =
        put_as w r _ ((λ j. (w, i j)) ∙ ap (λ (y : List ℕ × Result Bool Damaged). (y.0, raised y.1)) (f ∙ ap (λ (b : List ℕ). exchange_in d.n b l) block-got)) ∙ there (touch.Exchange k l) refl

    module _ (r : Bool) where
      pub append-put : (i : ℕ) (x : Entry) → (w, r) ≡ append_in d.n (part p s e) i x.version x.old
          → (splice p s e w, r) ≡ touched_in p d (touch.Append k i x)
      unfolding touched_near touch_near
      append-put i x f = put_as w r _ (f ∙ ap (λ (b : List ℕ). append_in d.n b i x.version x.old) block-got) ∙ there (touch.Append k i x) refl

      pub write-put : (i v : ℕ) → (w, r) ≡ write_in d.n (part p s e) i v → (splice p s e w, r) ≡ touched_in p d (touch.Write k i v)
      unfolding touched_near touch_near
      write-put i v f = put_as w r _ (f ∙ ap (λ (b : List ℕ). write_in d.n b i v) block-got) ∙ there (touch.Write k i v) refl

      pub take_put : (w, r) ≡ take_in d.n (part p s e) → (splice p s e w, r) ≡ touched_in p d (touch.Take k)
      unfolding touched_near touch_near
      take_put f = put_as w r _ (f ∙ ap (λ (b : List ℕ). take_in d.n b) block-got) ∙ there (touch.Take k) refl

      pub fill-put : (i v : ℕ) → (w, r) ≡ fill_in d.n (part p s e) i v → (splice p s e w, r) ≡ touched_in p d (touch.Fill k i v)
      unfolding touched_near touch_near
      fill-put i v f = put_as w r _ (f ∙ ap (λ (b : List ℕ). fill_in d.n b i v) block-got) ∙ there (touch.Fill k i v) refl

-- ---- a block that may not be there

module _ (d : Sizes) (p : List ℕ) (k : ℕ) where
  pub near_many : most_blocks ≤ k → Spans d p → false ≡ ltb k d.b
  near_many l g = sym (le-ltb k d.b (let b = g.blocks in omega arith))

  module _ (x : Bool) (e : x ≡ ltb k d.b) where
    pub near-below : not x ≡ false → k < d.b
    near-below q = ltb-true k d.b (sym e ∙ not-false x q)

    module _ (q : not x ≡ true) where
      away : ltb k d.b ≡ false
      away = sym e ∙ not-true x q

      pub version_far : (Err damaged) ≡ version_seen p d k
      unfolding version_seen
      version_far = rw away

      pub cell_far : (i : ℕ) → Err damaged ≡ cell_seen p d k i
      unfolding cell_seen
      cell_far i = rw away

      pub length_far : (i : ℕ) → Err damaged ≡ length_seen p d k i
      unfolding length_seen
      length_far i = rw away

      pub entry_far : (i j : ℕ) → Err damaged ≡ entry_seen p d k i j
      unfolding entry_seen
      entry_far i j = rw away

      pub exchange_far : (l : ℕ) → (p, false) ≡ touched_in p d (touch.Exchange k l)
      unfolding touched_in touch_near
      exchange_far l = rw away

      pub append_far : (i : ℕ) (y : Entry) → (p, false) ≡ touched_in p d (touch.Append k i y)
      unfolding touched_in touch_near
      append_far i y = rw away

      pub write_far : (i v : ℕ) → (p, false) ≡ touched_in p d (touch.Write k i v)
      unfolding touched_in touch_near
      write_far i v = rw away

      pub take_far : (p, false) ≡ touched_in p d (touch.Take k)
      unfolding touched_in touch_near
      take_far = rw away

      pub fill_far : (i v : ℕ) → (p, false) ≡ touched_in p d (touch.Fill k i v)
      unfolding touched_in touch_near
      fill_far i v = rw away

  module _ (s e : ℕ) (q : Place d k s e) (h : k < d.b) where
    pub version-near : (r : Result ℕ Damaged) → r ≡ version_in d.n (part p s e) → r ≡ version_seen p d k
    unfolding version_seen
    version-near r f = f ∙ rw (block-got d p k s e q, lt-ltb k d.b h)

    pub cell-near : (i : ℕ) (r : Result ℕ Damaged) → r ≡ cell_in d.n (part p s e) i → r ≡ cell_seen p d k i
    unfolding cell_seen
    cell-near i r f = f ∙ rw (block-got d p k s e q, lt-ltb k d.b h)

    pub length-near : (i : ℕ) (r : Result ℕ Damaged) → r ≡ length_in d.n (part p s e) i → r ≡ length_seen p d k i
    unfolding length_seen
    length-near i r f = f ∙ rw (block-got d p k s e q, lt-ltb k d.b h)

    pub entry-near : (i j : ℕ) (r : Result Entry Damaged) → r ≡ entry_in d.n (part p s e) i j → r ≡ entry_seen p d k i j
    unfolding entry_seen
    entry-near i j r f = f ∙ rw (block-got d p k s e q, lt-ltb k d.b h)

    pub exchange-near : (w : List ℕ) (r : Result Bool Damaged) (l : ℕ) → (w, r) ≡ exchange_in d.n (part p s e) l → r ≡ exchange_seen p d k l
    unfolding exchange_seen
    exchange-near w r l f = ap (λ (x : List ℕ × Result Bool Damaged). x.1) f ∙ rw (block-got d p k s e q, lt-ltb k d.b h)

pub ruleset lends = (slot-ends, task-ends, slot-put, task-put, spans-small, near-below, place_end, place_scaled)

pub ruleset nears = (few-small, near_many, near_not, near_so)

pub ruleset looks = (version_far, cell_far, length_far, entry_far, version-near, cell-near, length-near, entry-near)

pub ruleset touches = (near-below, exchange_far, append_far, write_far, take_far, fill_far, exchange-put, append-put, write-put, take_put, fill-put)
