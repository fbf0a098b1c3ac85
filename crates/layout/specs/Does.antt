-- What is not done changes nothing.
-- Rests on Pool.
use Rattle.std.specs.Prelude.{ℕ, ◌≡◌, true, false, List, leb, eqb, Option, None, Some}
use Rattle.std.proofs.Math.Path.{refl}
use Rattle.std.proofs.Common.{sym, true≢false}
use Rattle.rulebook.specs.declared.Sizes.{Sizes}
use Rattle.rulebook.specs.Tests.{by_test}
use Rattle.block.specs.Layout.{version_of, is_block, has_cell}
use Rattle.block.specs.Words.{exchange_in, write_in, take_in, fill_in, room_in, append_at, append_in}
use Rattle.acts.specs.Touch.{Touch}
use Rattle.acts.specs.Touch as touch
use Rattle.layout.specs.Parts.{splice-same}
use Rattle.layout.specs.Places.{block_part}
use Rattle.layout.specs.Pool.{put_block, raised, put_done, touch_near, touched_in, touched_near}
use Rattle.block.specs.declared.change.Spot.{Spot}

-- ---- what is not done changes nothing

module _ (n : ℕ) (w : List ℕ) where
  pub exchange_not : (l : ℕ) → raised (exchange_in n w l).1 ≡ false → (exchange_in n w l).0 ≡ w
  unfolding exchange_in
  exchange_not l h =
      by_test (is_block n w)
      (λ a. by_test (eqb (version_of w) l)
      (λ b. by_test (leb l n) (λ c. absurd (true≢false (rw (a, b, c) at h))) (λ c. rw (a, b, c)))
      (λ b. rw (a, b)))
      (λ a. rw a)

  append_at_not : (r : Option Spot) (i v o : ℕ) → (append_at r n w i v o).1 ≡ false → (append_at r n w i v o).0 ≡ w
  unfolding append_at
  append_at_not (Some s) i v o h = absurd (true≢false h)
  append_at_not None i v o h = refl

  pub append_not : (i v o : ℕ) → (append_in n w i v o).1 ≡ false → (append_in n w i v o).0 ≡ w
  unfolding append_in
  append_not i v o h = append_at_not (room_in n w i) i v o h

  pub write_not : (i v : ℕ) → (write_in n w i v).1 ≡ false → (write_in n w i v).0 ≡ w
  unfolding write_in
  write_not i v h = by_test (has_cell n w i) (λ a. absurd (true≢false (rw a at h))) (λ a. rw a)

  pub take_not : (take_in n w).1 ≡ false → (take_in n w).0 ≡ w
  unfolding take_in
  take_not h = by_test (is_block n w) (λ a. absurd (true≢false (rw a at h))) (λ a. rw a)

  pub fill_not : (i v : ℕ) → (fill_in n w i v).1 ≡ false → (fill_in n w i v).0 ≡ w
  unfolding fill_in
  fill_not i v h = by_test (has_cell n w i) (λ a. absurd (true≢false (rw a at h))) (λ a. rw a)

module _ (p : List ℕ) (d : Sizes) where
  put_same : (k : ℕ) (w : List ℕ) → w ≡ block_part p d k → put_block p d k w ≡ p
  unfolding put_block block_part
  put_same k w e = rw e (splice-same p _ _)

  near-untouched : (x : Touch) → (touched_near p d x).1 ≡ false → (touched_near p d x).0 ≡ p
  unfolding touched_near put_done
  near-untouched touch.Nothing h = refl
  near-untouched (touch.Exchange k l) h = put_same k _ (exchange_not d.n (block_part p d k) l h)
  near-untouched (touch.Append k i e) h = put_same k _ (append_not d.n (block_part p d k) i e.version e.old h)
  near-untouched (touch.Write k i v) h = put_same k _ (write_not d.n (block_part p d k) i v h)
  near-untouched (touch.Take k) h = put_same k _ (take_not d.n (block_part p d k) h)
  near-untouched (touch.Fill k i v) h = put_same k _ (fill_not d.n (block_part p d k) i v h)

  -- ---- where the block is

  pub touched_near_lem : (x : Touch) → touch_near d x ≡ true → touched_in p d x ≡ touched_near p d x
  unfolding touched_in
  touched_near_lem x h = rw h

  pub touched_far : (x : Touch) → touch_near d x ≡ false → touched_in p d x ≡ (p, false)
  unfolding touched_in
  touched_far x h = rw h

  pub untouched : (x : Touch) → (touched_in p d x).1 ≡ false → (touched_in p d x).0 ≡ p
  unfolding touched_in
  untouched x h = by_test (touch_near d x) (λ q. rw q (near-untouched x (rw q at h))) (λ q. rw q)

  -- what was done was done to a block that is there
  pub done-near : (x : Touch) → (touched_in p d x).1 ≡ true → touch_near d x ≡ true
  unfolding touched_in
  done-near x h = by_test (touch_near d x) (λ q. q) (λ q. absurd (true≢false (sym (rw q at h))))
