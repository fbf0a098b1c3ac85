-- What is done to one block of a sound pool: that it is done, and which words the block then has.
-- Rests on Doable and on block's laws of each change.
use Prim.Native.Nat.{◌+◌, ◌<◌, ◌≤◌, suc, zero, ℕ}
use Rattle.std.specs.Prelude.{Bool, true, eqb, length}
use mathlib.Core.List.{List}
use Rattle.std.proofs.Common.{◌∙◌, sym, lt-ltb}
use Rattle.std.proofs.Math.Path.{◌≡◌, ap, refl}
use native.Mathlib.Omega.{arith}
use Rattle.acts.specs.Touch.{Touch}
use Rattle.rulebook.specs.declared.Entry.{Entry}
use Rattle.rulebook.specs.declared.Sizes.{Sizes}
use Rattle.block.proofs.Appends.{append-done}
use Rattle.block.specs.Layout.{Sized}
use Rattle.block.specs.Sound.{Filling, Laid, block_of, entries_in}
use Rattle.block.specs.Words.{append_in, exchange_in, fill_in, take_in, write_in}
use Rattle.block.specs.Writes.{append-long, exchange_first, exchange-long, fill_done, fill-long, take_done, take_long, write_done, write-long}
use Rattle.layout.specs.Acts.{Appendable, block_named, done-own}
use Rattle.layout.specs.Does.{touched_near_lem}
use Rattle.layout.specs.Keeps.{block-sized}
use Rattle.layout.specs.Places.{Spans, block_part}
use Rattle.layout.specs.Pool.{put_done, raised, touch_near, touched_in, touched_near, view_of}
use Rattle.layout.specs.View.{view_block_at}
use Rattle.rulebook.specs.State.{Block, block_at, log_at}
use Rattle.theorems.specs.Prices.Budget.{passed, passed-next, passed_total, sum_to}
use Rattle.bridge.specs.Doable.{no-append, words_after}
use Rattle.theorems.specs.Terms.{entries}
use Rattle.acts.specs.Touch as touch
use Rattle.block.specs.Sound as blocks

-- a touch that is done on block b, which then has the words z
pub record Touches (d : Sizes) (p : List ℕ) (x : Touch) (b : ℕ) (z : List ℕ) : Type 0 where
  pub named : (k : ℕ) → block_named x k ≡ eqb k b
  pub done : (touched_in p d x).1 ≡ true
  pub room : Appendable d p x
  pub own : words_after d p x b ≡ z

-- a block's logs have no more entries than the machine's block has
entries-most : (n : ℕ) (b : Block) → entries_in n b ≤ entries b.logs
unfolding entries_in
entries-most n b = rw (sums n) (passed_total b n)
  where
    sums : (m : ℕ) → blocks.sum_to m (λ (i : ℕ). length (log_at b i)) ≡ passed b m
    sums zero = unfold sum_to in refl
    sums (suc m) = let h = sums m in let z = passed-next b m in let y : passed b (suc m) ≡ passed b (m + 1) = ap (λ (x : ℕ). passed b x) (omega arith) in omega arith

module _ {d : Sizes} {p : List ℕ} (g : Spans d p) (b : ℕ) (h : b < d.b) where
  abbrev n : ℕ
  n = d.n

  abbrev w : List ℕ
  w = block_part p d b

  sized : Sized d.n (block_part p d b)
  sized = block-sized g b h

  -- a touch of this block: what it makes of the block's words is there
  touches : (x : Touch) (z : List ℕ × Bool) → touch_near d x ≡ true → ((k : ℕ) → block_named x k ≡ eqb k b) → touched_near p d x ≡ put_done p d b z → z.1 ≡ true → length z.0 ≡ length w → Appendable d p x → Touches d p x b z.0
  unfolding put_done
  touches x z near named e done l room =
      let q = touched_near_lem p d x near ∙ e in
      record { named = named; done = ap (λ (y : List ℕ × Bool). y.1) q ∙ done; room = room; own = ap (λ (y : List ℕ × Bool). block_part y.0 d b) q ∙ done-own g b h z l }

  pub exchange-touches : (L : ℕ) → (block_at (view_of d p) b).version ≡ L → L ≤ d.n
      → Touches d p (touch.Exchange b L) b (exchange_in d.n (block_part p d b) L).0 × (Laid d.n (block_part p d b) → Laid d.n (exchange_in d.n (block_part p d b) L).0)
  unfolding touched_near touch_near block_named
  exchange-touches L e q =
      let r = exchange_first sized L (ap (λ (x : Block). x.version) (sym (view_block_at d p b h)) ∙ e) q in
      (touches (touch.Exchange b L) _ (lt-ltb _ _ h) (λ k. refl) refl (ap raised r.0) (exchange-long n w L) (no-append (λ k i y o. let z : ◌≡◌ {A = ℕ} 0 1 = cc in omega arith)), r.1.laid)

  pub write-touches : (i v : ℕ) → i < d.n
      → Touches d p (touch.Write b i v) b (write_in d.n (block_part p d b) i v).0 × (Laid d.n (block_part p d b) → Laid d.n (write_in d.n (block_part p d b) i v).0)
  unfolding touched_near touch_near block_named
  write-touches i v q =
      let r = write_done sized i v q in
      (touches (touch.Write b i v) _ (lt-ltb _ _ h) (λ k. refl) refl r.0 (write-long n w i v) (no-append (λ k j y o. let z : ◌≡◌ {A = ℕ} 0 1 = cc in omega arith)), r.1.laid)

  pub take-touches : Touches d p (touch.Take b) b (take_in d.n (block_part p d b)).0 × Filling 0 d.n (take_in d.n (block_part p d b)).0
  unfolding touched_near touch_near block_named
  take-touches =
      let r = take_done sized in
      (touches (touch.Take b) _ (lt-ltb _ _ h) (λ k. refl) refl r.0 (take_long n w) (no-append (λ k j y o. let z : ◌≡◌ {A = ℕ} 0 1 = cc in omega arith)), r.2)

  pub fill-touches : (i v : ℕ) → i < d.n → Touches d p (touch.Fill b i v) b (fill_in d.n (block_part p d b) i v).0
  unfolding touched_near touch_near block_named
  fill-touches i v q =
      let r = fill_done sized i v q in
      touches (touch.Fill b i v) _ (lt-ltb _ _ h) (λ k. refl) refl r.0 (fill-long n w i v) (no-append (λ k j y o. let z : ◌≡◌ {A = ℕ} 0 1 = cc in omega arith))

  -- an append finds room in a block that is laid out and has fewer than N entries
  module _ (L : Laid d.n (block_part p d b)) (less : entries (block_at (view_of d p) b).logs < d.n) (i : ℕ) (e : Entry) (q : i < d.n) where
    fewer : entries_in n (block_of n w) < n
    fewer = let z = entries-most n (block_at (view_of d p) b) in rw (← view_block_at d p b h) (omega arith)

    room_for : Appendable d p (touch.Append b i e)
    room_for = record {
      laid = λ k j y o. let z : b ≡ k = cc in rw (← z) L;
      less = λ k j y o. let z : b ≡ k = cc in rw (← z) fewer;
    }

    pub append-touches : Touches d p (touch.Append b i e) b (append_in d.n (block_part p d b) i e.version e.old).0 × Laid d.n (append_in d.n (block_part p d b) i e.version e.old).0
    unfolding touched_near touch_near block_named
    append-touches =
        let r = append-done L i e.version e.old q fewer in
        (touches (touch.Append b i e) _ (lt-ltb _ _ h) (λ k. refl) refl r.0 (append-long n w i e.version e.old) room_for, r.1.laid L)
