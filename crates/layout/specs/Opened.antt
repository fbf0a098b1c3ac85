-- What an accepted open leaves: a header that describes the pool, the machine's opened state, and every word after the control area.
-- Rests on Sizing, Ranges and Seen.
use Rattle.std.specs.Prelude.{ℕ, zero, suc, ◌+◌, ◌-◌, ◌≤◌, ◌<◌, ◌≡◌, refl, true, false, List, ◌∷◌, ◌++◌, length, ltb, Some}
use Rattle.std.proofs.Math.Path.{sym, ap}
use Rattle.std.proofs.Common.{◌∙◌, ltb-true, ltb-false}
use native.Mathlib.Omega.{arith}
use Rattle.std.proofs.Math.ListN.{get_or, replicate, get_or-append, get_or-eq_default}
use Rattle.std.proofs.lemmas.List.{length-replicate}
use Rattle.std.proofs.Math.Seq.{get_or-append-add}
use Rattle.rulebook.specs.Tests.{by_test}
use Rattle.rulebook.specs.Sizes.{header_words, control_words, block_words, room, opens}
use Rattle.rulebook.specs.State.{freed, idle, list_to}
use Rattle.rulebook.specs.Starts.{opened}
use Rattle.rulebook.specs.Lists.{list_to-same, replicate_get}
use Rattle.rulebook.specs.declared.Sizes.{Sizes}
use Rattle.rulebook.specs.declared.Reply.TheVariants as reply
use Rattle.block.specs.Sound.{block_of}
use Rattle.layout.specs.Parts.{part, splice, Fitting, length_part, get_or-part, splice-length, splice-after, splice-part, part-after}
use Rattle.layout.specs.Rows.{slot_read, task_read}
use Rattle.layout.specs.Places.{slot_part, task_part, block_part}
use Rattle.layout.specs.Header.{header_fields, headed, sizes_of, sizes_in, header_of}
use Rattle.layout.specs.Sizing.{Openable, opens_says, described-header}
use Rattle.layout.specs.Pool.{view_of, control_of, open_under, open_in, lie_of}
use Rattle.layout.specs.Lends.{row_ends}
use Rattle.layout.specs.Ranges.{slot-zero, task-zero}

pub list_to_replicate : {A : Type 0} (n : ℕ) (a : A) → list_to n (λ (i : ℕ). a) ≡ replicate n a
unfolding list_to
list_to_replicate zero a = refl
list_to_replicate {A} (suc n) a = ap (λ (l : List A). a ∷ l) (list_to_replicate n a)

-- refused refusal.NoRoom: no word changes
pub open_not : (p : List ℕ) (n h t : ℕ) → opens n h t (length p) ≡ false → open_in p n h t ≡ (p, reply.Refused 3)
unfolding open_in open_under sizes_in
open_not p n h t e = rw e

module _ (p : List ℕ) (n h t : ℕ) (o : opens n h t (length p) ≡ true) where
  abbrev d : Sizes
  d = sizes_of n h t (length p)

  abbrev after : List ℕ
  after = splice p 0 (control_words h t) (control_of n h t (length p))

  pub open_is : open_in p n h t ≡ (splice p 0 (control_words h t) (control_of n h t (length p)), reply.Opened (room n h t (length p)))
  unfolding open_in open_under sizes_in
  open_is = rw o

  -- ---- the words

  may : Openable n h t (length p)
  may = opens_says n h t (length p) o

  control_long : length (control_of n h t (length p)) ≡ control_words h t
  unfolding control_of headed control_words
  control_long = simp (length-replicate {A = ℕ}) (omega arith)

  head-fits : header_words ≤ control_words h t
  unfolding control_words
  head-fits = omega arith

  fitting : Fitting p 0 (control_words h t) (control_of n h t (length p))
  fitting = let f = may.fits in let l = control_long in record { order = omega arith; within = omega arith; long = omega arith }

  after-long : length after ≡ length p
  after-long = splice-length p _ _ _ fitting

  word : (i : ℕ) → i < control_words h t → get_or after i 0 ≡ get_or (control_of n h t (length p)) i 0
  word i l =
      ap (λ (x : ℕ). get_or after x 0) (let e : i ≡ 0 + i = omega arith in e) ∙ sym (get_or-part after 0 (control_words h t) i (omega arith))
      ∙ ap (λ (w : List ℕ). get_or w i 0) (splice-part p _ _ _ fitting)

  head-word : (i : ℕ) → i < header_fields → get_or after i 0 ≡ get_or (headed n h t (length p)) i 0
  unfolding control_of headed
  head-word i l = word i (let f = head-fits in omega arith) ∙ get_or-append (headed n h t (length p)) (replicate (control_words h t - header_fields) 0) 0 i l

  zero_word : (i : ℕ) → header_fields ≤ i → i < control_words h t → get_or after i 0 ≡ 0
  unfolding control_of headed
  zero_word i a l =
      let m = control_words h t - header_fields in
      word i l ∙ ap (λ (x : ℕ). get_or (headed n h t (length p) ++ replicate m 0) x 0) (let e : i ≡ header_fields + (i - header_fields) = omega arith in e)
      ∙ get_or-append-add (headed n h t (length p)) (replicate m 0) (i - header_fields) 0 ∙ replicate_get {A = ℕ} m 0 (i - header_fields)

  zero-part : (s e : ℕ) → header_fields ≤ s → s ≤ e → e ≤ control_words h t → (i : ℕ) → get_or (part after s e) i 0 ≡ 0
  zero-part s e a b c i =
      let f = may.fits in
      let g = after-long in
      let l = length_part after s e b (omega arith) in
      by_test (ltb i (e - s))
      (λ q. (let y = ltb-true i (e - s) q in get_or-part after s e i y ∙ zero_word (s + i) (omega arith) (omega arith)))
      (λ q. (let y = ltb-false i (e - s) q in get_or-eq_default (part after s e) 0 (omega arith)))

  after-header : header_of after ≡ Some d
  unfolding headed
  after-header =
      let l = after-long in
      described-header after d (record {
        long = let f = may.fits in let c = head-fits in omega arith;
        mark = head-word 0 (omega arith);
        cells = head-word 1 (omega arith);
        handles = head-word 2 (omega arith);
        tasks = head-word 3 (omega arith);
        words = head-word 4 (omega arith) ∙ sym l;
        form = head-word 5 (omega arith);
        blocks = ap (room n h t) (sym l);
        opens = ap (opens n h t) l ∙ o;
      })

  zero-slot : (j : ℕ) → j < h → (i : ℕ) → get_or (slot_part after j) i 0 ≡ 0
  unfolding slot_part control_words
  zero-slot j l = zero-part _ _ (omega arith) (omega arith) (omega arith)

  zero-task : (k : ℕ) → k < t → (i : ℕ) → get_or (task_part after d k) i 0 ≡ 0
  unfolding task_part control_words
  zero-task k l = zero-part _ _ (omega arith) (omega arith) (omega arith)

  kept_block : (k : ℕ) → k < room n h t (length p) → block_part after d k ≡ block_part p d k
  unfolding block_part
  kept_block k l =
      let e = row_ends (block_words n) k (room n h t (length p)) l in
      let f = may.fits in
      part-after p _ _ _ fitting _ _ (omega arith) (omega arith) (omega arith)

  after_view : view_of d after ≡ opened n h t (length p) (lie_of d p)
  unfolding view_of opened lie_of block_of
  after_view =
      λ i. record {
        sizes = d;
        slots =
            (list_to-same h (λ (j : ℕ). slot_read (slot_part after j)) (λ (j : ℕ). freed 0) (λ j l. slot-zero _ (zero-slot j l))
            ∙ list_to_replicate h (freed 0)) i;
        tasks =
            (list_to-same t (λ (k : ℕ). task_read (task_part after d k)) (λ (k : ℕ). idle) (λ k l. task-zero _ (zero-task k l))
            ∙ list_to_replicate t idle) i;
        blocks =
            list_to-same (room n h t (length p)) (λ (k : ℕ). block_of n (block_part after d k)) (λ (k : ℕ). block_of n (block_part p d k))
            (λ k l. ap (block_of n) (kept_block k l)) i;
      }

  -- ---- the laws

  pub open-reply : (open_in p n h t).1 ≡ reply.Opened d.b
  open-reply = rw open_is

  pub open-length : length (open_in p n h t).0 ≡ length p
  open-length = rw open_is after-long

  pub open-header : header_of (open_in p n h t).0 ≡ Some d
  open-header = rw open_is after-header

  pub open_view : view_of d (open_in p n h t).0 ≡ opened n h t (length p) (lie_of d p)
  open_view = rw open_is after_view

  -- every row is 0
  pub open_rows : (i : ℕ) → header_fields ≤ i → i < control_words h t → get_or (open_in p n h t).0 i 0 ≡ 0
  open_rows i a l = rw open_is (zero_word i a l)

  -- the blocks, and what is after them, are as they lay
  pub open-rest : (i : ℕ) → control_words h t ≤ i → get_or (open_in p n h t).0 i 0 ≡ get_or p i 0
  open-rest i l = rw open_is (splice-after p _ _ _ fitting i l)
