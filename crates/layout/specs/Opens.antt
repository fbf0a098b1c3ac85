-- What the ways out of opening owe: rules for the proofs of the functions.
-- Rests on Sizing and Pool.
use Rattle.std.specs.Prelude.{ℕ, zero, suc, ◌+◌, ◌-◌, ◌≤◌, ◌<◌, ◌≡◌, refl, length, get_or, set, drop, None, Option, Some}
use Rattle.std.proofs.Common.{add-one, subst, ◌∙◌, length-set, drop-cons}
use native.Mathlib.Omega.{arith}
use Rattle.std.proofs.Math.Path.{sym, ap, ap₂}
use mathlib.Core.List.{List, ◌++◌, append-nil}
use Rattle.std.proofs.Math.ListN.{replicate}
use Rattle.std.proofs.lemmas.List.{length-replicate, replicate-append-replicate, set_at, set-get_or}
use Rattle.std.proofs.Math.Seq.{append_snoc, drop-length}
use Rattle.rulebook.specs.declared.Sizes.{Sizes}
use Rattle.rulebook.specs.declared.Reply.TheVariants as reply
use Rattle.rulebook.specs.Sizes.{most_handles, most_tasks, header_words, control_words}
use Rattle.layout.specs.Header.{header_fields, headed, sizes_in}
use Rattle.layout.specs.Sizing.{Openable, opens_says, sizes-good}
use Rattle.layout.specs.Parts.{part, splice, length_part}
use Rattle.layout.specs.Pool.{control_of, open_under, open_in}

-- a word that is 0 already
pub zero_same : (part : List ℕ) (i : ℕ) → get_or part i 0 ≡ 0 → part ≡ set part i 0
zero_same part i z = sym (ap (set part i) (sym z) ∙ set-get_or part i 0)

-- ---- clearing: the words before i are 0, and the others as they were

pub record Cleared (was part : List ℕ) (i : ℕ) : Type 0 where
  pub long : length part ≡ length was
  pub most : i ≤ length was
  pub is : part ≡ replicate i 0 ++ drop i was

pub clear-start : (part : List ℕ) → Cleared part part 0
clear-start part = record { long = refl; most = omega arith; is = refl }

module _ {was part : List ℕ} {i : ℕ} (c : Cleared was part i) where
  pub clear-length : length part ≡ length was
  clear-length = c.long

  module _ (h : i < length part) where
    clear_next : Cleared was (set part i 0) (i + 1)
    clear_next =
        let l = c.long in
        record {
          long = length-set part i 0 ∙ l;
          most = omega arith;
          is =
              ap (λ (x : List ℕ). set x i 0) (c.is ∙ ap (λ (x : List ℕ). replicate i 0 ++ x) (drop-cons was i 0 (omega arith)))
              ∙ set_at (replicate i 0) (get_or was i 0) (drop (suc i) was) 0 i (length-replicate {A = ℕ} i 0)
              ∙ sym (append_snoc (replicate i 0) 0 (drop (suc i) was))
              ∙ ap₂ (λ (x y : List ℕ). x ++ y) (replicate-append-replicate {A = ℕ} i 1 0) (ap (λ (x : ℕ). drop x was) (sym (add-one i)));
        }

    pub clear-on : (q : List ℕ) → q ≡ set part i 0 → Cleared was q (i + 1)
    clear-on q e = subst (λ (x : List ℕ). Cleared was x (i + 1)) (sym e) clear_next

  pub clear-end : length part ≤ i → part ≡ replicate (length was) 0
  clear-end h =
      let l = c.long in
      let m = c.most in
      let e : i ≡ length was = omega arith in
      c.is ∙ ap (λ (x : ℕ). replicate x 0 ++ drop x was) e ∙ ap (λ (x : List ℕ). replicate (length was) 0 ++ x) (drop-length was) ∙ append-nil (replicate (length was) 0)

pub ruleset clears = (clear-start, clear-length, clear-on, clear-end, zero_same)

-- ---- opening

drop_replicate : (i n : ℕ) → ◌≡◌ {A = List ℕ} (drop i (replicate n 0)) (replicate (n - i) 0)
drop_replicate zero n = ap (λ (x : ℕ). replicate {A = ℕ} x 0) (let e : n ≡ n - 0 = omega arith in e)
drop_replicate (suc i) zero = ap (λ (x : ℕ). replicate {A = ℕ} x 0) (let e : 0 ≡ 0 - suc i = omega arith in e)
drop_replicate (suc i) (suc n) = drop_replicate i n ∙ ap (λ (x : ℕ). replicate {A = ℕ} x 0) (let e : n - i ≡ suc n - suc i = omega arith in e)

pub control_written : (part cleared headd : List ℕ) (n h t words : ℕ) → cleared ≡ replicate (length part) 0 → headd ≡ headed n h t words ++ drop header_fields cleared
    → headd ≡ headed n h t words ++ replicate (length part - header_fields) 0
control_written part cleared headd n h t words e f =
    f ∙ ap (λ (x : List ℕ). headed n h t words ++ x) (ap (drop header_fields) e ∙ drop_replicate header_fields (length part))

pub cleared_long : (part cleared : List ℕ) → cleared ≡ replicate (length part) 0 → header_words ≤ length part → header_words ≤ length cleared
cleared_long part cleared e h = let l : length cleared ≡ length part = ap length e ∙ length-replicate {A = ℕ} (length part) 0 in omega arith

module _ (p : List ℕ) (n h t : ℕ) (r : Option Sizes) (e : r ≡ sizes_in n h t (length p)) where
  pub open-refused : r ≡ None → (p, reply.Refused 3) ≡ open_in p n h t
  unfolding open_in open_under
  open-refused q = sym (ap (λ (x : Option Sizes). open_under x p n h t) (sym e ∙ q))

  module _ (d : Sizes) (q : r ≡ Some d) where
    may : Openable n h t (length p)
    may = opens_says n h t (length p) (sizes-good n h t (length p) d (sym e ∙ q)).0

    pub open-handles : h ≤ most_handles
    open-handles = may.limits.handles

    pub open-tasks : t ≤ most_tasks
    open-tasks = may.limits.tasks

    pub open-few : length p < 4294967296
    open-few = let m = may.few in omega arith

    module _ (c : ℕ) (f : c ≡ control_words h t) where
      pub open-ends : c ≤ length p
      open-ends = let m = may.fits in omega arith

      part-long : length (part p 0 c) ≡ control_words h t
      part-long = let l = length_part p 0 c (omega arith) open-ends in omega arith

      pub open-head : header_words ≤ length (part p 0 c)
      unfolding control_words
      open-head = let l = part-long in omega arith

      pub open_done : (w : List ℕ) → w ≡ headed n h t (length p) ++ replicate (length (part p 0 c) - header_fields) 0
          → (splice p 0 c w, reply.Opened d.b) ≡ open_in p n h t
      unfolding open_in open_under control_of
      open_done w g =
          ap₂ (λ (x : ℕ) (y : List ℕ). (splice p 0 x y, reply.Opened d.b)) f (g ∙ ap (λ (x : ℕ). headed n h t (length p) ++ replicate (x - header_fields) 0) part-long)
          ∙ sym (ap (λ (x : Option Sizes). open_under x p n h t) (sym e ∙ q))

pub ruleset openings = (control_written, cleared_long, open-refused, open-handles, open-tasks, open-few, open-ends, open-head, open_done)
