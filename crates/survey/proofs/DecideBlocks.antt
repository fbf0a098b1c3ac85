-- What is computed of a block decides what the rules say of it: its logs, and how its words are laid out.
use Rattle.std.specs.Prelude.{◌<◌, ℕ, Bool, List, [], ◌≡◌, ltb, length}
use Rattle.std.proofs.Common.{not-suc-le-zero, ltb-false, ltb-true}
use Rattle.std.proofs.Math.ListN.{get_or-eq_default}
use Rattle.rulebook.specs.declared.Entry.{Entry}
use Rattle.block.specs.Layout.{Sized, arena, bump_of, is_block, length_of, place_of, space_of}
use Rattle.block.specs.Sound.{Filling, Laid, sum_to}
use Rattle.block.specs.Walk.{Decides}
use Rattle.block.specs.Ways.{block-sized, sized-block}
use Rattle.rulebook.specs.State.{Block, log_at}
use Rattle.rulebook.specs.Tests.{by_test}
use Rattle.theorems.specs.Terms.{version_at}
use Rattle.survey.specs.Holds.{all_apart, all_below, all_rise, every_entry, every_place, filling_in, laid_in, readable_in}
use Rattle.survey.proofs.Deciding.{decide_all, decide_and, decide_as, decide_eq, decide_le, decide_lt, decide_only, decide_test}
use Rattle.survey.specs.Rules.{Readable}

pub sized_decides : (n : ℕ) (w : List ℕ) → Decides (is_block n w) (Sized n w)
sized_decides n w = decide_as (decide_test (is_block n w)) (block-sized n w) (sized-block n w)

-- ---- the logs

-- a log that has an entry is there
pub log_in : (b : Block) (i q : ℕ) → q < length (log_at b i) → i < length b.logs
log_in b i q l =
    by_test (ltb i (length b.logs))
    (λ e. ltb-true i (length b.logs) e)
    (λ e.
    let gone : log_at b i ≡ [] = get_or-eq_default b.logs [] (ltb-false i (length b.logs) e) in
    let z : q < length {A = Entry} [] = rw gone at l in
    absurd (not-suc-le-zero z))

module _ (b : Block) {f : ℕ → ℕ → Bool} {P : ℕ → ℕ → Type 0} (x : (i q : ℕ) → Decides (f i q) (P i q)) where
  pub every_entry_lem : Decides (every_entry b f) ((i q : ℕ) → q < length (log_at b i) → P i q)
  every_entry_lem =
      decide_as (decide_all (length b.logs) (λ i _. decide_all (length (log_at b i)) (λ q _. x i q)))
      (λ h i q l. h i (log_in b i q l) q l)
      (λ h i _ q l. h i q l)

pub below_decides : (b : Block) (v : ℕ) → Decides (all_below b v) ((i q : ℕ) → q < length (log_at b i) → version_at (log_at b i) q < v)
unfolding all_below
below_decides b v = every_entry_lem b (λ i q. decide_lt (version_at (log_at b i) q) v)

pub rise_decides : (b : Block) → Decides (all_rise b) ((i q r : ℕ) → q < r → r < length (log_at b i) → version_at (log_at b i) q < version_at (log_at b i) r)
unfolding all_rise
rise_decides b =
    decide_as (every_entry_lem b (λ i r. decide_all r (λ q _. decide_lt (version_at (log_at b i) q) (version_at (log_at b i) r))))
    (λ h i q r l m. h i r m q l)
    (λ h i r m q l. h i q r l m)

pub apart_decides : (b : Block) → Decides (all_apart b) ((i k q r : ℕ) → q < length (log_at b i) → r < length (log_at b k) → version_at (log_at b i) q ≡ version_at (log_at b k) r → i ≡ k)
unfolding all_apart
apart_decides b =
    decide_as (every_entry_lem b (λ i q. every_entry_lem b (λ k r. decide_only (decide_eq (version_at (log_at b i) q) (version_at (log_at b k) r)) (λ _. decide_eq i k))))
    (λ h i k q r l m. h i q l k r m)
    (λ h i q l k r m. h i k q r l m)

-- ---- the words

pub readable_decides : (n : ℕ) (w : List ℕ) → Decides (readable_in n w) (Readable n w)
unfolding readable_in
readable_decides n w =
    decide_as (decide_all n (λ i _. decide_all (length_of n w i) (λ q _. decide_lt (place_of n w i q) (arena n))))
    (λ h. record { inside = λ i q l m. h i l q m })
    (λ r i l q m. r.inside i q l m)

module _ (n : ℕ) (w : List ℕ) {f : ℕ → ℕ → Bool} {P : ℕ → ℕ → Type 0} (x : (i j : ℕ) → Decides (f i j) (P i j)) where
  every_place_lem : Decides (every_place n w f) ((i : ℕ) → i < n → (j : ℕ) → j < space_of (length_of n w i) → P i j)
  every_place_lem = decide_all n (λ i _. decide_all (space_of (length_of n w i)) (λ j _. x i j))

pub laid_decides : (n : ℕ) (w : List ℕ) → Decides (laid_in n w) (Laid n w)
unfolding laid_in
laid_decides n w =
    decide_as
    (decide_and (sized_decides n w) (decide_and (decide_all n (λ i _. decide_le (length_of n w i) n))
    (decide_and (every_place_lem n w (λ i j. decide_lt (place_of n w i j) (bump_of w)))
    (decide_and (every_place_lem n w (λ i j. every_place_lem n w (λ k t. decide_only (decide_eq (place_of n w i j) (place_of n w k t)) (λ _. decide_and (decide_eq i k) (decide_eq j t)))))
    (decide_and (decide_eq (bump_of w) (sum_to n (λ (i : ℕ). space_of (length_of n w i)))) (decide_le (bump_of w) (arena n)))))))
    (λ h.
    record {
      sized = h.0;
      sound = record {
        short = h.1.0;
        below = λ i j a l. h.1.1.0 i a j l;
        once = λ i j k t a c l m e. h.1.1.1.0 i a j l k c t m e;
        tally = h.1.1.1.1.0;
        fits = h.1.1.1.1.1;
      };
    })
    (λ l.
    (l.sized, (l.sound.short, ((λ i a j m. l.sound.below i j a m), ((λ i a j m k c t o e. l.sound.once i j k t a c m o e), (l.sound.tally, l.sound.fits))))))

pub filling_decides : (c n : ℕ) (w : List ℕ) → Decides (filling_in c n w) (Filling c n w)
unfolding filling_in
filling_decides c n w =
    decide_as
    (decide_and (sized_decides n w) (decide_and (decide_eq (bump_of w) 0) (decide_all n (λ i _. decide_only (decide_lt i c) (λ _. decide_eq (length_of n w i) 0)))))
    (λ h. record { sized = h.0; bump = h.1.0; empty = λ i l a. h.1.1 i a l })
    (λ r. (r.sized, (r.bump, λ i a l. r.empty i l a)))
