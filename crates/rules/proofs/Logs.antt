-- What a block's logs and the get in hand say once the amounts are erased: the lengths, the versions and nothing else.
-- Rests on Erase; the right sides of the laws are rule 7's.
use Rattle.std.specs.Prelude.{◌+◌, ◌<◌, ◌≤◌, suc, zero, ℕ, false, true, List, [], ◌∷◌, map, ◌≡◌, refl, leb, ltb, length, take}
use Rattle.std.proofs.Common.{true≢false, ◌∙◌, ap, ap₂, sym, arith, get_or-take, length-take-le, le-leb, leb-true, ltb-false, ltb-true}
use Rattle.std.proofs.Math.Path.{fun_ext, subst₃}
use Rattle.std.proofs.lemmas.List.{length-map}
use Rattle.std.proofs.Math.Seq.{take-length}
use Rattle.rulebook.specs.declared.Entry.{Entry}
use Rattle.rulebook.specs.declared.Hand.{Hand}
use Rattle.rulebook.specs.declared.Reading.{Reading}
use Rattle.rulebook.specs.declared.Reading.TheVariants.{Guess, Length, Probe, Version}
use Rattle.rulebook.specs.State.{Block, entry_at, log_at, no_entry}
use Rattle.rulebook.specs.Tests.{by_test, if_case}
use Rattle.theorems.specs.Invariant.Tasks.{Covered}
use Rattle.theorems.specs.Reading.Get.{Good, Searching}
use Rattle.theorems.specs.Terms.{entries, value_at, value_in, version_at}
use Rattle.rules.specs.Erase.{erase-cell, erase_entry_lem, erase_log_lem, erase_block, erase_entry, erase_hand, erase_log}
use Rattle.rules.specs.Rules.{InHand, Seeks}

-- ---- a block's logs: their lengths, their versions, and how many entries there are

abbrev lengths : Block → ℕ → ℕ
lengths b i = length (log_at b i)

abbrev versions : Block → ℕ → ℕ → ℕ
versions b i p = version_at (log_at b i) p

erase-length : (b : Block) (i : ℕ) → lengths (erase_block b) i ≡ lengths b i
erase-length b i = ap length (erase_log_lem b i) ∙ length-map (log_at b i) erase_entry

erase-version : (l : List Entry) (p : ℕ) → version_at (erase_log l) p ≡ version_at l p
erase-version l p = ap (λ (e : Entry). e.version) (erase_entry_lem l p)

erase-entries : (ls : List (List Entry)) → entries (map erase_log ls) ≡ entries ls
unfolding entries
erase-entries [] = refl
erase-entries (l ∷ ls) = ap₂ ◌+◌ (length-map l erase_entry) (erase-entries ls)

-- what is said of those holds of a block if and only if it holds of the erased block
module _ (P : (ℕ → ℕ) → (ℕ → ℕ → ℕ) → ℕ → Type 0) (b : Block) where
  same-lengths : lengths (erase_block b) ≡ lengths b
  same-lengths = fun_ext (erase-length b)

  same_versions : versions (erase_block b) ≡ versions b
  same_versions = fun_ext (λ i. fun_ext (λ p. ap (λ (l : List Entry). version_at l p) (erase_log_lem b i) ∙ erase-version (log_at b i) p))

  pub to_erased : P (lengths b) (versions b) (entries b.logs) → P (lengths (erase_block b)) (versions (erase_block b)) (entries (map erase_log b.logs))
  to_erased h = subst₃ P (sym same-lengths) (sym same_versions) (sym (erase-entries b.logs)) h

  pub from_erased : P (lengths (erase_block b)) (versions (erase_block b)) (entries (map erase_log b.logs)) → P (lengths b) (versions b) (entries b.logs)
  from_erased h = subst₃ P same-lengths same_versions (erase-entries b.logs) h

-- versions rise along each log; every version is below m; no version stands in two logs; at most m entries
abbrev pub Rising : (ℕ → ℕ) → (ℕ → ℕ → ℕ) → ℕ → Type 0
Rising len ver all = (i p q : ℕ) → p < q → q < len i → ver i p < ver i q

abbrev pub Under : ℕ → (ℕ → ℕ) → (ℕ → ℕ → ℕ) → ℕ → Type 0
Under m len ver all = (i p : ℕ) → p < len i → ver i p < m

-- but in the log of cell c
abbrev pub UnderBut : ℕ → ℕ → (ℕ → ℕ) → (ℕ → ℕ → ℕ) → ℕ → Type 0
UnderBut c m len ver all = (i : ℕ) → (i ≡ c → ⊥) → (p : ℕ) → p < len i → ver i p < m

abbrev pub InOne : (ℕ → ℕ) → (ℕ → ℕ → ℕ) → ℕ → Type 0
InOne len ver all = (i k p q : ℕ) → (i ≡ k → ⊥) → p < len i → q < len k → ver i p ≡ ver k q → ⊥

abbrev pub AtMost : ℕ → (ℕ → ℕ) → (ℕ → ℕ → ℕ) → ℕ → Type 0
AtMost m len ver all = all ≤ m

-- a log is empty if it is so erased
pub empty-log : (b : Block) (i : ℕ) → log_at (erase_block b) i ≡ [] → log_at b i ≡ []
empty-log b i h = none_left (log_at b i) (sym (erase-length b i) ∙ ap length h)
  where
    none_left : (l : List Entry) → length l ≡ 0 → l ≡ []
    none_left [] e = refl
    none_left (x ∷ l) e = absurd (omega arith)

-- ---- what a handle sees is 0

value-take : (k : ℕ) (l : List Entry) (n : ℕ) → value_in (take k (erase_log l)) n 0 ≡ 0
unfolding value_in
value-take zero l n = refl
value-take (suc k) [] n = refl
value-take (suc k) (e ∷ l) n = if_case (λ (x : ℕ). x ≡ 0) (leb n e.version) (λ _. refl) (λ _. value-take k l n)

pub erase-value : (b : Block) (n i : ℕ) → value_at (erase_block b) n i ≡ 0
unfolding value_at
erase-value b n i =
    ap₂ (λ (l : List Entry) (c : ℕ). value_in l n c) (erase_log_lem b i ∙ sym (take-length (erase_log (log_at b i)))) (erase-cell b i)
    ∙ value-take (length (erase_log (log_at b i))) (log_at b i) n

-- ---- the get in hand

module _ (l : List Entry) (n : ℕ) (w : Hand) where
  -- an entry of the first m, erased
  entry-take : (m j : ℕ) → j < m → entry_at (take m (erase_log l)) j ≡ erase_entry (entry_at l j)
  entry-take m j h = get_or-take m (erase_log l) j no_entry h ∙ erase_entry_lem l j

  version-take : (m j : ℕ) → j < m → version_at (take m (erase_log l)) j ≡ version_at l j
  version-take m j h = ap (λ (e : Entry). e.version) (entry-take m j h)

  long : length (erase_log l) ≡ length l
  long = length-map l erase_entry

  sees : value_in (erase_log l) n 0 ≡ 0
  sees = ap (λ (x : List Entry). value_in x n 0) (sym (take-length (erase_log l))) ∙ value-take (length (erase_log l)) l n

  pub to_search : Seeks l n w → Searching (erase_log l) n (erase_hand w) 0
  to_search h = by_test w.found hit miss
    where
      hit : w.found ≡ true → Searching (erase_log l) n (erase_hand w) 0
      hit e =
          let c = h.candidate e in
          let m = length-take-le (w.hi + 1) (erase_log l) (omega (arith, c.0, long)) in
          record {
            size = w.hi + 1;
            inside = omega (arith, c.0, long);
            sought = record {
              order = omega (arith, h.left);
              inside = omega (arith, m);
              below = λ j q. omega (arith, h.below j q, h.left, version-take (w.hi + 1) j (omega (arith, q, h.left)));
              above = λ j q r. let z : j ≡ w.hi = omega (arith, q, r, m) in rw z (omega (arith, c.2, version-take (w.hi + 1) w.hi (omega arith)));
              kept_entry = λ q. (e, sym (ap (λ (x : Entry). x.old) (entry-take (w.hi + 1) w.hi (omega arith))), c.1 ∙ sym (version-take (w.hi + 1) w.hi (omega arith)));
              none_yet = λ q. absurd (omega (arith, q, m));
            };
            left = h.left;
            gives = value-take (w.hi + 1) l n;
          }

      miss : w.found ≡ false → Searching (erase_log l) n (erase_hand w) 0
      miss e =
          let m = length-take-le w.hi (erase_log l) (omega (arith, h.inside, long)) in
          record {
            size = w.hi;
            inside = omega (arith, h.inside, long);
            sought = record {
              order = omega (arith, h.left);
              inside = omega (arith, m);
              below = λ j q. omega (arith, h.below j q, h.left, version-take w.hi j (omega (arith, q, h.left)));
              above = λ j q r. absurd (omega (arith, q, r, m));
              kept_entry = λ q. absurd (omega (arith, q, m));
              none_yet = λ q. e;
            };
            left = h.left;
            gives = value-take w.hi l n;
          }

  pub from_search : (x : ℕ) → Searching (erase_log l) n (erase_hand w) x → Seeks l n w
  from_search x h =
      record {
        left = h.left;
        inside = omega (arith, h.inside, long, h.sought.inside, m);
        below = λ j q. omega (arith, h.sought.below j q, version-take h.size j (omega (arith, q, h.left, h.sought.inside, m)));
        candidate = λ e. by_test (ltb w.hi h.size)
            (λ q. let a = ltb-true w.hi h.size q in
            let v = version-take h.size w.hi a in
            (omega (arith, a, h.inside, long), (h.sought.kept_entry (omega (arith, a, m))).2 ∙ v, omega (arith, v, h.sought.above w.hi (omega arith) (omega (arith, a, m)))))
            (λ q. absurd (true≢false (sym e ∙ h.sought.none_yet (omega (arith, ltb-false w.hi h.size q, h.sought.inside, m)))));
      }
    where
      m : length (take h.size (erase_log l)) ≡ h.size
      m = length-take-le h.size (erase_log l) h.inside

  pub to-good : (r : Reading) → InHand r l n w → Good r (erase_log l) n (erase_hand w) 0
  to-good Guess h = tt
  to-good Version h = (sees, h)
  to-good Length h = (sees, h)
  to-good Probe h = to_search h

  pub from-good : (r : Reading) (x : ℕ) → Good r (erase_log l) n (erase_hand w) x → InHand r l n w
  from-good Guess x h = tt
  from-good Version x h = h.1
  from-good Length x h = h.1
  from-good Probe x h = from_search x h

-- ---- a log that has an entry of version m or more hides the cell from every handle up to m

abbrev pub Hides : List Entry → ℕ → Type 0
Hides l m = (p : ℕ) × (p < length l) × (m ≤ version_at l p)

pub to-covered : (l : List Entry) (m : ℕ) → Hides l m → Covered (erase_log l) m
unfolding value_in
to-covered [] m (p, h, v) n c d q = absurd (omega arith)
to-covered (e ∷ l) m (zero, h, v) n c d q = rw (le-leb n e.version (omega arith))
to-covered (e ∷ l) m (suc p, h, v) n c d q =
    by_test (leb n e.version) (λ t. rw t) (λ t. rw t (to-covered l m (p, omega arith, v) n c d q))

hides : (l : List Entry) (m : ℕ) → value_in (erase_log l) m 0 ≡ value_in (erase_log l) m 1 → Hides l m
unfolding value_in
hides [] m e = absurd (omega arith)
hides (x ∷ l) m e =
    by_test (leb m x.version)
    (λ t. (0, omega arith, leb-true m x.version t))
    (λ t. let r = hides l m (rw t at e) in (suc r.0, omega (arith, r.1), r.2))

pub from-covered : (l : List Entry) (m : ℕ) → Covered (erase_log l) m → Hides l m
from-covered l m h = hides l m (h m 0 1 (omega arith))
