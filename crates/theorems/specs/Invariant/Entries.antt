-- One more entry in a block: how many there are, and that no version stands in two logs.
-- Rests on Search.
use Rattle.std.specs.Prelude.{◌+◌, ◌<◌, suc, zero, ℕ, List, [], ◌++◌, ◌∷◌, ◌≡◌, refl, eqb, ltb, get_or, length, set}
use Rattle.std.proofs.Common.{◌∙◌, ap, subst, sym, arith, length-append, get_or-set_other, get_or-set_same, eqb-true, ltb-false, ltb-true}
use Rattle.std.proofs.Math.ListN.{get_or-append}
use Rattle.std.proofs.Math.Seq.{get_or-append_seam}
use Rattle.std.proofs.lemmas.Bool.{eqb-false}
use Rattle.rulebook.specs.declared.Entry.{Entry}
use Rattle.rulebook.specs.State.{Block, log_at, no_entry, with_log}
use Rattle.rulebook.specs.Tests.{by_test}
use Rattle.theorems.specs.Invariant.Tasks.{Distinct}
use Rattle.theorems.specs.Reading.Append.{entry}
use Rattle.theorems.specs.Reading.Search.{Below}
use Rattle.theorems.specs.Terms.{entries, version_at}

pub total_snoc : (ls : List (List Entry)) (i : ℕ) (e : Entry) → i < length ls → entries (set ls i (get_or ls i [] ++ (e ∷ []))) ≡ entries ls + 1
unfolding entries
total_snoc [] i e h = absurd (omega arith)
total_snoc (l ∷ ls) zero e h = omega (arith, length-append l (e ∷ []))
total_snoc (l ∷ ls) (suc i) e h = omega (arith, total_snoc ls i e (omega arith))

pub total_empty : (ls : List (List Entry)) → ((i : ℕ) → get_or ls i [] ≡ []) → entries ls ≡ 0
unfolding entries
total_empty [] h = refl
total_empty (l ∷ ls) h = omega (arith, ap length (h 0), total_empty ls (λ i. h (suc i)))

-- an entry of a log with one more: an old one, or the new one
snoc_version : (l : List Entry) (m c p : ℕ) (P : Type 0) → p < length (l ++ (entry m c ∷ [])) → (p < length l → version_at (l ++ (entry m c ∷ [])) p ≡ version_at l p → P) → (version_at (l ++ (entry m c ∷ [])) p ≡ m → P) → P
snoc_version l m c p P h old new =
    by_test (ltb p (length l))
    (λ e. old (ltb-true p (length l) e) (ap (λ (x : Entry). x.version) (get_or-append l (entry m c ∷ []) no_entry p (ltb-true p (length l) e))))
    (λ e. let fits : p < length l + 1 = subst (λ (x : ℕ). p < x) (length-append l (entry m c ∷ [])) h in
    let last : p ≡ length l = omega (arith, ltb-false p (length l) e) in
    new (ap (λ (x : ℕ). version_at (l ++ (entry m c ∷ [])) x) last ∙ ap (λ (x : Entry). x.version) (get_or-append_seam l (entry m c) [] no_entry)))

-- one more entry, with a version above all
pub distinct_snoc : (b : Block) (i m c : ℕ) → i < length b.logs → ((j : ℕ) → Below (log_at b j) m) → Distinct b → Distinct (with_log b i (log_at b i ++ (entry m c ∷ [])))
unfolding with_log
distinct_snoc b i m c inside below dist x y p q d hp hq e =
    by_test (eqb x i)
    (λ a. let ex = eqb-true x i a in
    let oy = unmoved y (λ o. d (ex ∙ sym o)) in
    new y p q (λ o. d (ex ∙ sym o)) (subst (λ (l : List Entry). p < length l) (at_i x ex) hp) (subst (λ (l : List Entry). q < length l) oy hq)
    (sym (ap (λ (l : List Entry). version_at l p) (at_i x ex)) ∙ e ∙ ap (λ (l : List Entry). version_at l q) oy))
    (λ a. let ox = unmoved x (eqb-false x i a) in
    by_test (eqb y i)
    (λ f. let ey = eqb-true y i f in
    new x q p (eqb-false x i a) (subst (λ (l : List Entry). q < length l) (at_i y ey) hq) (subst (λ (l : List Entry). p < length l) ox hp)
    (sym (ap (λ (l : List Entry). version_at l q) (at_i y ey)) ∙ sym e ∙ ap (λ (l : List Entry). version_at l p) ox))
    (λ f. let oy = unmoved y (eqb-false y i f) in
    dist x y p q d (subst (λ (l : List Entry). p < length l) ox hp) (subst (λ (l : List Entry). q < length l) oy hq)
    (sym (ap (λ (l : List Entry). version_at l p) ox) ∙ e ∙ ap (λ (l : List Entry). version_at l q) oy)))
  where
    logs : List (List Entry)
    logs = set b.logs i (log_at b i ++ (entry m c ∷ []))

    at_i : (z : ℕ) → z ≡ i → get_or logs z [] ≡ log_at b i ++ (entry m c ∷ [])
    at_i z o = ap (λ (w : ℕ). get_or logs w []) o ∙ get_or-set_same b.logs i (log_at b i ++ (entry m c ∷ [])) [] inside

    unmoved : (z : ℕ) → (z ≡ i → ⊥) → get_or logs z [] ≡ log_at b z
    unmoved z o = get_or-set_other b.logs i z (log_at b i ++ (entry m c ∷ [])) [] o

    new : (z r t : ℕ) → (z ≡ i → ⊥) → r < length (log_at b i ++ (entry m c ∷ [])) → t < length (log_at b z) → version_at (log_at b i ++ (entry m c ∷ [])) r ≡ version_at (log_at b z) t → ⊥
    new z r t o hr ht eq =
        snoc_version (log_at b i) m c r ⊥ hr
        (λ g v. dist i z r t (λ k. o (sym k)) g ht (sym v ∙ eq))
        (λ v. omega (arith, below z t ht, sym v ∙ eq))
