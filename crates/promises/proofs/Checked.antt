-- The check as C calls it: the number that it tells, on any pool and on a kept store.
-- Rests on Calls, on audit's theorems and on Two.
use Rattle.std.specs.Prelude.{◌≤◌, ℕ, List, ◌∷◌, ◌≡◌, refl, get_or, length, replicate, take}
use Rattle.std.proofs.Common.{◌∙◌, ap, sym, le-ltb}
use Rattle.std.proofs.Math.Path.{subst⁻¹}
use Rattle.survey.specs.Broken.{broken_in}
use Rattle.audit.proofs.Checks.{broken-first, passes_sound, sound_passes}
use Rattle.rulebook.specs.State.{list_to}
use Rattle.promises.specs.Promises.{CheckPasses, CheckSound, CheckTells, Kept, pool_last}
use Rattle.promises.proofs.Calls.{spoken-long}
use Rattle.promises.proofs.Two.{stays_sound}
use Rattle.promises.specs.Said.{Check, Outcome, spoken}

-- what comes of a check on the pool p that tells r
abbrev Tells : List ℕ → ℕ → Outcome → Type 0
Tells p r z = (z.1 ≡ 0) × (z.0.0 ≡ p) × (take 16 z.0.1 ≡ r ∷ replicate 15 0)

tells : (p a : List ℕ) → 16 ≤ length a → Tells p (broken_in p) (spoken Check p a)
unfolding list_to
tells p a l = subst⁻¹ (Tells p (broken_in p)) (spoken-long Check p a (le-ltb (length a) 16 l)) (refl, refl, refl)

pub check_tells : CheckTells spoken
check_tells p a l = let t = tells p a l in (t.0, t.1, broken_in p, t.2, broken-first p)

-- word 0
first_word : (p a : List ℕ) → 16 ≤ length a → get_or (spoken Check p a).0.1 0 0 ≡ broken_in p
unfolding list_to
first_word p a l = subst⁻¹ (λ (z : Outcome). get_or z.0.1 0 0 ≡ broken_in p) (spoken-long Check p a (le-ltb (length a) 16 l)) refl

pub check_sound : CheckSound spoken
check_sound p a l = (λ z. passes_sound p (sym (first_word p a l) ∙ z), λ d S. first_word p a l ∙ sound_passes d p S)

pub check_passes : (k : Kept spoken) → CheckPasses spoken k
check_passes k a l =
    let p = pool_last spoken k in
    let s = stays_sound k in
    let t = tells p a l in
    (t.0, t.2 ∙ ap (λ (r : ℕ). r ∷ replicate 15 0) (sound_passes s.0 p s.1))
