-- A list of calls as C makes them is bridge's list of those that the machine has, with a slice that is not short; what a caller notes of them is the machine's history.
-- Rests on Calls and on the bridge.
use Rattle.std.specs.Prelude.{ℕ, List, [], ◌∷◌, ◌≡◌, refl, if◌then◌else◌, Option}
use Rattle.std.proofs.Common.{◌∙◌, sym}
use Rattle.std.proofs.Math.Path.{ap, ap₂}
use Rattle.bridge.specs.Asked.{Asked, Bridged, Get, LookCell, LookEntry, LookLog, LookTask, LookVersion, New, Open, Page, Release, Report, Set, Step, asked, asked_all, call_of, calls_of, sizes_after}
use Rattle.bridge.specs.Bridge.{bridge}
use Rattle.bridge.specs.Sound.{Sound}
use Rattle.layout.specs.Pool.{view_of}
use Rattle.rulebook.specs.Answers.{refusal}
use Rattle.rulebook.specs.declared.Reply.{Reply}
use Rattle.rulebook.specs.declared.Sizes.{Sizes}
use Rattle.rulebook.specs.History.{Past, Work, accepted, making, next, noted, onward, paging, reading, resting, setting, stepped}
use Rattle.rulebook.specs.Machine.{Call, call}
use Rattle.rulebook.specs.State.{State, list_to}
use Rattle.rulebook.specs.Tests.{by_test}
use Rattle.theorems.proofs.Follows.{next-store}
use Rattle.promises.proofs.Calls.{spoken_case, spoken-long, spoken-short, telling}
use Rattle.promises.specs.Said.{Ask, Check, Outcome, Request, Spoken, amounts, aside, calls_in, noted_all, noted_by, notes, pool_after, pool_all, short, spoken, state_in, state_under, stepped_by, tellings, tells, told, told_all}

-- ---- the list without the checks and the calls that are nothing

-- one request before the calls r
abbrev heed : Request → List ℕ → List Asked → List Asked
heed (Ask x) a r = if short a then r else x ∷ r
heed Check a r = r

-- those whose slice is not short
pub heeded : List Spoken → List Asked
heeded [] = []
heeded (c ∷ cs) = heed c.call c.slice (heeded cs)

-- the check leaves the pool
pub check_leaves : (p a : List ℕ) → pool_after spoken Check p a ≡ p
check_leaves p a = spoken_case Check p a (λ (z : Outcome). z.0.0 ≡ p) (λ _. refl) (λ _. refl)

-- the pool after the calls
pub pool_all_lem : (cs : List Spoken) (p : List ℕ) → pool_all spoken cs p ≡ (asked_all (heeded cs) p).0
unfolding pool_all asked_all heeded
pool_all_lem [] p = refl
pool_all_lem (c ∷ cs) p = at c.call c.slice (pool_all_lem cs)
  where
    at : (x : Request) (a : List ℕ) → ((q : List ℕ) → pool_all spoken cs q ≡ (asked_all (heeded cs) q).0) → pool_all spoken cs (pool_after spoken x p a) ≡ (asked_all (heed x a (heeded cs)) p).0
    at (Ask x) a ih =
        by_test (short a)
        (λ e. ap (λ (z : Outcome). pool_all spoken cs z.0.0) (spoken-short (Ask x) p a e) ∙ rw e (ih p))
        (λ e. ap (λ (z : Outcome). pool_all spoken cs z.0.0) (spoken-long (Ask x) p a e) ∙ rw e (ih (asked x p).0))
    at Check a ih = ap (pool_all spoken cs) (check_leaves p a) ∙ ih p

-- the machine's calls that they amount to
pub calls-all : (cs : List Spoken) (p : List ℕ) → calls_in spoken cs p ≡ calls_of (heeded cs) p
unfolding calls_in calls_of heeded
calls-all [] p = refl
calls-all (c ∷ cs) p = at c.call c.slice (calls-all cs)
  where
    at : (x : Request) (a : List ℕ) → ((q : List ℕ) → calls_in spoken cs q ≡ calls_of (heeded cs) q) → amounts x a p (calls_in spoken cs (pool_after spoken x p a)) ≡ calls_of (heed x a (heeded cs)) p
    at (Ask x) a ih =
        let step : Outcome → List Call = λ z. if short a then calls_in spoken cs z.0.0 else call_of x p ∷ calls_in spoken cs z.0.0 in
        by_test (short a)
        (λ e. ap step (spoken-short (Ask x) p a e) ∙ rw e (ih p))
        (λ e. ap step (spoken-long (Ask x) p a e) ∙ rw e (ap (λ (l : List Call). call_of x p ∷ l) (ih (asked x p).0)))
    at Check a ih = ap (calls_in spoken cs) (check_leaves p a) ∙ ih p

-- what they tell
pub told_all_lem : (cs : List Spoken) (p : List ℕ) → told_all spoken cs p ≡ tellings (asked_all (heeded cs) p).1
unfolding told_all asked_all heeded tellings list_to
told_all_lem [] p = refl
told_all_lem (c ∷ cs) p = at c.call c.slice (told_all_lem cs)
  where
    at : (x : Request) (a : List ℕ) → ((q : List ℕ) → told_all spoken cs q ≡ tellings (asked_all (heeded cs) q).1) → (let z = spoken x p a in if aside x a then told_all spoken cs z.0.0 else told z ∷ told_all spoken cs z.0.0) ≡ tellings (asked_all (heed x a (heeded cs)) p).1
    at (Ask x) a ih =
        let step : Outcome → List (ℕ × List ℕ) = λ z. if short a then told_all spoken cs z.0.0 else told z ∷ told_all spoken cs z.0.0 in
        by_test (short a)
        (λ e. ap step (spoken-short (Ask x) p a e) ∙ rw e (ih p))
        (λ e. ap step (spoken-long (Ask x) p a e) ∙ rw e (ap (λ (l : List (ℕ × List ℕ)). tells (asked x p).1 ∷ l) (ih (asked x p).0)))
    at Check a ih = ap (told_all spoken cs) (check_leaves p a) ∙ ih p

-- ---- what is noted of one call

pub sound-state : (d : Sizes) (p : List ℕ) → Sound d p → state_in p ≡ view_of d p
unfolding state_in state_under
sound-state d p S = ap (λ (r : Option Sizes). state_under r p) S.header

-- by the words in the answer slice as by the reply that they tell: a step, by what its task was started for
step-reply : (w : Work) (t : ℕ) (a : List ℕ) (s : State) (r : Reply) (y : Past) → stepped_by w t s (refusal r) (telling r a) y ≡ stepped w t s r y
unfolding stepped_by stepped list_to
step-reply resting t a s r y = refl
step-reply (making v) t a s r y = refl
step-reply (reading h i) t a s r y = refl
step-reply (setting h i v) t a s r y = refl
step-reply (paging h from m) t a s r y = refl

notes-reply : (x : Asked) (p a : List ℕ) (s : State) (r : Reply) (y : Past)
    → notes (Ask x) s (refusal r) (telling r a) y ≡ (if accepted r then noted (call_of x p) s r y else y)
unfolding notes noted_by noted call_of
notes-reply (Open n h t) p a s r y = refl
notes-reply (New t v) p a s r y = refl
notes-reply (Get t h i) p a s r y = refl
notes-reply (Set t h i v) p a s r y = refl
notes-reply (Page t h from m) p a s r y = refl
notes-reply (Step t) p a s r y = ap (λ (z : Past). if accepted r then z else y) (step-reply (y.works t) t a s r y)
notes-reply (Release h) p a s r y = refl
notes-reply (LookVersion b) p a s r y = refl
notes-reply (LookCell b i) p a s r y = refl
notes-reply (LookLog b i) p a s r y = refl
notes-reply (LookEntry b i j) p a s r y = refl
notes-reply (LookTask t) p a s r y = refl
notes-reply Report p a s r y = refl

-- on a sound pool: as the machine's call is noted
module _ (x : Asked) {d : Sizes} {p : List ℕ} (S : Sound d p) (a : List ℕ) (y : Past) (e : y.store ≡ view_of d p) where
  abbrev b : Bridged (sizes_after x p d) (asked x p) (call (call_of x p) (view_of d p))
  b = bridge x S

  after : view_of (sizes_after x p d) (asked x p).0 ≡ (call (call_of x p) y.store).0
  after = b.state ∙ ap (λ (s : State). (call (call_of x p) s).0) (sym e)

  next-notes : notes (Ask x) (state_in (asked x p).0) (refusal (asked x p).1) (telling (asked x p).1 a) y ≡ next (call_of x p) y
  unfolding next
  next-notes =
      ap₂ (λ (s : State) (r : Reply). notes (Ask x) s (refusal r) (telling r a) y) (sound-state _ _ b.sound ∙ after) (b.reply ∙ ap (λ (s : State). (call (call_of x p) s).1) (sym e))
      ∙ notes-reply x p a (call (call_of x p) y.store).0 (call (call_of x p) y.store).1 y

  next-shows : (next (call_of x p) y).store ≡ view_of (sizes_after x p d) (asked x p).0
  next-shows = next-store (call_of x p) y ∙ sym after

-- a short slice: nothing is noted
notes-short : (x : Asked) (s : State) (a : List ℕ) (y : Past) → notes (Ask x) s 15 a y ≡ y
unfolding notes
notes-short x s a y = refl

-- what is noted of all calls
pub noted_all_lem : (cs : List Spoken) {d : Sizes} {p : List ℕ} → Sound d p → (y : Past) → y.store ≡ view_of d p → noted_all spoken cs p y ≡ onward y (calls_of (heeded cs) p)
unfolding noted_all onward calls_of heeded notes
noted_all_lem [] S y e = refl
noted_all_lem (c ∷ cs) {d} {p} S y e = at c.call c.slice (λ _ _ T. noted_all_lem cs T)
  where
    at : (x : Request) (a : List ℕ) → ((d : Sizes) (p : List ℕ) → Sound d p → (y : Past) → y.store ≡ view_of d p → noted_all spoken cs p y ≡ onward y (calls_of (heeded cs) p)) → (let z = spoken x p a in noted_all spoken cs z.0.0 (notes x (state_in z.0.0) z.1 z.0.1 y)) ≡ onward y (calls_of (heed x a (heeded cs)) p)
    at (Ask x) a ih =
        let step : Outcome → Past = λ z. noted_all spoken cs z.0.0 (notes (Ask x) (state_in z.0.0) z.1 z.0.1 y) in
        by_test (short a)
        (λ s. ap step (spoken-short (Ask x) p a s) ∙ ap (noted_all spoken cs p) (notes-short x (state_in p) a y) ∙ rw s (ih d p S y e))
        (λ s.
        ap step (spoken-long (Ask x) p a s)
        ∙ ap (noted_all spoken cs (asked x p).0) (next-notes x S a y e)
        ∙ rw s (ih _ _ (bridge x S).sound (next (call_of x p) y) (next-shows x S a y e)))
    at Check a ih = ap (λ (q : List ℕ). noted_all spoken cs q y) (check_leaves p a) ∙ ih d p S y e
