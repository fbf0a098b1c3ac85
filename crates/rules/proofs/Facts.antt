-- What the rules tell of a task at its next step: where its handle stands, which slot it has reserved, which block it fills, where it probes.
-- Rests on Kept.
use Rattle.std.specs.Prelude.{◌+◌, ◌<◌, ◌≤◌, ℕ, true, List, ◌≡◌, refl, length}
use Rattle.std.proofs.Common.{◌∙◌, ap, subst, subst₂, arith}
use Rattle.rulebook.specs.declared.Entry.{Entry}
use Rattle.rulebook.specs.declared.Hand.{Hand}
use Rattle.rulebook.specs.declared.Reading.{Reading}
use Rattle.rulebook.specs.declared.Reading.TheVariants.{Guess, Length, Probe, Version}
use Rattle.rulebook.specs.declared.Stage.{Stage}
use Rattle.rulebook.specs.declared.Stage.TheVariants.{Append, Copying, Getting, Paging}
use Rattle.rulebook.specs.declared.Status.TheVariants.{Live, Reserved}
use Rattle.rulebook.specs.declared.Task.{Task}
use Rattle.rulebook.specs.Sizes.{last_serial}
use Rattle.rulebook.specs.State.{State, block_at, fills, log_at, names, reserves, slot_at, task_at, writes}
use Rattle.rulebook.specs.Steps.{here_of, middle}
use Rattle.theorems.specs.Invariant.Facts.{ok-filler, ok-fresh}
use Rattle.theorems.specs.Prices.Budget.{log-entries}
use Rattle.theorems.specs.Prices.Digits.{Unsettled}
use Rattle.theorems.specs.Terms.{entries, version_at}
use Rattle.rules.specs.Erase.{erase_task}
use Rattle.rules.proofs.Kept.{structure}
use Rattle.rules.specs.Rules.{Gets, InHand, Rules, TaskRule}

-- a stage whose next step is r of a get: a get's, a page's or a copy's
pub data Doing (r : Reading) : Stage → Type 0 where
  a_get : Doing r (Getting r)
  a_page : Doing r (Paging r)
  a_copy : Doing r (Copying r)

pub doing_names : {r : Reading} {g : Stage} → Doing r g → names g ≡ true
doing_names a_get = refl
doing_names a_page = refl
doing_names a_copy = refl

-- a get that has not read all it needs
pub unsettled : (r : Reading) (l : List Entry) (n : ℕ) (w : Hand) → InHand r l n w → Unsettled r w
unsettled Guess l n w h = tt
unsettled Version l n w h = tt
unsettled Length l n w h = tt
unsettled Probe l n w h = h.left

-- where a live handle of number n stands
pub record Stood (s : State) (b n : ℕ) : Type 0 where
  pub block_in_b : b < s.sizes.b
  pub at_most_n : n ≤ s.sizes.n
  pub at_most_v : n ≤ (block_at s b).version
  pub v_at_most : (block_at s b).version ≤ s.sizes.n + 1
  pub few : entries (block_at s b).logs ≤ s.sizes.n

module _ (s : State) (h : Rules s) where
  pub live_stood : (j : ℕ) → (slot_at s j).status ≡ Live → Stood s (slot_at s j).block (slot_at s j).number
  live_stood j l =
      let v = h.valid in
      record { block_in_b = v.below_b j l; at_most_n = v.at_most_n j l; at_most_v = v.at_most_v j l; v_at_most = v.v_at_most j l; few = omega (arith, v.few_entries j l) }

  module _ (t : ℕ) where
    abbrev k : Task
    k = task_at s t

    pub rule_at : (g : Stage) → k.stage ≡ g → TaskRule s g k
    rule_at g e = subst (λ (x : Stage). TaskRule s x k) e (h.tasks t)

    -- ---- the handle that it names

    pub named-stood : names k.stage ≡ true → Stood s k.block k.number
    named-stood n =
        let r = h.valid.named_live t n in
        subst₂ (Stood s) r.1 r.2 (live_stood k.slot r.0)

    pub short-log : names k.stage ≡ true → (i : ℕ) → length (log_at (here_of s k) i) ≤ s.sizes.n
    short-log n i = omega (arith, log-entries (here_of s k) i, (named-stood n).few)

    -- ---- the slot that it has reserved

    pub reserved-slot : reserves k.stage ≡ true → (k.fresh < s.sizes.h) × ((slot_at s k.fresh).status ≡ Reserved) × ((slot_at s k.fresh).serial < last_serial)
    reserved-slot n = let r = ok-fresh _ _ _ _ _ (erase_task k) k.stage n ((structure s h).oks t) in (r.in_h, r.slot_is_reserved, r.spare)

    -- ---- the block that it fills

    pub filled-block : fills k.stage ≡ true → (k.target < s.sizes.b) × ((block_at s k.target).version ≡ 0)
    filled-block n = let r = ok-filler _ _ _ _ _ (erase_task k) k.stage n ((structure s h).oks t) in (r.in_b, r.start)

    -- ---- the get in hand

    pub doing_gets : {r : Reading} {g : Stage} → Doing r g → k.stage ≡ g → Gets s r k
    doing_gets a_get e = rule_at _ e
    doing_gets a_page e = (rule_at _ e).0
    doing_gets a_copy e = (rule_at _ e).4

    pub probes-inside : {g : Stage} → Doing Probe g → k.stage ≡ g → (k.hand.lo < k.hand.hi) × (middle k.hand < length (log_at (here_of s k) k.hand.cell)) × (k.hand.hi ≤ s.sizes.n)
    probes-inside d e =
        let q = (doing_gets d e).hand_holds in
        (q.left, omega (arith, q.left, q.inside), omega (arith, q.inside, short-log (ap names e ∙ doing_names d) k.hand.cell))

    -- ---- the append

    -- there is room for one entry more, and its version is above all
    pub append-fits : k.stage ≡ Append → (entries (here_of s k).logs < s.sizes.n) × ((here_of s k).version ≡ k.number + 1) × ((i p : ℕ) → p < length (log_at (here_of s k) i) → version_at (log_at (here_of s k) i) p < k.number)
    append-fits e =
        let r = (rule_at Append e).2 in
        (omega (arith, r.few, r.room), h.valid.just_raised t (ap writes e), r.all_older)
