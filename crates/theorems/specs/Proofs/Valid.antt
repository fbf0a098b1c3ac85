-- A store that keeps the invariant is valid: rules 2 to 6 of the check hold of it, and writers exclude each other.
-- Rests on the invariant.
use Rattle.std.specs.Prelude.{ℕ, ◌≡◌, eqb}
use Rattle.std.proofs.Common.{arith, eqb-true}
use Rattle.std.proofs.lemmas.Bool.{eqb-false}
use Rattle.rulebook.specs.declared.Status.TheVariants.{Live}
use Rattle.rulebook.specs.State.{State, block_at, slot_at, task_at}
use Rattle.rulebook.specs.Tests.{by_test}
use Rattle.theorems.specs.Invariant.Facts.{ok-filler, ok-fresh, ok_named, ok-writer}
use Rattle.theorems.specs.Invariant.Moves.{InvS}
use Rattle.theorems.specs.Invariant.Tasks.{OkAt, Stands}
use Rattle.theorems.specs.Terms.{Valid}

-- two of which something holds that holds of no two are one
pub not_two : (t u : ℕ) → ((t ≡ u → ⊥) → ⊥) → t ≡ u
not_two t u h = by_test (eqb t u) (λ e. eqb-true t u e) (λ e. absurd (h (eqb-false t u e)))

module _ (s : State) (iv : InvS s) where
  on : (j : ℕ) → (slot_at s j).status ≡ Live → Stands s.sizes.n s.sizes.b (block_at s) (slot_at s j).block (slot_at s j).number
  on j l = iv.stands j l

  ok : (t : ℕ) → OkAt s.sizes.n s.sizes.h s.sizes.b (task_at s t).stage (slot_at s) (block_at s) (task_at s t)
  ok t = iv.oks t

  pub valid_proof : Valid s
  valid_proof =
      record {
        below_b = λ j l. (on j l).in_b;
        at_most_v = λ j l. (on j l).reach;
        at_most_n = λ j l. (on j l).small;
        v_at_most = λ j l. (on j l).top;
        below_v = λ j l. (on j l).below;
        rising = λ j l. (on j l).rises;
        in_one_log = λ j l i k p q hp hq e. not_two i k (λ d. (on j l).distinct i k p q d hp hq e);
        few_entries = λ j l. omega (arith, (on j l).few, (on j l).few_cells);
        apart = iv.unique;
        named_live = λ t n. let h = ok_named _ _ _ _ _ (task_at s t) (task_at s t).stage n (ok t) in (h.lives, h.on, h.at);
        one_owner = iv.owned;
        own_slot = λ t u a b e. not_two t u (λ d. (iv.apart t u d).a_fresh a b e);
        slot_is_reserved = λ t r. let h = ok-fresh _ _ _ _ _ (task_at s t) (task_at s t).stage r (ok t) in (h.in_h, h.slot_is_reserved);
        one_filler = λ t u a b e. not_two t u (λ d. (iv.apart t u d).a_fill a b e);
        none_on_it = λ t j f l o. (ok-filler _ _ _ _ _ (task_at s t) (task_at s t).stage f (ok t)).alone j l o;
        one_writer = λ t u a b e. not_two t u (λ d. (iv.apart t u d).a_write a b e);
        just_raised = λ t w. (ok-writer _ _ _ _ _ (task_at s t) (task_at s t).stage w (ok t)).1.raised;
        none_above = λ t j w l o. (ok-writer _ _ _ _ _ (task_at s t) (task_at s t).stage w (ok t)).1.oldest j l o;
      }
