-- The words of a pool are a sound store exactly where the check's seven rules hold of them.
-- Rests on Rules and on the bridge's Sound.
use Rattle.std.specs.Prelude.{◌<◌, ℕ, ◌&&◌, true, List, ◌≡◌, refl, eqb, None, Option, Some}
use Rattle.std.proofs.Common.{◌∙◌, sym, arith, eq-eqb}
use Rattle.rulebook.specs.declared.Sizes.{Sizes}
use Rattle.rulebook.specs.declared.Slot.{Slot}
use Rattle.block.specs.Chunks.{space_least}
use Rattle.block.specs.Layout.{bump_of, length_of, place_of}
use Rattle.block.specs.Sound.{Laid}
use Rattle.bridge.specs.Sound.{Sound}
use Rattle.layout.specs.Header.{header_of}
use Rattle.layout.specs.Pool.{view_of}
use Rattle.rulebook.specs.Lists.{any_some}
use Rattle.rulebook.specs.State.{freed, is_live, stood}
use Rattle.survey.specs.Rules.{Lives, Readable, Rule1, Rule2, Rule3, Rule4, Rule5, Rule6, Rule7, shown, slot}

-- rules 2 to 7 hold of a pool whose header gives the sizes d
pub record Rest (d : Sizes) (p : List ℕ) : Type 0 where
  pub two : Rule2 d p
  pub three : Rule3 d p
  pub four : Rule4 d p
  pub five : Rule5 d p
  pub six : Rule6 d p
  pub seven : Rule7 d p

-- ---- rule 1 is that the header gives the sizes

good-bad : {d : Sizes} → Some d ≡ None → ⊥
good-bad q = let z : ◌≡◌ {A = ℕ} 0 1 = cc in omega arith

pub header-one : (d : Sizes) (p : List ℕ) → header_of p ≡ Some d → Rule1 p
header-one d p e = record { described = λ q. good-bad (sym e ∙ q) }

pub one-header : (p : List ℕ) → Rule1 p → (d : Sizes) × (header_of p ≡ Some d)
one-header p r = at (header_of p) refl
  where
    at : (x : Option Sizes) → header_of p ≡ x → (d : Sizes) × (header_of p ≡ Some d)
    at None e = absurd (r.described e)
    at (Some d) e = (d, e)

-- ---- a sound store keeps the rules

-- a live handle's block is stood on
pub live_stood : (d : Sizes) (p : List ℕ) (j : ℕ) → Lives d p j → stood (shown d p) (slot d p j).block ≡ true
unfolding stood
live_stood d p j l =
    any_some (λ (x : Slot). is_live x.status && eqb x.block (slot d p j).block) (shown d p).slots (freed 0) j refl
    (rw l (eq-eqb (slot d p j).block _ refl))

module _ {d : Sizes} {p : List ℕ} (s : Sound d p) where
  laid-readable : (n : ℕ) (w : List ℕ) → Laid n w → Readable n w
  laid-readable n w l =
      record {
        inside = λ i q a b.
            let m = l.sound.short i a in
            let g = space_least (length_of n w i) (omega (arith, l.sized.few)) in
            let h : place_of n w i q < bump_of w = l.sound.below i q a (omega arith) in
            omega (arith, l.sound.fits);
      }

  pub sound-rest : Rest d p
  unfolding view_of
  sound-rest =
      let v = s.rules.valid in
      record {
        two = record { below_b = v.below_b; at_most_v = v.at_most_v; at_most_n = v.at_most_n; v_at_most = v.v_at_most };
        three = record {
          readable = λ j l. laid-readable d.n _ (s.stood_laid _ (v.below_b j l) (live_stood d p j l));
          below_v = v.below_v;
          rising = v.rising;
          in_one_log = v.in_one_log;
        };
        four = record { few_entries = v.few_entries };
        five = record { apart = v.apart };
        six = record { named_live = v.named_live; one_owner = v.one_owner; own_slot = v.own_slot; slot_is_reserved = v.slot_is_reserved; one_filler = v.one_filler; none_on_it = v.none_on_it };
        seven = record {
          statuses = s.statuses;
          codes = s.codes;
          paced = s.paced;
          one_writer = v.one_writer;
          just_raised = v.just_raised;
          none_above = v.none_above;
          tasks = s.rules.tasks;
          stood_laid = s.stood_laid;
          filling_laid = s.filling_laid;
        };
      }

  pub sound-one : Rule1 p
  sound-one = header-one d p s.header

-- ---- and where the rules hold the store is sound

pub rest-sound : {d : Sizes} {p : List ℕ} → header_of p ≡ Some d → Rest d p → Sound d p
unfolding view_of
rest-sound {d} {p} e r =
    record {
      header = e;
      statuses = r.seven.statuses;
      codes = r.seven.codes;
      rules = record {
        valid = record {
          below_b = r.two.below_b;
          at_most_v = r.two.at_most_v;
          at_most_n = r.two.at_most_n;
          v_at_most = r.two.v_at_most;
          below_v = r.three.below_v;
          rising = r.three.rising;
          in_one_log = r.three.in_one_log;
          few_entries = r.four.few_entries;
          apart = r.five.apart;
          named_live = r.six.named_live;
          one_owner = r.six.one_owner;
          own_slot = r.six.own_slot;
          slot_is_reserved = r.six.slot_is_reserved;
          one_filler = r.six.one_filler;
          none_on_it = r.six.none_on_it;
          one_writer = r.seven.one_writer;
          just_raised = r.seven.just_raised;
          none_above = r.seven.none_above;
        };
        tasks = r.seven.tasks;
      };
      paced = r.seven.paced;
      stood_laid = r.seven.stood_laid;
      filling_laid = r.seven.filling_laid;
    }
