-- A task that reads: what the words of the log of its cell give.
-- Rests on Gets and the block's reading.
use Rattle.std.specs.Prelude.{◌<◌, ℕ, true, List, ◌≡◌, leb, ltb}
use Rattle.std.proofs.Common.{◌∙◌, arith}
use Rattle.std.proofs.Math.Path.{ap, sym}
use Rattle.std.proofs.Math.ListN.{length}
use borrow.Author.Tests.{eq-eqb, lt-ltb}
use Rattle.rulebook.specs.declared.Entry.{Entry}
use Rattle.rulebook.specs.declared.Hand.{Hand}
use Rattle.rulebook.specs.declared.Sizes.{Sizes}
use Rattle.rulebook.specs.declared.Task.{Task}
use Rattle.block.specs.Layout.{arena, entry_of, length_of, place_of}
use Rattle.block.specs.Reads.{entry_at_lem, log-length_at}
use Rattle.block.specs.Raw.{stamp_in}
use Rattle.layout.specs.Places.{block_part}
use Rattle.layout.specs.Pool.{view_of}
use Rattle.layout.specs.View.{view_block_at}
use Rattle.rulebook.specs.State.{Block, log_at}
use Rattle.theorems.specs.Terms.{version_at}
use Rattle.survey.specs.Rules.{shown}
use Rattle.audit.specs.Gets.{Log, candidate_in, log_in}

module _ (d : Sizes) (p : List ℕ) where
  module _ (k i : ℕ) (g : Log d p k i) where
    long_as : length (log_in d p k i) ≡ length_of d.n (block_part p d k) i
    unfolding log_in
    long_as = ap (λ (b : Block). length (log_at b i)) (view_block_at d p k g.block) ∙ log-length_at d.n (block_part p d k) i g.cell

    pub log_length : (m : ℕ) → m ≡ length_of d.n (block_part p d k) i → m ≡ length (log_in d p k i)
    log_length m e = e ∙ sym long_as

    module _ (j : ℕ) (l : j < length (log_in d p k i)) (at : ℕ) (e : at ≡ stamp_in d.n (block_part p d k) i j) where
      in_log : j < length_of d.n (block_part p d k) i
      in_log = let z = long_as in omega arith

      seen_as : stamp_in d.n (block_part p d k) i j ≡ (entry_of d.n (block_part p d k) (place_of d.n (block_part p d k) i j)).version
      unfolding stamp_in
      seen_as = rw (lt-ltb (place_of d.n (block_part p d k) i j) (arena d.n) (g.logs.inside i j g.cell in_log))

      pub stamp_as : version_at (log_in d p k i) j ≡ at
      unfolding log_in
      stamp_as =
          ap (λ (b : Block). version_at (log_at b i) j) (view_block_at d p k g.block) ∙ ap (λ (x : Entry). x.version) (entry_at_lem d.n (block_part p d k) i g.cell j in_log)
          ∙ sym (e ∙ seen_as)

    -- a candidate that has the version of the entry at hi
    pub candidate_is : (L : ℕ) (w : Hand) → w.hi < length (log_in d p k i) → (at : ℕ) → at ≡ stamp_in d.n (block_part p d k) i w.hi → w.version ≡ at → leb L w.version ≡ candidate_in (log_in d p k i) L w
    unfolding candidate_in
    candidate_is L w l at e o = rw (lt-ltb w.hi (length (log_in d p k i)) l, stamp_as w.hi l at e, eq-eqb w.version at o) (ap (leb L) o)

-- ---- the get in hand

module _ (d : Sizes) (p : List ℕ) (k : Task) (l : k.hand.cell < d.n) where
  pub on_hand : ltb k.hand.cell (shown d p).sizes.n ≡ true
  unfolding view_of
  on_hand = lt-ltb k.hand.cell d.n l

pub ruleset gets = (log_length, stamp_as, candidate_is, on_hand)
