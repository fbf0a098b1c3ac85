-- Rule 3 block by block is rule 3, and what it gives of a block's logs.
use Rattle.std.specs.Prelude.{◌+◌, ◌-◌, ◌<◌, ◌≤◌, suc, zero, ℕ, ◌&&◌, true, List, ◌≡◌, eqb, leb, length}
use Rattle.std.proofs.Common.{◌∙◌, ap, subst, sym, not-suc-le-zero, arith, eqb-true, leb-false, leb-true}
use Rattle.std.proofs.lemmas.Bool.{eqb-false}
use Rattle.rulebook.specs.declared.Entry.{Entry}
use Rattle.rulebook.specs.declared.Sizes.{Sizes}
use Rattle.rulebook.specs.declared.Slot.{Slot}
use Rattle.block.specs.Layout.{length_of, version_of}
use Rattle.block.specs.Reads.{entry_at_lem, log-length_at, version_at_lem}
use Rattle.block.specs.Sound.{block_of}
use Rattle.layout.specs.Places.{block_part}
use Rattle.layout.specs.View.{view_block_at}
use Rattle.rulebook.specs.Lists.{list_to-length}
use Rattle.rulebook.specs.State.{Block, block_at, freed, is_live, log_at, stood}
use Rattle.rulebook.specs.Tests.{and_both, by_test}
use Rattle.theorems.specs.Terms.{version_at}
use Rattle.survey.proofs.Deciding.{any_at}
use Rattle.survey.proofs.DecideBlocks.{log_in}
use Rattle.survey.proofs.DecideTasks.{live_decides}
use Rattle.survey.specs.Rules.{Lives, Readable, Rule2, Rule3, shown, slot, under}
use Rattle.survey.specs.Whole.{live_stood}
use Rattle.survey.specs.Logs.{stamp_of, BlockRule, Walkable, Kept}

module _ (n : ℕ) (w : List ℕ) where
  logs-long : length (block_of n w).logs ≡ n
  unfolding block_of
  logs-long = list_to-length n _

  -- cell i is there, if its log has an entry
  cell_in : (i q : ℕ) → q < length (log_at (block_of n w) i) → i < n
  cell_in i q l = let z = log_in (block_of n w) i q l in omega (arith, logs-long)

  entry_in : (i q : ℕ) → q < length (log_at (block_of n w) i) → q < length_of n w i
  entry_in i q l = omega (arith, log-length_at n w i (cell_in i q l))

  stamp_at : (i q : ℕ) → q < length (log_at (block_of n w) i) → version_at (log_at (block_of n w) i) q ≡ stamp_of n w i q
  stamp_at i q l = ap (λ (e : Entry). e.version) (entry_at_lem n w i (cell_in i q l) q (entry_in i q l))

  module _ (r : BlockRule n w) where
    -- versions rise along a log
    pub climb : (i q t : ℕ) → i < n → q < t → t < length_of n w i → stamp_of n w i q < stamp_of n w i t
    climb i q zero a l m = absurd (not-suc-le-zero l)
    climb i q (suc t) a l m =
        let last : suc t - 1 ≡ t = omega arith in
        let up : stamp_of n w i t < stamp_of n w i (suc t) = rw last at (((r.logs i a).entries (suc t) m).rise (omega arith)) in
        by_test (eqb q t)
        (λ e. let z : stamp_of n w i q ≡ stamp_of n w i t = ap (stamp_of n w i) (eqb-true q t e) in omega arith)
        (λ e. let z = climb i q t a (omega (arith, eqb-false q t e)) (omega arith) in omega arith)

    -- so entry q has at least version q, and a log at most V entries
    stamp_least : (i q : ℕ) → i < n → q < length_of n w i → q ≤ stamp_of n w i q
    stamp_least i zero a l = omega arith
    stamp_least i (suc q) a l = let y = stamp_least i q a (omega arith) in let z = climb i q (suc q) a (omega arith) l in omega arith

    pub rule_short : (i : ℕ) → i < n → length_of n w i ≤ version_of w
    rule_short i a =
        by_test (leb (length_of n w i) (version_of w))
        (λ e. leb-true (length_of n w i) (version_of w) e)
        (λ e.
        let l = leb-false (length_of n w i) (version_of w) e in
        let y = stamp_least i (version_of w) a l in
        let z = ((r.logs i a).entries (version_of w) l).below in
        absurd (omega arith))

    pub rule_readable : Readable n w
    rule_readable = record { inside = λ i q a l. ((r.logs i a).entries q l).inside }

    pub rule_walkable : version_of w ≤ n + 1 → Walkable n w
    rule_walkable v = record { short = λ i a. (let z = rule_short i a in omega arith); inside = λ i q a l. ((r.logs i a).entries q l).inside }

    pub rule_kept : Kept (block_of n w)
    rule_kept =
        record {
          below_v = λ i q l.
              let z = ((r.logs i (cell_in i q l)).entries q (entry_in i q l)).below in
              omega (arith, stamp_at i q l, version_at_lem n w);
          rising = λ i q t l m.
              let c = cell_in i t m in
              let e = log-length_at n w i c in
              let a : q < length (log_at (block_of n w) i) = omega arith in
              let z = climb i q t c l (entry_in i t m) in
              omega (arith, stamp_at i q a, stamp_at i t m);
          in_one_log = λ i k q t l m e.
              r.apart i k q t (cell_in i q l) (cell_in k t m) (entry_in i q l) (entry_in k t m) (sym (stamp_at i q l) ∙ e ∙ stamp_at k t m);
        }

  module _ (a : Readable n w) (s : Kept (block_of n w)) where
    back : (i q : ℕ) → i < n → q < length_of n w i → q < length (log_at (block_of n w) i)
    back i q c l = omega (arith, log-length_at n w i c)

    pub kept_rule : BlockRule n w
    kept_rule =
        record {
          logs = λ i c. record {
            entries = λ j l.
                let b = back i j c l in
                record {
                  inside = a.inside i j c l;
                  below = (let z = s.below_v i j b in omega (arith, stamp_at i j b, version_at_lem n w));
                  rise = λ o.
                      let y = back i (j - 1) c (omega arith) in
                      let z = s.rising i (j - 1) j (omega arith) b in
                      omega (arith, stamp_at i j b, stamp_at i (j - 1) y);
                };
          };
          apart = λ i k j t c f l m e.
              let x = back i j c l in
              let y = back k t f m in
              s.in_one_log i k j t x y (stamp_at i j x ∙ e ∙ sym (stamp_at k t y));
        }

-- ---- the same of every block with a live handle

-- a block is stood on where a live handle is
pub stood_live : (d : Sizes) (p : List ℕ) (k : ℕ) → stood (shown d p) k ≡ true → (j : ℕ) × Lives d p j × ((slot d p j).block ≡ k)
unfolding stood
stood_live d p k e =
    let r = any_at (λ (x : Slot). is_live x.status && eqb x.block k) (shown d p).slots (freed 0) e in
    let b = and_both (is_live (slot d p r.0).status) (eqb (slot d p r.0).block k) r.1 in
    (r.0, (live_decides (slot d p r.0).status).yes b.0, eqb-true (slot d p r.0).block k b.1)

module _ (d : Sizes) (p : List ℕ) (two : Rule2 d p) where
  pub blocks-three : ((k : ℕ) → k < d.b → stood (shown d p) k ≡ true → BlockRule d.n (block_part p d k)) → Rule3 d p
  blocks-three h =
      record {
        readable = λ j l. rule_readable d.n _ (at j l);
        below_v = λ j l. (kept j l).below_v;
        rising = λ j l. (kept j l).rising;
        in_one_log = λ j l. (kept j l).in_one_log;
      }
    where
      at : (j : ℕ) → Lives d p j → BlockRule d.n (block_part p d (slot d p j).block)
      at j l = h (slot d p j).block (two.below_b j l) (live_stood d p j l)

      kept : (j : ℕ) → Lives d p j → Kept (under d p j)
      kept j l = subst Kept (sym (view_block_at d p (slot d p j).block (two.below_b j l))) (rule_kept d.n _ (at j l))

  pub three-blocks : Rule3 d p → (k : ℕ) → k < d.b → stood (shown d p) k ≡ true → BlockRule d.n (block_part p d k)
  three-blocks r k l e =
      let s = stood_live d p k e in
      subst (λ (x : ℕ). BlockRule d.n (block_part p d x)) s.2
      (kept_rule d.n _ (r.readable s.0 s.1)
      (subst Kept (view_block_at d p (slot d p s.0).block (two.below_b s.0 s.1))
      (record { below_v = r.below_v s.0 s.1; rising = r.rising s.0 s.1; in_one_log = r.in_one_log s.0 s.1 })))

  -- V is at most N + 1
  pub stood-version : (k : ℕ) → k < d.b → stood (shown d p) k ≡ true → version_of (block_part p d k) ≤ d.n + 1
  stood-version k l e =
      let s = stood_live d p k e in
      let z : (block_at (shown d p) k).version ≤ d.n + 1 = subst (λ (x : ℕ). (block_at (shown d p) x).version ≤ d.n + 1) s.2 (two.v_at_most s.0 s.1) in
      let q : (block_at (shown d p) k).version ≡ version_of (block_part p d k) = ap (λ (b : Block). b.version) (view_block_at d p k l) ∙ version_at_lem d.n (block_part p d k) in
      omega arith

  pub stood_walkable : Rule3 d p → (k : ℕ) → k < d.b → stood (shown d p) k ≡ true → Walkable d.n (block_part p d k)
  stood_walkable r k l e = rule_walkable d.n (block_part p d k) (three-blocks r k l e) (stood-version k l e)

  pub live_walkable : Rule3 d p → (j : ℕ) → Lives d p j → Walkable d.n (block_part p d (slot d p j).block)
  live_walkable r j l = stood_walkable r (slot d p j).block (two.below_b j l) (live_stood d p j l)
