-- Rule 3's walk over blocks, cells and entries: what holds at each of its loops, and what each way on or out of them owes.
use Rattle.std.specs.Prelude.{◌+◌, ◌-◌, ◌<◌, ◌≤◌, ℕ, Bool, false, not, true, List, ◌≡◌, eqb, ltb, get_or, length, replicate, set}
use Rattle.std.proofs.Common.{true≢false, inl, ⊎_elim, ◌∙◌, ap, subst, sym, arith, eqb-true, le-ltb, lt-ltb, ltb-false, ltb-true}
use Rattle.std.proofs.lemmas.List.{get_or-replicate, length-replicate}
use Rattle.std.proofs.lemmas.Bool.{eqb-false, not-false, not-true}
use Rattle.rulebook.specs.declared.Sizes.{Sizes}
use Rattle.block.specs.Layout.{arena, length_of, place_of, version_of}
use Rattle.block.specs.Marks.{Walked, walk_row, walk_start, walk_step}
use Rattle.block.specs.Raw.{outside, stamp_in}
use Rattle.layout.specs.Places.{Spans, block_part}
use Rattle.rulebook.specs.State.{stood}
use Rattle.rulebook.specs.Tests.{by_test}
use Rattle.survey.specs.Broken.{rule3}
use Rattle.survey.proofs.Decided.{decides_3}
use Rattle.survey.specs.Logs.{BlockRule, EntryRule, LogRule, stamp_of}
use Rattle.survey.proofs.LogRules.{blocks-three, climb, rule_short, stood-version, three-blocks}
use Rattle.survey.specs.Rules.{Rule2, Rule3, shown}

-- how many marks there are: one for each version below the greatest V
abbrev pub most_versions : ℕ
most_versions = 4097

module _ (d : Sizes) (p : List ℕ) where
  abbrev words_of : ℕ → List ℕ
  words_of k = block_part p d k

  abbrev length_at : ℕ → ℕ → ℕ
  length_at k = length_of d.n (words_of k)

  abbrev stamp_at : ℕ → ℕ → ℕ → ℕ
  stamp_at k = stamp_of d.n (words_of k)

  -- the versions that were met before entry j of log i are those marked
  abbrev pub Met : ℕ → List ℕ → ℕ → ℕ → Type 0
  Met k marks i j = Walked (length_at k) (stamp_at k) most_versions marks i j

  -- the blocks before k keep the rule
  pub record BlocksAt (k : ℕ) (kept : Bool) : Type 0 where
    pub yes : kept ≡ true
    pub most : k ≤ d.b
    pub blocks : (x : ℕ) → x < k → stood (shown d p) x ≡ true → BlockRule d.n (words_of x)

  -- block k is walked, whose V is v
  pub record On (k v : ℕ) : Type 0 where
    pub spans : Spans d p
    pub two : Rule2 d p
    pub below : k < d.b
    pub stands : stood (shown d p) k ≡ true
    pub version : v ≡ version_of (words_of k)
    pub most : v ≤ d.n + 1
    pub small : v ≤ most_versions

  -- the logs before log i keep the rule
  pub record LogsAt (k v : ℕ) (marks : List ℕ) (i : ℕ) (kept : Bool) : Type 0 where
    pub yes : kept ≡ true
    pub on : On k v
    pub most : i ≤ d.n
    pub logs : (x : ℕ) → x < i → LogRule d.n (words_of k) x
    pub met : Met k marks i 0

  -- the entries before entry j of log i, which has m, keep the rule; least is above the version of the last of them
  pub record EntriesAt (k v i m : ℕ) (marks : List ℕ) (least j : ℕ) (kept : Bool) : Type 0 where
    pub yes : kept ≡ true
    pub on : On k v
    pub cell : i < d.n
    pub is : m ≡ length_at k i
    pub short : m ≤ v
    pub most : j ≤ m
    pub logs : (x : ℕ) → x < i → LogRule d.n (words_of k) x
    pub entries : (x : ℕ) → x < j → EntryRule d.n (words_of k) i x
    pub first : j ≡ 0 → least ≡ 0
    pub last : 0 < j → least ≡ stamp_at k i (j - 1) + 1
    pub met : Met k marks i j

  -- ---- rule 3 holds, or does not

  three-yes : Rule3 d p → (r : Bool) → r ≡ true → r ≡ rule3 d p
  three-yes h r e = by_test (rule3 d p) (λ q. e ∙ sym q) (λ q. absurd ((decides_3 d p).no q h))

  three_not : (Rule3 d p → ⊥) → false ≡ rule3 d p
  three_not h = by_test (rule3 d p) (λ q. absurd (h ((decides_3 d p).yes q))) (λ q. sym q)

  -- ---- blocks

  pub blocks_skip : (k : ℕ) (kept b : Bool) → BlocksAt k kept → b ≡ stood (shown d p) k → not b ≡ true → k < d.b → BlocksAt (k + 1) kept
  blocks_skip k kept b s e q l =
      record {
        yes = s.yes;
        most = omega arith;
        blocks = λ x m.
            by_test (eqb x k)
            (λ f g. absurd (true≢false (sym g ∙ ap (stood (shown d p)) (eqb-true x k f) ∙ sym e ∙ not-true b q)))
            (λ f. s.blocks x (omega (arith, eqb-false x k f)));
      }

  pub blocks_end : (k : ℕ) (kept : Bool) → BlocksAt k kept → Rule2 d p → d.b ≤ k → kept ≡ rule3 d p
  blocks_end k kept s two l = three-yes (blocks-three d p two (λ x m. s.blocks x (omega arith))) kept s.yes

  -- ---- a block

  pub logs-start : (k v : ℕ) (kept b : Bool) → BlocksAt k kept → Spans d p → Rule2 d p → k < d.b → b ≡ stood (shown d p) k → not b ≡ false
      → v ≡ version_of (words_of k) → LogsAt k v (replicate most_versions 1) 0 kept
  logs-start k v kept b s sp two l e q f =
      let st = sym e ∙ not-false b q in
      let few = stood-version d p two k l st in
      record {
        yes = s.yes;
        on = record { spans = sp; two = two; below = l; stands = st; version = f; most = omega arith; small = omega (arith, sp.cells) };
        most = omega arith;
        logs = λ x m. absurd (omega arith);
        met =
            walk_start (length_at k) (stamp_at k) most_versions (replicate most_versions 1) (length-replicate {A = ℕ} most_versions 1)
            (λ x m z. omega (arith, get_or-replicate {A = ℕ} most_versions x 1 0 m));
      }

  module _ (k v : ℕ) (marks : List ℕ) (i : ℕ) (kept : Bool) (s : LogsAt k v marks i kept) where
    pub logs-end : BlocksAt k kept → d.n ≤ i → BlocksAt (k + 1) kept
    logs-end z l =
        record {
          yes = s.yes;
          most = (let b = s.on.below in omega arith);
          blocks = λ x m.
              by_test (eqb x k)
              (λ f _. subst (λ (y : ℕ). BlockRule d.n (words_of y)) (sym (eqb-true x k f)) here)
              (λ f. z.blocks x (omega (arith, eqb-false x k f)));
        }
      where
        here : BlockRule d.n (words_of k)
        here =
            record {
              logs = λ x m. s.logs x (omega arith);
              apart = λ a c j t la lc lj lt e. (s.met.once a j c t (lj, inl (omega arith)) (lt, inl (omega arith)) e).0;
            }

    -- more entries than versions; what shows m comes first, for the search
    pub logs_broken : (m : ℕ) → v < m → i < d.n → m ≡ length_at k i → false ≡ rule3 d p
    logs_broken m q l e =
        three_not (λ h.
        let r = rule_short d.n (words_of k) (three-blocks d p s.on.two h k s.on.below s.on.stands) i l in
        let x = s.on.version in
        omega arith)

  -- ---- a log

  module _ (k v i m : ℕ) (marks : List ℕ) (least j : ℕ) (kept : Bool) (s : EntriesAt k v i m marks least j kept) where
    pub entries-end : m ≤ j → LogsAt k v marks (i + 1) kept
    entries-end l =
        record {
          yes = s.yes;
          on = s.on;
          most = (let c = s.cell in omega arith);
          logs = λ x o.
              by_test (eqb x i)
              (λ f. subst (LogRule d.n (words_of k)) (sym (eqb-true x i f)) here)
              (λ f. s.logs x (omega (arith, eqb-false x i f)));
          met = walk_row (length_at k) (stamp_at k) s.met (let e = s.is in omega arith);
        }
      where
        here : LogRule d.n (words_of k) i
        here = record { entries = λ x o. s.entries x (let e = s.is in omega arith) }

    module _ (at : ℕ) (l : j < m) (e : at ≡ stamp_in d.n (words_of k) i j) where
      in_log : j < length_at k i
      in_log = let q = s.is in omega arith

      stamp_is : place_of d.n (words_of k) i j < arena d.n → at ≡ stamp_at k i j
      unfolding stamp_in
      stamp_is q = e ∙ rw (lt-ltb (place_of d.n (words_of k) i j) (arena d.n) q)

      stamp_not : arena d.n ≤ place_of d.n (words_of k) i j → at ≡ outside
      unfolding stamp_in
      stamp_not q = e ∙ rw (le-ltb (place_of d.n (words_of k) i j) (arena d.n) q)

      -- what rule 3 says of this entry
      said : Rule3 d p → EntryRule d.n (words_of k) i j
      said h = ((three-blocks d p s.on.two h k s.on.below s.on.stands).logs i s.cell).entries j in_log

      pub broken-below : v ≤ at → false ≡ rule3 d p
      broken-below q =
          three_not (λ h. let r = said h in let z = stamp_is r.inside in let y = r.below in let x = s.on.version in omega arith)

      module _ (q : at < v) where
        inside : place_of d.n (words_of k) i j < arena d.n
        inside =
            by_test (ltb (place_of d.n (words_of k) i j) (arena d.n))
            (λ f. ltb-true (place_of d.n (words_of k) i j) (arena d.n) f)
            (λ f. let z = stamp_not (ltb-false (place_of d.n (words_of k) i j) (arena d.n) f) in let y = s.on.small in absurd (omega arith))

        pub stamp_small : at < most_versions
        stamp_small = let y = s.on.small in omega arith

        pub stamp_marked : at < length marks
        stamp_marked = let y = s.on.small in let z = s.met.long in omega arith

        pub broken-rise : at < least → false ≡ rule3 d p
        broken-rise o =
            three_not (λ h.
            by_test (eqb j 0)
            (λ f. let z = s.first (eqb-true j 0 f) in omega arith)
            (λ f. let g : 0 < j = omega (arith, eqb-false j 0 f) in let z = s.last g in let y = (said h).rise g in let x = stamp_is inside in omega arith))

        module _ (o : least ≤ at) where
          pub broken_twice : get_or marks at 0 ≡ 0 → false ≡ rule3 d p
          broken_twice f =
              three_not (λ h.
              let x = s.met.marked at stamp_small f in
              let b = three-blocks d p s.on.two h k s.on.below s.on.stands in
              ⊎_elim
              (λ (y : x.0 < i).
              let z : x.0 ≡ i = b.apart x.0 i x.1 j (omega (arith, s.cell)) s.cell x.2.0 in_log (x.3 ∙ stamp_is inside) in
              omega arith)
              (λ (y : (x.0 ≡ i) × (x.1 < j)).
              let c : stamp_at k i x.1 ≡ at = subst (λ (u : ℕ). stamp_at k u x.1 ≡ at) y.0 x.3 in
              let z = climb d.n (words_of k) b i x.1 j s.cell y.1 in_log in
              omega (arith, stamp_is inside))
              x.2.1)

          pub entries-step : (get_or marks at 0 ≡ 0 → ⊥) → EntriesAt k v i m (set marks at 0) (at + 1) (j + 1) kept
          entries-step f =
              record {
                yes = s.yes;
                on = s.on;
                cell = s.cell;
                is = s.is;
                short = s.short;
                most = omega arith;
                logs = s.logs;
                entries = λ x z.
                    by_test (eqb x j)
                    (λ g. subst (EntryRule d.n (words_of k) i) (sym (eqb-true x j g)) here)
                    (λ g. s.entries x (omega (arith, eqb-false x j g)));
                first = λ z. absurd (omega arith);
                last = λ z. (let g : j + 1 - 1 ≡ j = omega arith in rw g (ap (λ (u : ℕ). u + 1) (stamp_is inside)));
                met =
                    subst (λ (u : ℕ). Met k (set marks u 0) i (j + 1)) (sym (stamp_is inside))
                    (walk_step (length_at k) (stamp_at k) s.met in_log (subst (λ (u : ℕ). u < most_versions) (stamp_is inside) stamp_small)
                    (subst (λ (u : ℕ). get_or marks u 0 ≡ 0 → ⊥) (stamp_is inside) f));
              }
            where
              here : EntryRule d.n (words_of k) i j
              here =
                  record {
                    inside = inside;
                    below = (let y = s.on.version in let z = stamp_is inside in omega arith);
                    rise = λ g. (let z = s.last g in let y = stamp_is inside in omega arith);
                  }

pub ruleset walks = (blocks_skip, blocks_end, logs-start, logs-end, logs_broken, entries-end, broken-below, broken-rise, broken_twice, entries-step)
