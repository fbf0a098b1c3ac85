-- The invariant of a store, and how it is carried over a change of one block, one slot and one task.
-- Rests on Tasks.
use Rattle.std.specs.Prelude.{◌+◌, ◌<◌, ◌≤◌, ℕ, true, List, [], ◌++◌, ◌∷◌, ◌≡◌, refl, eqb, ltb, get_or, length, set}
use Rattle.std.proofs.Common.{◌∙◌, ap, subst, sym, arith, length-append, get_or-set_other, get_or-set_same, eqb-true, ltb-false, ltb-true}
use Rattle.std.proofs.Math.ListN.{get_or-append}
use Rattle.std.proofs.Math.Seq.{get_or-append_seam}
use Rattle.std.proofs.lemmas.Bool.{eqb-false}
use Rattle.rulebook.specs.declared.Entry.{Entry}
use Rattle.rulebook.specs.declared.Slot.{Slot}
use Rattle.rulebook.specs.declared.Stage.{Stage}
use Rattle.rulebook.specs.declared.Status.TheVariants.{Live, Reserved}
use Rattle.rulebook.specs.declared.Task.{Task}
use Rattle.rulebook.specs.State.{Block, State, block_at, fills, log_at, names, no_entry, reserves, slot_at, task_at, with_cell, with_log, with_version, writes}
use Rattle.rulebook.specs.Tests.{by_test}
use Rattle.theorems.specs.Invariant.Tasks.{Covered, Distinct, Frame, Keeps, Named, OkAt, Stands, frame}
use Rattle.theorems.specs.Reading.Append.{entry, value_snoc}
use Rattle.theorems.specs.Reading.Get.{Good, good-append}
use Rattle.theorems.specs.Reading.Search.{Below, Rises}
use Rattle.theorems.specs.Terms.{entries, value_at, value_in, version_at}

-- two tasks that are at stages g and h do not meet
pub record Apart (g : Stage) (k : Task) (h : Stage) (u : Task) : Type 0 where
  pub a_write : writes g ≡ true → writes h ≡ true → k.block ≡ u.block → ⊥
  pub a_fill : fills g ≡ true → fills h ≡ true → k.target ≡ u.target → ⊥
  pub a_fresh : reserves g ≡ true → reserves h ≡ true → k.fresh ≡ u.fresh → ⊥

pub apart_sym : (g : Stage) (k : Task) (h : Stage) (u : Task) → Apart g k h u → Apart h u g k
apart_sym g k h u a =
    record { a_write = λ p q e. a.a_write q p (sym e); a_fill = λ p q e. a.a_fill q p (sym e); a_fresh = λ p q e. a.a_fresh q p (sym e) }

-- no two live handles share block and number
abbrev pub Unique : (ℕ → Slot) → Type 0
Unique σ = (i j : ℕ) → (σ i).status ≡ Live → (σ j).status ≡ Live → (σ i).block ≡ (σ j).block → (σ i).number ≡ (σ j).number → i ≡ j

-- a task has reserved slot j
abbrev pub Owned : (ℕ → Task) → ℕ → Type 0
Owned τ j = (t : ℕ) × (reserves (τ t).stage ≡ true) × ((τ t).fresh ≡ j)

pub record Inv (cells handles room : ℕ) (σ : ℕ → Slot) (τ : ℕ → Task) (β : ℕ → Block) : Type 0 where
  pub stands : (j : ℕ) → (σ j).status ≡ Live → Stands cells room β (σ j).block (σ j).number
  pub oks : (t : ℕ) → OkAt cells handles room (τ t).stage σ β (τ t)
  pub apart : (t u : ℕ) → (t ≡ u → ⊥) → Apart (τ t).stage (τ t) (τ u).stage (τ u)
  pub unique : Unique σ
  pub owned : (j : ℕ) → (σ j).status ≡ Reserved → Owned τ j

abbrev pub InvS : State → Type 0
InvS s = Inv s.sizes.n s.sizes.h s.sizes.b (slot_at s) (task_at s) (block_at s)

-- the handles that are live in s stand in s' where they stood, and see what they saw; the logs there lose nothing
abbrev pub Same : State → State → Type 0
Same s s' = (j : ℕ) → (slot_at s j).status ≡ Live → (slot_at s' j ≡ slot_at s j) × ((i : ℕ) → value_at (block_at s' (slot_at s j).block) (slot_at s j).number i ≡ value_at (block_at s (slot_at s j).block) (slot_at s j).number i) × ((i : ℕ) → length (log_at (block_at s (slot_at s j).block) i) ≤ length (log_at (block_at s' (slot_at s j).block) i))

-- a call goes from s to s'
abbrev pub Goes : State → State → Type 0
Goes s s' = InvS s' × Same s s'

pub same_refl : (s : State) → Same s s
same_refl s j l = (refl, (λ i. refl), λ i. omega arith)

-- one task moves to k, the slots to σ' and the blocks to β'
pub inv_move : (cells handles room : ℕ) (σ σ' : ℕ → Slot) (τ τ' : ℕ → Task) (β β' : ℕ → Block) (t : ℕ) (k : Task)
    → Inv cells handles room σ τ β
    → τ' t ≡ k
    → ((u : ℕ) → (u ≡ t → ⊥) → τ' u ≡ τ u)
    → ((j : ℕ) → (σ' j).status ≡ Live → Stands cells room β' (σ' j).block (σ' j).number)
    → OkAt cells handles room k.stage σ' β' k
    → ((u : ℕ) → (u ≡ t → ⊥) → Frame (τ u).stage σ σ' β β' (τ u))
    → ((u : ℕ) → (u ≡ t → ⊥) → Apart k.stage k (τ u).stage (τ u))
    → Unique σ'
    → ((j : ℕ) → (σ' j).status ≡ Reserved → Owned τ' j)
    → Inv cells handles room σ' τ' β'
inv_move cells handles room σ σ' τ τ' β β' t k iv mine others st own frames aparts uniq owners =
    record {
      stands = st;
      oks = λ u. by_test (eqb u t)
          (λ e. subst Ok (sym (ap τ' (eqb-true u t e) ∙ mine)) own)
          (λ e. subst Ok (sym (others u (eqb-false u t e))) (frame cells handles room σ σ' β β' (τ u) (τ u).stage (frames u (eqb-false u t e)) (iv.oks u)));
      apart = λ u v d. by_test (eqb u t)
          (λ e. subst (λ (x : Task). Apart x.stage x (τ' v).stage (τ' v)) (sym (ap τ' (eqb-true u t e) ∙ mine)) (to v (λ q. d (eqb-true u t e ∙ sym q))))
          (λ e. by_test (eqb v t)
          (λ f. subst (λ (x : Task). Apart (τ' u).stage (τ' u) x.stage x) (sym (ap τ' (eqb-true v t f) ∙ mine)) (apart_sym _ _ _ _ (to u (eqb-false u t e))))
          (λ f. subst (λ (x : Task). Apart x.stage x (τ' v).stage (τ' v)) (sym (others u (eqb-false u t e)))
          (subst (λ (x : Task). Apart (τ u).stage (τ u) x.stage x) (sym (others v (eqb-false v t f))) (iv.apart u v d))));
      unique = uniq;
      owned = owners;
    }
  where
    Ok : Task → Type 0
    Ok x = OkAt cells handles room x.stage σ' β' x

    to : (v : ℕ) → (v ≡ t → ⊥) → Apart k.stage k (τ' v).stage (τ' v)
    to v d = subst (λ (x : Task). Apart k.stage k x.stage x) (sym (others v d)) (aparts v d)

-- ---- who has reserved a slot

-- the task's next form keeps the slot that it has reserved, if it has
abbrev pub Carries : Task → Task → Type 0
Carries k k' = reserves k.stage ≡ true → (reserves k'.stage ≡ true) × (k'.fresh ≡ k.fresh)

module _ (τ τ' : ℕ → Task) (t : ℕ) (others : (u : ℕ) → (u ≡ t → ⊥) → τ' u ≡ τ u) (j : ℕ) where
  -- another task's slot stays its own
  owned-other : (o : Owned τ j) → (o.0 ≡ t → ⊥) → Owned τ' j
  owned-other (u, r, f) d = let q = others u d in (u, ap (λ (k : Task). reserves k.stage) q ∙ r, ap (λ (k : Task). k.fresh) q ∙ f)

  pub owned-on : (k : Task) → τ' t ≡ k → Carries (τ t) k → Owned τ j → Owned τ' j
  owned-on k mine carries (u, r, f) =
      by_test (eqb u t)
      (λ e. let same = ap τ (eqb-true u t e) in
      let c = carries (ap (λ (x : Task). reserves x.stage) (sym same) ∙ r) in
      (t, ap (λ (x : Task). reserves x.stage) mine ∙ c.0, ap (λ (x : Task). x.fresh) mine ∙ c.1 ∙ ap (λ (x : Task). x.fresh) (sym same) ∙ f))
      (λ e. owned-other (u, r, f) (eqb-false u t e))

  -- the task ends, and another slot was its own
  pub owned_ended : ((τ t).fresh ≡ j → ⊥) → Owned τ j → Owned τ' j
  owned_ended d (u, r, f) = owned-other (u, r, f) (λ e. d (ap (λ (x : ℕ). (τ x).fresh) (sym e) ∙ f))

-- ---- what a reader needs

pub keeps_refl : (n : ℕ) (b : Block) → Keeps n b b
keeps_refl n b = record { same = λ i. refl; goes_on = λ r i w g. g; grows = λ i. omega arith; newer = omega arith }

pub keeps_ver : (n v : ℕ) (b : Block) → b.version ≤ v → Keeps n b (with_version b v)
unfolding with_version value_at
keeps_ver n v b h = record { same = λ i. refl; goes_on = λ r i w g. g; grows = λ i. omega arith; newer = h }

pub keeps-write : (n m i v : ℕ) (b : Block) → n ≤ m → i < length b.cells → Covered (log_at b i) m → Keeps n b (with_cell b i v)
unfolding with_cell value_at
keeps-write n m i v b h inside covered =
    record {
      same = λ j. by_test (eqb j i)
          (λ e. rw (eqb-true j i e, get_or-set_same b.cells i v 0 inside) (covered n v (get_or b.cells i 0) h))
          (λ e. ap (value_in (log_at b j) n) (get_or-set_other b.cells i j v 0 (eqb-false j i e)));
      goes_on = λ r j w g. g;
      grows = λ j. omega arith;
      newer = omega arith;
    }

pub keeps-append : (n m i : ℕ) (b : Block) → n ≤ m → i < length b.logs → Keeps n b (with_log b i (log_at b i ++ (entry m (get_or b.cells i 0) ∷ [])))
unfolding with_log value_at
keeps-append n m i b h inside =
    record {
      same = λ j. by_test (eqb j i)
          (λ e. rw (eqb-true j i e, get_or-set_same b.logs i (log_at b i ++ (entry m (get_or b.cells i 0) ∷ [])) [] inside) (value_snoc (log_at b i) m (get_or b.cells i 0) (get_or b.cells i 0) n h))
          (λ e. ap (λ (l : List Entry). value_in l n (get_or b.cells j 0)) (get_or-set_other b.logs i j (log_at b i ++ (entry m (get_or b.cells i 0) ∷ [])) [] (eqb-false j i e)));
      goes_on = λ r j w g. by_test (eqb j i)
          (λ e. subst (λ (l : List Entry). Good r l n w (value_in (log_at b j) n (get_or b.cells j 0)))
          (sym (ap (get_or' j) (ap (λ (x : ℕ). new x) (sym (eqb-true j i e))) ∙ get_or-set_same b.logs j (log_at b j ++ (entry m (get_or b.cells j 0) ∷ [])) [] (subst (λ (x : ℕ). x < length b.logs) (sym (eqb-true j i e)) inside)))
          (good-append r (log_at b j) n m (get_or b.cells j 0) (value_in (log_at b j) n (get_or b.cells j 0)) w h refl g))
          (λ e. subst (λ (l : List Entry). Good r l n w (value_in (log_at b j) n (get_or b.cells j 0))) (sym (get_or-set_other b.logs i j (log_at b i ++ (entry m (get_or b.cells i 0) ∷ [])) [] (eqb-false j i e))) g);
      grows = λ j. by_test (eqb j i)
          (λ e. rw (eqb-true j i e, get_or-set_same b.logs i (log_at b i ++ (entry m (get_or b.cells i 0) ∷ [])) [] inside) (omega (arith, length-append (log_at b i) (entry m (get_or b.cells i 0) ∷ []))))
          (λ e. rw (get_or-set_other b.logs i j (log_at b i ++ (entry m (get_or b.cells i 0) ∷ [])) [] (eqb-false j i e)) (omega arith));
      newer = omega arith;
    }
  where
    new : ℕ → List (List Entry)
    new x = set b.logs x (log_at b x ++ (entry m (get_or b.cells x 0) ∷ []))

    get_or' : ℕ → List (List Entry) → List Entry
    get_or' x l = get_or l x []

-- ---- what the other tasks need

pub frame_same : (g : Stage) (σ : ℕ → Slot) (β : ℕ → Block) (k : Task) → Frame g σ σ β β k
frame_same g σ β k =
    record {
      f_slot = λ n. refl;
      f_fresh = λ n. refl;
      f_keep = λ n. keeps_refl k.number (β k.block);
      f_write = λ n. refl;
      f_oldest = λ n j l o. (l, o, refl);
      f_fill = λ n. refl;
      f_alone = λ n j l o. (l, o);
    }

-- one block changes
pub frame-block : (g : Stage) (σ : ℕ → Slot) (β β' : ℕ → Block) (b : ℕ) (k : Task)
    → ((c : ℕ) → (c ≡ b → ⊥) → β' c ≡ β c)
    → (names g ≡ true → k.block ≡ b → Keeps k.number (β b) (β' b))
    → (writes g ≡ true → k.block ≡ b → ⊥)
    → (fills g ≡ true → k.target ≡ b → ⊥)
    → Frame g σ σ β β' k
frame-block g σ β β' b k others reads no_write no-fill =
    record {
      f_slot = λ n. refl;
      f_fresh = λ n. refl;
      f_keep = λ n. by_test (eqb k.block b)
          (λ e. subst (λ (c : ℕ). Keeps k.number (β c) (β' c)) (sym (eqb-true k.block b e)) (reads n (eqb-true k.block b e)))
          (λ e. subst (Keeps k.number (β k.block)) (sym (others k.block (eqb-false k.block b e))) (keeps_refl k.number (β k.block)));
      f_write = λ n. others k.block (no_write n);
      f_oldest = λ n j l o. (l, o, refl);
      f_fill = λ n. others k.target (no-fill n);
      f_alone = λ n j l o. (l, o);
    }

-- one slot changes as well
pub frame-slot : (g : Stage) (σ σ' : ℕ → Slot) (β β' : ℕ → Block) (i : ℕ) (k : Task)
    → Frame g σ σ β β' k
    → ((j : ℕ) → (j ≡ i → ⊥) → σ' j ≡ σ j)
    → (names g ≡ true → k.slot ≡ i → ⊥)
    → (reserves g ≡ true → k.fresh ≡ i → ⊥)
    → (writes g ≡ true → (σ' i).status ≡ Live → (σ' i).block ≡ k.block → ⊥)
    → (fills g ≡ true → (σ' i).status ≡ Live → (σ' i).block ≡ k.target → ⊥)
    → Frame g σ σ' β β' k
frame-slot g σ σ' β β' i k f others no_name no-fresh no_write no-fill =
    record {
      f_slot = λ n. others k.slot (no_name n);
      f_fresh = λ n. others k.fresh (no-fresh n);
      f_keep = f.f_keep;
      f_write = f.f_write;
      f_oldest = λ n j l o. by_test (eqb j i)
          (λ e. absurd (no_write n (ap (λ (x : ℕ). (σ' x).status) (sym (eqb-true j i e)) ∙ l) (ap (λ (x : ℕ). (σ' x).block) (sym (eqb-true j i e)) ∙ o)))
          (λ e. let q = others j (eqb-false j i e) in (ap (λ (x : Slot). x.status) (sym q) ∙ l, ap (λ (x : Slot). x.block) (sym q) ∙ o, ap (λ (x : Slot). x.number) (sym q)));
      f_fill = f.f_fill;
      f_alone = λ n j l o. by_test (eqb j i)
          (λ e. absurd (no-fill n (ap (λ (x : ℕ). (σ' x).status) (sym (eqb-true j i e)) ∙ l) (ap (λ (x : ℕ). (σ' x).block) (sym (eqb-true j i e)) ∙ o)))
          (λ e. let q = others j (eqb-false j i e) in (ap (λ (x : Slot). x.status) (sym q) ∙ l, ap (λ (x : Slot). x.block) (sym q) ∙ o));
    }

-- the other tasks' stages stay apart from one that takes no more than before
pub apart_keep : (g g' h : Stage) (k k' u : Task) → k'.block ≡ k.block → k'.target ≡ k.target → k'.fresh ≡ k.fresh
    → (writes g' ≡ true → writes g ≡ true) → (fills g' ≡ true → fills g ≡ true) → (reserves g' ≡ true → reserves g ≡ true)
    → Apart g k h u → Apart g' k' h u
apart_keep g g' h k k' u eb ei ef w f r a =
    record {
      a_write = λ p q e. a.a_write (w p) q (sym eb ∙ e);
      a_fill = λ p q e. a.a_fill (f p) q (sym ei ∙ e);
      a_fresh = λ p q e. a.a_fresh (r p) q (sym ef ∙ e);
    }

-- ---- where handles stand

module _ {cells room : ℕ} {β β' : ℕ → Block} where
  -- a block that a change leaves alone
  pub stands-other : (b n : ℕ) → β' b ≡ β b → Stands cells room β b n → Stands cells room β' b n
  stands-other b n e s =
      record {
        in_b = s.in_b;
        reach = rw e s.reach;
        small = s.small;
        top = rw e s.top;
        rises = λ i. subst (λ (x : Block). Rises (log_at x i)) (sym e) (s.rises i);
        below = λ i. subst (λ (x : Block). Below (log_at x i) x.version) (sym e) (s.below i);
        few = subst (λ (x : Block). entries x.logs ≤ x.version) (sym e) s.few;
        few_cells = subst (λ (x : Block). entries x.logs ≤ cells) (sym e) s.few_cells;
        distinct = subst Distinct (sym e) s.distinct;
      }

-- the handle that a task names
pub named-stands : (cells handles room : ℕ) (σ : ℕ → Slot) (τ : ℕ → Task) (β : ℕ → Block) (j b n : ℕ) → Inv cells handles room σ τ β → Named σ j b n → Stands cells room β b n
named-stands cells handles room σ τ β j b n iv h =
    subst (λ (x : ℕ). Stands cells room β x n) h.on (subst (λ (x : ℕ). Stands cells room β (σ j).block x) h.at (iv.stands j h.lives))

pub rises_snoc : (l : List Entry) (m c : ℕ) → Rises l → Below l m → Rises (l ++ (entry m c ∷ []))
rises_snoc l m c rises below p q h inside =
    let fits : q < length l + 1 = subst (λ (x : ℕ). q < x) (length-append l (entry m c ∷ [])) inside in
    by_test (ltb q (length l))
    (λ e. omega (arith, rises p q h (ltb-true q (length l) e), old p (omega (arith, ltb-true q (length l) e)), old q (ltb-true q (length l) e)))
    (λ e. let last : q ≡ length l = omega (arith, ltb-false q (length l) e) in
    omega (arith, below p (omega arith), old p (omega arith), ap (λ (x : ℕ). version_at (l ++ (entry m c ∷ [])) x) last ∙ new))
  where
    old : (j : ℕ) → j < length l → version_at (l ++ (entry m c ∷ [])) j ≡ version_at l j
    old j d = ap (λ (x : Entry). x.version) (get_or-append l (entry m c ∷ []) no_entry j d)

    new : version_at (l ++ (entry m c ∷ [])) (length l) ≡ m
    new = ap (λ (x : Entry). x.version) (get_or-append_seam l (entry m c) [] no_entry)

-- a slot that is not live any more leaves the others unique
pub unique-dead : (σ σ' : ℕ → Slot) (f : ℕ) → ((j : ℕ) → (j ≡ f → ⊥) → σ' j ≡ σ j) → ((σ' f).status ≡ Live → ⊥) → Unique σ → Unique σ'
unique-dead σ σ' f others dead u i j li lj eb en =
    let di : i ≡ f → ⊥ = λ e. dead (ap (λ (x : ℕ). (σ' x).status) (sym e) ∙ li) in
    let dj : j ≡ f → ⊥ = λ e. dead (ap (λ (x : ℕ). (σ' x).status) (sym e) ∙ lj) in
    let p = others i di in
    let q = others j dj in
    u i j (ap (λ (z : Slot). z.status) (sym p) ∙ li) (ap (λ (z : Slot). z.status) (sym q) ∙ lj)
    (ap (λ (z : Slot). z.block) (sym p) ∙ eb ∙ ap (λ (z : Slot). z.block) q) (ap (λ (z : Slot). z.number) (sym p) ∙ en ∙ ap (λ (z : Slot). z.number) q)

-- a new handle whose place nobody has
pub unique-new : (σ σ' : ℕ → Slot) (f : ℕ) → ((j : ℕ) → (j ≡ f → ⊥) → σ' j ≡ σ j) → ((j : ℕ) → (σ j).status ≡ Live → (σ j).block ≡ (σ' f).block → (σ j).number ≡ (σ' f).number → ⊥) → Unique σ → Unique σ'
unique-new σ σ' f others place u i j li lj eb en =
    by_test (eqb i f)
    (λ a. by_test (eqb j f)
    (λ b. eqb-true i f a ∙ sym (eqb-true j f b))
    (λ b. let q = others j (eqb-false j f b) in
    absurd (place j (ap (λ (z : Slot). z.status) (sym q) ∙ lj) (ap (λ (z : Slot). z.block) (sym q) ∙ sym eb ∙ ap (λ (x : ℕ). (σ' x).block) (eqb-true i f a)) (ap (λ (z : Slot). z.number) (sym q) ∙ sym en ∙ ap (λ (x : ℕ). (σ' x).number) (eqb-true i f a)))))
    (λ a. let p = others i (eqb-false i f a) in
    by_test (eqb j f)
    (λ b. absurd (place i (ap (λ (z : Slot). z.status) (sym p) ∙ li) (ap (λ (z : Slot). z.block) (sym p) ∙ eb ∙ ap (λ (x : ℕ). (σ' x).block) (eqb-true j f b)) (ap (λ (z : Slot). z.number) (sym p) ∙ en ∙ ap (λ (x : ℕ). (σ' x).number) (eqb-true j f b))))
    (λ b. let q = others j (eqb-false j f b) in
    u i j (ap (λ (z : Slot). z.status) (sym p) ∙ li) (ap (λ (z : Slot). z.status) (sym q) ∙ lj)
    (ap (λ (z : Slot). z.block) (sym p) ∙ eb ∙ ap (λ (z : Slot). z.block) q) (ap (λ (z : Slot). z.number) (sym p) ∙ en ∙ ap (λ (z : Slot). z.number) q)))
