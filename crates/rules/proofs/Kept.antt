-- The rules hold of a store exactly when theorems' invariant holds of the store without its amounts; so every call keeps them.
-- Rests on Blind and Logs.
use Rattle.std.specs.Prelude.{◌<◌, ◌≤◌, ℕ, true, List, ◌≡◌, refl}
use Rattle.std.proofs.Common.{◌∙◌, ap, subst, subst₂, sym, arith}
use Rattle.std.proofs.Math.Path.{fun_ext, subst⁻¹}
use Rattle.rulebook.specs.declared.Entry.{Entry}
use Rattle.rulebook.specs.declared.Reading.{Reading}
use Rattle.rulebook.specs.declared.Stage.{Stage}
use Rattle.rulebook.specs.declared.Stage.TheVariants.{Append, Copying, Exchange, FillCopy, FillNew, Getting, Idle, Paging, Put, Read, TakeCopy, TakeNew, Write}
use Rattle.rulebook.specs.declared.Status.TheVariants.{Live}
use Rattle.rulebook.specs.declared.Task.{Task}
use Rattle.rulebook.specs.Machine.{Call, call}
use Rattle.rulebook.specs.Starts.{Lie, opened}
use Rattle.rulebook.specs.State.{Block, State, block_at, fills, log_at, names, reserves, slot_at, task_at, writes}
use Rattle.rulebook.specs.Steps.{here_of}
use Rattle.theorems.specs.Invariant.Calls.{inv-call, inv-opened}
use Rattle.theorems.specs.Invariant.Facts.{ok-filler, ok-fresh, ok_named, ok-writer}
use Rattle.theorems.specs.Invariant.Moves.{Inv, InvS}
use Rattle.theorems.specs.Invariant.Shape.{Shape}
use Rattle.theorems.specs.Invariant.Tasks.{Copied, Covered, Early, Filler, Fresh, Holds, Named, OkAt, Reads, Stands, Writer}
use Rattle.theorems.specs.Proofs.Valid.{not_two}
use Rattle.theorems.specs.Reading.Get.{Good}
use Rattle.theorems.specs.Terms.{Valid, entries, value_at}
use Rattle.rules.specs.Blind.{erase_call_lem, erase-opened}
use Rattle.rules.specs.Erase.{erase, erase-answer, erase_block_lem, erase-cell, erase_log_lem, erase-shape, erase_task_lem, erase_block, erase_call, erase_hand, erase_lie, erase_log, erase_task}
use Rattle.rules.proofs.Logs.{AtMost, InOne, Rising, Under, UnderBut, empty-log, erase-value, from-covered, from_erased, from-good, to-covered, to_erased, to-good}
use Rattle.rules.specs.Rules.{Fills, Gets, Rules, TaskRule, ToAppend, Unspent}

module _ (s : State) where
  -- the erased store, task by task and block by block
  abbrev τ : ℕ → Task
  τ t = erase_task (task_at s t)

  abbrev β : ℕ → Block
  β k = erase_block (block_at s k)

  abbrev pub Structure : Type 0
  Structure = Inv s.sizes.n s.sizes.h s.sizes.b (slot_at s) τ β

  abbrev InvOf : (ℕ → Task) → (ℕ → Block) → Type 0
  InvOf x y = Inv s.sizes.n s.sizes.h s.sizes.b (slot_at s) x y

  to-structure : InvS (erase s) → Structure
  to-structure iv = subst₂ InvOf (fun_ext (erase_task_lem s)) (fun_ext (erase_block_lem s)) iv

  from-structure : Structure → InvS (erase s)
  from-structure iv = subst₂ InvOf (sym (fun_ext (erase_task_lem s))) (sym (fun_ext (erase_block_lem s))) iv

  -- ---- from the rules

  -- the cells below c are written, and f of them is 0
  to-holds : (c : ℕ) (k : Task) (f : ℕ → ℕ) → ((i : ℕ) → f i ≡ 0) → Fills s c k → Holds (β k.target) c f
  to-holds c k f zeros h i q =
      let b = block_at s k.target in
      (erase_log_lem b i ∙ ap erase_log (h.emptied i q), erase-cell b i ∙ sym (zeros i))

  to-copied : (c : ℕ) (k : Task) → Fills s c k → Copied c β k.target k.block k.number
  to-copied c k h = to-holds c k _ (erase-value (here_of s k) k.number) h

  to_reads : (r : Reading) (k : Task) → Gets s r k → Reads s.sizes.n r (β k.block) k.number (erase_hand k.hand)
  to_reads r k h =
      let b = here_of s k in
      let c = k.hand.cell in
      record {
        in_n = h.cell_in_n;
        good = subst₂ (λ (l : List Entry) (x : ℕ). Good r l k.number (erase_hand k.hand) x) (sym (erase_log_lem b c)) (sym (erase-value b k.number c))
            (to-good (log_at b c) k.number k.hand r h.hand_holds);
      }

  module _ (v : Valid s) where
    to-stands : (j : ℕ) → (slot_at s j).status ≡ Live → Stands s.sizes.n s.sizes.b β (slot_at s j).block (slot_at s j).number
    to-stands j l =
        let b = block_at s (slot_at s j).block in
        let few = v.few_entries j l in
        record {
          in_b = v.below_b j l;
          reach = v.at_most_v j l;
          small = v.at_most_n j l;
          top = v.v_at_most j l;
          rises = to_erased Rising b (v.rising j l);
          below = to_erased (Under b.version) b (v.below_v j l);
          few = to_erased (AtMost b.version) b (omega arith);
          few_cells = to_erased (AtMost s.sizes.n) b (omega arith);
          distinct = to_erased InOne b (λ i k p q d hp hq e. d (v.in_one_log j l i k p q hp hq e));
        }

    module _ (t : ℕ) where
      abbrev k : Task
      k = task_at s t

      to_named : names k.stage ≡ true → Named (slot_at s) k.slot k.block k.number
      to_named n = let r = v.named_live t n in record { lives = r.0; on = r.1; at = r.2 }

      to-fresh : reserves k.stage ≡ true → Unspent s k → Fresh s.sizes.h (slot_at s) k.fresh
      to-fresh n u = let r = v.slot_is_reserved t n in record { in_h = r.0; slot_is_reserved = r.1; spare = u }

      to-writer : writes k.stage ≡ true → k.number < s.sizes.n → Writer s.sizes.n (slot_at s) β k.block k.number
      to-writer w small = record { raised = v.just_raised t w; room = small; oldest = λ j l o. v.none_above t j w l o }

      to-filler : (c : ℕ) → fills k.stage ≡ true → Fills s c k → Filler s.sizes.b (slot_at s) β k.target
      to-filler c f h = record { in_b = h.target_in_b; alone = λ j l o. v.none_on_it t j f l o; start = h.at_zero }

      to-ok : (g : Stage) → k.stage ≡ g → TaskRule s g k → OkAt s.sizes.n s.sizes.h s.sizes.b g (slot_at s) β (τ t)
      to-ok Idle e h = tt
      to-ok TakeNew e h = (to-fresh (ap reserves e) h.0, h.1)
      to-ok FillNew e h = (to-fresh (ap reserves e) h.0, to-filler _ (ap fills e) h.1, to-holds _ k _ (λ i. refl) h.1, h.2)
      to-ok (Getting r) e h = (to_named (ap names e), to_reads r k h)
      to-ok Exchange e h = (to_named (ap names e), to-fresh (ap reserves e) h.0, h.1)
      to-ok Read e h =
          (to_named (ap names e), to-fresh (ap reserves e) h.0, h.1, to-writer (ap writes e) h.2.room, to_erased (Under k.number) (here_of s k) h.2.all_older, to_erased (AtMost k.number) (here_of s k) h.2.few)
      to-ok Append e h =
          (to_named (ap names e), to-fresh (ap reserves e) h.0, h.1, to-writer (ap writes e) h.2.room, to_erased (Under k.number) (here_of s k) h.2.all_older, sym (erase-cell (here_of s k) k.cell), to_erased (AtMost k.number) (here_of s k) h.2.few)
      to-ok Write e h =
          (to_named (ap names e), to-fresh (ap reserves e) h.0, h.1, to-writer (ap writes e) h.2.room, subst⁻¹ (λ (l : List Entry). Covered l k.number) (erase_log_lem (here_of s k) k.cell) (to-covered (log_at (here_of s k) k.cell) k.number h.2.appended), to_erased (UnderBut k.cell k.number) (here_of s k) h.2.others_older)
      to-ok TakeCopy e h = (to_named (ap names e), to-fresh (ap reserves e) h.0, h.1, h.2)
      to-ok (Copying r) e h =
          (to_named (ap names e), to-fresh (ap reserves e) h.0, h.1, to-filler _ (ap fills e) h.3, to-copied _ k h.3, to_reads r k h.4, h.2)
      to-ok FillCopy e h =
          (to_named (ap names e), to-fresh (ap reserves e) h.0, h.1, to-filler _ (ap fills e) h.3, to-copied _ k h.3, h.4, erase-answer k.hand ∙ sym (erase-value (here_of s k) k.number k.hand.cell), h.2)
      to-ok Put e h =
          (to_named (ap names e), to-fresh (ap reserves e) h.0, h.1, to-filler _ (ap fills e) h.2, to-copied _ k h.2)
      to-ok (Paging r) e h = (to_named (ap names e), to_reads r k h.0, h.1, h.2)

  pub structure : Rules s → Structure
  structure h =
      let v = h.valid in
      record {
        stands = to-stands v;
        oks = λ t. to-ok v t (task_at s t).stage refl (h.tasks t);
        apart = λ t u d. record { a_write = λ p q e. d (v.one_writer t u p q e); a_fill = λ p q e. d (v.one_filler t u p q e); a_fresh = λ p q e. d (v.own_slot t u p q e) };
        unique = v.apart;
        owned = v.one_owner;
      }

  pub rules-inv : Rules s → InvS (erase s)
  rules-inv h = from-structure (structure h)

  -- ---- from the invariant

  from-fills : (c : ℕ) (k : Task) (f : ℕ → ℕ) → Filler s.sizes.b (slot_at s) β k.target → Holds (β k.target) c f → Fills s c k
  from-fills c k f h e = record { target_in_b = h.in_b; at_zero = h.start; emptied = λ i q. empty-log (block_at s k.target) i (e i q).0 }

  from-reads : (r : Reading) (k : Task) → Reads s.sizes.n r (β k.block) k.number (erase_hand k.hand) → Gets s r k
  from-reads r k h =
      let b = here_of s k in
      let c = k.hand.cell in
      let x = value_at (β k.block) k.number c in
      record {
        cell_in_n = h.in_n;
        hand_holds = from-good (log_at b c) k.number k.hand r x (subst (λ (l : List Entry). Good r l k.number (erase_hand k.hand) x) (erase_log_lem b c) h.good);
      }

  to_append : (k : Task) → k.number < s.sizes.n → Early (β k.block) k.number → entries (β k.block).logs ≤ k.number → ToAppend s k
  to_append k small early few =
      record { room = small; all_older = from_erased (Under k.number) (here_of s k) early; few = from_erased (AtMost k.number) (here_of s k) few }

  from-ok : (g : Stage) (k : Task) → OkAt s.sizes.n s.sizes.h s.sizes.b g (slot_at s) β (erase_task k) → TaskRule s g k
  from-ok Idle k h = tt
  from-ok TakeNew k h = (h.0.spare, h.1)
  from-ok FillNew k h = (h.0.spare, from-fills _ k _ h.1 h.2, h.3)
  from-ok (Getting r) k h = from-reads r k h.1
  from-ok Exchange k h = (h.1.spare, h.2)
  from-ok Read k h = (h.1.spare, h.2, to_append k h.3.room h.4 h.5)
  from-ok Append k h = (h.1.spare, h.2, to_append k h.3.room h.4 h.6)
  from-ok Write k h =
      (h.1.spare, h.2, record { room = h.3.room; others_older = from_erased (UnderBut k.cell k.number) (here_of s k) h.5; appended = from-covered (log_at (here_of s k) k.cell) k.number (subst (λ (l : List Entry). Covered l k.number) (erase_log_lem (here_of s k) k.cell) h.4) })
  from-ok TakeCopy k h = (h.1.spare, h.2, h.3)
  from-ok (Copying r) k h = (h.1.spare, h.2, h.6, from-fills _ k _ h.3 h.4, from-reads r k h.5)
  from-ok FillCopy k h = (h.1.spare, h.2, h.7, from-fills _ k _ h.3 h.4, h.5)
  from-ok Put k h = (h.1.spare, h.2, from-fills _ k _ h.3 h.4)
  from-ok (Paging r) k h = (from-reads r k h.1, h.2, h.3)

  from-valid : Structure → Valid s
  from-valid iv =
      record {
        below_b = λ j l. (iv.stands j l).in_b;
        at_most_v = λ j l. (iv.stands j l).reach;
        at_most_n = λ j l. (iv.stands j l).small;
        v_at_most = λ j l. (iv.stands j l).top;
        below_v = λ j l. let b = on j in from_erased (Under b.version) b (iv.stands j l).below;
        rising = λ j l. from_erased Rising (on j) (iv.stands j l).rises;
        in_one_log = λ j l i k p q hp hq e. not_two i k (λ d. from_erased InOne (on j) (iv.stands j l).distinct i k p q d hp hq e);
        few_entries = λ j l. let b = on j in
            omega (arith, from_erased (AtMost b.version) b (iv.stands j l).few, from_erased (AtMost s.sizes.n) b (iv.stands j l).few_cells);
        apart = iv.unique;
        named_live = λ t n. let h = ok_named _ _ _ _ _ (τ t) (task_at s t).stage n (iv.oks t) in (h.lives, h.on, h.at);
        one_owner = iv.owned;
        own_slot = λ t u a b e. not_two t u (λ d. (iv.apart t u d).a_fresh a b e);
        slot_is_reserved = λ t r. let h = ok-fresh _ _ _ _ _ (τ t) (task_at s t).stage r (iv.oks t) in (h.in_h, h.slot_is_reserved);
        one_filler = λ t u a b e. not_two t u (λ d. (iv.apart t u d).a_fill a b e);
        none_on_it = λ t j f l o. (ok-filler _ _ _ _ _ (τ t) (task_at s t).stage f (iv.oks t)).alone j l o;
        one_writer = λ t u a b e. not_two t u (λ d. (iv.apart t u d).a_write a b e);
        just_raised = λ t w. (ok-writer _ _ _ _ _ (τ t) (task_at s t).stage w (iv.oks t)).1.raised;
        none_above = λ t j w l o. (ok-writer _ _ _ _ _ (τ t) (task_at s t).stage w (iv.oks t)).1.oldest j l o;
      }
    where
      on : ℕ → Block
      on j = block_at s (slot_at s j).block

  pub inv-rules : InvS (erase s) → Rules s
  inv-rules iv = let h = to-structure iv in record { valid = from-valid h; tasks = λ t. from-ok (task_at s t).stage (task_at s t) (h.oks t) }

-- ---- so they are kept

-- an opened store has the rules
pub rules-opened : (n h t w : ℕ) (lie : Lie) → Rules (opened n h t w lie)
rules-opened n h t w lie = inv-rules (opened n h t w lie) (subst InvS (sym (erase-opened n h t w lie)) (inv-opened n h t w (erase_lie lie)))

-- every call keeps them, from whatever store has them
pub rules-call : (c : Call) (s : State) → Shape s → Rules s → Rules (call c s).0
rules-call c s sh h = inv-rules (call c s).0 (subst InvS (sym (erase_call_lem c s)) (inv-call (erase_call c) (erase s) (erase-shape s sh) (rules-inv s h)))
