-- A step that changes one task, or one task and one block; the steps of a get, a page and a copy's reading keep the invariant.
-- Rests on Moves, Facts and Blocks.
use Rattle.std.specs.Prelude.{◌+◌, ◌<◌, ◌≤◌, ℕ, false, true, ◌≡◌, eqb}
use Rattle.std.proofs.lemmas.Bool.{false≢true}
use Rattle.std.proofs.Common.{◌∙◌, sym, arith}
use Rattle.std.proofs.Math.Path.{ap, refl, subst}
use Rattle.std.proofs.Math.ListN.{length}
use Rattle.std.proofs.Math.Seq.{get_or-set_other, get_or-set_same}
use borrow.Author.Tests.{eqb-false, eqb-true}
use Rattle.rulebook.specs.declared.Progress.{Progress}
use Rattle.rulebook.specs.declared.Progress.TheVariants.{Going, Settled}
use Rattle.rulebook.specs.declared.Reading.{Reading}
use Rattle.rulebook.specs.declared.Reading.TheVariants.{Guess}
use Rattle.rulebook.specs.declared.Stage.{Stage}
use Rattle.rulebook.specs.declared.Stage.TheVariants.{Copying, FillCopy, Getting, Idle, Paging}
use Rattle.rulebook.specs.declared.Status.TheVariants.{Live}
use Rattle.rulebook.specs.declared.Task.{Task}
use Rattle.rulebook.specs.State.{Block, Result, State, block_at, fills, idle, log_at, names, no_block, reserves, slot_at, task_at, with_block, with_task, writes}
use Rattle.rulebook.specs.Steps.{counted, get_step, got_copy, got_get, got_page, here_of, moved}
use Rattle.rulebook.specs.Tests.{by_test, if_case}
use Rattle.theorems.specs.Invariant.Blocks.{no_flags, reads-after}
use Rattle.theorems.specs.Invariant.Facts.{every_at, ok-filler, ok-fresh, ok_named, ok-writer}
use Rattle.theorems.specs.Invariant.Moves.{Apart, Carries, Goes, InvS, Same, apart_keep, frame-block, frame_same, inv_move, named-stands, owned-on, same_refl, stands-other}
use Rattle.theorems.specs.Invariant.Shape.{Shape, Wide}
use Rattle.theorems.specs.Invariant.Tasks.{Copied, Fresh, Keeps, Named, OkAt, Reads, Stands, Writer}
use Rattle.theorems.specs.Reading.Get.{After, get_step_lem}
use Rattle.theorems.specs.Terms.{value_at}

module _ (s : State) (sh : Shape s) (iv : InvS s) (t : ℕ) (in_t : t < s.sizes.t) where
  pub in_tasks : t < length s.tasks
  in_tasks = omega (arith, sh.tasks_len)

  abbrev pub Ok : Stage → Task → Type 0
  Ok g k = OkAt s.sizes.n s.sizes.h s.sizes.b g (slot_at s) (block_at s) k

  abbrev pub Others : Stage → Task → Type 0
  Others g k = (u : ℕ) → (u ≡ t → ⊥) → Apart g k (task_at s u).stage (task_at s u)

  pub my_ok : (g : Stage) → (task_at s t).stage ≡ g → Ok g (task_at s t)
  my_ok g e = subst (λ (x : Stage). Ok x (task_at s t)) e (iv.oks t)

  pub my_apart : (g : Stage) → (task_at s t).stage ≡ g → Others g (task_at s t)
  my_apart g e u d = subst (λ (x : Stage). Apart x (task_at s t) (task_at s u).stage (task_at s u)) e (iv.apart t u (λ q. d (sym q)))

  pub my_stands : {j b n : ℕ} → Named (slot_at s) j b n → Stands s.sizes.n s.sizes.b (block_at s) b n
  my_stands h = named-stands s.sizes.n s.sizes.h s.sizes.b (slot_at s) (task_at s) (block_at s) _ _ _ iv h

  pub wide_at : (b : ℕ) → b < s.sizes.b → Wide s.sizes.n (block_at s b)
  wide_at b h = every_at sh.wide b no_block (omega (arith, sh.blocks_len))

  -- a task at a stage that reserves nothing may become anything
  pub carries-none : {A : Type 0} (g : Stage) → (task_at s t).stage ≡ g → reserves g ≡ false → reserves (task_at s t).stage ≡ true → A
  carries-none g e n r = absurd (false≢true (sym n ∙ ap reserves (sym e) ∙ r))

  -- only the task changes
  pub quiet : (k : Task) → Carries (task_at s t) k → Ok k.stage k → Others k.stage k → Goes s (with_task s t k)
  unfolding with_task
  quiet k carries own apart = (
    inv_move s.sizes.n s.sizes.h s.sizes.b (slot_at s) (slot_at s) (task_at s) (task_at (with_task s t k)) (block_at s) (block_at s) t k iv
        (get_or-set_same s.tasks t k idle in_tasks)
        (λ u d. get_or-set_other s.tasks t u k idle d)
        iv.stands own (λ u d. frame_same _ _ _ _) apart iv.unique
        (λ j r. owned-on (task_at s) (task_at (with_task s t k)) t (λ u d. get_or-set_other s.tasks t u k idle d) j k (get_or-set_same s.tasks t k idle in_tasks) carries (iv.owned j r)),
    same_refl s,
  )

  pub same_block : (b : ℕ) (x : Block) → b < s.sizes.b → block_at (with_block s b x) b ≡ x
  unfolding with_block
  same_block b x h = get_or-set_same s.blocks b x no_block (omega (arith, sh.blocks_len))

  pub other_block : (b : ℕ) (x : Block) (c : ℕ) → (c ≡ b → ⊥) → block_at (with_block s b x) c ≡ block_at s c
  unfolding with_block
  other_block b x c d = get_or-set_other s.blocks b c x no_block d

  -- a live handle on block b
  pub on-block : (b j : ℕ) → (slot_at s j).status ≡ Live → (slot_at s j).block ≡ b → Stands s.sizes.n s.sizes.b (block_at s) b (slot_at s j).number
  on-block b j l o = subst (λ (c : ℕ). Stands s.sizes.n s.sizes.b (block_at s) c (slot_at s j).number) o (iv.stands j l)

  pub u_named : (u : ℕ) → names (task_at s u).stage ≡ true → Named (slot_at s) (task_at s u).slot (task_at s u).block (task_at s u).number
  u_named u n = ok_named s.sizes.n s.sizes.h s.sizes.b (slot_at s) (block_at s) (task_at s u) (task_at s u).stage n (iv.oks u)

  pub u_fresh : (u : ℕ) → reserves (task_at s u).stage ≡ true → Fresh s.sizes.h (slot_at s) (task_at s u).fresh
  u_fresh u n = ok-fresh s.sizes.n s.sizes.h s.sizes.b (slot_at s) (block_at s) (task_at s u) (task_at s u).stage n (iv.oks u)

  pub u_writer : (u : ℕ) → writes (task_at s u).stage ≡ true → Named (slot_at s) (task_at s u).slot (task_at s u).block (task_at s u).number × Writer s.sizes.n (slot_at s) (block_at s) (task_at s u).block (task_at s u).number
  u_writer u n = ok-writer s.sizes.n s.sizes.h s.sizes.b (slot_at s) (block_at s) (task_at s u) (task_at s u).stage n (iv.oks u)

  -- what the handles on a block keep, the tasks that name them keep
  pub u_keeps : (b : ℕ) (x : Block) → ((j : ℕ) → (slot_at s j).status ≡ Live → (slot_at s j).block ≡ b → Keeps (slot_at s j).number (block_at s b) x)
      → (u : ℕ) → names (task_at s u).stage ≡ true → (task_at s u).block ≡ b → Keeps (task_at s u).number (block_at s b) x
  u_keeps b x keeps u n e =
      let h = u_named u n in
      subst (λ (m : ℕ). Keeps m (block_at s b) x) h.at (keeps (task_at s u).slot h.lives (h.on ∙ e))

  -- the handles' tables stay
  pub see_block : (b : ℕ) (x : Block) → b < s.sizes.b → ((j : ℕ) → (slot_at s j).status ≡ Live → (slot_at s j).block ≡ b → Keeps (slot_at s j).number (block_at s b) x) → Same s (with_block s b x)
  unfolding with_block
  see_block b x in_b keeps j l = (
    refl,
    (λ i. by_test (eqb (slot_at s j).block b)
        (λ e. let o = eqb-true _ b e in
        ap (λ (c : ℕ). value_at (block_at (with_block s b x) c) (slot_at s j).number i) o ∙ ap (λ (y : Block). value_at y (slot_at s j).number i) (same_block b x in_b) ∙ (keeps j l o).same i ∙ ap (λ (c : ℕ). value_at (block_at s c) (slot_at s j).number i) (sym o))
        (λ e. ap (λ (y : Block). value_at y (slot_at s j).number i) (other_block b x _ (eqb-false _ b e)))),
    λ i. by_test (eqb (slot_at s j).block b)
        (λ e. let o = eqb-true _ b e in
        subst (λ (c : ℕ). length (log_at (block_at s c) i) ≤ length (log_at (block_at (with_block s b x) c) i)) (sym o)
        (subst (λ (y : Block). length (log_at (block_at s b) i) ≤ length (log_at y i)) (sym (same_block b x in_b)) ((keeps j l o).grows i)))
        (λ e. subst (λ (y : Block). length (log_at (block_at s (slot_at s j).block) i) ≤ length (log_at y i)) (sym (other_block b x _ (eqb-false _ b e))) (omega arith)),
  )

  -- the task and one block change
  pub block_too : (b : ℕ) (x : Block) (k : Task) → Carries (task_at s t) k → b < s.sizes.b
      → ((j : ℕ) → (slot_at s j).status ≡ Live → (slot_at s j).block ≡ b → Stands s.sizes.n s.sizes.b (block_at (with_block s b x)) b (slot_at s j).number)
      → OkAt s.sizes.n s.sizes.h s.sizes.b k.stage (slot_at s) (block_at (with_block s b x)) k
      → ((j : ℕ) → (slot_at s j).status ≡ Live → (slot_at s j).block ≡ b → Keeps (slot_at s j).number (block_at s b) x)
      → ((u : ℕ) → (u ≡ t → ⊥) → writes (task_at s u).stage ≡ true → (task_at s u).block ≡ b → ⊥)
      → ((u : ℕ) → (u ≡ t → ⊥) → fills (task_at s u).stage ≡ true → (task_at s u).target ≡ b → ⊥)
      → Others k.stage k
      → Goes s (with_task (with_block s b x) t k)
  unfolding with_task with_block
  block_too b x k carries in_b on own keeps no_write no-fill apart = (
    inv_move s.sizes.n s.sizes.h s.sizes.b (slot_at s) (slot_at s) (task_at s) (task_at (with_task s t k)) (block_at s) (block_at (with_block s b x)) t k iv
        (get_or-set_same s.tasks t k idle in_tasks)
        (λ u d. get_or-set_other s.tasks t u k idle d)
        (λ j l. by_test (eqb (slot_at s j).block b)
        (λ e. subst (λ (c : ℕ). Stands s.sizes.n s.sizes.b (block_at (with_block s b x)) c (slot_at s j).number) (sym (eqb-true _ b e)) (on j l (eqb-true _ b e)))
        (λ e. stands-other _ _ (other _ (eqb-false _ b e)) (iv.stands j l)))
        own
        (λ u d. frame-block _ (slot_at s) (block_at s) (block_at (with_block s b x)) b (task_at s u) other
        (λ n e. subst (Keeps (task_at s u).number (block_at s b)) (sym same) (u_keeps b x keeps u n e)) (no_write u d) (no-fill u d))
        apart iv.unique
        (λ j r. owned-on (task_at s) (task_at (with_task s t k)) t (λ u d. get_or-set_other s.tasks t u k idle d) j k (get_or-set_same s.tasks t k idle in_tasks) carries (iv.owned j r)),
    see_block b x in_b keeps,
  )
    where
      other : (c : ℕ) → (c ≡ b → ⊥) → block_at (with_block s b x) c ≡ block_at s c
      other c d = get_or-set_other s.blocks b c x no_block d

      same : block_at (with_block s b x) b ≡ x
      same = get_or-set_same s.blocks b x no_block (omega (arith, sh.blocks_len))

  -- no task but this one fills the block of a handle that this one names
  pub named-no-fill : {j b n : ℕ} → Named (slot_at s) j b n → (u : ℕ) → fills (task_at s u).stage ≡ true → (task_at s u).target ≡ b → ⊥
  named-no-fill {j} h u f e =
      (ok-filler s.sizes.n s.sizes.h s.sizes.b (slot_at s) (block_at s) (task_at s u) (task_at s u).stage f (iv.oks u)).alone j h.lives (h.on ∙ sym e)

  -- ---- reading

  pub got_get_lem : (q : Progress) (r : Reading) → (task_at s t).stage ≡ Getting r → (task_at s t).hand.cell < s.sizes.n → Named (slot_at s) (task_at s t).slot (task_at s t).block (task_at s t).number
      → After (log_at (here_of s (task_at s t)) (task_at s t).hand.cell) (task_at s t).number (task_at s t).hand.cell (value_at (here_of s (task_at s t)) (task_at s t).number (task_at s t).hand.cell) q
      → Goes s (got_get q s t (counted (task_at s t))).0
  unfolding got_get moved counted
  got_get_lem (Going r w) r' e in_n named a =
      quiet _ (carries-none (Getting r') e refl) (named, reads-after _ _ _ _ r w in_n a) (λ u d. no_flags (Getting r) _ _ _ refl refl refl)
  got_get_lem (Settled w) r' e in_n named a = quiet idle (carries-none (Getting r') e refl) tt (λ u d. no_flags Idle _ _ _ refl refl refl)

  pub got_page_lem : (q : Progress) (r : Reading) → (task_at s t).stage ≡ Paging r → Ok (Paging Guess) (task_at s t) → (task_at s t).hand.cell < s.sizes.n
      → After (log_at (here_of s (task_at s t)) (task_at s t).hand.cell) (task_at s t).number (task_at s t).hand.cell (value_at (here_of s (task_at s t)) (task_at s t).number (task_at s t).hand.cell) q
      → Goes s (got_page q s t (counted (task_at s t))).0
  unfolding got_page moved counted
  got_page_lem (Going r w) r' e h in_n a =
      quiet _ (carries-none (Paging r') e refl) (h.0, reads-after _ _ _ _ r w in_n a, omega (arith, a.1, h.2), h.3) (λ u d. no_flags (Paging r) _ _ _ refl refl refl)
  got_page_lem (Settled w) r' e h in_n a =
      if_case (λ (x : Result). Goes s x.0) (eqb (w.cell + 1) (task_at s t).until)
      (λ _. quiet idle (carries-none (Paging r') e refl) tt (λ u d. no_flags Idle _ _ _ refl refl refl))
      (λ p. let more : w.cell + 1 < (task_at s t).until = omega (arith, eqb-false _ (task_at s t).until p, a.1, h.2) in
      quiet _ (carries-none (Paging r') e refl) (h.0, record { in_n = omega (arith, h.3); good = tt }, more, h.3) (λ u d. no_flags (Paging Guess) _ _ _ refl refl refl))

  pub got_copy_lem : (q : Progress) → ((r : Reading) → Reads s.sizes.n r (here_of s (task_at s t)) (task_at s t).number (task_at s t).hand → Ok (Copying r) (task_at s t)) → Others (Copying Guess) (task_at s t) → (task_at s t).hand.cell < s.sizes.n
      → After (log_at (here_of s (task_at s t)) (task_at s t).hand.cell) (task_at s t).number (task_at s t).hand.cell (value_at (here_of s (task_at s t)) (task_at s t).number (task_at s t).hand.cell) q
      → Goes s (got_copy q s t (counted (task_at s t))).0
  unfolding got_copy moved counted
  got_copy_lem (Going r w) h o in_n a =
      let k = h Guess (record { in_n = in_n; good = tt }) in
      quiet _ (λ _. (refl, refl)) (k.0, k.1, k.2, k.3, subst (λ (c : ℕ). Copied c (block_at s) (task_at s t).target (task_at s t).block (task_at s t).number) (sym a.1) k.4, reads-after _ _ _ _ r w in_n a, k.6)
      (λ u d. apart_keep (Copying Guess) (Copying r) _ (task_at s t) _ _ refl refl refl (λ p. p) (λ p. p) (λ p. p) (o u d))
  got_copy_lem (Settled w) h o in_n a =
      let k = h Guess (record { in_n = in_n; good = tt }) in
      quiet _ (λ _. (refl, refl)) (k.0, k.1, k.2, k.3, subst (λ (c : ℕ). Copied c (block_at s) (task_at s t).target (task_at s t).block (task_at s t).number) (sym a.1) k.4, omega (arith, a.1), a.0 ∙ ap (value_at (here_of s (task_at s t)) (task_at s t).number) (sym a.1), k.6)
      (λ u d. apart_keep (Copying Guess) FillCopy _ (task_at s t) _ _ refl refl refl (λ p. p) (λ p. p) (λ p. p) (o u d))

  -- the get's own step, for any task that reads
  pub read-on : (r : Reading) → Named (slot_at s) (task_at s t).slot (task_at s t).block (task_at s t).number → Reads s.sizes.n r (here_of s (task_at s t)) (task_at s t).number (task_at s t).hand
      → After (log_at (here_of s (task_at s t)) (task_at s t).hand.cell) (task_at s t).number (task_at s t).hand.cell (value_at (here_of s (task_at s t)) (task_at s t).number (task_at s t).hand.cell) (get_step r (here_of s (task_at s t)) (task_at s t).number (task_at s t).hand)
  read-on r named h =
      get_step_lem (here_of s (task_at s t)) (task_at s t).number _ (task_at s t).hand ((my_stands named).rises _) ((my_stands named).below _) refl r h.good
