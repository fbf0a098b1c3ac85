-- Every step on a sound pool does the machine's, and leaves the pool sound: what each stage plans can be done.
-- Rests on Working, Starting and PlannedStep; the rules say of each task where it reads, writes and fills.
use Rattle.std.specs.Prelude.{◌+◌, ◌<◌, ℕ, false, List, ◌≡◌, eqb, leb, ltb, Err, Ok, Result}
use Rattle.std.proofs.Common.{◌∙◌, ap, arith, eqb-true, leb-false, ltb-true}
use Rattle.std.proofs.Math.Path.{refl, subst⁻¹}
use Rattle.acts.specs.Acts.{Found}
use Rattle.rulebook.specs.declared.Hand.{Hand}
use Rattle.rulebook.specs.declared.Reading.{Reading}
use Rattle.rulebook.specs.declared.Sizes.{Sizes}
use Rattle.rulebook.specs.declared.Stage.{Stage}
use Rattle.rulebook.specs.declared.Task.{Task}
use Rattle.acts.specs.Plans.{after, free_in, goes, ticked}
use Rattle.acts.specs.StepPlans.{appends_entry, copy_goes, exchanges_on, fills_copy, fills_new, get_goes, gives_up, page_goes, page_settles, plan_at, plan_row, plan_step, puts, reads_old, takes, writes_new}
use Rattle.acts.specs.Sight.{Sight, sight_of}
use Rattle.acts.specs.Laws.{after_small}
use Rattle.block.specs.Fills.{fill-keeps, fill_next}
use Rattle.block.specs.Sound.{Filling, Laid}
use Rattle.layout.specs.Calls.{step_in}
use Rattle.layout.specs.Places.{block_part}
use Rattle.layout.specs.Pool.{slot_near, touch_near, touched_in, touched_near, view_of}
use Rattle.rulebook.specs.Machine.{Step, call}
use Rattle.rulebook.specs.State.{State, block_at, fills, free_block, idle, names, task_at}
use Rattle.rulebook.specs.Steps.{answer, moved, step}
use Rattle.rulebook.specs.Tests.{if_case}
use Rattle.rules.proofs.Facts.{a_copy, a_get, a_page, append-fits, doing_gets, reserved-slot, unsettled}
use Rattle.rules.specs.Paced.{TaskRange, paced-small}
use Rattle.bridge.specs.Alike.{step-alike}
use Rattle.bridge.specs.Asked.{Bridged}
use Rattle.bridge.specs.Doable.{Doable}
use Rattle.bridge.specs.Planned.{free_is}
use Rattle.bridge.specs.PlannedStep.{CellKept, Searching, Small, cell-kept, planned_step}
use Rattle.bridge.specs.Shown.{sight-shows, sound-shape, spans}
use Rattle.bridge.specs.Sound.{Sound, filled_to}
use Rattle.bridge.specs.Starting.{answers_act, called, ends_act, goes_act, quiet_act}
use Rattle.bridge.specs.Touching.{append-touches, exchange-touches, write-touches}
use Rattle.bridge.specs.Working.{fill-ends, fill_on, filled_so, filled-whole, finish_act, in_place, named-laid, near-fresh, near-t, took_act}
use Rattle.acts.specs.Acts as change
use Rattle.acts.specs.Touch as touch
use Rattle.rulebook.specs.declared.Progress.TheVariants as progress
use Rattle.rulebook.specs.declared.Reading.TheVariants as reading
use Rattle.rulebook.specs.declared.Stage.TheVariants as stage
use Rattle.rulebook.specs.declared.Reply.TheVariants as reply
use Rattle.rulebook.specs.declared.Damaged.{Damaged}
use Rattle.rulebook.specs.declared.Progress.{Progress}

module _ {d : Sizes} {p : List ℕ} (S : Sound d p) where
  abbrev s : State
  s = view_of d p

  abbrev f : Sight
  f = sight_of s

  -- a block has at most 4096 cells, and no task takes 1,000,000,000 steps
  small : (t : ℕ) → Small (task_at s t)
  unfolding view_of
  small t =
      let few = (spans d p S).cells in
      let r = S.paced.tasks t in
      record { steps = omega (arith, paced-small s S.paced few t); number = omega (arith, few, r.number_within); hand = omega (arith, few, r.hand_below) }

  module _ (t : ℕ) (in_t : t < d.t) where
    abbrev k : Task
    k = task_at s t

    abbrev range : TaskRange s.sizes (task_at s t)
    range = S.paced.tasks t

    -- ---- taking

    take_act : (x : Stage) → filled_to x d.n 0 ≡ 0 → Doable d p (takes (free_in f) f t (ticked k) x)
    unfolding takes gives_up sight_of ticked view_of
    take_act x e =
        subst⁻¹ (λ (y : Found). Doable d p (takes y f t (ticked k) x)) (free_is s (sound-shape d p S))
        (if_case (λ (y : Found). Doable d p (takes y f t (ticked k) x)) (ltb (free_block s) d.b) (λ q. took_act S t in_t x e (ltb-true _ _ q)) (λ _. ends_act S k.fresh _ t idle _ range.fresh_below in_t refl refl))

    -- ---- filling

    -- up to the cell after the one in hand
    filled_next : {w : List ℕ} → Filling (k.hand.cell + 1) d.n w → Filling (after k.hand.cell) d.n w
    filled_next {w} F = subst⁻¹ (λ (c : ℕ). Filling c d.n w) (after_small (small t).hand) F

    fill-new : k.stage ≡ stage.FillNew → Doable d p (fills_new f t (ticked k))
    unfolding fills_new sight_of ticked moved view_of
    fill-new q =
        let F = filled_next (fill_next (filled_so S t in_t stage.FillNew q refl) k.hand.cell k.value range.hand_below refl) in
        if_case (Doable d p) (eqb (after k.hand.cell) d.n)
        (λ e. finish_act S t in_t (touch.Fill k.target k.hand.cell k.value) k.target 0 (fill-ends S t in_t (ap fills q) k.hand.cell k.value range.hand_below (filled-whole (eqb-true _ _ e) F)))
        (λ e. fill_on S t in_t (ap fills q) k.hand.cell k.value range.hand_below _ _ refl (λ _. F))

    fill-copy : k.stage ≡ stage.FillCopy → Doable d p (fills_copy f.sizes.n t (ticked k))
    unfolding fills_copy sight_of ticked moved view_of
    fill-copy q =
        let F = filled_next (fill_next (filled_so S t in_t stage.FillCopy q refl) k.hand.cell (answer k.hand) range.hand_below refl) in
        if_case (λ (k' : Task). Doable d p (goes (touch.Fill k.target k.hand.cell (answer k.hand)) t k' reply.Quiet)) (eqb (after k.hand.cell) d.n)
        (λ e. fill_on S t in_t (ap fills q) k.hand.cell (answer k.hand) range.hand_below _ _ refl (λ _. filled-whole (eqb-true _ _ e) F))
        (λ e. fill_on S t in_t (ap fills q) k.hand.cell (answer k.hand) range.hand_below _ _ refl (λ _. F))

    put_act : k.stage ≡ stage.Put → Doable d p (puts f t (ticked k))
    unfolding puts ticked view_of
    put_act q =
        finish_act S t in_t (touch.Fill k.target k.cell k.value) k.target 0 (fill-ends S t in_t (ap fills q) k.cell k.value range.cell_below (fill-keeps (filled_so S t in_t stage.Put q refl) k.cell k.value range.cell_below))

    -- ---- a set in place

    exchange_act : k.stage ≡ stage.Exchange → Doable d p (exchanges_on (f.version k.block) f.sizes.n t (ticked k))
    unfolding exchanges_on sight_of ticked moved slot_near view_of
    exchange_act q =
        if_case (Doable d p) (eqb (block_at s k.block).version k.number)
        (λ e. let T = exchange-touches (spans d p S) k.block range.block_below k.number (eqb-true _ _ e) range.number_within in
        in_place S t in_t change.Same _ _ (ap names q) T.0 (T.1 (named-laid S t in_t (ap names q))) refl tt (if_case (λ (k' : Task). fills k'.stage ≡ false) (ltb k.number d.n) (λ _. refl) (λ _. refl)))
        (λ _. goes_act S t _ _ in_t refl)

    append_act : k.stage ≡ stage.Append → Doable d p (appends_entry t (ticked k))
    unfolding appends_entry ticked moved slot_near view_of
    append_act q =
        let T = append-touches (spans d p S) k.block range.block_below (named-laid S t in_t (ap names q)) (append-fits s S.rules t q).0 k.cell (record { version = k.number; old = k.hand.guess }) range.cell_below in
        in_place S t in_t change.Same _ _ (ap names q) T.0 T.1 refl tt refl

    write_act : k.stage ≡ stage.Write → Doable d p (writes_new f t (ticked k))
    unfolding writes_new ticked view_of
    write_act q =
        let T = write-touches (spans d p S) k.block range.block_below k.cell k.value range.cell_below in
        let L = T.1 (named-laid S t in_t (ap names q)) in
        finish_act S t in_t (touch.Write k.block k.cell k.value) k.block (after k.number) (λ serial r. in_place S t in_t (change.To k.fresh _) idle r (ap names q) T.0 L (near-fresh S t in_t _) (λ _. subst⁻¹ (Laid d.n) T.0.own L) refl)

    -- ---- reading

    get_goes_lem : (x : Result Progress Damaged) → Doable d p (get_goes x t (ticked k))
    unfolding get_goes moved
    get_goes_lem (Err _) = answers_act S _
    get_goes_lem (Ok (progress.Going r w)) = goes_act S t _ _ in_t refl
    get_goes_lem (Ok (progress.Settled w)) = goes_act S t _ _ in_t refl

    page_goes_lem : (x : Result Progress Damaged) → Doable d p (page_goes x t (ticked k))
    unfolding page_goes page_settles moved ticked
    page_goes_lem (Err _) = answers_act S _
    page_goes_lem (Ok (progress.Going r w)) = goes_act S t _ _ in_t refl
    page_goes_lem (Ok (progress.Settled w)) = if_case (Doable d p) (eqb (after w.cell) k.until) (λ _. goes_act S t _ _ in_t refl) (λ _. goes_act S t _ _ in_t refl)

    -- a copy has filled its block up to the cell that it reads
    copy-on : (y : Reading) → k.stage ≡ stage.Copying y → (x : Stage) (w : Hand) → filled_to x d.n w.cell ≡ w.cell → w.cell ≡ k.hand.cell → Doable d p (goes touch.Nothing t (moved (ticked k) x w) reply.Quiet)
    unfolding moved ticked slot_near touched_in touched_near touch_near
    copy-on y q x w o e =
        quiet_act S change.Same (change.To t _) _ refl (near-t S t in_t _) tt
        (λ _. subst⁻¹ (λ (c : ℕ). Filling c d.n (block_part p d k.target)) (o ∙ e) (filled_so S t in_t (stage.Copying y) q refl))

    copy_goes_lem : (y : Reading) → k.stage ≡ stage.Copying y → (x : Result Progress Damaged) → CellKept k.hand.cell x → Doable d p (copy_goes x t (ticked k))
    unfolding copy_goes
    copy_goes_lem y q (Err _) e = answers_act S _
    copy_goes_lem y q (Ok (progress.Going r w)) e = copy-on y q (stage.Copying r) w refl e
    copy_goes_lem y q (Ok (progress.Settled w)) e = copy-on y q stage.FillCopy w refl e

    -- ---- every stage

    stage_act : (x : Stage) → k.stage ≡ x → Doable d p (plan_at x f t (ticked k))
    unfolding plan_at
    stage_act stage.Idle q = answers_act S _
    stage_act stage.TakeNew q = take_act stage.FillNew refl
    stage_act stage.FillNew q = fill-new q
    stage_act (stage.Getting r) q = get_goes_lem _
    stage_act stage.Exchange q = unfold ticked in exchange_act q
    stage_act stage.Read q = unfold reads_old sight_of ticked moved in goes_act S t _ _ in_t refl
    stage_act stage.Append q = append_act q
    stage_act stage.Write q = write_act q
    stage_act stage.TakeCopy q = take_act (stage.Copying reading.Guess) refl
    stage_act (stage.Copying r) q = unfold ticked in copy_goes_lem r q _ (cell-kept s r (ticked k))
    stage_act stage.FillCopy q = fill-copy q
    stage_act stage.Put q = put_act q
    stage_act (stage.Paging r) q = page_goes_lem _

  step_act : (t : ℕ) → Doable d p (plan_step f t)
  unfolding plan_step plan_row sight_of view_of
  step_act t = if_case (Doable d p) (leb d.t t) (λ _. answers_act S _) (λ e. stage_act t (leb-false _ _ e) _ refl)

  -- ---- the bridge

  searching : (t : ℕ) (x : Stage) → (task_at s t).stage ≡ x → Searching x (task_at s t).hand
  searching t stage.Idle q = tt
  searching t stage.TakeNew q = tt
  searching t stage.FillNew q = tt
  searching t (stage.Getting r) q = unsettled r _ _ _ (doing_gets s S.rules t a_get q).hand_holds
  searching t stage.Exchange q = tt
  searching t stage.Read q = tt
  searching t stage.Append q = tt
  searching t stage.Write q = tt
  searching t stage.TakeCopy q = tt
  searching t (stage.Copying r) q = unsettled r _ _ _ (doing_gets s S.rules t a_copy q).hand_holds
  searching t stage.FillCopy q = tt
  searching t stage.Put q = tt
  searching t (stage.Paging r) q = unsettled r _ _ _ (doing_gets s S.rules t a_page q).hand_holds

  pub step_bridged : (t : ℕ) → Bridged d (step_in p t) (step (view_of d p) t)
  unfolding step_in call
  step_bridged t =
      let sh = sound-shape d p S in
      called S (λ e. plan_step e t) (Step t) (step-alike (sight-shows d p S) sh S.rules S.paced t) (step_act t)
      (planned_step s sh t (record { unsettled = searching t _ refl; spare = λ n. (reserved-slot s S.rules t n).2; small = small t }))
