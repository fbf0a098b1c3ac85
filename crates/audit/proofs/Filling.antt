-- Rule 7's words of blocks being filled: where each task's own facts hold, only the bump is left to ask.
-- Rests on Fillers, Ways and DecideBlocks.
use Rattle.std.specs.Prelude.{◌<◌, ℕ, true, List, ◌≡◌, eqb, length}
use Rattle.std.proofs.lemmas.Bool.{false≢true}
use Rattle.std.proofs.Common.{◌∙◌, ap, subst}
use Rattle.std.proofs.Math.Path.{sym}
use Rattle.rulebook.specs.declared.Sizes.{Sizes}
use Rattle.rulebook.specs.declared.Stage.{Stage}
use Rattle.rulebook.specs.declared.Task.{Task}
use Rattle.block.specs.Layout.{bump_of, length_of}
use Rattle.block.specs.Reads.{log-length_at}
use Rattle.layout.specs.Keeps.{block-sized}
use Rattle.bridge.specs.Sound.{filled_to}
use Rattle.layout.specs.Places.{block_part, task_part}
use Rattle.layout.specs.Pool.{view_of}
use Rattle.layout.specs.Rows.{task_read}
use Rattle.layout.specs.View.{view_block_at}
use Rattle.rulebook.specs.State.{Block, fills, log_at}
use Rattle.rules.specs.Paced.{TaskRange}
use Rattle.rules.specs.Rules.{Fills, TaskRule}
use Rattle.survey.specs.Holds.{filling_in}
use Rattle.survey.proofs.Deciding.{decide_as, decide_eq, same}
use Rattle.survey.proofs.DecideBlocks.{filling_decides}
use Rattle.survey.specs.Rules.{shown, task}
use Rattle.survey.proofs.Ways.{task_as}
use Rattle.rulebook.specs.declared.Stage.TheVariants as stage
use Rattle.audit.specs.Fillers.{Facts}

module _ (d : Sizes) (p : List ℕ) where
  -- a task that fills has filled up to where its stage says
  fills_to : (g : Stage) (k : Task) → fills g ≡ true → TaskRule (shown d p) g k → Fills (shown d p) (filled_to g d.n k.hand.cell) k
  unfolding view_of
  fills_to stage.Idle k e r = absurd (false≢true e)
  fills_to stage.TakeNew k e r = absurd (false≢true e)
  fills_to stage.FillNew k e r = r.1
  fills_to (stage.Getting x) k e r = absurd (false≢true e)
  fills_to stage.Exchange k e r = absurd (false≢true e)
  fills_to stage.Read k e r = absurd (false≢true e)
  fills_to stage.Append k e r = absurd (false≢true e)
  fills_to stage.Write k e r = absurd (false≢true e)
  fills_to stage.TakeCopy k e r = absurd (false≢true e)
  fills_to (stage.Copying x) k e r = r.3
  fills_to stage.FillCopy k e r = r.3
  fills_to stage.Put k e r = r.2
  fills_to (stage.Paging x) k e r = absurd (false≢true e)

  module _ (s : Facts d p) (t : ℕ) (k : Task) (e : k ≡ task_read (task_part p d t)) (l : t < d.t) where
    pub filling-target : k.target < d.b
    unfolding view_of
    filling-target = (subst (TaskRange d) (task_as d p t k e l) (s.paced.tasks t)).target_below

    module _ (q : fills k.stage ≡ true) where
      filled : Fills (shown d p) (filled_to k.stage d.n k.hand.cell) k
      filled =
          subst (λ (x : Task). Fills (shown d p) (filled_to x.stage d.n x.hand.cell) x) (task_as d p t k e l)
          (fills_to (task d p t).stage (task d p t) (ap (λ (x : Task). fills x.stage) (task_as d p t k e l) ∙ q) (s.tasks t))

      -- the logs before the cell in hand are empty
      empty : (i : ℕ) → i < filled_to k.stage d.n k.hand.cell → i < d.n → length_of d.n (block_part p d k.target) i ≡ 0
      empty i m o =
          sym (log-length_at d.n (block_part p d k.target) i o)
          ∙ ap (λ (x : Block). length (log_at x i)) (sym (view_block_at d p k.target filling-target)) ∙ ap length (filled.emptied i m)

      pub filling-last : (r : ℕ) → r ≡ bump_of (block_part p d k.target) → eqb r 0 ≡ filling_in (filled_to k.stage d.n k.hand.cell) d.n (block_part p d k.target)
      filling-last r g =
          same (eqb r 0) (filling_in (filled_to k.stage d.n k.hand.cell) d.n (block_part p d k.target))
          (decide_as (decide_eq r 0)
          (λ z. record { sized = block-sized s.spans k.target filling-target; bump = sym g ∙ z; empty = empty })
          (λ h. g ∙ h.bump))
          (filling_decides (filled_to k.stage d.n k.hand.cell) d.n (block_part p d k.target))

pub ruleset fillers = (task_as, filling-target, filling-last)
