-- What a task has done, where the rules before tell the rest: what its ranges give.
-- Rests on Facts, Ways and LogRules.
use Rattle.std.specs.Prelude.{◌<◌, ℕ, true, List, ◌≡◌, refl}
use Rattle.std.proofs.Common.{subst}
use Rattle.rulebook.specs.declared.Sizes.{Sizes}
use Rattle.rulebook.specs.declared.Task.{Task}
use Rattle.layout.specs.Places.{block_part, task_part}
use Rattle.layout.specs.Pool.{view_of}
use Rattle.layout.specs.Rows.{task_read}
use Rattle.rules.specs.Paced.{TaskRange}
use Rattle.survey.specs.Holds.{on_cell}
use borrow.Author.Tests.{lt-ltb}
use Rattle.survey.specs.Logs.{Walkable}
use Rattle.survey.proofs.LogRules.{live_walkable}
use Rattle.survey.specs.Rules.{shown, task}
use Rattle.survey.proofs.Ways.{slot_as, task_as, version-here}
use Rattle.audit.specs.Facts.{Known, Ranged, Stands}

module _ (d : Sizes) (p : List ℕ) where
  pub on_cell_lem : (k : Task) → Ranged d p k → on_cell (shown d p) k ≡ true
  unfolding view_of
  on_cell_lem k s = lt-ltb k.cell d.n s.cell

  -- ---- the task

  module _ (s : Known d p) where
    range_at : (t : ℕ) → TaskRange d (task d p t)
    unfolding view_of
    range_at t = s.paced.tasks t

    stands_at : (t : ℕ) → Stands d p (task d p t).stage (task d p t)
    stands_at t =
        let r = range_at t in
        record {
          ranged =
              record {
                spans = s.spans;
                block = r.block_below;
                cell = r.cell_below;
                until = r.until_within;
                fresh = r.fresh_below;
                target = r.target_below;
                hand = r.hand_below;
              };
          logs = λ n.
              let q = s.six.named_live t n in
              subst (λ (x : ℕ). Walkable d.n (block_part p d x)) q.1 (live_walkable d p s.two s.three (task d p t).slot q.0);
        }

    module _ (t : ℕ) (k : Task) (e : k ≡ task_read (task_part p d t)) (l : t < d.t) where
      pub facts_stands : Stands d p k.stage k
      facts_stands = subst (λ (x : Task). Stands d p x.stage x) (task_as d p t k e l) (stands_at t)

  pub cells-of : (shown d p).sizes.n ≡ d.n
  unfolding view_of
  cells-of = refl

pub ruleset facts = (task_as, version-here, cells-of, on_cell_lem)
