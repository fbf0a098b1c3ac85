-- What a step of a task leaves of the words and answers, stage by stage.
-- Rests on acts' plans and on what doing an act leaves of the words.
use Rattle.std.specs.Prelude.{ℕ, ◌+◌, List, Result, Ok, Err, leb, if◌then◌else◌}
use Rattle.rulebook.specs.Codes.{damaged}
use Rattle.rulebook.specs.Sizes.{last_serial, public_number}
use Rattle.rulebook.specs.State.{idle}
use Rattle.rulebook.specs.declared.Damaged.{Damaged}
use Rattle.rulebook.specs.declared.Reading.TheVariants as reading
use Rattle.rulebook.specs.declared.Reply.{Reply}
use Rattle.rulebook.specs.declared.Reply.TheVariants as reply
use Rattle.rulebook.specs.declared.Sizes.{Sizes}
use Rattle.rulebook.specs.declared.Slot.{Slot}
use Rattle.rulebook.specs.declared.Stage.{Stage}
use Rattle.rulebook.specs.declared.Stage.TheVariants as stage
use Rattle.rulebook.specs.declared.Status.TheVariants as status
use Rattle.rulebook.specs.declared.Task.{Task}
use Rattle.acts.specs.Plans.{ticked}
use Rattle.acts.specs.StepPlans.{plan_at}
use Rattle.layout.specs.Places.{task_part}
use Rattle.layout.specs.Pool.{applied_in, put_slot, put_task, sight}
use Rattle.layout.specs.Rows.{task_with}

-- the serial that a reserved slot gets
unfoldable pub next_serial : Result Slot Damaged → Result ℕ Damaged
next_serial (Err _) = Err damaged
next_serial (Ok x) = if leb last_serial x.serial then Err damaged else Ok (x.serial + 1)

-- a slot that carries a handle
abbrev pub live_slot : ℕ → ℕ → ℕ → Slot
live_slot serial block number = record { serial = serial; status = status.Live; block = block; number = number }

-- where a task goes on that has taken its block
abbrev pub taker_of : Stage → Stage
taker_of stage.TakeNew = stage.FillNew
taker_of _ = stage.Copying reading.Guess

module _ (p : List ℕ) (d : Sizes) (t : ℕ) where
  -- task t with this step counted; its stage is told apart
  unfoldable pub task_up : Task
  task_up = ticked (task_with stage.Idle (task_part p d t))

  -- a step at stage g
  unfoldable pub step_at : Stage → List ℕ × Reply
  step_at g = applied_in p d (plan_at g (sight p d) t task_up)

  -- the task goes on as k
  abbrev pub gone_on : Task → List ℕ × Reply
  gone_on k = (put_task p d t k, reply.Quiet)

  -- the task k ends: its slot carries a handle on block b with number l
  abbrev pub finished : Task → ℕ → ℕ → ℕ → List ℕ × Reply
  finished k serial b l = (put_task (put_slot p k.fresh (live_slot serial b l)) d t idle, reply.Made k.steps (public_number k.fresh serial))
