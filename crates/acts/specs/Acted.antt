-- What an act does to the machine's state.
-- Rests on the rule book's definitions.
use Rattle.std.specs.Prelude.{◌+◌, [], ◌++◌, ◌∷◌}
use Rattle.rulebook.specs.State.{Result, State, block_at, log_at, with_block, with_cell, with_log, with_slot, with_task, with_version}
use Rattle.acts.specs.Acts.{Act, SlotChange, TaskChange}
use Rattle.acts.specs.Touch.{Touch}
use Rattle.acts.specs.Touch as touch
use Rattle.acts.specs.Acts as change

unfoldable pub touched : State → Touch → State
touched s touch.Nothing = s
touched s (touch.Exchange b L) = with_block s b (with_version (block_at s b) (L + 1))
touched s (touch.Append b i e) = with_block s b (with_log (block_at s b) i (log_at (block_at s b) i ++ (e ∷ [])))
touched s (touch.Write b i v) = with_block s b (with_cell (block_at s b) i v)
touched s (touch.Take b) = with_block s b (with_version (block_at s b) 0)
touched s (touch.Fill b i v) = with_block s b (with_log (with_cell (block_at s b) i v) i [])

unfoldable pub seated : State → SlotChange → State
seated s change.Same = s
seated s (change.To j x) = with_slot s j x

unfoldable pub turned : State → TaskChange → State
turned s change.Same = s
turned s (change.To t k) = with_task s t k

-- the block first, then the slot, then the task
unfoldable pub acted : State → Act → Result
acted s a = (turned (seated (touched s a.touch) a.slot) a.task, a.reply)
