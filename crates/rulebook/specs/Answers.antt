-- What a caller sees of an answer: document 01's refusal number and the words of the answer, for every case; the codes of operation and stage.
-- Rests on the types that the crate declares.
use Rattle.std.specs.Prelude.{ℕ, List, [], ◌∷◌, get_or, if◌then◌else◌}
use Rattle.rulebook.specs.declared.Reading.{Reading}
use Rattle.rulebook.specs.declared.Reading.TheVariants.{Guess, Version, Length, Probe}
use Rattle.rulebook.specs.declared.Stage.{Stage}
use Rattle.rulebook.specs.declared.Stage.TheVariants.{Idle, TakeNew, FillNew, Getting, Exchange, Read, Append, Write, TakeCopy, Copying, FillCopy, Put, Paging}
use Rattle.rulebook.specs.declared.Task.{Task}
use Rattle.rulebook.specs.declared.Reply.{Reply}
use Rattle.rulebook.specs.declared.Reply.TheVariants.{Refused, Full, Quiet, Opened, Handed, HandedLast, Got, Made, Shown, ShownEntry, ShownTask, Reported}

-- 0 idle, 1 new, 2 get, 3 set, 4 page
abbrev pub operation : Stage → ℕ
operation Idle = 0
operation TakeNew = 1
operation FillNew = 1
operation (Getting r) = 2
operation Exchange = 3
operation Read = 3
operation Append = 3
operation Write = 3
operation TakeCopy = 3
operation (Copying r) = 3
operation FillCopy = 3
operation Put = 3
operation (Paging r) = 4

-- 3 read the guess, 4 read V, 5 read the log's length, 6 probe
abbrev pub reading_code : Reading → ℕ
reading_code Guess = 3
reading_code Version = 4
reading_code Length = 5
reading_code Probe = 6

-- what the next step does: 0 idle, 1 take a block, 2 fill the cell in hand, 3 to 6 a step of a get, 7 exchange, 8 read the old value, 9 append,
-- 10 write, 11 write v at i (a copy's last)
abbrev pub stage_code : Stage → ℕ
stage_code Idle = 0
stage_code TakeNew = 1
stage_code FillNew = 2
stage_code (Getting r) = reading_code r
stage_code Exchange = 7
stage_code Read = 8
stage_code Append = 9
stage_code Write = 10
stage_code TakeCopy = 1
stage_code (Copying r) = reading_code r
stage_code FillCopy = 2
stage_code Put = 11
stage_code (Paging r) = reading_code r

-- a look at a task: operation, stage, cell in hand, lo, hi, guess, candidate, whether there is one
abbrev pub task_words : Task → List ℕ
task_words k =
    operation k.stage ∷ stage_code k.stage ∷ k.hand.cell ∷ k.hand.lo ∷ k.hand.hi ∷ k.hand.guess ∷ k.hand.candidate ∷ (if k.hand.found then 1 else 0) ∷ []

-- the refusal number, 0 for none
abbrev pub refusal : Reply → ℕ
refusal (Refused n) = n
refusal (Full steps) = 10
refusal Quiet = 0
refusal (Opened b) = 0
refusal (Handed i v) = 0
refusal (HandedLast steps i v) = 0
refusal (Got steps i v) = 0
refusal (Made steps h) = 0
refusal (Shown x) = 0
refusal (ShownEntry e) = 0
refusal (ShownTask k) = 0
refusal (Reported handles blocks) = 0

-- the numbers of the answer; those that are not there are 0. A step says: 1 where it hands out a cell, 2 where the task ends, 3 where both; the
-- steps; the new handle; the cell; the value
abbrev pub words : Reply → List ℕ
words (Refused n) = []
words (Full steps) = 2 ∷ steps ∷ []
words Quiet = []
words (Opened b) = b ∷ []
words (Handed i v) = 1 ∷ 0 ∷ 0 ∷ i ∷ v ∷ []
words (HandedLast steps i v) = 3 ∷ steps ∷ 0 ∷ i ∷ v ∷ []
words (Got steps i v) = 2 ∷ steps ∷ 0 ∷ i ∷ v ∷ []
words (Made steps h) = 2 ∷ steps ∷ h ∷ []
words (Shown x) = x ∷ []
words (ShownEntry e) = e.version ∷ e.old ∷ []
words (ShownTask k) = task_words k
words (Reported handles blocks) = handles ∷ blocks ∷ []

abbrev pub word : ℕ → Reply → ℕ
word j r = get_or (words r) j 0
