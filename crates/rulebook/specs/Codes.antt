-- The numbers that stand for a stage and a status in a row, and back.
-- Rests on Answers' codes of operation and stage.
use Rattle.std.specs.Prelude.{ℕ, ◌+◌, ◌*◌, ◌/◌, ◌%◌, Bool, Result, Ok, Err, eqb, ltb, if◌then◌else◌}
use Rattle.rulebook.specs.Answers.{operation, stage_code}
use Rattle.rulebook.specs.declared.Reading.{Reading}
use Rattle.rulebook.specs.declared.Reading.TheVariants as reading
use Rattle.rulebook.specs.declared.Stage.{Stage}
use Rattle.rulebook.specs.declared.Stage.TheVariants as stage
use Rattle.rulebook.specs.declared.Status.{Status}
use Rattle.rulebook.specs.declared.Status.TheVariants as status
use Rattle.rulebook.specs.declared.Damaged.{Damaged}

unfoldable pub code_of : Stage → ℕ
code_of g = 12 * operation g + stage_code g

-- ---- back: the stage whose code it is, where it is one

unfoldable pub reading_from : ℕ → Reading
reading_from x =
    if eqb x 3 then reading.Guess else if eqb x 4 then reading.Version else if eqb x 5 then reading.Length else reading.Probe

unfoldable pub making_from : ℕ → Stage
making_from x = if eqb x 1 then stage.TakeNew else stage.FillNew

unfoldable pub setting_from : ℕ → Stage
setting_from x =
    if eqb x 1 then stage.TakeCopy else if eqb x 2 then stage.FillCopy else if eqb x 7 then stage.Exchange else
    if eqb x 8 then stage.Read else if eqb x 9 then stage.Append else if eqb x 10 then stage.Write else
    if eqb x 11 then stage.Put else stage.Copying (reading_from x)

-- the stage of an operation
unfoldable pub stage_of : ℕ → ℕ → Stage
stage_of o x =
    if eqb o 1 then making_from x else if eqb o 2 then stage.Getting (reading_from x) else if eqb o 3 then setting_from x else
    if eqb o 4 then stage.Paging (reading_from x) else stage.Idle

unfoldable pub stage_from : ℕ → Stage
stage_from c = stage_of (c / 12) (c % 12)

-- c is the code of a stage
unfoldable pub is_code : ℕ → Bool
is_code c = eqb (code_of (stage_from c)) c

-- a word that is outside the pool or the layout
abbrev pub damaged : Damaged
damaged = record {}

-- the stage whose code is c, where there is one
unfoldable pub stage_coded : ℕ → Result Stage Damaged
stage_coded c = if is_code c then Ok (stage_from c) else Err damaged

abbrev pub status_code : Status → ℕ
status_code status.Free = 0
status_code status.Reserved = 1
status_code status.Live = 2

unfoldable pub status_from : ℕ → Status
status_from c = if eqb c 1 then status.Reserved else if eqb c 2 then status.Live else status.Free

unfoldable pub status_coded : ℕ → Result Status Damaged
status_coded c = if ltb c 3 then Ok (status_from c) else Err damaged
