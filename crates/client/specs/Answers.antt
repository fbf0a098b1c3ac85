-- What a program makes of the number and the words that a call leaves.
use Rattle.std.specs.Prelude.{ℕ, List, replicate, slice_index, ◌==◌, if◌then◌else◌, Result, Ok, Err}
use Rattle.client.specs.declared.Refused.{Refused}
use Rattle.client.specs.declared.Said.{Said}
use Rattle.client.specs.declared.Said.TheVariants.{Nothing, Handed, Made, Read}

-- an answer's words before the call: one that the call leaves does not pass for a 0
abbrev pub no_words : List ℕ
no_words = replicate 16 4294967295

-- the number 0 accepts; the second word of a refused step counts the steps of its task
abbrev pub answer_of : ℕ → List ℕ → Result (List ℕ) Refused
answer_of number words = if number == 0 then Ok words else Err (record { number = number; steps = slice_index words 1 })

-- what comes of a task that has ended: a handle, or a value
abbrev pub end_in : List ℕ → Said
end_in words =
    if slice_index words 2 == 0
    then Read (slice_index words 1) (slice_index words 3) (slice_index words 4)
    else Made (slice_index words 1) (slice_index words 2)

-- a step's words: what it says, the steps, the handle, the cell and the value
abbrev pub said_in : List ℕ → Said
said_in words =
    if slice_index words 0 == 0
    then Nothing
    else (if slice_index words 0 == 1 then Handed (slice_index words 3) (slice_index words 4) else end_in words)
