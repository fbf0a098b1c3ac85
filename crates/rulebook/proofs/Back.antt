-- Laws of the codes: what is written is what is read.
use Rattle.std.specs.Prelude.{◌≡◌, refl}
use Rattle.rulebook.specs.Codes.{code_of, making_from, reading_from, setting_from, stage_from, stage_of, status_code, status_from}
use Rattle.rulebook.specs.declared.Reading.TheVariants as reading
use Rattle.rulebook.specs.declared.Stage.{Stage}
use Rattle.rulebook.specs.declared.Stage.TheVariants as stage
use Rattle.rulebook.specs.declared.Status.{Status}
use Rattle.rulebook.specs.declared.Status.TheVariants as status

pub stage_from_lem : (g : Stage) → stage_from (code_of g) ≡ g
unfolding code_of stage_from stage_of making_from setting_from reading_from
stage_from_lem stage.Idle = refl
stage_from_lem stage.TakeNew = refl
stage_from_lem stage.FillNew = refl
stage_from_lem (stage.Getting reading.Guess) = refl
stage_from_lem (stage.Getting reading.Version) = refl
stage_from_lem (stage.Getting reading.Length) = refl
stage_from_lem (stage.Getting reading.Probe) = refl
stage_from_lem stage.Exchange = refl
stage_from_lem stage.Read = refl
stage_from_lem stage.Append = refl
stage_from_lem stage.Write = refl
stage_from_lem stage.TakeCopy = refl
stage_from_lem (stage.Copying reading.Guess) = refl
stage_from_lem (stage.Copying reading.Version) = refl
stage_from_lem (stage.Copying reading.Length) = refl
stage_from_lem (stage.Copying reading.Probe) = refl
stage_from_lem stage.FillCopy = refl
stage_from_lem stage.Put = refl
stage_from_lem (stage.Paging reading.Guess) = refl
stage_from_lem (stage.Paging reading.Version) = refl
stage_from_lem (stage.Paging reading.Length) = refl
stage_from_lem (stage.Paging reading.Probe) = refl

pub status_from_lem : (x : Status) → status_from (status_code x) ≡ x
unfolding status_from
status_from_lem status.Free = refl
status_from_lem status.Reserved = refl
status_from_lem status.Live = refl
