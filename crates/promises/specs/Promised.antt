-- All promises of one build of the C functions, as one record. proofs/All.antt shows it of the product's, `spoken`.
-- Rests on Promises.
use Rattle.promises.specs.Promises.{AnswerLength, AnswerRest, BusyBelow, CheckPasses, CheckSound, CheckTells, Kept, MachineAnswers, MachineCall, MachineHistory, MachineState, NumbersOnce, OpenDue, PagesJoin, PagesJoinAny, PoolLength, PoolRest, Priced, Reads, ReadsInOrder, RefusalDue, RefusalKeeps, RefusalZeros, SetsBound, ShortSlice, StaysSound, StepsCounted, StepsExact, Tables, TenHarmless, Undescribed}
use Rattle.promises.specs.Said.{Build}

pub record Promised (f : Build) : Type 0 where
  pub pool_length : PoolLength f
  pub pool_rest : PoolRest f
  pub answer_length : AnswerLength f
  pub answer_rest : AnswerRest f
  pub short_slice : ShortSlice f
  pub refusal_keeps : RefusalKeeps f
  pub refusal_zeros : RefusalZeros f
  pub open_due : OpenDue f
  pub undescribed : Undescribed f
  pub refusal_due : RefusalDue f
  pub ten_harmless : TenHarmless f
  pub check_tells : CheckTells f
  pub check_sound : CheckSound f
  pub machine_call : MachineCall f
  pub machine_state : (k : Kept f) → MachineState f k
  pub machine_answers : (k : Kept f) → MachineAnswers f k
  pub machine_history : (k : Kept f) → MachineHistory f k
  pub stays_sound : (k : Kept f) → StaysSound f k
  pub check_passes : (k : Kept f) → CheckPasses f k
  pub reads : (k : Kept f) → Reads f k
  pub reads_in_order : (k : Kept f) → ReadsInOrder f k
  pub pages_join : (k : Kept f) → PagesJoin f k
  pub pages_join_any : (k : Kept f) → PagesJoinAny f k
  pub tables : (k : Kept f) → Tables f k
  pub numbers_once : (k : Kept f) → NumbersOnce f k
  pub sets_bounded : (k : Kept f) → SetsBound f k
  pub priced : (k : Kept f) → Priced f k
  pub busy_below : (k : Kept f) → BusyBelow f k
  pub steps_counted : (k : Kept f) → StepsCounted f k
  pub steps_exact : (k : Kept f) → StepsExact f k
