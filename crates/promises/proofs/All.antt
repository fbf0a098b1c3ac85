-- The product keeps every promise.
-- Rests on One, Numbers, Two, Three and Checked.
use Rattle.promises.specs.Promised.{Promised}
use Rattle.promises.proofs.Checked.{check_passes, check_sound, check_tells}
use Rattle.promises.proofs.Numbers.{open_due, refusal_due, ten_harmless, undescribed}
use Rattle.promises.proofs.One.{answer_length, answer_rest, pool_length, pool_rest, refusal_keeps, refusal_zeros, short_slice}
use Rattle.promises.proofs.Three.{busy_below, priced, sets_bounded, steps_counted, steps_exact}
use Rattle.promises.proofs.Two.{machine_answers, machine_call, machine_history, machine_state, numbers_once, pages_join, pages_join_any, reads, reads_in_order, stays_sound, tables}
use Rattle.promises.specs.Said.{spoken}

pub promised : Promised spoken
promised = record {
  pool_length = pool_length;
  pool_rest = pool_rest;
  answer_length = answer_length;
  answer_rest = answer_rest;
  short_slice = short_slice;
  refusal_keeps = refusal_keeps;
  refusal_zeros = refusal_zeros;
  open_due = open_due;
  undescribed = undescribed;
  refusal_due = refusal_due;
  ten_harmless = ten_harmless;
  check_tells = check_tells;
  check_sound = check_sound;
  machine_call = machine_call;
  machine_state = machine_state;
  machine_answers = machine_answers;
  machine_history = machine_history;
  stays_sound = stays_sound;
  check_passes = check_passes;
  reads = reads;
  reads_in_order = reads_in_order;
  pages_join = pages_join;
  pages_join_any = pages_join_any;
  tables = tables;
  numbers_once = numbers_once;
  sets_bounded = sets_bounded;
  priced = priced;
  busy_below = busy_below;
  steps_counted = steps_counted;
  steps_exact = steps_exact;
}
