use Rattle.std.proofs.Common.{rules}
use Rattle.survey.proofs.Meeting.{down_number, downs}
use Rattle.survey.proofs.apart.apart_on.Goals as goal

pub loop-slot-init : goal.loop-slot-init
loop-slot-init c = search (rules, downs)

pub raw_slot-number-requires : goal.raw_slot-number-requires
raw_slot-number-requires c = search (rules, downs)

pub bounds-seen-number : goal.bounds-seen-number
bounds-seen-number c = search (rules, down_number)

pub bounds-seen-number-in-loop-slot : goal.bounds-seen-number-in-loop-slot
bounds-seen-number-in-loop-slot c = search (rules, down_number)

pub returns-then-seen-number : goal.returns-then-seen-number
returns-then-seen-number c = search (rules, downs)

pub loop-slot-smaller : goal.loop-slot-smaller
loop-slot-smaller c = search (rules, downs)

pub loop-slot-preserved : goal.loop-slot-preserved
loop-slot-preserved c = search (rules, downs)

pub returns : goal.returns
returns c = search (rules, downs)
