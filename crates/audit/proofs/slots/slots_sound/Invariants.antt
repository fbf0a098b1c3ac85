use Rattle.survey.specs.Broken.{slot_sound}
use Rattle.audit.proofs.slots.slots_sound.Given as goal

abbrev pub ghost-all_below : goal.ghost-all_below
ghost-all_below a = slot_sound a.test.0.sizes a.test.0.words.now
