use Rattle.survey.specs.Broken.{task_sound}
use Rattle.audit.proofs.paces.tasks_sound.Given as goal

abbrev pub ghost-all_below : goal.ghost-all_below
ghost-all_below a = task_sound a.test.0.sizes a.test.0.words.now
