use Rattle.survey.specs.Broken.{rule2_at}
use Rattle.survey.proofs.handles.all_stand.Given as goal

abbrev pub ghost-all_below : goal.ghost-all_below
ghost-all_below a = rule2_at a.test.0.sizes a.test.0.words.now
