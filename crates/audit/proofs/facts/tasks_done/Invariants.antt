use Rattle.survey.specs.Broken.{facts_at}
use Rattle.audit.proofs.facts.tasks_done.Given as goal

abbrev pub ghost-all_below : goal.ghost-all_below
ghost-all_below a = facts_at a.test.0.sizes a.test.0.words.now
