use Rattle.survey.specs.Held.{reserved_by}
use Rattle.survey.proofs.holds.fresh_at.Given as goal

abbrev pub ghost-alone : goal.ghost-alone
ghost-alone a = reserved_by
