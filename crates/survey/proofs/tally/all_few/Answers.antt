use Rattle.std.proofs.Common.{rules}
use Rattle.survey.proofs.tally.all_few.Goals as goal

-- two loans go into the closure: its lifetime, what each call asks, what it answers
pub all_below-requires : goal.all_below-requires
all_below-requires c κs within = (λ a m. search rules, (λ index l. search rules, λ index b l e. search rules))
