use Rattle.acts.specs.Plans.{vacant_at}
use Rattle.layout.specs.Pool.{sight}
use Rattle.pool.proofs.view.Pool.vacancy.Given as goal

abbrev pub ghost-first_row : goal.ghost-first_row
ghost-first_row a = vacant_at (sight a.row.0.words.now a.row.0.sizes)
