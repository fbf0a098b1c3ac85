use Rattle.acts.specs.Plans.{stands_at}
use Rattle.layout.specs.Pool.{sight}
use Rattle.pool.proofs.view.Pool.stander.Given as goal

abbrev pub ghost-first_row : goal.ghost-first_row
ghost-first_row a = stands_at (sight a.row.0.words.now a.row.0.sizes) a.row.1
