use Rattle.acts.specs.Plans.{stander_in}
use Rattle.layout.specs.Pool.{sight}
use Rattle.pool.proofs.view.Pool.stood_blocks.Given as goal

abbrev pub ghost-count_rows : goal.ghost-count_rows
ghost-count_rows a = stander_in (sight a.row.0.words.now a.row.0.sizes)
