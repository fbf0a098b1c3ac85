use Rattle.acts.specs.Looks.{lives_at}
use Rattle.layout.specs.Pool.{sight}
use Rattle.pool.proofs.view.Pool.live_handles.Given as goal

abbrev pub ghost-count_rows : goal.ghost-count_rows
ghost-count_rows a = lives_at (sight a.row.0.words.now a.row.0.sizes)
