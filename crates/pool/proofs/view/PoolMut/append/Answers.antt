use Rattle.std.proofs.Common.{◌<◌}
use Rattle.layout.specs.Lends.{append-put}
use Rattle.layout.specs.Parts.{part, splice}
use Rattle.layout.specs.Places.{Place}
use Rattle.pool.proofs.view.PoolMut.append.Goals as goal

pub returns-clause-words : goal.returns-clause-words
unfolding part splice
returns-clause-words c =
    let lies : Place c.args.self.now.sizes c.args.block c.in_ok-part.part.start c.in_ok-part.part.end × (c.args.block < c.args.self.now.sizes.b) = rw c.as_pool.ensures.sizes at c.in_ok-part.ensures.place in
    append-put _ _ _ _ _ lies.0 _ lies.1 _ _ _ c.append.ensures
