use Rattle.std.proofs.Common.{rules, ◌≡◌, sym, true, ltb}
use Rattle.std.proofs.lemmas.Bool.{ltb-true}
use Rattle.layout.specs.Lends.{near_so}
use Rattle.pool.proofs.view.Pool.part.Goals as goal

pub returns-clause-there : goal.returns-clause-there
returns-clause-there c = near_so c.args.self.sizes c.args.self.words.now c.args.block c.place-part.result.start c.place-part.result.end c.place-part.ensures c.args.self.spans (search rules) (search rules)

pub returns-clause-place : goal.returns-clause-place
returns-clause-place c =
    let there : true ≡ ltb c.args.block c.args.self.sizes.b = near_so c.args.self.sizes c.args.self.words.now c.args.block c.place-part.result.start c.place-part.result.end c.place-part.ensures c.args.self.spans (search rules) (search rules) in
    (c.place-part.ensures, ltb-true c.args.block c.args.self.sizes.b (sym there))
