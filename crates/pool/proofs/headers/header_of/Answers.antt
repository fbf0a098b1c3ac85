use Rattle.std.proofs.Common.{rules, ◌≡◌}
use Rattle.layout.specs.Header.{header_of}
use Rattle.layout.specs.Ways.{headers}
use Rattle.layout.specs.Sizing.{spanned}
use Rattle.pool.proofs.headers.header_of.Goals as goal

pub returns-clause-spans : goal.returns-clause-spans
returns-clause-spans c = let is : c.sizes.result ≡ header_of c.args.words.now = search (rules, headers) in spanned c.args.words.now c.sizes.result is
