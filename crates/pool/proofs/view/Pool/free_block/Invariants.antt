use Rattle.std.proofs.Common.{◌≡◌, ◌≤◌, Ok, None}
use Rattle.acts.specs.Plans.{first_of, free_at}
use Rattle.layout.specs.Pool.{sight}
use Rattle.pool.proofs.view.Pool.free_block.Given as goal

-- none of the blocks so far is free
abbrev pub invariant-loop-block : goal.invariant-loop-block
invariant-loop-block l = (first_of (free_at (sight l.self.words.now l.self.sizes)) l.block ≡ Ok None) × (l.block ≤ l.self.sizes.b)
