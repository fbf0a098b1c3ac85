-- What a method that writes a pool leaves as it was: the sizes, and whose words they are.
use Rattle.std.specs.Prelude.{◌≡◌}
use Rattle.pool.specs.declared.view.PoolMut.{PoolMut}

pub record IsSameLoan (old new : PoolMut) : Type 0 where
  pub sizes : new.sizes ≡ old.sizes
  pub loan : new.words.ghost_name ≡ old.words.ghost_name
