-- Laws of counting as 32 bits do, and of replies.
-- Rests on Plans and Told.
use Rattle.std.specs.Prelude.{◌+◌, ◌<◌, ℕ, ◌≡◌}
use Rattle.std.proofs.Common.{arith, ne_eqb}
use Rattle.acts.specs.Plans.{after, last_word}

-- a number that is not the last
pub after_small : {x : ℕ} → x < last_word → after x ≡ x + 1
unfolding after
after_small {x} h = rw (ne_eqb x last_word (λ e. omega arith))
