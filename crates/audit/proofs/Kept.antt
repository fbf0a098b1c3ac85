-- A kept store passes the check between any two calls; any pool that passes it passes it after any call.
-- Rests on Checks and on the bridge, by which calls keep a pool sound.
use Rattle.std.specs.Prelude.{ℕ, true, List, ◌≡◌, length}
use Rattle.bridge.specs.Asked.{Asked, asked, asked_all}
use Rattle.bridge.specs.Bridge.{bridge, kept}
use Rattle.layout.specs.Pool.{open_in}
use Rattle.rulebook.specs.Sizes.{opens}
use Rattle.survey.specs.Broken.{broken_in}
use Rattle.audit.proofs.Checks.{passes_sound, sound_passes}

-- any words, an accepted open, and then any list of calls
pub kept_passes : (p : List ℕ) (n h t : ℕ) → opens n h t (length p) ≡ true → (xs : List Asked) → broken_in (asked_all xs (open_in p n h t).0).0 ≡ 0
kept_passes p n h t o xs = sound_passes _ _ (kept p n h t o xs).sound

-- however a pool came about: where the check answers 0, it answers 0 after any call
pub passes_on : (x : Asked) (p : List ℕ) → broken_in p ≡ 0 → broken_in (asked x p).0 ≡ 0
passes_on x p z = sound_passes _ _ (bridge x (passes_sound p z).1).sound
