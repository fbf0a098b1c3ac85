use Rattle.std.proofs.Common.{rules, ◌≡◌, ◌↔◌}
use Rattle.std.specs.Prelude.{IsTrue}
use Rattle.audit.proofs.Pacing.{idle-is}
use Rattle.audit.proofs.paces.pace_at.Goals as goal

pub returns-in-Idle : goal.returns-in-Idle
returns-in-Idle c =
    let told : IsTrue c.eq.result ↔ (c.args.task ≡ c.idle.result) = search rules in
    idle-is _ _ _ c.requires.1 c.in-Idle.is c.idle.ensures _ told
