use Rattle.std.proofs.Common.{rules}
use Rattle.survey.proofs.Walking.{walks}
use Rattle.survey.proofs.Marking.{told}
use Rattle.survey.proofs.walk.logs_hold.Goals.{then-version-stamp-via-then-version-stamp, then-version-stamp-via-else-version-stamp+then-stamp-least, then-version-stamp-via-else-version-stamp+else-stamp-least+then-marks-stamp-eq0}
use Rattle.survey.proofs.walk.logs_hold.Goals as goal

pub walk-preserved-then-not-stood_on : goal.walk-preserved-then-not-stood_on
walk-preserved-then-not-stood_on c = search (rules, walks, told)

pub loop-cell-init : goal.loop-cell-init
loop-cell-init c = search (rules, walks, told)

pub loop-index-preserved : goal.loop-index-preserved
loop-index-preserved c = search (rules, walks, told)

pub loop-cell-preserved : goal.loop-cell-preserved
loop-cell-preserved c = search (rules, walks, told)

pub walk-preserved : goal.walk-preserved
walk-preserved c = search (rules, walks, told)

pub returns-after-walk : goal.returns-after-walk
returns-after-walk c = search (rules, walks, told)

pub returns-then-version-length : goal.returns-then-version-length
returns-then-version-length c = search (rules, walks, told)

pub returns-then-version-stamp : goal.returns-then-version-stamp
returns-then-version-stamp c = elim c.then-version-stamp.branch [ then-version-stamp-via-then-version-stamp w ↦ search (rules, walks) | then-version-stamp-via-else-version-stamp+then-stamp-least w ↦ search (rules, walks) | then-version-stamp-via-else-version-stamp+else-stamp-least+then-marks-stamp-eq0 w ↦ search (rules, walks) ]
