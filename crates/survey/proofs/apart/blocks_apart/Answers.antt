use Rattle.std.proofs.Common.{rules}
use Rattle.survey.proofs.Meeting.{aparts}
use Rattle.survey.proofs.apart.blocks_apart.Goals as goal

pub returns-then-not-apart_on : goal.returns-then-not-apart_on
returns-then-not-apart_on c = search (rules, aparts)

pub loop-block-preserved : goal.loop-block-preserved
loop-block-preserved c = search (rules, aparts)

pub returns : goal.returns
returns c = search (rules, aparts)
