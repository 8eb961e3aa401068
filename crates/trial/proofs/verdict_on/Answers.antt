-- A verdict for each rule, then WC.
use Rattle.trial.specs.Trial.{ruled}
use Rattle.trial.proofs.Ranks.{says, says_last}
use Rattle.trial.proofs.verdict_on.Goals as goal

pub returns-in-RC : goal.returns-in-RC
unfolding ruled
returns-in-RC c = says _ _ _ _ _ _ c.latest-y.ensures c.in-RC.ensures

pub returns-in-BV : goal.returns-in-BV
unfolding ruled
returns-in-BV c = says _ _ _ _ _ _ c.latest-y.ensures c.in-BV.ensures

pub returns-in-FV : goal.returns-in-FV
unfolding ruled
returns-in-FV c = says _ _ _ _ _ _ c.latest-y.ensures c.in-FV.ensures

pub returns-in-SV : goal.returns-in-SV
unfolding ruled
returns-in-SV c = says _ _ _ _ _ _ c.latest-y.ensures c.in-SV.ensures

pub returns-in-Kept : goal.returns-in-Kept
returns-in-Kept c = says_last _ _ _ _ _ _ c.latest-y.ensures c.in-Kept.ensures c.if-overtaken.ensures

pub returns-in-Kept-2 : goal.returns-in-Kept-2
returns-in-Kept-2 c = says_last _ _ _ _ _ _ c.latest-y.ensures c.in-Kept.ensures c.if-overtaken.ensures
