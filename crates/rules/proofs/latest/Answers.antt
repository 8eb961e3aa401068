-- `latest` meets its contract: the latest so far and the latest of what is left make the answer.
use native.Mathlib.Omega.{arith}
use Rattle.rules.proofs.Reaching.{latest-more, latest_over}
use Rattle.rules.proofs.latest.Goals as goal

pub loop-read-preserved : goal.loop-read-preserved
loop-read-preserved c = let at = c.loop-read in latest-more _ at.read-index at.last _ _ at.invariant (omega arith) c.max-last.ensures

pub returns : goal.returns
returns c = latest_over _ c.loop-read.read-index _ _ c.loop-read.invariant (omega arith)
