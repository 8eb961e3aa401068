-- `all_distinct` meets its contract: what the versions not yet looked at answer is the whole answer.
use Rattle.std.proofs.Common.{◌∙◌, sym}
use Rattle.message.proofs.Steps.{distinct_over, distinct_twice, distinct_on}
use Rattle.message.proofs.read.all_distinct.Goals as goal

pub returns-then-has_key : goal.returns-then-has_key
returns-then-has_key c = sym (c.loop-i.invariant ∙ distinct_twice _ _ c.loop-i-test.true c.has_key.ensures c.if-has_key.true)

pub loop-i-preserved : goal.loop-i-preserved
loop-i-preserved c = c.loop-i.invariant ∙ distinct_on _ _ c.loop-i-test.true c.has_key.ensures c.if-has_key.false

pub returns : goal.returns
returns c = sym (c.loop-i.invariant ∙ distinct_over _ _ c.loop-i-test.false)
