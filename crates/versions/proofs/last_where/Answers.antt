use Rattle.std.proofs.Common.{◌∙◌, sym, ap, Some, arith}
use Rattle.versions.proofs.Laws.{last_over, last_hit, last_miss}
use Rattle.versions.proofs.last_where.Goals as goal

pub loop-i-init : goal.loop-i-init
loop-i-init g c = λ p h. rw c.length_of-i.ensures

pub returns-then-test : goal.returns-then-test
returns-then-test g c =
    λ p h. ap Some c.version_at.ensures ∙ last_hit p c.args.memory.now _ _ (c.loop-i.invariant p h) (omega arith) (sym (h _ _ _ c.test.ensures) ∙ c.if-test.true)

pub loop-i-preserved : goal.loop-i-preserved
loop-i-preserved g c =
    λ p h. last_miss p c.args.memory.now _ _ (c.loop-i.invariant p h) (omega arith) (sym (h _ _ _ c.test.ensures) ∙ c.if-test.false)

pub returns : goal.returns
returns g c = λ p h. last_over p c.args.memory.now _ _ (c.loop-i.invariant p h) (omega arith)
