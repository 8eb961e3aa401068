use Rattle.std.proofs.Common.{◌≡◌, ◌∙◌, sym, refl, arith}
use Rattle.lists.specs.Lists.{count}
use Rattle.memory.specs.Memory.{entries, length_of}
use Rattle.counts.specs.Where.{counted}
use Rattle.counts.proofs.Laws.{counted-hit, counted-miss}
use Rattle.counts.proofs.count_where.Goals as goal
use Rattle.counts.proofs.count_where.Goals.{then-test, else-test}

pub loop-i-init : goal.loop-i-init
unfolding counted entries count
loop-i-init g c = (omega arith, λ p h. refl)

pub loop-i-preserved : goal.loop-i-preserved
loop-i-preserved g c =
    elim c.if-test.branch [
      | then-test w ↦ (omega arith, λ p h. w.n-is ∙ counted-hit p _ _ _ (c.loop-i.invariant.1 p h) (sym (h _ _ _ c.test.ensures) ∙ w.if-test.true))
      | else-test w ↦ (omega arith, λ p h. w.n-is ∙ counted-miss p _ _ _ (c.loop-i.invariant.1 p h) (sym (h _ _ _ c.test.ensures) ∙ w.if-test.false))
    ]

pub returns : goal.returns
returns g c =
    let e : c.loop-i.i ≡ length_of c.args.memory.now = omega arith in
    rw (← e) (λ p h. c.loop-i.invariant.1 p h)
