-- `items_from` meets its contract. The invariant: the versions seen make the batch, and what is left of the line gives the whole answer.
use Rattle.std.proofs.Common.{refl, sym, ◌∙◌}
use Rattle.message.proofs.Steps.{items_full, items_none, items_end, items_on}
use Rattle.message.proofs.read.items_from.Goals as goal

pub returns-in_err-item : goal.returns-in_err-item
returns-in_err-item c = c.from_residual.ensures ∙ items_none _ _ _ c.loop.invariant c.loop-test.true c.in_err-item.ensures refl

pub returns-then-ends : goal.returns-then-ends
returns-then-ends c =
    let whole = items_end _ _ _ c.loop.invariant c.loop-test.true c.in_ok-item.ensures refl c.add-batch.ensures (sym c.ends.ensures ∙ c.if-ends.true) in
    rw (c.then_some.ensures, c.all_distinct.ensures, c.items.ensures) whole

pub loop-preserved : goal.loop-preserved
loop-preserved c = items_on _ _ _ c.loop.invariant c.loop-test.true c.in_ok-item.ensures refl c.add-batch.ensures (sym c.ends.ensures ∙ c.if-ends.false)

pub returns : goal.returns
returns c = items_full _ _ _ c.loop.invariant c.loop-test.false
