-- `take_items` meets its contract: what is left to take gives the whole.
use Rattle.std.proofs.Common.{refl}
use Rattle.copy.proofs.Steps.{items_over, items_next}
use Rattle.copy.proofs.Copy.take_items.Goals as goal

pub loop-item-preserved : goal.loop-item-preserved
loop-item-preserved c = items_next _ _ _ _ c.loop-item.invariant _ c.loop-item-test.true refl c.take_item.ensures

pub returns : goal.returns
returns c = items_over _ _ _ _ c.loop-item.invariant c.loop-item-test.false
