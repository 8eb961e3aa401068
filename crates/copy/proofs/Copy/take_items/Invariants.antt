-- `take_items` meets its contract: what is left to take gives the whole.
use Rattle.std.proofs.Common.{◌≡◌, drop}
use Rattle.copy.specs.Copy.{take_items}
use Rattle.copy.proofs.Copy.take_items.Given as goal

abbrev pub invariant-loop-item : goal.invariant-loop-item
invariant-loop-item l = take_items l.initial.self l.stamp.0 l.items ≡ take_items l.self l.stamp.0 (drop l.item-index l.items)
