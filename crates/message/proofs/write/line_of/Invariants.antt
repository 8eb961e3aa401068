-- `line_of` meets its contract. The invariant: the versions passed stand behind the stamp, at most 27 bytes each.
use Rattle.message.proofs.Putting.{LineTo}
use Rattle.message.proofs.write.line_of.Given as goal

abbrev pub invariant-loop-item : goal.invariant-loop-item
invariant-loop-item l = LineTo l.fn.stamp.0 l.items l.line l.item-index
