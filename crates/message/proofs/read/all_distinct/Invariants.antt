-- `all_distinct` meets its contract: what the versions not yet looked at answer is the whole answer.
use Rattle.std.proofs.Common.{◌≡◌, drop}
use Rattle.message.specs.Read.{distinct}
use Rattle.message.proofs.read.all_distinct.Given as goal

abbrev pub invariant-loop-i : goal.invariant-loop-i
invariant-loop-i l = distinct l.items ≡ distinct (drop l.i l.items)
