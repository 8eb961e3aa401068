-- `items_from` meets its contract. The invariant: the versions seen make the batch, and what is left of the line gives the whole answer.
use Rattle.message.proofs.Steps.{SoFar}
use Rattle.message.proofs.read.items_from.Given as goal

abbrev pub invariant-loop : goal.invariant-loop
invariant-loop l = SoFar l.stamp.0 l.line l.from l.batch l.at l.counter
