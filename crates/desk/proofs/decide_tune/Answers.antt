-- `decide_tune` meets its contract: what the constructor of a triple answers, the triple left out.
use Rattle.desk.proofs.Laws.{tune-bounded}
use Rattle.desk.proofs.decide_tune.Goals as goal

pub returns-clause-reply : goal.returns-clause-reply
returns-clause-reply c = tune-bounded _ _ _ _ _ _ (rw c.place_of-place.ensures at c.if-place-ge-DESK.false) _ _ c.new.ensures c.map-answer.ensures.cases
