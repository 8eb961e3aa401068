-- `decide_start` meets its contract: refusals 3 and 5 in that order, or the next stamp.
use mathlib.Core.Path.{ap, ◌∙◌}
use Rattle.desk.specs.Desk.{start_reply}
use Rattle.desk.proofs.Laws.{start-next}
use borrow.Author.Rules.{rules}
use Rattle.desk.proofs.decide_start.Goals as goal

pub returns-clause-reply : goal.returns-clause-reply
returns-clause-reply c = ap start_reply c.ok_or-answer.ensures.value ∙ start-next _ (λ x s p. search rules) _ _ (rw c.free_place-place.ensures at c.if-place-ge-DESK.false) (search rules) c.checked_add-next.ensures c.map.ensures.cases
