-- `start` meets its contract: what was decided is done.
use Rattle.desk.proofs.Laws.{start-after}
use Rattle.desk.proofs.start.Goals as goal

pub returns-clause-memory : goal.returns-clause-memory
returns-clause-memory c = start-after _ _ _ _ (rw c.in_ok-name.was at c.decide_start-d.ensures.reply) c.decide_start-d.ensures.place c.change_start.ensures
