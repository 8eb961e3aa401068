-- `commit` meets its contract: what was decided is done.
use Rattle.master.proofs.Laws.{commit-after}
use Rattle.master.proofs.commit.Goals as goal

pub returns-in-Ok-clause-memory : goal.returns-in-Ok-clause-memory
returns-in-Ok-clause-memory c = let d = c.decide_commit-d in commit-after _ _ _ _ d.ensures.place _ (rw c.in-Ok.is at d.ensures.reply) c.change_commit.ensures
