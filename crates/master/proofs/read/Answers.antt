-- `read` meets its contract: the version that was decided is recorded.
use Rattle.master.proofs.Laws.{read-after}
use Rattle.master.proofs.read.Goals as goal

pub returns-in-Version-clause-memory : goal.returns-in-Version-clause-memory
returns-in-Version-clause-memory c =
    let d = c.decide_read-d in
    read-after _ _ _ _ d.ensures.place _ c.in-Version.v (rw (c.in_ok-answer.was, c.in-Version.is) at d.ensures.reply) c.change_read.ensures
