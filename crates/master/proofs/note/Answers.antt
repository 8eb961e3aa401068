-- `note` meets its contract: the version that was decided is recorded.
use Rattle.master.proofs.Laws.{note-after}
use Rattle.master.proofs.note.Goals as goal

pub returns-in-Version-clause-memory : goal.returns-in-Version-clause-memory
returns-in-Version-clause-memory c =
    let d = c.decide_note-d in
    note-after _ _ _ _ d.ensures.place _ _ c.in-Version.v (rw (c.in_ok-answer.was, c.in-Version.is) at d.ensures.reply) c.change_read.ensures
