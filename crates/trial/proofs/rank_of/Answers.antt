-- RC, then BV and FV by the distance, then SV.
use Rattle.std.proofs.Common.{sym, ◌∙◌, arith}
use Rattle.book.specs.Book.{rows_in}
use Rattle.trial.proofs.Distance.{far_tied}
use Rattle.trial.proofs.Ranks.{rank_unread, rank_first}
use borrow.Author.Tests.{lt-ltb, le-ltb}
use Rattle.trial.proofs.rank_of.Goals as goal
use Rattle.trial.proofs.rank_of.Goals.{then-from-counted, else-from-counted}

pub returns-then-seen-eq-NOWHERE : goal.returns-then-seen-eq-NOWHERE
returns-then-seen-eq-NOWHERE c = rank_unread _ _ _ _ c.if-seen-eq-NOWHERE.true

pub returns : goal.returns
returns c =
    let a = c.args in
    let rows = rows_in a.memory.now in
    let far = far_tied rows a.row a.seen _ _ _ c.min-low.ensures c.max-high.ensures c.count_both-counted.ensures.within in
    c.min.ensures ∙ rank_first rows a.row a.y a.seen c.if-seen-eq-NOWHERE.false _ _ (c.far_by-far.ensures ∙ far)
    (elim c.if-from-counted.branch [
      | then-from-counted w ↦ rw (← c.count_both-counted.ensures.between, lt-ltb a.row.bounds.k3 c.count_both-counted.result.between (omega arith)) (sym w.min-is)
      | else-from-counted w ↦ rw (← c.count_both-counted.ensures.between, le-ltb a.row.bounds.k3 c.count_both-counted.result.between (omega arith)) (sym w.min-is)
    ])
