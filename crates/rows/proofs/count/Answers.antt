-- A row more is counted by its half; where the second span has no line, its count stays.
use Rattle.rows.proofs.Halves.{within_more, within_none}
use Rattle.rows.proofs.count.Goals as goal
use Rattle.rows.proofs.count.Goals.{then-this-ne0, else-this-ne0}

pub loop-i-preserved : goal.loop-i-preserved
loop-i-preserved g c = (
  rw c.from-n.ensures (within_more _ _ _ _ _ _ _ _ c.requires.key c.half_of-half.ensures c.loop-i.invariant.0 c.is_within.ensures),
  elim c.if-this-ne0.branch [
    | then-this-ne0 w ↦ rw (w.m-is, w.from-m.ensures) (within_more _ _ _ _ _ _ _ _ c.requires.key c.half_of-half.ensures c.loop-i.invariant.1 w.is_within-then-this-ne0.ensures)
    | else-this-ne0 w ↦ rw w.m-is (within_none _ _ _ _ _ _ (c.requires.alone (rw w.if-this-ne0.false)) c.loop-i.invariant.1)
  ],
)
