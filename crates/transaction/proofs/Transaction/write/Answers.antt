-- `write` meets its contract: the place of the key is one of the sixteen, or not.
use borrow.Author.Tests.{lt-ltb, le-ltb}
use mir.Facts.{to_z-of_z}
use Rattle.transaction.specs.Transaction.{written}
use Rattle.transaction.proofs.Transaction.write.Goals as goal

pub returns-then-i-lt-WRITES : goal.returns-then-i-lt-WRITES
unfolding written
returns-then-i-lt-WRITES c =
    rw (to_z-of_z c.ranges.value, c.max.ensures, c.wrote_at-i.ensures)
    (simp (lt-ltb _ _ (rw c.wrote_at-i.ensures at c.if-i-lt-WRITES.true)))

pub returns-else-i-lt-WRITES : goal.returns-else-i-lt-WRITES
unfolding written
returns-else-i-lt-WRITES c = simp (le-ltb _ _ (rw c.wrote_at-i.ensures at c.if-i-lt-WRITES.false))
