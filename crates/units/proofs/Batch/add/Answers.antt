-- `add` meets its contract: there is room for one item more, or not.
use borrow.Author.Tests.{lt-ltb, le-ltb}
use Rattle.units.specs.Batch.{added}
use Rattle.units.proofs.Batch.add.Goals as goal

pub returns-then-n-lt-WRITES : goal.returns-then-n-lt-WRITES
unfolding added
returns-then-n-lt-WRITES c = simp (lt-ltb _ _ c.if-n-lt-WRITES.true)

pub returns-else-n-lt-WRITES : goal.returns-else-n-lt-WRITES
unfolding added
returns-else-n-lt-WRITES c = simp (le-ltb _ _ c.if-n-lt-WRITES.false)
