-- `record` meets its contract: each answer is a case of `recorded`.
use borrow.Author.Tests.{lt-ltb, le-ltb}
use Rattle.transaction.specs.Transaction.{recorded}
use Rattle.transaction.proofs.Transaction.record.Goals as goal

pub returns-then-n-lt-READS : goal.returns-then-n-lt-READS
unfolding recorded
returns-then-n-lt-READS c = simp (lt-ltb _ _ c.if-n-lt-READS.true)

pub returns-else-n-lt-READS : goal.returns-else-n-lt-READS
unfolding recorded
returns-else-n-lt-READS c = simp (le-ltb _ _ c.if-n-lt-READS.false)
