-- Snapshot isolation as source 000's Definition 1 has it, for a transaction that started at s and commits now, over the committed history.
use Rattle.std.specs.Prelude.{ℕ, ◌≤◌, ◌<◌, List, ◌≡◌, ◌⊎◌}
use Rattle.lists.specs.Lists.{Every}
use Rattle.transaction.specs.declared.Mark.{Mark}
use Rattle.transaction.specs.declared.Transaction.{Transaction}
use Rattle.transaction.specs.Transaction.{reads_of, writes_of}
use Rattle.model.specs.Log.{Entry}
use Rattle.model.specs.Rules.{WithinWC}

-- "(Snapshot Read). All reads of transaction T_i occur at T_i's start time": the version read was committed before the start, and every
-- other version of its key after the start or before the version read
pub record NewestAt (log : List Entry) (s : ℕ) (x : Mark) : Type 0 where
  pub committed : x.stamp.0 ≤ s
  pub others : Every (λ (e : Entry). e.key ≡ x.key → (e.stamp ≤ x.stamp.0) ⊎ (s < e.stamp)) log

-- "(Snapshot Write). No concurrent committed transactions may write the same data item": those that have committed wrote none of its keys
-- after its start
pub record Snapshot (log : List Entry) (t : Transaction) : Type 0 where
  pub reads : Every (NewestAt log t.name.0) (reads_of t)
  pub writes : Every (WithinWC log t) (writes_of t)
