-- What was walked is counted.
use Rattle.std.proofs.Common.{◌≡◌, ◌≤◌}
use Rattle.lists.specs.Lists as lists
use Rattle.records.specs.Ledger.{overtakes}
use Rattle.book.specs.Book.{rows_of}
use Rattle.rows.proofs.overtaken.Given as goal

abbrev pub invariant-loop-i : goal.invariant-loop-i
invariant-loop-i l = (l.n ≤ l.i) × (l.n ≡ lists.count (overtakes l.line l.row) (rows_of l.memory l.i))
