-- The rows not yet looked at have the newest of the name.
use Rattle.std.proofs.Common.{◌≡◌, ◌≤◌}
use Rattle.book.specs.Book.{rows_of, rows_in, row_count}
use Rattle.rows.specs.Table.{row_number}
use Rattle.rows.proofs.find.Given as goal

abbrev pub invariant-loop-i : goal.invariant-loop-i
invariant-loop-i l = (l.i ≤ row_count l.memory) × (row_number (rows_of l.memory l.i) l.name ≡ row_number (rows_in l.memory) l.name)

abbrev pub decreases-loop-i : goal.decreases-loop-i
decreases-loop-i l = l.i
