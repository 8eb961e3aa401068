-- What was walked is counted, by both counters.
use Rattle.std.proofs.Common.{◌≡◌, ◌≤◌}
use Rattle.lists.specs.Lists as lists
use Rattle.book.specs.Book.{rows_of}
use Rattle.rows.specs.Table.{made_within}
use Rattle.rows.proofs.count.Given as goal

abbrev pub invariant-loop-i : goal.invariant-loop-i
invariant-loop-i g l =
    ((l.n ≤ l.i) × (l.n ≡ lists.count (made_within l.key l.within.after l.within.until) (rows_of l.memory l.i)))
    × ((l.m ≤ l.i) × (l.m ≡ lists.count (made_within l.key l.between.after l.between.until) (rows_of l.memory l.i)))
