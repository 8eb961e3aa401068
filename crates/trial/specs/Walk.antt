-- The reads still to come of a walk: those of the one with a number, among the first ones.
use Rattle.std.specs.Prelude.{ℕ, List}
use Rattle.records.specs.Ledger.{chain}
use Rattle.records.specs.declared.Seen.{Seen}
use Rattle.book.specs.Book.{seens_of}

abbrev pub reads_from : List ℕ → ℕ → ℕ → List Seen
reads_from ws most number = chain (seens_of ws most) number
