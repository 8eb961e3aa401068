-- The rows by number and by line: the number of a name's newest row, and the versions of a key between two lines.
use Rattle.std.specs.Prelude.{ℕ, suc, Bool, cond, ◌&&◌, List, [], ◌∷◌, leb, ltb, length}
use Rattle.lists.specs.Lists.{count}
use Rattle.records.specs.Ledger.{has, named}
use Rattle.records.specs.declared.Row.{Row}
use Rattle.book.specs.Layout.{lows_from, highs_from}

-- the newest row of a name by its number, which is how many rows there are up to it; 0 where there is none
unfoldable pub row_number : List Row → ℕ → ℕ
row_number [] t = 0
row_number (r ∷ rs) t = cond (named t r) (suc (length rs)) (row_number rs t)

-- a committed row that wrote x, and whose commit line is after one line and at or before another
abbrev pub made_within : ℕ → ℕ → ℕ → Row → Bool
made_within x after until r = has r.keys x && (ltb after r.end && leb r.end until)

unfoldable pub rows_within : List Row → ℕ → ℕ → ℕ → ℕ
rows_within rows x after until = count (made_within x after until) rows

-- where the half of the words of keys that has a key begins
unfoldable pub half_from : ℕ → ℕ
half_from x = cond (ltb x 32) lows_from highs_from
