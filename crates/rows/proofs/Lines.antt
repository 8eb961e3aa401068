-- No version before line 0.
use Prim.Native.Nat.{ℕ}
use native.Mathlib.Omega.{arith}
use mathlib.Core.Path.{◌≡◌, sym}
use mathlib.Core.Bool.{and-false}
use mathlib.Core.List.{List}
use lib.Dec.{ltb}
use borrow.Author.Tests.{le-ltb}
use Rattle.lists.proofs.Every.{every_each}
use Rattle.lists.proofs.Count.{count_none}
use Rattle.records.specs.Ledger.{has, rows_between, made_between}
use Rattle.records.specs.declared.Row.{Row}

-- nothing is committed before line 0
pub between_none : (rows : List Row) (x after before : ℕ) → before ≡ 0 → 0 ≡ rows_between rows x after before
unfolding rows_between
between_none rows x after before e =
    sym
    (count_none (made_between x after before)
    (every_each (λ r. rw (e, le-ltb r.end 0 (omega arith), and-false (ltb after r.end)) (and-false (has r.keys x))) rows))
