-- A row stored at the number of a name takes the place of that name's newest row.
use Prim.Native.Nat.{ℕ, zero, suc, ◌-◌, ◌≤◌, ◌<◌}
use native.Mathlib.Omega.{arith}
use mathlib.Core.Path.{◌≡◌}
use mathlib.Core.Bool.{Bool, true, false, cond}
use mathlib.Core.List.{List, ◌∷◌}
use lib.ListN.{length}
use Rattle.records.specs.Ledger.{become, named}
use Rattle.records.specs.declared.Row.{Row}
use Rattle.book.specs.Layout.{word_count}
use Rattle.book.specs.Book.{Fits, row_at, rows_of, rows_in, row_count, row_stored}
use Rattle.book.proofs.Laws.{rows-length, row_same, row_other, rows_above, stored-row-count}
use Rattle.rows.specs.Table.{row_number}
use Rattle.rows.proofs.Walk.{place-within}

module _ (ws : List ℕ) (whole : length ws ≡ word_count) (x : ℕ) (r : Row) (f : Fits r) (p : ℕ) (h : 0 < p) where
  become-first : (n : ℕ) → n ≤ 512 → p ≡ row_number (rows_of ws n) x → rows_of (row_stored ws (p - 1) r) n ≡ become (rows_of ws n) x r
  unfolding rows_of row_number become
  become-first zero short e = absurd (omega arith)
  become-first (suc n) short e = go (named x (row_at ws n)) e (become-first n (omega arith))
    where
      go : (b : Bool) → p ≡ cond b (suc (length (rows_of ws n))) (row_number (rows_of ws n) x)
          → (p ≡ row_number (rows_of ws n) x → rows_of (row_stored ws (p - 1) r) n ≡ become (rows_of ws n) x r)
          → (row_at (row_stored ws (p - 1) r) n ∷ rows_of (row_stored ws (p - 1) r) n) ≡ cond b (r ∷ rows_of ws n) (row_at ws n ∷ become (rows_of ws n) x r)
      go true e below =
          let k : p - 1 ≡ n = omega (arith, rows-length ws n) in
          rw (k, row_same ws n r whole (omega arith) f, rows_above ws n r n (omega arith) (omega arith))
      go false e below =
          rw (row_other ws (p - 1) r n (omega arith) (λ k. omega (arith, place-within ws x n)), below e)

  pub stored-become : p ≡ row_number (rows_in ws) x → rows_in (row_stored ws (p - 1) r) ≡ become (rows_in ws) x r
  stored-become e = rw (stored-row-count ws (p - 1) r) (become-first (row_count ws) (omega arith) e)
