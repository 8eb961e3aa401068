-- What the search needs for this crate's functions: the bit of a key, how a start is answered, and that another record is no start.
use Prim.Native.Nat.{ℕ, ◌*◌, ◌%◌, ◌^◌, ◌<◌, ◌≤◌}
use native.Mathlib.Nat.{one-mul, mod-lt, mod-eq_of_lt}
use native.Mathlib.Omega.{arith}
use mathlib.Core.Path.{◌≡◌, refl}
use mathlib.Core.Bool.{false}
use mathlib.Core.List.{List, ◌∷◌}
use lib.Pow.{pow-lt}
use borrow.Author.Tests.{lt-ltb, le-ltb, le-leb, lt-leb}
use Rattle.records.specs.Parts.{starts}
use Rattle.records.specs.Ledger.{refused, went, fresh_row, begun}
use Rattle.records.specs.declared.Record.{Record}
use Rattle.records.specs.declared.Record.TheVariants.{Start, Tune, Read, Write, Commit, Abort}
use Rattle.book.specs.Book.{ledger_of, rows_in, row_count}
use Rattle.rows.specs.Table.{row_number}
use Rattle.book.proofs.Laws.{rows-length}
use Rattle.rows.proofs.Walk.{any-named}

-- the bit of a key
pub shifted : (x : ℕ) → 1 * 2 ^ (x % 64) % 18446744073709551616 ≡ 2 ^ (x % 64)
shifted x = rw (one-mul (2 ^ (x % 64))) (mod-eq_of_lt (pow-lt (mod-lt x (omega arith))))

-- a start: its number was used, there are 512, or it begins
module _ (ws : List ℕ) (line name : ℕ) {number : ℕ} (f : number ≡ row_number (rows_in ws) name) where
  pub begin_used : 0 < number → begun line name (ledger_of ws) ≡ refused 15
  begin_used h = rw (any-named (rows_in ws) name, ← f, lt-ltb 0 number h)

  module _ (h : number ≤ 0) {n : ℕ} (g : n ≡ row_count ws) where
    pub begin_full : 512 ≤ n → begun line name (ledger_of ws) ≡ refused 16
    begin_full k = rw (any-named (rows_in ws) name, ← f, le-ltb 0 number h, rows-length ws (row_count ws), ← g, le-leb 512 n k)

    pub begin_goes : n < 512 → begun line name (ledger_of ws) ≡ went (record { rows = fresh_row line name ∷ rows_in ws; seens = (ledger_of ws).seens; judged = (ledger_of ws).judged })
    begin_goes k = rw (any-named (rows_in ws) name, ← f, le-ltb 0 number h, rows-length ws (row_count ws), ← g, lt-leb 512 n k)

-- a record that is no start
pub not_start : (e : Record) → ((t : ℕ) → e ≡ Start t → ⊥) → starts e ≡ false
not_start (Start t) h = absurd (h t refl)
not_start (Tune t b) h = refl
not_start (Read t x w) h = refl
not_start (Write t x) h = refl
not_start (Commit t) h = refl
not_start (Abort t) h = refl
