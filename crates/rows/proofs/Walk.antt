-- A walk over the rows of the memory: what one row more, or one less, tells.
use Prim.Native.Nat.{ℕ, zero, suc, ◌+◌, ◌-◌, ◌≤◌, ◌<◌}
use native.Mathlib.Omega.{arith}
use native.Mathlib.Numerals.{add-one}
use mathlib.Core.Path.{◌≡◌, refl, sym}
use mathlib.Core.Bool.{Bool, true, false, cond, ◌||◌}
use mathlib.Core.List.{List, [], ◌∷◌}
use lib.Dec.{ltb}
use lib.ListN.{length, get_or}
use borrow.Author.Tests.{lt-ltb, eq-eqb, ne_eqb}
use Rattle.std.proofs.Math.Bool.{or_comm}
use Rattle.std.proofs.Math.Nat.{zero-add}
use Rattle.std.specs.List.{list_any, range_with_len}
use Rattle.std.specs.Int.{from_bool}
use Rattle.lists.specs.Lists.{any, count}
use Rattle.records.specs.Ledger.{row_of, named}
use Rattle.records.specs.declared.Row.{Row}
use Rattle.book.specs.Layout.{names_from}
use Rattle.book.specs.Book.{row_at, rows_of, rows_in, row_count, row_loaded}
use Rattle.book.proofs.Laws.{rows-length}
use Rattle.rows.specs.Table.{row_number}
use Rattle.lists.proofs.Std.{any_more}

pub place_le : (l : List Row) (x : ℕ) → row_number l x ≤ length l
unfolding row_number
place_le [] x = omega arith
place_le (r ∷ rs) x = go (named x r) (place_le rs x)
  where
    go : (b : Bool) → row_number rs x ≤ length rs → cond b (suc (length rs)) (row_number rs x) ≤ suc (length rs)
    go true h = omega arith
    go false h = omega arith

-- a name is used where its newest row has a number
pub any-named : (l : List Row) (x : ℕ) → any (named x) l ≡ ltb 0 (row_number l x)
unfolding any row_number
any-named [] x = refl
any-named (r ∷ rs) x = go (named x r) (any-named rs x)
  where
    go : (b : Bool) → any (named x) rs ≡ ltb 0 (row_number rs x) → (b || any (named x) rs) ≡ ltb 0 (cond b (suc (length rs)) (row_number rs x))
    go true h = sym (lt-ltb 0 (suc (length rs)) (omega arith))
    go false h = h

module _ (ws : List ℕ) where
  rows_back : (i : ℕ) → 0 < i → rows_of ws i ≡ row_at ws (i - 1) ∷ rows_of ws (i - 1)
  unfolding rows_of
  rows_back zero h = absurd (omega arith)
  rows_back (suc n) h = let e : suc n - 1 ≡ n = omega arith in rw e

  module _ (x : ℕ) where
    pub place-within : (n : ℕ) → row_number (rows_of ws n) x ≤ n
    place-within n = omega (arith, place_le (rows_of ws n) x, rows-length ws n)

    -- from the newest end, i - 1 is the place looked at, and what is not yet looked at answers w
    module _ (i w : ℕ) (a : row_number (rows_of ws i) x ≡ w) where
      pub place_over : i ≤ 0 → 0 ≡ w
      unfolding row_number rows_of
      place_over h = let z : i ≡ 0 = omega arith in rw z at a

      pub place_hit : 0 < i → get_or ws (names_from + (i - 1)) 0 ≡ x → i ≡ w
      unfolding row_number
      place_hit h e = let b : suc (length (rows_of ws (i - 1))) ≡ w = rw (rows_back i h, eq-eqb _ _ e) at a in omega (arith, rows-length ws (i - 1))

      pub place_miss : 0 < i → (get_or ws (names_from + (i - 1)) 0 ≡ x → ⊥) → row_number (rows_of ws (i - 1)) x ≡ w
      unfolding row_number
      place_miss h e = rw (rows_back i h, ne_eqb _ _ e) at a

    -- the newest row of a name is the row of its number
    row_of_first : (n : ℕ) → n ≤ 512 → row_of (rows_of ws n) x ≡ row_loaded ws (row_number (rows_of ws n) x)
    unfolding row_of row_number rows_of row_loaded
    row_of_first zero h = refl
    row_of_first (suc n) h = go (named x (row_at ws n)) (row_of_first n (omega arith))
      where
        go : (b : Bool) → row_of (rows_of ws n) x ≡ row_loaded ws (row_number (rows_of ws n) x)
            → cond b (row_at ws n) (row_of (rows_of ws n) x) ≡ row_loaded ws (cond b (suc (length (rows_of ws n))) (row_number (rows_of ws n) x))
        go true r = rw (rows-length ws n, lt-ltb n 512 (omega arith))
        go false r = r

    pub row-of : row_of (rows_in ws) x ≡ row_loaded ws (row_number (rows_in ws) x)
    row-of = row_of_first (row_count ws) (omega arith)

    -- by a name that src/lib.rt can say
    pub newest_row : row_of (rows_in ws) x ≡ row_loaded ws (row_number (rows_in ws) x)
    newest_row = row-of

  -- whether a row passes, by its place
  pub any_rows : (p : Row → Bool) (n : ℕ) → list_any (λ i. p (row_at ws i)) (range_with_len 0 n) ≡ any p (rows_of ws n)
  unfolding any rows_of
  any_rows p zero = refl
  any_rows p (suc n) = rw (any_more (λ (i : ℕ). p (row_at ws i)) 0 n, zero-add n, any_rows p n) (or_comm (any p (rows_of ws n)) (p (row_at ws n)))

-- what one row more adds to a count
pub counted_more : (ws : List ℕ) (p : Row → Bool) (i n : ℕ) (b : Bool) → (n ≤ i) × (n ≡ count p (rows_of ws i)) → b ≡ p (row_at ws i)
    → (n + from_bool b ≤ i + 1) × (n + from_bool b ≡ count p (rows_of ws (i + 1)))
unfolding rows_of count
counted_more ws p i n b f e = (one b, rw (add-one i, ← e, ← f.1) (more b))
  where
    one : (b : Bool) → n + from_bool b ≤ i + 1
    one true = omega (arith, f.0)
    one false = omega (arith, f.0)

    more : (b : Bool) → n + from_bool b ≡ cond b (suc n) n
    more true = omega arith
    more false = omega arith
