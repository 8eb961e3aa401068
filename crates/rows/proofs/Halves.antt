-- A key's bit stands in one half of the word: the low one where the key is below 32, else the high one.
use Prim.Native.Nat.{ℕ, zero, suc, ◌+◌, ◌-◌, ◌/◌, ◌%◌, ◌^◌, ◌≤◌, ◌<◌}
use native.Mathlib.Omega.{arith}
use native.Mathlib.Numerals.{add-one}
use Rattle.std.specs.Int.{from_bool}
use mathlib.Core.Path.{◌≡◌, refl, sym, ◌∙◌, ap}
use mathlib.Core.Logic.{◌↔◌}
use mathlib.Core.Bool.{Bool, true, false, cond, not, ◌&&◌}
use mathlib.Core.List.{List, [], ◌∷◌}
use lib.Dec.{eqb, leb, ltb}
use lib.ListN.{get_or}
use lib.Pow.{field, mod-mod-pow, shr-shr}
use borrow.Author.Tests.{ltb-true, ltb-false, leb-true, leb-false, lt-ltb, le-ltb, eq-eqb, ne_eqb, eqb-true, eqb-false}
use Rattle.std.specs.Int.Bits.{bit_and, bit_or, or_add_and}
use Rattle.std.proofs.lemmas.Nat.{and_le_l, and_le_r, and_mod, and_shr}
use Rattle.lists.proofs.Count.{count_same}
use Rattle.lists.proofs.Every.{every_each}
use Rattle.lists.specs.Lists.{count, bit}
use Rattle.records.specs.Ledger.{has, meets, made_between, rows_between}
use Rattle.records.specs.declared.Row.{Row}
use Rattle.book.specs.Layout.{lows_from, highs_from}
use Rattle.book.specs.Book.{key_word, row_at, rows_of, rows_in, row_count}
use Rattle.rows.specs.Table.{half_from, made_within, rows_within}
use Rattle.rows.proofs.Walk.{counted_more}
use Rattle.rows.proofs.Words.{has_past}

-- a digit below 2 ^ 32 is one of the remainder by it
digit_mod : (w x : ℕ) → x < 32 → w / 2 ^ x % 2 ≡ w % 4294967296 % 2 ^ (1 + x) / 2 ^ x
digit_mod w x h =
    let e : (31 - x) + (1 + x) ≡ 32 = omega arith in
    sym (field w 1 x) ∙ ap (λ (n : ℕ). n / 2 ^ x) (sym (mod-mod-pow w (31 - x) (1 + x)) ∙ ap (λ (k : ℕ). w % 2 ^ k % 2 ^ (1 + x)) e)

pub has_mod : (w v x : ℕ) → x < 32 → w % 4294967296 ≡ v % 4294967296 → has w x ≡ has v x
has_mod w v x h e = ap (λ (n : ℕ). eqb n 1) (digit_mod w x h ∙ ap (λ (n : ℕ). n % 2 ^ (1 + x) / 2 ^ x) e ∙ sym (digit_mod v x h))

module _ (low high : ℕ) where
  has_low : (x : ℕ) → x < 32 → has (key_word low high) x ≡ has low x
  has_low x h = has_mod (key_word low high) low x h (omega arith)

  above : key_word low high / 4294967296 ≡ high % 4294967296
  above = omega arith

  has_high : (y : ℕ) → y < 32 → has (key_word low high) (32 + y) ≡ has high y
  has_high y h =
      ap (λ (n : ℕ). eqb (n % 2) 1) (sym (shr-shr (key_word low high) 32 y) ∙ ap (λ (n : ℕ). n / 2 ^ y) above)
      ∙ has_mod (high % 4294967296) high y h (omega arith)

  has-none : (x : ℕ) → 64 ≤ x → has (key_word low high) x ≡ false
  has-none x h = has_past (key_word low high) x (omega arith) h

pub half_le : (half x : ℕ) → half ≡ half_from x → half ≤ highs_from
unfolding half_from
half_le half x e = rw e (go (ltb x 32))
  where
    go : (b : Bool) → cond b lows_from highs_from ≤ highs_from
    go true = omega arith
    go false = omega arith

-- no line is after one and at or before another that is not later
no_line : (a : Bool) (e after until : ℕ) → until ≤ after → (a && (ltb after e && leb e until)) ≡ false
no_line a e after until h = go a (ltb after e) refl (leb e until) refl
  where
    go : (a b : Bool) → ltb after e ≡ b → (c : Bool) → leb e until ≡ c → (a && (b && c)) ≡ false
    go true true p true q = absurd (omega (arith, ltb-true after e p, leb-true e until q))
    go true true p false q = refl
    go true false p c q = refl
    go false b p c q = refl

module _ (ws : List ℕ) (x : ℕ) where
  -- the row's word has the key exactly if its half has the key's remainder
  pub half_has : (i : ℕ) → x < 64 → has (row_at ws i).keys x ≡ has (get_or ws (half_from x + i) 0) (x % 32)
  unfolding half_from
  half_has i h = go (ltb x 32) refl
    where
      go : (b : Bool) → ltb x 32 ≡ b → has (row_at ws i).keys x ≡ has (get_or ws (cond b lows_from highs_from + i) 0) (x % 32)
      go true e =
          let m : x % 32 ≡ x = omega (arith, ltb-true x 32 e) in
          has_low (get_or ws (lows_from + i) 0) (get_or ws (highs_from + i) 0) x (ltb-true x 32 e) ∙ ap (has (get_or ws (lows_from + i) 0)) (sym m)
      go false e =
          let s : x ≡ 32 + x % 32 = omega (arith, ltb-false x 32 e) in
          ap (has (row_at ws i).keys) s ∙ has_high (get_or ws (lows_from + i) 0) (get_or ws (highs_from + i) 0) (x % 32) (omega arith)

  -- what one row more adds to a count, by its half
  pub within_more : (i half n after until : ℕ) (b : Bool) → x < 64 → half ≡ half_from x → (n ≤ i) × (n ≡ count (made_within x after until) (rows_of ws i))
      → b ≡ (has (get_or ws (half + i) 0) (x % 32) && (ltb after (row_at ws i).end && leb (row_at ws i).end until))
      → (n + from_bool b ≤ i + 1) × (n + from_bool b ≡ count (made_within x after until) (rows_of ws (i + 1)))
  within_more i half n after until b h e f g =
      counted_more ws (made_within x after until) i n b f (g ∙ ap (λ (k : ℕ). has (get_or ws (k + i) 0) (x % 32) && (ltb after (row_at ws i).end && leb (row_at ws i).end until)) e ∙ ap (λ (c : Bool). c && (ltb after (row_at ws i).end && leb (row_at ws i).end until)) (sym (half_has i h)))

  -- and where no line is in the span
  pub within_none : (i n after until : ℕ) → until ≤ after → (n ≤ i) × (n ≡ count (made_within x after until) (rows_of ws i))
      → (n ≤ i + 1) × (n ≡ count (made_within x after until) (rows_of ws (i + 1)))
  unfolding rows_of count
  within_none i n after until h f = (omega (arith, f.0), rw (add-one i, no_line (has (row_at ws i).keys x) (row_at ws i).end after until h) f.1)

  -- no row has a key past 63
  pub none_has : (p : Row → Bool) → 64 ≤ x → (n : ℕ) → 0 ≡ count (λ (r : Row). has r.keys x && p r) (rows_of ws n)
  unfolding count rows_of bit
  none_has p h zero = refl
  none_has p h (suc n) = rw (has-none (get_or ws (lows_from + n) 0) (get_or ws (highs_from + n) 0) x h) (none_has p h n)

  pub within_past : (after until : ℕ) → 64 ≤ x → 0 ≡ rows_within (rows_in ws) x after until
  unfolding rows_within
  within_past after until h = none_has (λ (r : Row). ltb after r.end && leb r.end until) h (row_count ws)

  pub between_past : (after before : ℕ) → 64 ≤ x → 0 ≡ rows_between (rows_in ws) x after before
  unfolding rows_between
  between_past after before h = none_has (λ (r : Row). ltb after r.end && ltb r.end before) h (row_count ws)

-- no line is after one and before another that is not later
pub never : (a : Bool) (e from before : ℕ) → before ≤ from → (a && (ltb from e && ltb e before)) ≡ false
never a e from before h = go a (ltb from e) refl (ltb e before) refl
  where
    go : (a b : Bool) → ltb from e ≡ b → (c : Bool) → ltb e before ≡ c → (a && (b && c)) ≡ false
    go true true p true q = absurd (omega (arith, ltb-true from e p, ltb-true e before q))
    go true true p false q = refl
    go true false p c q = refl
    go false b p c q = refl

pub between-empty : (rows : List Row) (x from before : ℕ) → before ≤ from → 0 ≡ rows_between rows x from before
unfolding rows_between count
between-empty [] x from before h = refl
between-empty (r ∷ rs) x from before h = rw (never (has r.keys x) r.end from before h) (between-empty rs x from before h)

-- the lines strictly between two are those after the one and at or before the line in front of the other
last_line : (a : Bool) (e from before : ℕ) → (a && (ltb from e && leb e (before - 1))) ≡ (a && (ltb from e && ltb e before))
last_line a e from before = go (ltb from e) refl (leb e (before - 1)) refl
  where
    go : (b : Bool) → ltb from e ≡ b → (c : Bool) → leb e (before - 1) ≡ c → (a && (b && c)) ≡ (a && (b && ltb e before))
    go false g c f = refl
    go true g true f = rw (lt-ltb e before (omega (arith, leb-true e (before - 1) f, ltb-true from e g)))
    go true g false f = rw (le-ltb e before (omega (arith, leb-false e (before - 1) f)))

pub between_last : (rows : List Row) (x from before : ℕ) → rows_within rows x from (before - 1) ≡ rows_between rows x from before
unfolding rows_within rows_between
between_last rows x from before =
    count_same (made_within x from (before - 1)) (made_between x from before) (every_each (λ r. last_line (has r.keys x) r.end from before) rows)

-- a word meets another exactly if one of its halves does
pub met_halves : (low high k : ℕ) → low < 4294967296 → high < 4294967296
    → not (eqb (bit_or (bit_and low (k % 4294967296)) (bit_and high (k / 4294967296))) 0) ≡ meets (key_word low high) k
met_halves low high k f g =
    let w : ℕ = key_word low high in
    let a : w % 4294967296 ≡ low = omega (arith, f, g) in
    let b : w / 4294967296 ≡ high = omega (arith, f, g) in
    let x : bit_and w k % 4294967296 ≡ bit_and low (k % 4294967296) = and_mod w k 32 ∙ ap (λ (n : ℕ). bit_and n (k % 4294967296)) a in
    let y : bit_and w k / 4294967296 ≡ bit_and high (k / 4294967296) = and_shr w k 32 ∙ ap (λ (n : ℕ). bit_and n (k / 4294967296)) b in
    ap not (same_zero _ _ (none x y))
  where
    p : ℕ
    p = bit_and low (k % 4294967296)

    q : ℕ
    q = bit_and high (k / 4294967296)

    none : bit_and (key_word low high) k % 4294967296 ≡ p → bit_and (key_word low high) k / 4294967296 ≡ q → (bit_or p q ≡ 0) ↔ (bit_and (key_word low high) k ≡ 0)
    none x y =
        (λ e. omega (arith, x, y, e, or_add_and p q, and_le_l p q, and_le_r p q), λ e. omega (arith, x, y, e, or_add_and p q))

    same_zero : (m n : ℕ) → ((m ≡ 0) ↔ (n ≡ 0)) → eqb m 0 ≡ eqb n 0
    same_zero m n h = go (eqb m 0) refl
      where
        go : (b : Bool) → eqb m 0 ≡ b → b ≡ eqb n 0
        go true e = sym (eq-eqb n 0 (h.0 (eqb-true m 0 e)))
        go false e = sym (ne_eqb n 0 (λ z. eqb-false m 0 e (h.1 z)))
