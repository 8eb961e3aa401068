-- A word as a set of keys: a word of 64 bits has none past 63.
use Prim.Native.Nat.{ℕ, zero, suc, ◌/◌, ◌%◌, ◌^◌, ◌≤◌, ◌<◌}
use native.Mathlib.Nat.{div-eq_of_lt, lt_of_lt_of_le, mod-lt}
use native.Mathlib.Omega.{arith}
use mathlib.Core.Path.{◌≡◌, refl}
use mathlib.Core.Bool.{Bool, true, false, cond, ◌&&◌}
use lib.Dec.{eqb, ltb}
use lib.Pow.{pow_mono}
use borrow.Author.Tests.{ltb-true, le-ltb}
use Rattle.records.specs.Ledger.{has, nowhere}
use Rattle.lists.specs.Lists.{bit}

-- a word of n bits has none from n on
pub has_over : (word n x : ℕ) → word < 2 ^ n → n ≤ x → has word x ≡ false
has_over word n x h k = rw (div-eq_of_lt (lt_of_lt_of_le h (pow_mono k)))

pub has_past : (word x : ℕ) → word < 2 ^ 64 → 64 ≤ x → has word x ≡ false
has_past word x h k = has_over word 64 x h k

-- a digit is the bit that says whether it is one
pub digit-bit : (n : ℕ) → n < 2 → n ≡ bit (eqb n 1)
unfolding bit
digit-bit zero h = refl
digit-bit (suc zero) h = refl
digit-bit (suc (suc n)) h = absurd (omega arith)

pub has-bit : (word x : ℕ) → word / 2 ^ x % 2 ≡ bit (has word x)
has-bit word x = digit-bit (word / 2 ^ x % 2) (mod-lt (word / 2 ^ x) (omega arith))

-- the bit says the test again
pub bit_one : (b : Bool) (n : ℕ) → n ≡ bit b → eqb n 1 ≡ b
unfolding bit
bit_one true n e = rw e
bit_one false n e = rw e

-- the line of a version: none of an end that is no commit line
module _ (word x e : ℕ) where
  pub line-nowhere : (0 < e → nowhere ≤ e) → nowhere ≡ cond (has word x && (ltb 0 e && ltb e nowhere)) e nowhere
  line-nowhere h = go (has word x) (ltb 0 e) refl
    where
      go : (a b : Bool) → ltb 0 e ≡ b → nowhere ≡ cond (a && (b && ltb e nowhere)) e nowhere
      go false b k = refl
      go true false k = refl
      go true true k = rw (le-ltb e nowhere (h (ltb-true 0 e k)))
