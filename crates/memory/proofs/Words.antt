-- A word as a signed number.
use Prim.Native.Nat.{ℕ, suc, ◌-◌}
use native.Mathlib.Omega.{arith}
use mathlib.Core.Path.{◌≡◌, refl}
use mathlib.Core.Bool.{Bool, true, false}
use borrow.Author.Tests.{ltb-true, ltb-false}
use lib.Dec.{ltb}
use lib.IntN.{pos, negsuc}
use mir.Syntax.{w32}
use mir.Val.{SFits, to_z, sel}

-- whatever the word is, its value is one of 32 bits
pub value-fits : (w : ℕ) → SFits w32 (to_z w32 w)
value-fits w = go (ltb w 2147483648) refl
  where
    go : (t : Bool) → ltb w 2147483648 ≡ t → SFits w32 (sel t (pos w) (negsuc (4294967296 - suc w)))
    go true e = record { sfits = ltb-true w 2147483648 e }
    go false e = record { sfits = omega (arith, ltb-false w 2147483648 e) }
