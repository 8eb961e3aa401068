-- Tests that more than one room makes, and what they say.
use Prim.Native.Nat.{ℕ, zero, suc, ◌-◌, ◌<◌}
use native.Mathlib.Omega.{arith}
use mathlib.Core.Path.{◌≡◌, refl, sym}
use mathlib.Core.Logic.{◌↔◌}
use mathlib.Core.Bool.{Bool, true, false, not, true≢false}
use lib.Dec.{T, leb, ltb, leb-suc-suc}

pub not_tests : (b : Bool) → (not b ≡ false) ↔ T b
not_tests true = (λ e. tt, λ h. refl)
not_tests false = (λ e. true≢false e, λ h. absurd h)

-- strictly before is at or before the one above it
pub leb-before : (s n : ℕ) → 0 < n → leb s (n - 1) ≡ ltb s n
leb-before s zero h = absurd (omega arith)
leb-before s (suc n) h = let e : suc n - 1 ≡ n = omega arith in rw e (sym (leb-suc-suc s n))
