-- Bounds of a signed difference of two counts, as bounds of the counts.
use Prim.Native.Nat.{ℕ, suc, ◌+◌, ◌-◌, ◌≤◌, ◌<◌}
use native.Mathlib.Omega.{arith}
use native.Mathlib.Nat.{add-zero}
use mathlib.Core.Path.{◌≡◌, refl}
use mathlib.Core.Logic.{◌↔◌}
use mathlib.Core.Bool.{Bool, true, false, cond}
use lib.Dec.{T, ltb, ltb→lt, lt→ltb, leb→le, le→leb}
use lib.IntN.{pos, negsuc, neg_ℤ, ◌-ℤ◌}
use lib.Signed.{lt_z, le_z, ◌<ℤ◌, ◌≤ℤ◌}
use borrow.Author.Tests.{ltb-true, ltb-false}

below_diff : (a b k : ℕ) → T (lt_z (pos a -ℤ pos b) (pos k)) ↔ (a < b + k)
below_diff a ℕ.zero k = rw (add-zero a) (λ t. let h = ltb→lt a k t in omega arith, λ h. lt→ltb a k (omega arith))
below_diff a (suc b) k = go (ltb a (suc b)) refl
  where
    go : (t : Bool) → ltb a (suc b) ≡ t → T (lt_z (cond t (negsuc (suc b - suc a)) (pos (a - suc b))) (pos k)) ↔ (a < suc b + k)
    go true e = (λ t. let h = ltb-true a (suc b) e in omega arith, λ h. tt)
    go false e = let q = ltb-false a (suc b) e in (λ t. let h = ltb→lt (a - suc b) k t in omega arith, λ h. lt→ltb (a - suc b) k (omega arith))

negative : (n k : ℕ) → T (le_z (neg_ℤ (pos n)) (pos k))
negative ℕ.zero k = le→leb 0 k (omega arith)
negative (suc n) k = tt

above_diff : (a b k : ℕ) → T (le_z (neg_ℤ (pos a -ℤ pos b)) (pos k)) ↔ (b ≤ a + k)
above_diff a ℕ.zero k = (λ t. omega arith, λ h. negative (a + 0) k)
above_diff a (suc b) k = go (ltb a (suc b)) refl
  where
    go : (t : Bool) → ltb a (suc b) ≡ t → T (le_z (neg_ℤ (cond t (negsuc (suc b - suc a)) (pos (a - suc b)))) (pos k)) ↔ (suc b ≤ a + k)
    go true e = let q = ltb-true a (suc b) e in (λ t. let h = leb→le (suc (suc b - suc a)) k t in omega arith, λ h. le→leb (suc (suc b - suc a)) k (omega arith))
    go false e = (λ t. let q = ltb-false a (suc b) e in omega arith, λ h. negative (a - suc b) k)

-- "BV: distance less than k1"
pub diff_lt : (a b k : ℕ) → ((pos a -ℤ pos b) <ℤ pos k) ↔ (a < b + k)
diff_lt a b k = (λ h. (below_diff a b k).0 h.lt, λ h. record { lt = (below_diff a b k).1 h })

-- "FV: minus the distance at most k2"
pub diff_le : (a b k : ℕ) → (neg_ℤ (pos a -ℤ pos b) ≤ℤ pos k) ↔ (b ≤ a + k)
diff_le a b k = (λ h. (above_diff a b k).0 h.le, λ h. record { le = (above_diff a b k).1 h })
