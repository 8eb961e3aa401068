-- The reads of one transaction, walked through the memory from its last one back, and what the walk gathers.
use Prim.Native.Nat.{ℕ, zero, suc, ◌-◌, ◌≤◌, ◌<◌}
use native.Mathlib.Omega.{arith}
use mathlib.Core.Path.{◌≡◌, refl}
use mathlib.Core.Bool.{Bool, true, false}
use mathlib.Core.List.{List, [], ◌∷◌}
use lib.Dec.{eqb}
use borrow.Author.Tests.{eqb-true, eqb-false, eq-eqb, ne_eqb}
use Rattle.records.specs.Ledger.{chain}
use Rattle.book.specs.Book.{seen_at, seens_of}
use Rattle.book.proofs.Laws.{seens-length}

under : (k n : ℕ) → k ≤ suc n → (k ≡ suc n → ⊥) → k ≤ n
under k n h f = omega arith

module _ (ws : List ℕ) where
  -- a number past the last read, or 0, is no read
  pub chain_past : (n k : ℕ) → n < k → chain (seens_of ws n) k ≡ []
  unfolding chain seens_of
  chain_past zero k h = refl
  chain_past (suc n) k h = rw (seens-length ws n, ne_eqb k (suc n) (λ e. omega arith)) (chain_past n k (omega arith))

  pub chain_none : (n k : ℕ) → k < 1 → chain (seens_of ws n) k ≡ []
  unfolding chain seens_of
  chain_none zero k h = refl
  chain_none (suc n) k h = rw (seens-length ws n, ne_eqb k (suc n) (λ e. omega arith)) (chain_none n k h)

  -- the reads behind the one of a number don't matter
  chain_down : (n k : ℕ) → k ≤ n → chain (seens_of ws n) k ≡ chain (seens_of ws k) k
  unfolding chain seens_of
  chain_down zero k h = let z : k ≡ 0 = omega arith in rw z
  chain_down (suc n) k h = go (eqb k (suc n)) refl (chain_down n k)
    where
      go : (b : Bool) → eqb k (suc n) ≡ b → (k ≤ n → chain (seens_of ws n) k ≡ chain (seens_of ws k) k) → chain (seens_of ws (suc n)) k ≡ chain (seens_of ws k) k
      go true e below = let z : k ≡ suc n = eqb-true k (suc n) e in rw z
      go false e below = rw (seens-length ws n, e) (below (under k n h (eqb-false k (suc n) e)))

  -- the read of a number, and then those before it
  pub chain_step : (n k : ℕ) → 0 < k → k ≤ n → chain (seens_of ws n) k ≡ seen_at ws (k - 1) ∷ chain (seens_of ws (k - 1)) (seen_at ws (k - 1)).before
  unfolding chain seens_of
  chain_step n zero h l = absurd (omega arith)
  chain_step n (suc i) h l = let z : suc i - 1 ≡ i = omega arith in rw (chain_down n (suc i) l, seens-length ws i, eq-eqb (suc i) (suc i) refl, z)
