-- What the code asks of a read, as the rules of document 01 ask it.
use Prim.Native.Nat.{ℕ}
use mathlib.Core.Path.{◌≡◌, sym, ◌∙◌}
use mathlib.Core.Bool.{Bool, not}
use mathlib.Core.List.{List}
use lib.IntN.{ℤ, pos, neg_ℤ, ◌-ℤ◌}
use lib.Signed.{lt_z, le_z}
use Rattle.transaction.specs.declared.Mark.{Mark}
use Rattle.transaction.specs.declared.Transaction.{Transaction}
use Rattle.model.specs.Log.{Entry, up_to}
use Rattle.model.specs.Rules.{distance, stale, early}

-- a distance, from the two counts
pub by_counts : (log : List Entry) (s : ℕ) (x : Mark) (m n : ℕ) → m ≡ up_to log x.key s → n ≡ up_to log x.key x.stamp.0 → pos m -ℤ pos n ≡ distance log s x
unfolding distance
by_counts log s x m n f g = rw (f, g)

-- BV's and FV's test of a read, from the one distance
module _ (log : List Entry) (t : Transaction) (x y : Mark) (read : y ≡ x) (d : ℤ) (measured : d ≡ distance log t.name.0 y) where
  pub is_stale : {r u : Bool} → r ≡ not (lt_z d (pos t.bounds.k1)) → r ≡ u → stale log t x ≡ u
  is_stale e f = rw (← read, ← measured) (sym e ∙ f)

  pub is_early : {r : Bool} → r ≡ not (le_z (neg_ℤ d) (pos t.bounds.k2)) → r ≡ early log t x
  is_early e = e ∙ rw (measured, read)
