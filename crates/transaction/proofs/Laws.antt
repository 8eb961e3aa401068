-- The pending value of a key, by the place at which it stands among the written ones.
use Prim.Native.Nat.{ℕ, ◌<◌, ◌≤◌}
use mathlib.Core.Path.{◌≡◌, sym}
use lib.ListN.{length, get_or}
use borrow.Author.Tests.{lt-ltb, le-ltb}
use Rattle.std.specs.Prelude.{Some, None}
use Rattle.transaction.specs.Transaction.{wrote_at, writes_of, pending_of, no_write}
use Rattle.transaction.specs.declared.Transaction.{Transaction}

module _ (t : Transaction) where
  pub pending-value : (k i : ℕ) → i ≡ wrote_at t k → i < length (writes_of t) → Some (get_or (writes_of t) i no_write).value ≡ pending_of t k
  unfolding pending_of
  pending-value k i e below = rw (sym e, lt-ltb i (length (writes_of t)) below)

  pub pending-nothing : (k i : ℕ) → i ≡ wrote_at t k → length (writes_of t) ≤ i → None ≡ pending_of t k
  unfolding pending_of
  pending-nothing k i e above = rw (sym e, le-ltb i (length (writes_of t)) above)
