-- "charging the commit's own versions to its reads" is one of document 01's easy errors. The rules are evaluated on the log before the commit
-- installs; and in a session what it installs, or any commit at the clock's next stamp, changes no count of its reads.
use Prim.Native.Nat.{ℕ, suc}
use native.Mathlib.Omega.{arith}
use mathlib.Core.Path.{◌≡◌}
use mathlib.Core.List.{List}
use Rattle.lists.specs.Lists.{Every}
use Rattle.lists.proofs.Every.{every_map}
use Rattle.transaction.specs.declared.Mark.{Mark}
use Rattle.transaction.specs.declared.Write.{Write}
use Rattle.transaction.specs.Transaction.{reads_of}
use Rattle.model.specs.Log.{Entry, installed, between}
use Rattle.model.specs.Rules.{distance}
use Rattle.model.specs.State.{State, at_place}
use Rattle.model.specs.Open.{OpenAt}
use Rattle.model.specs.Reached.{Good}
use Rattle.model.proofs.Counts.{distance-installed, between-installed}
use Rattle.model.proofs.History.{chain}
use Rattle.model.proofs.Stands.{stands-stamp}
use Rattle.model.proofs.Desk.{underway-at}
use Rattle.model.proofs.Snapshot.{reads_stand}

module _ {opening : ℕ} (s : State) (g : Good opening s) (n i : ℕ) (o : OpenAt s n i) (ws : List Write) where
  -- the log after the commit
  abbrev after : List Entry
  after = installed s.log (suc s.clock) ws

  -- no distance changes
  pub distances-kept : Every (λ (x : Mark). distance after n x ≡ distance s.log n x) (reads_of (at_place s i))
  distances-kept =
      let u = underway-at s g n o in let q = o.name in
      every_map (λ (x : Mark) h. let z = stands-stamp (chain g.history) h in
      distance-installed s.log (suc s.clock) ws n x (omega arith) (omega arith)) (reads_stand s g n i o)

  -- and no count of versions between two of its reads
  pub pairs_kept : Every (λ (x : Mark). Every (λ (y : Mark).
      between after x.key x.stamp.0 y.stamp.0 ≡ between s.log x.key x.stamp.0 y.stamp.0) (reads_of (at_place s i))) (reads_of (at_place s i))
  pairs_kept =
      every_map (λ (x : Mark) h. every_map (λ (y : Mark) k. let z = stands-stamp (chain g.history) k in
      between-installed s.log (suc s.clock) ws x.key x.stamp.0 y.stamp.0 (omega arith)) (reads_stand s g n i o)) (reads_stand s g n i o)
