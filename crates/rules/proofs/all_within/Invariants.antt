-- `all_within` meets its contract: no read so far is stale, and the first early one is kept.
use Prim.Native.Nat.{◌+◌}
use mathlib.Core.Path.{◌≡◌}
use lib.ListN.{drop}
use Rattle.lists.specs.Lists.{find}
use Rattle.memory.specs.Memory.{log_of}
use Rattle.transaction.specs.Transaction.{reads_of}
use Rattle.model.specs.Rules.{stale, early}
use Rattle.rules.proofs.Outside.{Keeps}
use Rattle.rules.proofs.all_within.Given as goal

abbrev pub invariant-loop-i : goal.invariant-loop-i
invariant-loop-i l = (find (stale (log_of l.memory) l.t) (reads_of l.t) ≡ l.i + find (stale (log_of l.memory) l.t) (drop l.i (reads_of l.t)))
    × Keeps (early (log_of l.memory) l.t) (reads_of l.t) l.i l.early
