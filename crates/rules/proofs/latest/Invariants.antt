-- `latest` meets its contract: the latest so far and the latest of what is left make the answer.
use Prim.Native.Nat.{max}
use mathlib.Core.Path.{◌≡◌}
use lib.ListN.{drop}
use Rattle.rules.specs.Tests.{latest}
use Rattle.rules.proofs.latest.Given as goal

abbrev pub invariant-loop-read : goal.invariant-loop-read
invariant-loop-read l = max l.last (latest (drop l.read-index l.reads)) ≡ latest l.reads
