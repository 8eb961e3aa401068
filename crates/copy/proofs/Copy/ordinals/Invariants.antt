-- Those copied so far are the first of all.
use Rattle.std.proofs.Common.{◌≡◌, length}
use lib.ListN.{take}
use Rattle.copy.specs.Copy.{ordinals_of}
use Rattle.copy.proofs.Copy.ordinals.Given as goal

abbrev pub invariant-loop-k : goal.invariant-loop-k
invariant-loop-k l = (length l.all ≡ 64) × (take l.k l.all ≡ take l.k (ordinals_of l.self))
