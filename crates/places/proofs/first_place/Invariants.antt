use Rattle.std.proofs.Common.{◌≡◌, ℕ, ◌+◌, Bool, drop}
use Rattle.lists.specs.Lists.{find}
use Rattle.memory.specs.Tests.{Says}
use Rattle.memory.specs.Memory.{places_of}
use Rattle.places.specs.First.{holds, first}
use Rattle.places.proofs.first_place.Given as goal

abbrev pub invariant-loop-i : goal.invariant-loop-i
invariant-loop-i g l =
    (p : ℕ → Bool → Bool) → Says (λ n live r. goal.F-post g l.fn.test n live r) p → first p (places_of l.memory) ≡ l.i + find (holds p) (drop l.i (places_of l.memory))
