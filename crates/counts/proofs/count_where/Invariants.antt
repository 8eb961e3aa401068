use Rattle.std.proofs.Common.{◌≡◌, ℕ, ◌≤◌, Bool}
use Rattle.memory.specs.Tests.{Says}
use Rattle.memory.specs.Memory.{entries}
use Rattle.counts.specs.Where.{counted}
use Rattle.counts.proofs.count_where.Given as goal

abbrev pub invariant-loop-i : goal.invariant-loop-i
invariant-loop-i g l =
    (l.n ≤ l.i) × ((p : ℕ → ℕ → Bool) → Says (λ k s r. goal.F-post g l.fn.test k s r) p → l.n ≡ counted p (entries l.memory l.i))
