use Rattle.std.proofs.Common.{◌≡◌, ℕ, Bool}
use Rattle.memory.specs.Tests.{Says}
use Rattle.memory.specs.Memory.{entries, log_of}
use Rattle.versions.specs.Last.{last_of}
use Rattle.versions.proofs.last_where.Given as goal

abbrev pub invariant-loop-i : goal.invariant-loop-i
invariant-loop-i g l =
    (p : ℕ → ℕ → Bool) → Says (λ k o r. goal.F-post g l.fn.test k o r) p → last_of p (entries l.memory l.i) ≡ last_of p (log_of l.memory)
