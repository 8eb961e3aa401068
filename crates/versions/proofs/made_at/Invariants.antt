-- The batch has the commit's versions among the places passed.
use Rattle.std.proofs.Common.{◌≡◌}
use Rattle.model.specs.Log.{made_at}
use Rattle.memory.specs.Memory.{entries}
use Rattle.versions.specs.Batch.{batch_of}
use Rattle.versions.proofs.made_at.Given as goal

abbrev pub invariant-loop-i : goal.invariant-loop-i
invariant-loop-i l = l.batch ≡ batch_of (made_at (entries l.memory l.i) l.stamp.0)
