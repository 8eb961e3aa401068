-- The count that the others come from: the versions of which a test of key and stamp holds.
use Rattle.std.specs.Prelude.{ℕ, Bool, List}
use Rattle.lists.specs.Lists.{count}
use Rattle.model.specs.Log.{Entry}

unfoldable pub counted : (ℕ → ℕ → Bool) → List Entry → ℕ
counted p log = count (λ (e : Entry). p e.key e.stamp) log
