-- The search that both come from: the first place of which a test of its transaction's name, and of whether it is open, holds.
use Rattle.std.specs.Prelude.{ℕ, Bool, List}
use Rattle.lists.specs.Lists.{find}
use Rattle.transaction.specs.declared.Transaction.{Transaction}

abbrev pub holds : (ℕ → Bool → Bool) → Transaction → Bool
holds p t = p t.name.0 t.live

abbrev pub first : (ℕ → Bool → Bool) → List Transaction → ℕ
first p place = find (holds p) place
