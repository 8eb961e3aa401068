-- The walk over the log that the look-ups come from: the newest version of whose key and ordinal a test holds.
use Rattle.std.specs.Prelude.{ℕ, Bool, cond, List, [], ◌∷◌, Option, Some, None}
use Rattle.units.specs.declared.Version.{Version}
use Rattle.model.specs.Log.{Entry, version_of}

unfoldable pub last_of : (ℕ → ℕ → Bool) → List Entry → Option Version
last_of p [] = None
last_of p (e ∷ es) = cond (p e.key e.ordinal) (Some (version_of e)) (last_of p es)
