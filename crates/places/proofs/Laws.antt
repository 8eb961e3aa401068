-- A place of the desk by its words: whether a test holds of it.
use Prim.Native.Nat.{ℕ, ◌+◌, ◌<◌}
use mathlib.Core.Path.{◌≡◌, sym}
use mathlib.Core.Bool.{Bool, not}
use mathlib.Core.List.{List}
use lib.Dec.{eqb}
use lib.ListN.{get_or}
use Rattle.model.specs.State.{no_transaction}
use Rattle.memory.specs.Memory.{base_of, loaded, places_of}
use Rattle.memory.proofs.Laws.{places_at}
use Rattle.places.specs.First.{holds}

pub holds-at : (p : ℕ → Bool → Bool) (ws : List ℕ) (i b : ℕ) → i < 32 → b ≡ base_of i → (r : Bool) → r ≡ p (get_or ws b 0) (not (eqb (get_or ws (b + 1) 0) 0)) → holds p (get_or (places_of ws) i no_transaction) ≡ r
unfolding loaded
holds-at p ws i b h e r q = rw (places_at ws i h) (sym (rw e at q))
