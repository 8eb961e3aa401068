-- What a test lets through keeps what holds of every one.
use mathlib.Core.Bool.{Bool, true, false, cond}
use mathlib.Core.List.{List, ◌∷◌}
use Rattle.lists.specs.Lists.{filter, Every, none, also}

pub every_filter : {A : Type 0} {P : A → Type 0} (p : A → Bool) {l : List A} → Every P l → Every P (filter p l)
unfolding filter
every_filter p none = none
every_filter {P = P} p (also {x} {xs} h hs) = go (p x) (every_filter p hs)
  where
    go : (b : Bool) → Every P (filter p xs) → Every P (cond b (x ∷ filter p xs) (filter p xs))
    go true k = also h k
    go false k = k
