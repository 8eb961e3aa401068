-- Lists read backwards.
use mathlib.Core.Path.{◌≡◌, refl}
use mathlib.Core.List.{List, [], ◌∷◌, map, reverse, reverse_aux}
use Rattle.lists.specs.Lists.{Every, none, also}

map_onto : {A B : Type 0} (f : A → B) (l r : List A) → map f (reverse_aux l r) ≡ reverse_aux (map f l) (map f r)
map_onto f [] r = refl
map_onto f (x ∷ l) r = map_onto f l (x ∷ r)

pub map-reverse : {A B : Type 0} (f : A → B) (l : List A) → map f (reverse l) ≡ reverse (map f l)
map-reverse f l = map_onto f l []

every_onto : {A : Type 0} {P : A → Type 0} {l r : List A} → Every P l → Every P r → Every P (reverse_aux l r)
every_onto none k = k
every_onto (also h hs) k = every_onto hs (also h k)

pub every_reverse : {A : Type 0} {P : A → Type 0} {l : List A} → Every P l → Every P (reverse l)
every_reverse k = every_onto k none
