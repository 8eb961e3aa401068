-- Whether a test holds anywhere: two tests that agree.
use mathlib.Core.Path.{◌≡◌, refl}
use mathlib.Core.Bool.{Bool}
use mathlib.Core.List.{List}
use Rattle.lists.specs.Lists.{any, Every, none, also}

pub any_same : {A : Type 0} (p q : A → Bool) {l : List A} → Every (λ (x : A). p x ≡ q x) l → any p l ≡ any q l
unfolding any
any_same p q none = refl
any_same p q (also e es) = rw (e, any_same p q es)
