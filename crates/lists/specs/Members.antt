-- Standing in a list, and a list that has nothing twice.
use Rattle.std.specs.Prelude.{List, [], ◌∷◌, ◌≢◌}
use Rattle.lists.specs.Lists.{Every}

-- x stands in the list
pub data In {A : Type 0} (x : A) : List A → Type 0 where
  here : {xs : List A} → In x (x ∷ xs)
  below : {y : A} {xs : List A} → In x xs → In x (y ∷ xs)

-- nothing comes twice
pub data Distinct {A : Type 0} : List A → Type 0 where
  empty : Distinct []
  apart : {x : A} {xs : List A} → Every (λ (y : A). y ≢ x) xs → Distinct xs → Distinct (x ∷ xs)
