-- Two lists that go along with each other: as long, and R of each two at one place.
use Rattle.std.specs.Prelude.{List, [], ◌∷◌}

pub data Along {A B : Type 0} (R : A → B → Type 0) : List A → List B → Type 0 where
  bare : Along R [] []
  beside : {a : A} {b : B} {la : List A} {lb : List B} → R a b → Along R la lb → Along R (a ∷ la) (b ∷ lb)
