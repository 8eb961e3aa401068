-- What a test that is passed to a walk over the memory may answer.
use Rattle.std.specs.Prelude.{◌≡◌, Bool}

-- it answers what p says
abbrev pub Says : {A B : Type 0} → (A → B → Bool → Type 0) → (A → B → Bool) → Type 0
Says {A} {B} answers p = (a : A) (b : B) (r : Bool) → answers a b r → r ≡ p a b
