-- The length of a list, from that of its image.
use Prim.Native.Nat.{ℕ}
use mathlib.Core.Path.{◌≡◌, sym, ◌∙◌}
use mathlib.Core.List.{List, map}
use lib.ListN.{length, length-map}

-- an array of structs is known to the prover by the image of its elements
pub length_mapped : {A B : Type 0} (f : A → B) (l : List A) (n : ℕ) → length (map f l) ≡ n → length l ≡ n
length_mapped f l n p = sym (length-map l f) ∙ p
