-- The first place at which a test holds, how many times it holds, those at which it holds, and "for every"; a test as a number.
use Rattle.std.specs.Prelude.{ℕ, suc, Bool, true, false, cond, ◌||◌, List, [], ◌∷◌}

-- the first place at which p holds, or the length where it holds nowhere
unfoldable pub find : {A : Type 0} → (A → Bool) → List A → ℕ
find p [] = 0
find p (x ∷ xs) = cond (p x) 0 (suc (find p xs))

-- at how many places p holds
unfoldable pub count : {A : Type 0} → (A → Bool) → List A → ℕ
count p [] = 0
count p (x ∷ xs) = cond (p x) (suc (count p xs)) (count p xs)

-- what a test adds to a count
unfoldable pub bit : Bool → ℕ
bit true = 1
bit false = 0

-- whether p holds anywhere
unfoldable pub any : {A : Type 0} → (A → Bool) → List A → Bool
any p [] = false
any p (x ∷ xs) = p x || any p xs

-- what of the list p holds of, in the same order
unfoldable pub filter : {A : Type 0} → (A → Bool) → List A → List A
filter p [] = []
filter p (x ∷ xs) = cond (p x) (x ∷ filter p xs) (filter p xs)

-- P of every one in the list
pub data Every {A : Type 0} (P : A → Type 0) : List A → Type 0 where
  none : Every P []
  also : {x : A} {xs : List A} → P x → Every P xs → Every P (x ∷ xs)
