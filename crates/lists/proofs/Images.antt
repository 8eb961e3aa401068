-- "For every" along an image, at any place, and over one thing repeated.
use Prim.Native.Nat.{ℕ, zero, suc}
use mathlib.Core.List.{List, [], ◌∷◌, map}
use lib.ListN.{get_or, replicate}
use Rattle.lists.specs.Lists.{Every, none, also}

module _ {A : Type 0} where
  pub every_image : {B : Type 0} (P : B → Type 0) (f : A → B) {l : List A} → Every (λ (x : A). P (f x)) l → Every P (map f l)
  every_image P f none = none
  every_image P f (also h hs) = also h (every_image P f hs)

  pub image_every : {B : Type 0} (P : B → Type 0) (f : A → B) (l : List A) → Every P (map f l) → Every (λ (x : A). P (f x)) l
  image_every P f [] none = none
  image_every P f (x ∷ xs) (also h hs) = also h (image_every P f xs hs)

  -- past the end stands the default
  pub every_get_or : {P : A → Type 0} {l : List A} (d : A) → P d → Every P l → (i : ℕ) → P (get_or l i d)
  every_get_or d p none i = p
  every_get_or d p (also h hs) zero = h
  every_get_or d p (also h hs) (suc i) = every_get_or d p hs i

  pub every_replicate : (P : A → Type 0) (a : A) → P a → (n : ℕ) → Every P (replicate n a)
  every_replicate P a p zero = none
  every_replicate P a p (suc n) = also p (every_replicate P a p n)
