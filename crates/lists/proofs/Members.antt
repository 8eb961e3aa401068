-- What holds of every one in a list holds of each that stands in it; and lists with no number twice.
use Prim.Native.Nat.{ℕ, zero, suc, ◌<◌}
use native.Mathlib.Omega.{arith}
use mathlib.Core.Path.{◌≡◌, refl, sym}
use mathlib.Core.Logic.{◌≢◌, ◌⊎◌, inl, inr}
use mathlib.Core.List.{List, [], ◌∷◌, ◌++◌, map}
use lib.ListN.{length, get_or}
use Rattle.lists.specs.Lists.{Every, none, also}
use Rattle.lists.specs.Members.{In, here, below, Distinct, empty, apart}
use Rattle.lists.proofs.Every.{every_append}

module _ {A : Type 0} where
  pub every_in : {P : A → Type 0} {l : List A} {x : A} → Every P l → In x l → P x
  every_in none i = elim i [ ]
  every_in (also p ps) here = p
  every_in (also p ps) (below i) = every_in ps i

  pub in_every : (P : A → Type 0) (l : List A) → ((x : A) → In x l → P x) → Every P l
  in_every P [] f = none
  in_every P (x ∷ xs) f = also (f x here) (in_every P xs (λ y i. f y (below i)))

  pub get_or_in : (l : List A) (i : ℕ) (d : A) → i < length l → In (get_or l i d) l
  get_or_in [] i d h = absurd (omega arith)
  get_or_in (x ∷ xs) zero d h = here
  get_or_in (x ∷ xs) (suc i) d h = below (get_or_in xs i d (omega arith))

  pub in_append : {x : A} (l r : List A) → In x (l ++ r) → In x l ⊎ In x r
  in_append [] r i = inr i
  in_append (y ∷ l) r here = inl here
  in_append (y ∷ l) r (below i) = elim (in_append l r i) [ inl h ↦ inl (below h) | inr h ↦ inr h ]

  pub in_nothing : {x : A} → In x [] → ⊥
  in_nothing i = go i refl
    where
      go : {x : A} {l : List A} → In x l → length l ≡ 0 → ⊥
      go here e = omega arith
      go (below j) e = omega arith

  pub in_one : {x y : A} → In x (y ∷ []) → x ≡ y
  in_one here = refl
  in_one (below i) = absurd (in_nothing i)

  pub in_left : {x : A} {l : List A} (r : List A) → In x l → In x (l ++ r)
  in_left r here = here
  in_left r (below i) = below (in_left r i)

  pub in_right : {x : A} (l : List A) {r : List A} → In x r → In x (l ++ r)
  in_right [] i = i
  in_right (y ∷ l) i = below (in_right l i)

  pub in_map : {B : Type 0} (f : A → B) {x : A} {l : List A} → In x l → In (f x) (map f l)
  in_map f here = here
  in_map f (below i) = below (in_map f i)

-- one more, which is none of them
pub distinct_snoc : {l : List ℕ} (k : ℕ) → Distinct l → Every (λ (y : ℕ). y ≢ k) l → Distinct (l ++ (k ∷ []))
distinct_snoc k empty none = apart none empty
distinct_snoc k (apart a d) (also h hs) = apart (every_append a (also (λ e. h (sym e)) none)) (distinct_snoc k d hs)
