-- "For every" against the searches: what a test finds nowhere, and what holds at each place.
use Prim.Native.Nat.{ℕ, zero, suc, ◌≤◌, ◌<◌}
use native.Mathlib.Omega.{arith}
use mathlib.Core.Path.{◌≡◌, refl, ap}
use mathlib.Core.Bool.{Bool, true, false, cond, ◌||◌, true≢false}
use mathlib.Core.List.{List, [], ◌∷◌, ◌++◌}
use lib.ListN.{length, get_or, set, take}
use Rattle.lists.specs.Lists.{find, any, Every, none, also}

module _ {A : Type 0} where
  -- what holds of each thing
  pub every_each : {P : A → Type 0} → ((x : A) → P x) → (l : List A) → Every P l
  every_each f [] = none
  every_each f (x ∷ xs) = also (f x) (every_each f xs)

  pub every_map : {P Q : A → Type 0} → ((x : A) → P x → Q x) → {l : List A} → Every P l → Every Q l
  every_map f none = none
  every_map f (also {x} h hs) = also (f x h) (every_map f hs)

  pub every_both : {P Q R : A → Type 0} → ((x : A) → P x → Q x → R x) → {l : List A} → Every P l → Every Q l → Every R l
  every_both f none none = none
  every_both f (also {x} h hs) (also k ks) = also (f x h k) (every_both f hs ks)

  pub every_at : {P : A → Type 0} {l : List A} (d : A) → Every P l → (i : ℕ) → i < length l → P (get_or l i d)
  every_at d none i h = absurd (omega arith)
  every_at d (also p ps) zero h = p
  every_at d (also p ps) (suc i) h = every_at d ps i (omega arith)

  pub at_every : (P : A → Type 0) (d : A) (l : List A) → ((i : ℕ) → i < length l → P (get_or l i d)) → Every P l
  at_every P d [] f = none
  at_every P d (x ∷ xs) f = also (f 0 (omega arith)) (at_every P d xs (λ i h. f (suc i) (omega arith)))

  pub every_append : {P : A → Type 0} {l r : List A} → Every P l → Every P r → Every P (l ++ r)
  every_append none k = k
  every_append (also h hs) k = also h (every_append hs k)

  pub every_set : {P : A → Type 0} {l : List A} (i : ℕ) (a : A) → P a → Every P l → Every P (set l i a)
  every_set i a h none = none
  every_set zero a h (also p ps) = also h ps
  every_set (suc i) a h (also p ps) = also p (every_set i a h ps)

  pub every_take : {P : A → Type 0} {l : List A} (n : ℕ) → Every P l → Every P (take n l)
  every_take zero h = none
  every_take (suc n) none = none
  every_take {P = P} (suc n) (also {x = x} {xs = xs} p ps) = also p (every_take {P = P} {l = xs} n ps)

module _ {A : Type 0} (p : A → Bool) where
  -- a test that holds nowhere is found at the length
  pub find_none : {l : List A} → Every (λ (x : A). p x ≡ false) l → find p l ≡ length l
  unfolding find
  find_none none = refl
  find_none (also e es) = rw e (ap suc (find_none es))

  pub none_found : (l : List A) → length l ≤ find p l → Every (λ (x : A). p x ≡ false) l
  unfolding find
  none_found [] h = none
  none_found (x ∷ xs) h = go (p x) refl (none_found xs) h
    where
      go : (t : Bool) → p x ≡ t → (length xs ≤ find p xs → Every (λ (y : A). p y ≡ false) xs) → length (x ∷ xs) ≤ cond t 0 (suc (find p xs)) → Every (λ (y : A). p y ≡ false) (x ∷ xs)
      go true e r h = absurd (omega arith)
      go false e r h = also e (r (omega arith))

  -- the first place at which a test holds is what the search finds
  pub find_is : (l : List A) (d : A) (i : ℕ) → i < length l → p (get_or l i d) ≡ true → ((j : ℕ) → j < i → p (get_or l j d) ≡ false) → find p l ≡ i
  unfolding find
  find_is [] d i h e f = absurd (omega arith)
  find_is (x ∷ xs) d zero h e f = rw e
  find_is (x ∷ xs) d (suc i) h e f = rw (f 0 (omega arith)) (ap suc (find_is xs d i (omega arith) e (λ j k. f (suc j) (omega arith))))

  pub any_none : {l : List A} → Every (λ (x : A). p x ≡ false) l → any p l ≡ false
  unfolding any
  any_none none = refl
  any_none (also e es) = rw e (any_none es)

  pub none_any : (l : List A) → any p l ≡ false → Every (λ (x : A). p x ≡ false) l
  unfolding any
  none_any [] h = none
  none_any (x ∷ xs) h = go (p x) refl (none_any xs) h
    where
      go : (t : Bool) → p x ≡ t → (any p xs ≡ false → Every (λ (y : A). p y ≡ false) xs) → (t || any p xs) ≡ false → Every (λ (y : A). p y ≡ false) (x ∷ xs)
      go true e r h = absurd (true≢false h)
      go false e r h = also e (r h)
