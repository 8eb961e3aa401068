-- "For every" carried from one list to another that goes along with it, and from one statement to another that says the same.
use mathlib.Core.Path.{◌≡◌, refl}
use mathlib.Core.Logic.{◌↔◌}
use mathlib.Core.Bool.{Bool, true, false, ◌||◌, true≢false}
use mathlib.Core.List.{List, ◌∷◌}
use Rattle.lists.specs.Lists.{any, Every, none, also}
use Rattle.lists.specs.Along.{Along, bare, beside}

pub every_iff : {A : Type 0} {P Q : A → Type 0} {l : List A} → Every (λ (x : A). P x ↔ Q x) l → Every P l ↔ Every Q l
every_iff k = (to k, from k)
  where
    to : {A : Type 0} {P Q : A → Type 0} {l : List A} → Every (λ (x : A). P x ↔ Q x) l → Every P l → Every Q l
    to none none = none
    to (also i is) (also h hs) = also (i.0 h) (to is hs)

    from : {A : Type 0} {P Q : A → Type 0} {l : List A} → Every (λ (x : A). P x ↔ Q x) l → Every Q l → Every P l
    from none none = none
    from (also i is) (also h hs) = also (i.1 h) (from is hs)

module _ {A B : Type 0} where
  -- what holds of every one on the right may be used where the two meet
  pub along_with : {R S : A → B → Type 0} {P : B → Type 0} → ((a : A) (b : B) → R a b → P b → S a b) → {la : List A} {lb : List B} → Along R la lb → Every P lb
      → Along S la lb
  along_with f bare none = bare
  along_with f (beside {a} {b} r rs) (also p ps) = beside (f a b r p) (along_with f rs ps)

  -- a test that fails on the left exactly where Q holds on the right fails everywhere exactly if Q holds of every one
  pub along_any : {R : A → B → Type 0} (p : A → Bool) (Q : B → Type 0) → ((a : A) (b : B) → R a b → (p a ≡ false) ↔ Q b) → {la : List A} {lb : List B} → Along R la lb
      → (any p la ≡ false) ↔ Every Q lb
  unfolding any
  along_any {R} p Q f k = (to k, from k)
    where
      to : {la : List A} {lb : List B} → Along R la lb → any p la ≡ false → Every Q lb
      to bare e = none
      to (beside {a} {b} {la} {lb} r rs) e = go (p a) refl (to rs) e
        where
          go : (t : Bool) → p a ≡ t → (any p la ≡ false → Every Q lb) → (t || any p la) ≡ false → Every Q (b ∷ lb)
          go true q k e = absurd (true≢false e)
          go false q k e = also ((f a b r).0 q) (k e)

      from : {la : List A} {lb : List B} → Along R la lb → Every Q lb → any p la ≡ false
      from bare none = refl
      from (beside {a} {b} r rs) (also h hs) = rw ((f a b r).1 h) (from rs hs)
