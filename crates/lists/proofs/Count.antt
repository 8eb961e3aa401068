-- How many times a test holds: at most the length; tests compared; one element more; and whether it holds at all.
use Prim.Native.Nat.{ℕ, suc, ◌+◌, ◌≤◌, ◌<◌}
use native.Mathlib.Omega.{arith}
use mathlib.Core.Path.{◌≡◌, refl, sym, ◌∙◌}
use mathlib.Core.Bool.{Bool, true, false, cond, ◌||◌, true≢false}
use mathlib.Core.List.{List, [], ◌∷◌}
use lib.Dec.{ltb}
use lib.ListN.{length}
use borrow.Author.Tests.{lt-ltb}
use Rattle.lists.specs.Lists.{count, bit, any, Every, none, also}
use Rattle.lists.specs.Members.{In, here, below}

pub bit_le : (b : Bool) (h : ℕ) → h ≡ bit b → h ≤ 1
unfolding bit
bit_le true h e = omega arith
bit_le false h e = omega arith

module _ {A : Type 0} where
  pub count_same : (p q : A → Bool) {l : List A} → Every (λ (x : A). p x ≡ q x) l → count p l ≡ count q l
  unfolding count
  count_same p q none = refl
  count_same p q (also e es) = rw (e, count_same p q es)

  pub count_le : (p : A → Bool) (l : List A) → count p l ≤ length l
  unfolding count
  count_le p [] = omega arith
  count_le p (x ∷ xs) = go (p x) (count_le p xs)
    where
      go : (b : Bool) → count p xs ≤ length xs → cond b (suc (count p xs)) (count p xs) ≤ suc (length xs)
      go true h = omega arith
      go false h = omega arith

  module _ (p q : A → Bool) where
    pub count_mono : {l : List A} → Every (λ (x : A). p x ≡ true → q x ≡ true) l → count p l ≤ count q l
    unfolding count
    count_mono none = omega arith
    count_mono (also {x} {xs} h hs) = go (p x) refl (q x) refl (count_mono hs)
      where
        go : (b : Bool) → p x ≡ b → (c : Bool) → q x ≡ c → count p xs ≤ count q xs → cond b (suc (count p xs)) (count p xs) ≤ cond c (suc (count q xs)) (count q xs)
        go true e true f r = omega arith
        go true e false f r = absurd (true≢false (sym (h e) ∙ f))
        go false e true f r = omega arith
        go false e false f r = r

    -- and one more where it holds at some place at which the other does not
    pub count-above : {l : List A} {x : A} → Every (λ (x : A). p x ≡ true → q x ≡ true) l → In x l → p x ≡ false → q x ≡ true → count p l < count q l
    unfolding count
    count-above none i e f = elim i [ ]
    count-above (also {x} {xs} h hs) here e f = rw (e, f) (let r = count_mono hs in omega arith)
    count-above (also {x} {xs} h hs) (below i) e f = go (p x) refl (q x) refl (count-above hs i e f)
      where
        go : (b : Bool) → p x ≡ b → (c : Bool) → q x ≡ c → count p xs < count q xs → cond b (suc (count p xs)) (count p xs) < cond c (suc (count q xs)) (count q xs)
        go true a true f r = omega arith
        go true a false f r = absurd (true≢false (sym (h a) ∙ f))
        go false a true f r = omega arith
        go false a false f r = r

  -- what is counted nowhere
  pub count_none : (p : A → Bool) {l : List A} → Every (λ (x : A). p x ≡ false) l → count p l ≡ 0
  unfolding count
  count_none p none = refl
  count_none p (also e es) = rw e (count_none p es)

  pub count-empty : (p : A → Bool) → count p [] ≡ 0
  unfolding count
  count-empty p = refl

  -- over one more
  pub count-step : (p : A → Bool) (x : A) (xs : List A) → count p (x ∷ xs) ≡ bit (p x) + count p xs
  unfolding count bit
  count-step p x xs = go (p x)
    where
      go : (b : Bool) → cond b (suc (count p xs)) (count p xs) ≡ bit b + count p xs
      go true = omega arith
      go false = omega arith

  -- what p counts is what q and r count together
  pub count_both : (p q r : A → Bool) {l : List A} → Every (λ (x : A). bit (p x) ≡ bit (q x) + bit (r x)) l → count p l ≡ count q l + count r l
  count_both p q r none = omega (arith, count-empty p, count-empty q, count-empty r)
  count_both p q r (also {x} {xs} e es) = omega (arith, count-step p x xs, count-step q x xs, count-step r x xs, count_both p q r es)

  -- a test that holds at all counts something
  pub any-count : (p : A → Bool) (l : List A) (n : ℕ) → n ≡ count p l → ltb 0 n ≡ any p l
  unfolding count any
  any-count p [] n e = rw e
  any-count p (x ∷ xs) n e = rw e (go (p x) (any-count p xs (count p xs) refl))
    where
      go : (b : Bool) → ltb 0 (count p xs) ≡ any p xs → ltb 0 (cond b (suc (count p xs)) (count p xs)) ≡ (b || any p xs)
      go true r = lt-ltb 0 (suc (count p xs)) (omega arith)
      go false r = r
