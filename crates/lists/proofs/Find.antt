-- A search by place: what the elements not yet looked at answer is the whole answer.
use Prim.Native.Nat.{ℕ, suc, ◌+◌, ◌≤◌, ◌<◌}
use native.Mathlib.Omega.{arith}
use native.Mathlib.Numerals.{add-one}
use mathlib.Core.Path.{◌≡◌, refl, sym, ◌∙◌}
use mathlib.Core.Bool.{Bool, true, false, cond}
use mathlib.Core.List.{List, [], ◌∷◌}
use lib.ListN.{length, get_or, drop, drop_of_length-le}
use lib.Seq.{drop-cons}
use Rattle.lists.specs.Lists.{find}

module _ {A : Type 0} (p : A → Bool) where
  -- where the first i places have been looked at in vain, w is the answer
  pub search_over : (l : List A) (i w : ℕ) → w ≡ i + find p (drop i l) → length l ≤ i → i ≡ w
  unfolding find
  search_over l i w e h = sym (e ∙ rw (drop_of_length-le l h) (omega arith))

  pub search_hit : (l : List A) (i w : ℕ) (d : A) → w ≡ i + find p (drop i l) → i < length l → p (get_or l i d) ≡ true → i ≡ w
  unfolding find
  search_hit l i w d e h t = sym (e ∙ rw (drop-cons l i d h, t) (omega arith))

  pub search_miss : (l : List A) (i w : ℕ) (d : A) → w ≡ i + find p (drop i l) → i < length l → p (get_or l i d) ≡ false
      → w ≡ i + 1 + find p (drop (i + 1) l)
  unfolding find
  search_miss l i w d e h t = e ∙ rw (drop-cons l i d h, t, add-one) (omega arith)

  -- it is a place of the list, or the length
  pub find_le : (l : List A) → find p l ≤ length l
  unfolding find
  find_le [] = omega arith
  find_le (x ∷ xs) = go (p x) (find_le xs)
    where
      go : (t : Bool) → find p xs ≤ length xs → cond t 0 (suc (find p xs)) ≤ length (x ∷ xs)
      go true h = omega arith
      go false h = omega arith

  -- what is found is one of which p holds
  pub find-holds : (l : List A) (d : A) → find p l < length l → p (get_or l (find p l) d) ≡ true
  unfolding find
  find-holds [] d h = absurd (omega arith)
  find-holds (x ∷ xs) d h = go (p x) refl (find-holds xs d) h
    where
      go : (t : Bool) → p x ≡ t → (find p xs < length xs → p (get_or xs (find p xs) d) ≡ true) → cond t 0 (suc (find p xs)) < length (x ∷ xs)
          → p (get_or (x ∷ xs) (cond t 0 (suc (find p xs))) d) ≡ true
      go true e r h = e
      go false e r h = r (omega arith)

  -- and before it there is none
  pub find_first : (l : List A) (d : A) (i : ℕ) → i < find p l → p (get_or l i d) ≡ false
  unfolding find
  find_first [] d i h = absurd (omega arith)
  find_first (x ∷ xs) d i h = go (p x) refl i (find_first xs d) h
    where
      go : (t : Bool) → p x ≡ t → (i : ℕ) → ((i : ℕ) → i < find p xs → p (get_or xs i d) ≡ false) → i < cond t 0 (suc (find p xs)) → p (get_or (x ∷ xs) i d) ≡ false
      go true e i r h = absurd (omega arith)
      go false e ℕ.zero r h = e
      go false e (suc i) r h = r i (omega arith)
