-- The searches of these papers are the library's: what an iterator chain answers, in the words of `Lists`.
use Prim.Native.Nat.{ℕ, zero, suc, ◌+◌, ◌≤◌}
use native.Mathlib.Omega.{arith}
use mathlib.Core.Path.{◌≡◌, refl, sym, ap}
use mathlib.Core.Bool.{Bool, true, false, cond, ◌||◌}
use mathlib.Core.List.{List, [], ◌∷◌}
use lib.Dec.{ltb}
use borrow.Author.Tests.{ltb-false}
use lib.ListN.{length}
use Rattle.std.specs.Prelude.{Some, None, unwrap_or}
use Rattle.std.specs.List.{position, position_or_len, list_any, range_with_len}
use Rattle.std.proofs.lemmas.Grind.{common_steps}
use Rattle.std.proofs.lemmas.List.Recursion.{is_position_or_len}
use Rattle.lists.specs.Lists.{find, any}
use Rattle.lists.proofs.Find.{find_le}

module _ {A : Type 0} (p : A → Bool) where
  -- the place that `position` answers, or the length
  pub find-position : (l : List A) → find p l ≡ position_or_len p l
  unfolding find
  find-position = is_position_or_len (find p) p none step
    where
      none : find p [] ≡ 0
      none = refl

      step : (x : A) (xs : List A) → find p (x ∷ xs) ≡ cond (p x) 0 (1 + find p xs)
      step x xs = let e : suc (find p xs) ≡ 1 + find p xs = omega arith in ap (cond (p x) 0) e

  -- the same with the length where there is none
  pub find-unwrapped : (l : List A) → unwrap_or (position p l) (length l) ≡ find p l
  find-unwrapped l = go (ltb (position_or_len p l) (length l)) refl
    where
      go : (b : Bool) → ltb (position_or_len p l) (length l) ≡ b → unwrap_or (cond b (Some (position_or_len p l)) None) (length l) ≡ find p l
      go true e = sym (find-position l)
      go false e = let h : length l ≤ position_or_len p l = ltb-false _ _ e in let k : find p l ≤ length l = find_le p l in let f : find p l ≡ position_or_len p l = find-position l in omega arith

  -- whether it holds anywhere, as `any` answers it
  pub any-list_any : (l : List A) → any p l ≡ list_any p l
  unfolding any
  any-list_any [] = refl
  any-list_any (x ∷ l) = rw (any-list_any l)

-- of one of the numbers from a on, one number more
pub any_more : (p : ℕ → Bool) (a n : ℕ) → list_any p (range_with_len a (suc n)) ≡ (list_any p (range_with_len a n) || p (a + n))
any_more p a zero = grind (arith, common_steps)
any_more p a (suc n) = rw (any_more p (a + 1) n) (grind (arith, common_steps))
