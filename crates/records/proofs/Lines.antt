-- The line of the newest record of which a test holds. Every history is taken.
use Prim.Native.Nat.{suc, ◌≤◌, ◌<◌}
use native.Mathlib.Omega.{arith}
use mathlib.Core.Path.{◌≡◌, refl}
use mathlib.Core.Bool.{Bool, true, false, cond, ◌||◌, true≢false, false≢true}
use mathlib.Core.List.{[], ◌∷◌}
use lib.ListN.{length}
use Rattle.lists.specs.Lists.{any}
use Rattle.records.specs.declared.Record.{Record}
use Rattle.records.specs.Written.{History, line_where}

module _ (p : Record → Bool) where
  pub line_past : (e : Record) (h : History) → p e ≡ false → line_where p (e ∷ h) ≡ line_where p h
  unfolding line_where
  line_past e h n = rw n

  pub line-here : (e : Record) (h : History) → p e ≡ true → line_where p (e ∷ h) ≡ suc (length h)
  unfolding line_where
  line-here e h n = rw n

  pub any_past : (e : Record) (h : History) → p e ≡ false → any p (e ∷ h) ≡ any p h
  unfolding any
  any_past e h n = rw n

  pub line_le : (h : History) → line_where p h ≤ length h
  unfolding line_where
  line_le [] = omega arith
  line_le (e ∷ h) = go (p e) (line_le h)
    where
      go : (b : Bool) → line_where p h ≤ length h → cond b (suc (length h)) (line_where p h) ≤ suc (length h)
      go true k = omega arith
      go false k = omega arith

  pub line-none : (h : History) → any p h ≡ false → line_where p h ≡ 0
  unfolding line_where any
  line-none [] n = refl
  line-none (e ∷ h) n = go (p e) (line-none h) n
    where
      go : (b : Bool) → (any p h ≡ false → line_where p h ≡ 0) → (b || any p h) ≡ false → cond b (suc (length h)) (line_where p h) ≡ 0
      go true k n = absurd (true≢false n)
      go false k n = k n

  pub line-some : (h : History) → any p h ≡ true → 0 < line_where p h
  unfolding line_where any
  line-some [] n = absurd (false≢true n)
  line-some (e ∷ h) n = go (p e) (line-some h) n
    where
      go : (b : Bool) → (any p h ≡ true → 0 < line_where p h) → (b || any p h) ≡ true → 0 < cond b (suc (length h)) (line_where p h)
      go true k n = omega arith
      go false k n = k n

  pub some-line : (h : History) → 0 < line_where p h → any p h ≡ true
  some-line h n = go (any p h) refl
    where
      go : (b : Bool) → any p h ≡ b → b ≡ true
      go true e = refl
      go false e = absurd (omega (arith, line-none h e))
