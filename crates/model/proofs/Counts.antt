-- "Charging the commit's own versions to its reads" is one of document 01's easy errors: the rules are counted over the log before the
-- commit installs, and what it installs changes none of the counts of its reads.
use Prim.Native.Nat.{ℕ, ◌≤◌, ◌<◌}
use mathlib.Core.Path.{◌≡◌, refl, ◌∙◌, ap}
use mathlib.Core.Bool.{Bool, true, false, ◌&&◌}
use mathlib.Core.List.{List, [], ◌∷◌}
use lib.Dec.{ltb}
use lib.IntN.{pos, ◌-ℤ◌}
use borrow.Author.Tests.{lt-leb, le-ltb}
use Rattle.lists.specs.Lists.{count}
use Rattle.transaction.specs.declared.Mark.{Mark}
use Rattle.transaction.specs.declared.Write.{Write}
use Rattle.model.specs.Log.{Entry, of_key, up_to, between, next, installed}
use Rattle.model.specs.Rules.{distance}

pub and-false : (b : Bool) → (b && false) ≡ false
and-false true = refl
and-false false = refl

-- a count that passes over the stamp of a commit does not see what it installs
pub count-installed : (p : Entry → Bool) (st : ℕ) → ((e : Entry) → e.stamp ≡ st → p e ≡ false) → (ws : List Write) (log : List Entry)
    → count p (installed log st ws) ≡ count p log
unfolding count installed
count-installed p st h [] log = refl
count-installed p st h (w ∷ ws) log = count-installed p st h ws (next log st w ∷ log) ∙ rw (h (next log st w) refl)

module _ (log : List Entry) (st : ℕ) (ws : List Write) where
  pub up_to-installed : (x t : ℕ) → t < st → up_to (installed log st ws) x t ≡ up_to log x t
  unfolding up_to
  up_to-installed x t h = count-installed _ st (λ e q. rw (q, lt-leb st t h) (and-false (of_key x e))) ws log

  pub between-installed : (x a b : ℕ) → b ≤ st → between (installed log st ws) x a b ≡ between log x a b
  unfolding between
  between-installed x a b h = count-installed _ st (λ e q. rw (q, le-ltb st b h, and-false (ltb a st)) (and-false (of_key x e))) ws log

  -- of a read stamped before the commit, by a transaction that started before it
  pub distance-installed : (s : ℕ) (x : Mark) → s < st → x.stamp.0 < st → distance (installed log st ws) s x ≡ distance log s x
  unfolding distance
  distance-installed s x h k =
      ap (λ (n : ℕ). pos n -ℤ pos (up_to (installed log st ws) x.key x.stamp.0)) (up_to-installed x.key s h)
      ∙ ap (λ (n : ℕ). pos (up_to log x.key s) -ℤ pos n) (up_to-installed x.key x.stamp.0 k)
