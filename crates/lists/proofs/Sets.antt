-- A run of stores: one store more, and what a run leaves at the front.
use Prim.Native.Nat.{ℕ, suc, ◌+◌, ◌≤◌}
use native.Mathlib.Nat.{add-zero, add-suc, suc-add}
use native.Mathlib.Omega.{arith}
use mathlib.Core.Path.{◌≡◌, ap, ◌∙◌}
use mathlib.Core.List.{List, [], ◌∷◌, ◌++◌}
use lib.ListN.{length, set, take, drop}
use lib.Seq.{sets, sets-eq, take-append_seam}

module _ {A : Type 0} where
  pub sets_snoc : (l : List A) (i : ℕ) (vs : List A) (a : A) → sets l i (vs ++ (a ∷ [])) ≡ set (sets l i vs) (i + length vs) a
  sets_snoc l i [] a = rw add-zero
  sets_snoc l i (b ∷ vs) a = rw (add-suc, ← suc-add) (sets_snoc (set l i b) (suc i) vs a)

  pub take_sets : (l t : List A) → length t ≤ length l → take (length t) (sets l 0 t) ≡ t
  take_sets l t h = ap (take (length t)) (sets-eq t l 0 (omega arith)) ∙ take-append_seam t (drop (0 + length t) l)
