-- Two replies that the contract of a line allows for one input are equal.
use Prim.Native.Nat.{ℕ}
use mathlib.Core.Path.{◌≡◌, refl, sym, ◌∙◌}
use mathlib.Core.List.{List}
use Rattle.history.specs.declared.Line.{Line}
use Rattle.history.specs.declared.Line.TheVariants.{Taken, Bad, End}
use Rattle.history.specs.Line.{line_at, line_reply, line_said}

-- document 01's numbers name the answer
pub line_inj : (a b : Line) → line_reply a ≡ line_reply b → a ≡ b
unfolding line_reply
line_inj (Taken q d) (Taken r e) p = let x : q ≡ r = cc in let y : d ≡ e = cc in rw (x, y)
line_inj (Taken q d) Bad p = absurd (cc)
line_inj (Taken q d) End p = absurd (cc)
line_inj Bad (Taken r e) p = absurd (cc)
line_inj Bad Bad p = refl
line_inj Bad End p = absurd (cc)
line_inj End (Taken r e) p = absurd (cc)
line_inj End Bad p = absurd (cc)
line_inj End End p = refl

-- the line that was read, from the reply
pub line_is : (s : List ℕ) (at : ℕ) (l : Line) → line_reply l ≡ line_said s at → {m : Line} → l ≡ m → line_at s at ≡ m
unfolding line_said
line_is s at l p q = line_inj (line_at s at) l (sym p) ∙ q
