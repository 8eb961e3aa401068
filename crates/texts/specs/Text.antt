-- A text that grows in room for n bytes: what is put stands behind it whole, or not at all.
use Rattle.std.specs.Prelude.{ℕ, ◌+◌, Bool, cond, List, ◌++◌, leb, length, Option, Some, None}

-- is there room for t behind old
abbrev pub room : ℕ → List ℕ → List ℕ → Bool
room n old t = leb (length old + length t) n

-- old after t was put behind it
unfoldable pub grown : ℕ → List ℕ → List ℕ → List ℕ
grown n old t = cond (room n old t) (old ++ t) old

-- the answer: did t fit
unfoldable pub fitted : ℕ → List ℕ → List ℕ → Option Unit
fitted n old t = cond (room n old t) (Some tt) None
