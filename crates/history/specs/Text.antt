-- The text of a record, and the form that document 01 gives it.
use Rattle.std.specs.Prelude.{ℕ, ◌≤◌, List, [], ◌∷◌, ◌++◌, pos}
use Rattle.decimal.specs.Text.{field, joined}
use Rattle.decimal.specs.Read.{Stands}
use Rattle.records.specs.declared.Record.{Record}
use Rattle.records.specs.declared.Record.TheVariants.{Start, Tune, Read, Write, Commit, Abort}

-- the field of a number, and what follows
abbrev pub tab : ℕ → List ℕ → List ℕ
tab v rest = field (pos v) ++ rest

abbrev pub newline : List ℕ
newline = 10 ∷ []

-- the letters s, k, r, w, c, a
unfoldable pub text_of : Record → List ℕ
text_of (Start t) = 115 ∷ tab t newline
text_of (Tune t b) = 107 ∷ tab t (tab b.k1 (tab b.k2 (tab b.k3 newline)))
text_of (Read t x w) = 114 ∷ tab t (tab x (tab w newline))
text_of (Write t x) = 119 ∷ tab t (tab x newline)
text_of (Commit t) = 99 ∷ tab t newline
text_of (Abort t) = 97 ∷ tab t newline

-- the texts of records, one behind the other
abbrev pub texts : List Record → List ℕ
texts rs = joined text_of rs

abbrev pub Within : ℕ → ℕ → ℕ → Type 0
Within least most v = (least ≤ v) × (v ≤ most)

-- each number is in its range
unfoldable pub InForm : Record → Type 0
InForm (Start t) = Within 1 4294967295 t
InForm (Tune t b) = Within 1 4294967295 t × (Within 1 65535 b.k1 × (Within 0 65535 b.k2 × Within 0 65535 b.k3))
InForm (Read t x w) = Within 1 4294967295 t × (Within 0 63 x × Within 0 4294967295 w)
InForm (Write t x) = Within 1 4294967295 t × Within 0 63 x
InForm (Commit t) = Within 1 4294967295 t
InForm (Abort t) = Within 1 4294967295 t

-- the text of r stands in s from a place up to e, and r is of the form
pub record Written (s : List ℕ) (at : ℕ) (r : Record) (e : ℕ) : Type 0 where
  pub stands : Stands (text_of r) s at e
  pub form : InForm r
