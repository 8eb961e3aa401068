-- Reading decimal text. Document 01: "a number out of its range is not of the form".
use Rattle.std.specs.Prelude.{ℕ, zero, suc, ◌+◌, ◌-◌, ◌*◌, ◌≤◌, ◌<◌, ◌≡◌, false, cond, ◌&&◌, List, [], ◌∷◌, ◌++◌, leb, eqb, ℤ, pos, negsuc, length, get_or, drop, Option, Some, None}
use Rattle.decimal.specs.Text.{is_digit, plain}
use Rattle.decimal.specs.declared.read.Range.{Range}

-- what the digit b is worth
abbrev pub digit : ℕ → Option ℕ
digit b = cond (is_digit b) (Some (b - 48)) None

-- v with the digit d behind it, at most `most`, and none behind a leading zero
abbrev pub with_digit : ℕ → ℕ → ℕ → Option ℕ
with_digit most v d = cond (eqb v 0) None (cond (leb (v * 10 + d) most) (Some (v * 10 + d)) None)

-- The digits that follow, where those before e are worth v and the whole is to be at most `most`.
-- A further digit while v is 0 would stand behind a leading zero.
unfoldable pub more : ℕ → ℕ → ℕ → List ℕ → Option (ℕ × ℕ)
more most v e [] = Some (v, e)
more most v e (b ∷ s) =
    let w : ℕ = v * 10 + (b - 48) in
    let rest : Option (ℕ × ℕ) = more most w (e + 1) s in
    cond (is_digit b) (cond (eqb v 0) None (cond (leb w most) rest None)) (Some (v, e))

-- the digits that begin at e, at most `most`
unfoldable pub digits : ℕ → ℕ → List ℕ → Option (ℕ × ℕ)
digits most e [] = None
digits most e (b ∷ s) = cond (is_digit b && leb (b - 48) most) (more most (b - 48) (e + 1) s) None

-- what digits with no minus, and digits behind one, are worth: no value below `least`, no minus before 0
unfoldable pub unsigned : ℕ → Option (ℕ × ℕ) → Option (ℤ × ℕ)
unsigned least (Some (v, e)) = cond (leb least v) (Some (pos v, e)) None
unsigned least None = None

unfoldable pub negative : Option (ℕ × ℕ) → Option (ℤ × ℕ)
negative (Some (zero, e)) = None
negative (Some (suc v, e)) = Some (negsuc v, e)
negative None = None

-- the field that begins at `at`: the longest run of a minus (45) and digits
unfoldable pub field_at : List ℕ → ℕ → Range → Option (ℤ × ℕ)
field_at s at range =
    cond (eqb (get_or s at 0) 45)
    (negative (digits range.below (at + 1) (drop (at + 1) s)))
    (unsigned range.least (digits range.most at (drop at s)))

-- the values from least to most, and none below zero
abbrev pub naturals : ℕ → ℕ → Range
naturals least most = record { below = 0; least = least; most = most }

unfoldable pub as_natural : Option (ℤ × ℕ) → Option (ℕ × ℕ)
as_natural (Some (pos v, e)) = Some (v, e)
as_natural (Some (negsuc v, e)) = None
as_natural None = None

unfoldable pub natural_at : List ℕ → ℕ → ℕ → ℕ → Option (ℕ × ℕ)
natural_at s at least most = as_natural (field_at s at (naturals least most))

-- "A value is any signed 32-bit number"
abbrev pub values : Range
values = record { below = 2147483648; least = 0; most = 2147483647 }

unfoldable pub signed_at : List ℕ → ℕ → Option (ℤ × ℕ)
signed_at s at = field_at s at values

-- ---- behind a tab

-- what is read behind the tab (9) at a place, or what is answered where there is no tab
abbrev pub behind_tab : {A : Type 0} → List ℕ → ℕ → A → A → A
behind_tab s at there no-tab = cond (eqb (get_or s at 0) 9) there no-tab

unfoldable pub natural_behind_tab : List ℕ → ℕ → ℕ → ℕ → Option (ℕ × ℕ)
natural_behind_tab s at least most = behind_tab s at (natural_at s (at + 1) least most) None

unfoldable pub signed_behind_tab : List ℕ → ℕ → Option (ℤ × ℕ)
signed_behind_tab s at = behind_tab s at (signed_at s (at + 1)) None

-- what follows a number and the place behind it, or what is answered where there is none
unfoldable pub on_number : {A : Type 0} → Option (ℕ × ℕ) → (ℕ → ℕ → A) → A → A
on_number (Some (v, e)) f no_number = f v e
on_number None f no_number = no_number

-- ---- what the theorems say of a reading

-- the answer of the value z that ends before e
abbrev pub number : ℤ → ℕ → Option (ℤ × ℕ)
number z e = Some (z, e)

-- z is a value of the range
abbrev pub InRange : Range → ℤ → Type 0
InRange range (pos v) = (range.least ≤ v) × (v ≤ range.most)
InRange range (negsuc v) = v < range.below

-- the text t stands in s from `at` up to e
pub record Stands (t s : List ℕ) (at e : ℕ) : Type 0 where
  pub ends : e ≡ at + length t
  pub here : drop at s ≡ t ++ drop e s

-- the value z stands in s from `at` up to e, in its plain form, in its range, and no digit follows
pub record Reads (range : Range) (s : List ℕ) (at : ℕ) (z : ℤ) (e : ℕ) : Type 0 where
  pub stands : Stands (plain z) s at e
  pub within : InRange range z
  pub whole : is_digit (get_or s e 0) ≡ false

-- the value z stands in s behind the tab at a place, and ends at e
pub record Tabbed (range : Range) (s : List ℕ) (at : ℕ) (z : ℤ) (e : ℕ) : Type 0 where
  pub tab : get_or s at 0 ≡ 9
  pub reads : Reads range s (at + 1) z e
