-- Document 01's edges, by computation: each line's numbers at the ends of their ranges and just past them, and what is not of the form.
use mathlib.Core.Path.{◌≡◌, refl}
use mathlib.Core.List.{[], ◌∷◌}
use Rattle.decimal.specs.Text.{is_digit, spelt, decimal}
use Rattle.decimal.specs.Read.{more, digits, unsigned, negative, field_at, as_natural, natural_at, natural_behind_tab, on_number}
use Rattle.units.specs.Bounds.{triple}
use Rattle.records.specs.declared.Record.TheVariants.{Start, Tune, Read, Write, Commit, Abort}
use Rattle.history.specs.declared.Line.TheVariants.{Taken, Bad, End}
use Rattle.history.specs.Line.{ended, tune_at, read_at, write_at, behind_name, record_at, line_at}
use Rattle.history.specs.Text.{text_of}

pub ranges :
    (line_at (text_of (Start 0)) 0 ≡ Bad)
    × (line_at (text_of (Start 1)) 0 ≡ Taken (Start 1) 4)
    × (line_at (text_of (Start 4294967295)) 0 ≡ Taken (Start 4294967295) 13)
    × (line_at (text_of (Start 4294967296)) 0 ≡ Bad)
    × (line_at (text_of (Tune 1 (triple 0 0 0))) 0 ≡ Bad)
    × (line_at (text_of (Tune 1 (triple 1 0 65535))) 0 ≡ Taken (Tune 1 (triple 1 0 65535)) 14)
    × (line_at (text_of (Tune 1 (triple 65536 0 0))) 0 ≡ Bad)
    × (line_at (text_of (Tune 1 (triple 1 65536 0))) 0 ≡ Bad)
    × (line_at (text_of (Tune 1 (triple 1 0 65536))) 0 ≡ Bad)
    × (line_at (text_of (Read 1 63 0)) 0 ≡ Taken (Read 1 63 0) 9)
    × (line_at (text_of (Read 1 64 0)) 0 ≡ Bad)
    × (line_at (text_of (Read 1 0 4294967295)) 0 ≡ Taken (Read 1 0 4294967295) 17)
    × (line_at (text_of (Read 1 0 4294967296)) 0 ≡ Bad)
    × (line_at (text_of (Write 1 63)) 0 ≡ Taken (Write 1 63) 7)
    × (line_at (text_of (Write 1 64)) 0 ≡ Bad)
    × (line_at (text_of (Commit 0)) 0 ≡ Bad)
    × (line_at (text_of (Abort 0)) 0 ≡ Bad)
unfolding line_at record_at behind_name tune_at read_at write_at ended on_number natural_behind_tab natural_at as_natural field_at digits more unsigned negative decimal spelt is_digit text_of
ranges = (refl, refl, refl, refl, refl, refl, refl, refl, refl, refl, refl, refl, refl, refl, refl, refl, refl)

-- the empty text, an empty line, `c 1` unended, with two tabs, with a space for the tab, with a leading zero, with a tab behind it, with a
-- number behind it; `w 1` with no key; an unknown letter
pub forms :
    (line_at [] 0 ≡ End)
    × (line_at (10 ∷ []) 0 ≡ Bad)
    × (line_at (99 ∷ 9 ∷ 49 ∷ []) 0 ≡ Bad)
    × (line_at (99 ∷ 9 ∷ 9 ∷ 49 ∷ 10 ∷ []) 0 ≡ Bad)
    × (line_at (99 ∷ 32 ∷ 49 ∷ 10 ∷ []) 0 ≡ Bad)
    × (line_at (99 ∷ 9 ∷ 48 ∷ 49 ∷ 10 ∷ []) 0 ≡ Bad)
    × (line_at (99 ∷ 9 ∷ 49 ∷ 9 ∷ 10 ∷ []) 0 ≡ Bad)
    × (line_at (99 ∷ 9 ∷ 49 ∷ 9 ∷ 49 ∷ 10 ∷ []) 0 ≡ Bad)
    × (line_at (119 ∷ 9 ∷ 49 ∷ 10 ∷ []) 0 ≡ Bad)
    × (line_at (120 ∷ 9 ∷ 49 ∷ 10 ∷ []) 0 ≡ Bad)
unfolding line_at record_at behind_name tune_at read_at write_at ended on_number natural_behind_tab natural_at as_natural field_at digits more unsigned negative is_digit
forms = (refl, refl, refl, refl, refl, refl, refl, refl, refl, refl)
