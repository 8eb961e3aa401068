-- The text of a refusal, by computation. The outputs that document 01 writes out are shown from the bytes of their histories, by the judge.
use mathlib.Core.Path.{◌≡◌, refl}
use mathlib.Core.List.{[], ◌∷◌, ◌++◌}
use Rattle.decimal.specs.Text.{spelt, decimal}
use Rattle.report.specs.Report.{spaced_line, refused_word, refused_text}

-- the history is longer than 65,536 bytes: 48 is the byte of 0
pub printed_refusal : refused_text 12 0 ≡ refused_word ++ (32 ∷ 49 ∷ 50 ∷ 32 ∷ 48 ∷ 10 ∷ [])
unfolding refused_text spaced_line decimal spelt
printed_refusal = refl
