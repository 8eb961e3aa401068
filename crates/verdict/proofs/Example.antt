-- Document 01's history (P10) and the empty one, from the bytes that the judge reads to the bytes that it prints.
use Prim.Native.Nat.{ℕ, ◌≤◌, ◌<◌}
use native.Mathlib.Nat.{zero-add}
use native.Mathlib.Omega.{arith}
use mathlib.Core.Path.{◌≡◌, refl, ap, ◌∙◌, subst}
use mathlib.Core.List.{List, [], ◌∷◌, ◌++◌}
use borrow.Author.Tests.{le-leb, lt-leb}
use lib.ListN.{length, drop}
use Rattle.lists.specs.Lists.{any, count}
use Rattle.decimal.specs.Text.{is_digit, spelt, decimal, joined}
use Rattle.decimal.specs.Read.{more, digits, unsigned, negative, field_at, as_natural, natural_at, natural_behind_tab, on_number}
use Rattle.decimal.proofs.Writing.{put-room, put_full}
use Rattle.records.specs.declared.Judged.{Judged}
use Rattle.records.specs.declared.Totals.{Totals}
use Rattle.records.specs.Ledger.{row_of, become, rows_up_to, rows_between, resolved, chain, verdict_on, changed, noted, concluded, line_step}
use Rattle.records.specs.Totals.{no_totals}
use Rattle.records.specs.Example.{p10_lines, p10_judged, p10_totals}
use Rattle.history.specs.Text.{text_of, texts}
use Rattle.history.specs.Line.{ended, tune_at, read_at, write_at, behind_name, record_at, line_at}
use Rattle.report.specs.Report.{spaced_line, verdict_word, head_line, verdict_line, total_line, report_text}
use Rattle.verdict.specs.Judge.{judged, refused, lines, report_of}
use Rattle.verdict.specs.Reply.{bytes, refused_at, replied, room_after}
use Rattle.verdict.specs.Example.{Prints, history, output, empty_output}

-- the bytes are the text of P10's records
pub history-text : texts p10_lines ≡ history
unfolding joined text_of decimal spelt
history-text = refl

-- what is said of document 01's history and of the empty one; then `c 2` unended, and `c 1` of one not started
pub examples :
    (report_of history ≡ judged p10_judged p10_totals)
    × (report_of [] ≡ judged [] no_totals)
    × (report_of (115 ∷ 9 ∷ 50 ∷ 10 ∷ 99 ∷ 9 ∷ 50 ∷ []) ≡ refused 13 2)
    × (report_of (115 ∷ 9 ∷ 50 ∷ 10 ∷ 99 ∷ 9 ∷ 49 ∷ 10 ∷ []) ≡ refused 15 2)
unfolding report_of lines line_at record_at behind_name tune_at read_at write_at ended on_number natural_behind_tab natural_at as_natural field_at digits more unsigned negative is_digit any count row_of become rows_up_to rows_between resolved chain verdict_on changed noted concluded line_step
examples = (refl, refl, refl, refl)

-- a text that is judged prints its report
module _ (js : List Judged) (t : Totals) (room : List ℕ) where
  fits : length (report_text js t) ≤ length room
      → (replied (judged js t) room ≡ bytes (length (report_text js t))) × (room_after (judged js t) room ≡ report_text js t ++ drop (length (report_text js t)) room)
  fits h = (
    rw (le-leb (length (report_text js t)) (length room) h),
    put-room room 0 (report_text js t) (omega arith) ∙ ap (λ (k : ℕ). report_text js t ++ drop k room) (zero-add (length (report_text js t))),
  )

  lacks : length room < length (report_text js t) → (replied (judged js t) room ≡ refused_at 17 0) × (room_after (judged js t) room ≡ room)
  lacks h = (rw (lt-leb (length (report_text js t)) (length room) h), put_full room 0 (report_text js t) (omega arith))

pub prints : (s : List ℕ) (js : List Judged) (t : Totals) → report_of s ≡ judged js t → Prints s (report_text js t)
prints s js t e = record { whole = λ room h. rw e (fits js t room h); short = λ room h. rw e (lacks js t room h) }

output-text : report_text p10_judged p10_totals ≡ output
unfolding report_text head_line joined verdict_line total_line spaced_line verdict_word decimal spelt
output-text = refl

empty-text : report_text [] no_totals ≡ empty_output
unfolding report_text head_line joined total_line spaced_line decimal spelt
empty-text = refl

-- P10 and empty input
pub printed : Prints history output × Prints [] empty_output
printed = (subst (Prints history) output-text (prints history _ _ examples.0), subst (Prints []) empty-text (prints [] _ _ examples.1))
