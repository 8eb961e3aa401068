-- What the judge makes of the bytes of a written history. Document 01: "History: 12; at each line 14, 13, 15, 16".
use Rattle.std.specs.Prelude.{ℕ, zero, suc, ◌+◌, cond, List, reverse, leb, ltb, length}
use Rattle.records.specs.Ledger.{Ledger, Outcome, blank, line_step}
use Rattle.records.specs.Ledger as meaning
use Rattle.records.specs.Totals.{no_totals, raised}
use Rattle.records.specs.declared.Judged.{Judged}
use Rattle.records.specs.declared.Record.{Record}
use Rattle.records.specs.declared.Totals.{Totals}
use Rattle.history.specs.Line.{line_at}
use Rattle.history.specs.declared.Line.{Line}
use Rattle.history.specs.declared.Line.TheVariants.{Taken, Bad, End}

-- a refusal by its number and line, or the verdicts in order of commit lines and the totals
pub data Report : Type 0 where
  refused : (number line : ℕ) → Report
  judged : List Judged → Totals → Report

-- 13: "history line not of the form, or last line unended"
abbrev pub on_line : Line → Report → (Record → ℕ → Report) → ℕ → Report
on_line (Taken e next) done go line = go e next
on_line Bad done go line = refused 13 line
on_line End done go line = done

-- 15, 16: what the line's record is refused for
abbrev pub on_outcome : Outcome → (Ledger → Report) → ℕ → Report
on_outcome (meaning.refused n) go line = refused n line
on_outcome (meaning.went l) go line = go l

abbrev pub report_on : Ledger → Totals → Report
report_on l t = judged (reverse l.judged) t

-- from a place on, where the next line has this number and `left` more are allowed; 14: "line 4,097 reached"
unfoldable pub lines : ℕ → List ℕ → ℕ → ℕ → Ledger → Totals → Report
lines zero s at line l t = cond (leb (length s) at) (report_on l t) (refused 14 line)
lines (suc left) s at line l t =
    on_line (line_at s at) (report_on l t) (λ e next. on_outcome (line_step line e l) (λ l'. lines left s next (line + 1) l' (raised e t)) line) line

-- 12: "history longer than 65,536 bytes"; its line is 0
unfoldable pub report_of : List ℕ → Report
report_of s = cond (ltb 65536 (length s)) (refused 12 0) (lines 4096 s 0 1 blank no_totals)
