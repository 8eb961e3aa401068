-- The pass over the lines of a text, with the words of the judge's memory: what each line comes to, and how the pass ends.
use Rattle.std.specs.Prelude.{ℕ, zero, suc, ◌+◌, ◌-◌, Bool, true, false, cond, List, reverse, ltb, Option, Some, None, Result, Ok, Err}
use Rattle.units.specs.Refusal.{number_of}
use Rattle.records.specs.Ledger.{line_step}
use Rattle.records.specs.Totals.{raised}
use Rattle.records.specs.declared.Record.{Record}
use Rattle.records.specs.declared.Record.TheVariants.{Start}
use Rattle.records.specs.declared.Totals.{Totals}
use Rattle.book.specs.Book.{ledger_of, judged_in}
use Rattle.ledger.specs.Take.{TakeReply, refused_with, went_on, reply_to, booked}
use Rattle.history.specs.Line.{line_at}
use Rattle.history.specs.declared.Line.{Line}
use Rattle.history.specs.declared.Line.TheVariants as line
use Rattle.reader.specs.Reader.{place_after}
use Rattle.verdict.specs.Judge.{Report, refused, judged}
use Rattle.verdict.specs.declared.RefusedAt.{RefusedAt}

-- what a line comes to, in document 01's numbers: a record, the history's end, or a refusal and its line
pub data CameReply : Type 0 where
  came_record : Record → CameReply
  came_end : CameReply
  came_refused : (number line : ℕ) → CameReply

abbrev pub came_reply : Result (Option Record) RefusedAt → CameReply
came_reply (Ok (Some e)) = came_record e
came_reply (Ok None) = came_end
came_reply (Err r) = came_refused (number_of r.refusal) r.line

-- "at each line 14, 13": line 4,097 is reached, or the line is not of the form
unfoldable pub comes_to : ℕ → Line → CameReply
comes_to n (line.Taken e next) = cond (ltb 4096 n) (came_refused 14 n) (came_record e)
comes_to n line.Bad = cond (ltb 4096 n) (came_refused 14 n) (came_refused 13 n)
comes_to n line.End = came_end

-- then "15, 16": the ledger may refuse the record
abbrev pub on_take : TakeReply → ℕ → Record → CameReply
on_take (refused_with number) n e = came_refused number n
on_take went_on n e = came_record e

unfoldable pub after_take : List ℕ → ℕ → CameReply → CameReply
after_take ws n (came_record e) = on_take (reply_to (line_step n e (ledger_of ws))) n e
after_take ws n came_end = came_end
after_take ws n (came_refused number m) = came_refused number m

unfoldable pub words_after : List ℕ → ℕ → CameReply → List ℕ
words_after ws n (came_record e) = booked ws n e
words_after ws n came_end = ws
words_after ws n (came_refused number m) = ws

unfoldable pub is_over : CameReply → Bool
is_over (came_record e) = false
is_over came_end = true
is_over (came_refused number n) = true

unfoldable pub record_of : CameReply → Record
record_of (came_record e) = e
record_of came_end = Start 0
record_of (came_refused number n) = Start n

-- what the pass came to, with the words that it left
abbrev pub ran_to : Result Totals RefusedAt → List ℕ → Report
ran_to (Ok t) ws = judged (reverse (judged_in ws)) t
ran_to (Err r) ws = refused (number_of r.refusal) r.line

abbrev pub ends_in : CameReply → Totals → List ℕ → Report
ends_in (came_record e) t ws = judged (reverse (judged_in ws)) t
ends_in came_end t ws = judged (reverse (judged_in ws)) t
ends_in (came_refused number n) t ws = refused number n

pub record PassEnd : Type 0 where
  pub report : Report
  pub words : List ℕ

abbrev pub pass_end : Report → List ℕ → PassEnd
pass_end r ws = record { report = r; words = ws }

-- from a place on, where the next line has this number and `left` more are allowed
unfoldable pub passes_on : ℕ → List ℕ → ℕ → ℕ → Totals → List ℕ → PassEnd
passes_on zero s at n t ws =
    pass_end (ends_in (after_take ws n (comes_to n (line_at s at))) t (words_after ws n (comes_to n (line_at s at)))) (words_after ws n (comes_to n (line_at s at)))
passes_on (suc left) s at n t ws =
    let c : CameReply = after_take ws n (comes_to n (line_at s at)) in
    let after : List ℕ = words_after ws n (comes_to n (line_at s at)) in
    cond (is_over c) (pass_end (ends_in c t after) after) (passes_on left s (place_after (line_at s at) at) (n + 1) (raised (record_of c) t) after)

abbrev pub passes : List ℕ → ℕ → ℕ → Totals → List ℕ → PassEnd
passes s at n t ws = passes_on (4097 - n) s at n t ws
