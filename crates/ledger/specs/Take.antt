-- What a record at a line does to the judge's memory, exactly: the reply, and every word.
use Rattle.std.specs.Prelude.{ℕ, ◌-◌, ◌%◌, ◌<◌, cond, List, [], ◌∷◌, Result, Ok, Err}
use Rattle.units.specs.Refusal.{number_of}
use Rattle.units.specs.declared.refusal.Refusal.{Refusal}
use Rattle.records.specs.Parts.{parts_of, name_of, starts, is_writing}
use Rattle.records.specs.Ledger.{Outcome, refused, went, row_of, fresh_row, changed, noted, concluded, line_step}
use Rattle.records.specs.declared.Record.{Record}
use Rattle.records.specs.declared.Record.TheVariants.{Write}
use Rattle.records.specs.declared.Row.{Row}
use Rattle.records.specs.declared.Seen.{Seen}
use Rattle.records.specs.declared.Judged.{Judged}
use Rattle.book.specs.Book.{ledger_of, rows_in, seens_in, read_count, row_added, row_stored, seen_added, judged_added}
use Rattle.rows.specs.Table.{row_number}

-- "Keys are 0 to 63": a written key past them, which no history has, is taken by its remainder, so that it has a bit in the word
abbrev pub tidy : Record → Record
tidy e = cond (is_writing e) (Write (name_of e) ((parts_of e).key % 64)) e

-- the reply in document 01's numbers: a refusal, or that the record is taken
pub data TakeReply : Type 0 where
  refused_with : (number : ℕ) → TakeReply
  went_on : TakeReply

abbrev pub taken_reply : Result (Unit {0}) Refusal → TakeReply
taken_reply (Err f) = refused_with (number_of f)
taken_reply (Ok u) = went_on

-- what a step of the meaning answers
abbrev pub reply_to : Outcome → TakeReply
reply_to (refused n) = refused_with n
reply_to (went l) = went_on

-- what is new, at most one, put behind the others
unfoldable pub seen_pushed : List ℕ → List Seen → List ℕ
seen_pushed ws [] = ws
seen_pushed ws (s ∷ ss) = seen_added ws s

unfoldable pub judged_pushed : List ℕ → List Judged → List ℕ
judged_pushed ws [] = ws
judged_pushed ws (j ∷ js) = judged_added ws j

-- any record but a start: its commit concluded, its read noted, its row changed at its place
unfoldable pub settled : List ℕ → ℕ → Record → ℕ → Row → List ℕ
settled ws line e place r =
    row_stored
    (seen_pushed (judged_pushed ws (concluded line (rows_in ws) (seens_in ws) e r [])) (noted (rows_in ws) e r []))
    place
    (changed line (read_count ws) (tidy e) r)

-- a refusal leaves every word as it was
abbrev pub on_reply : TakeReply → List ℕ → List ℕ → List ℕ
on_reply (refused_with n) ws done = ws
on_reply went_on ws done = done

-- the words after a record at a line
unfoldable pub booked : List ℕ → ℕ → Record → List ℕ
booked ws line e =
    on_reply (reply_to (line_step line e (ledger_of ws))) ws
    (cond (starts e)
    (row_added ws (fresh_row line (name_of e)))
    (settled ws line e (row_number (rows_in ws) (name_of e) - 1) (row_of (rows_in ws) (name_of e))))

-- what the reply and the words after it come to in the judge's own terms
abbrev pub came_to : TakeReply → List ℕ → Outcome
came_to (refused_with n) ws = refused n
came_to went_on ws = went (ledger_of ws)

-- a record whose bounds have 16 bits, as the code's have
pub record Bounded (e : Record) : Type 0 where
  pub k1 : (parts_of e).bounds.k1 < 65536
  pub k2 : (parts_of e).bounds.k2 < 65536
  pub k3 : (parts_of e).bounds.k3 < 65536
