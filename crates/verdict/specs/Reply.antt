-- The judge's reply in document 01's numbers, and the lent room after it.
use Rattle.std.specs.Prelude.{ℕ, List, Result, Ok, Err}
use Rattle.units.specs.Refusal.{number_of}
use Rattle.decimal.specs.Write.{put, handed_over}
use Rattle.report.specs.Report.{report_text}
use Rattle.verdict.specs.declared.RefusedAt.{RefusedAt}
use Rattle.verdict.specs.Judge.{Report, refused, judged}

-- how many bytes were written, or a refusal by its number and line
pub data Reply : Type 0 where
  bytes : ℕ → Reply
  refused_at : (number line : ℕ) → Reply

abbrev pub reply_of : Result ℕ RefusedAt → Reply
reply_of (Ok n) = bytes n
reply_of (Err r) = refused_at (number_of r.refusal) r.line

-- 17: "the whole output or message is longer than the lent room"; its line is 0
abbrev pub replied : Report → List ℕ → Reply
replied (refused number line) room = refused_at number line
replied (judged js t) room = handed_over bytes (refused_at 17 0) room (report_text js t)

-- the output at the front, whole or not at all; a refusal leaves the room as it was
abbrev pub room_after : Report → List ℕ → List ℕ
room_after (refused number line) room = room
room_after (judged js t) room = put room 0 (report_text js t)
