-- A reader's place after the line that stands there.
use Rattle.std.specs.Prelude.{ℕ}
use Rattle.history.specs.declared.Line.{Line}
use Rattle.history.specs.declared.Line.TheVariants.{Taken, Bad, End}
use Rattle.reader.specs.declared.Reader.{Reader}

unfoldable pub place_after : Line → ℕ → ℕ
place_after (Taken e next) at = next
place_after Bad at = at
place_after End at = at

-- the reader behind a line: the same text
abbrev pub moved_by : Line → Reader → Reader
moved_by l r = record { text = r.text; at = place_after l r.at }
