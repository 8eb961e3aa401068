-- What the judge prints of a text, from the bytes of the text to the bytes in the lent room; and document 01's history (P10) with its output.
use Rattle.std.specs.Prelude.{ℕ, ◌≤◌, ◌<◌, List, [], ◌∷◌, ◌++◌, ◌≡◌, length, drop}
use Rattle.report.specs.Report.{judge_word, total_word}
use Rattle.verdict.specs.Judge.{report_of}
use Rattle.verdict.specs.Reply.{bytes, refused_at, replied, room_after}

-- the output stands whole at the front of every room that is long enough, and the rest of the room is as it was; a shorter room, be it by one
-- byte, gets 17 with line 0, and is as it was
pub record Prints (text output : List ℕ) : Type 0 where
  pub whole : (room : List ℕ) → length output ≤ length room
      → (replied (report_of text) room ≡ bytes (length output)) × (room_after (report_of text) room ≡ output ++ drop (length output) room)
  pub short : (room : List ℕ) → length room < length output → (replied (report_of text) room ≡ refused_at 17 0) × (room_after (report_of text) room ≡ room)

-- `s 1`, `s 2`, `w 1 5`, `c 1`, `r 2 5 1`, `c 2`: 9 is the tab, 10 the newline
abbrev pub history : List ℕ
history =
    115 ∷ 9 ∷ 49 ∷ 10 ∷ 115 ∷ 9 ∷ 50 ∷ 10 ∷ 119 ∷ 9 ∷ 49 ∷ 9 ∷ 53 ∷ 10 ∷ 99 ∷ 9 ∷ 49 ∷ 10 ∷ 114 ∷ 9 ∷ 50 ∷ 9 ∷ 53 ∷ 9 ∷ 49 ∷ 10 ∷ 99 ∷ 9 ∷ 50 ∷ 10 ∷ []

-- "Whole output: `judge 2`, `1 ok`, `2 FV`, `total 2 2 0 0`": 32 is the space, 48 the digit 0
abbrev pub output : List ℕ
output =
    judge_word ++ (32 ∷ 50 ∷ 10 ∷ 49 ∷ 32 ∷ 111 ∷ 107 ∷ 10 ∷ 50 ∷ 32 ∷ 70 ∷ 86 ∷ 10 ∷ []) ++ total_word ++ (32 ∷ 50 ∷ 32 ∷ 50 ∷ 32 ∷ 48 ∷ 32 ∷ 48 ∷ 10 ∷ [])

-- "Empty input: `judge 0`, `total 0 0 0 0`"
abbrev pub empty_output : List ℕ
empty_output = judge_word ++ (32 ∷ 48 ∷ 10 ∷ []) ++ total_word ++ (32 ∷ 48 ∷ 32 ∷ 48 ∷ 32 ∷ 48 ∷ 32 ∷ 48 ∷ 10 ∷ [])
