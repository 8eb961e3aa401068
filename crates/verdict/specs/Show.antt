-- What the program prints of a reply. Document 01: "On a refusal it prints only `refused`, the number and the line".
use Rattle.std.specs.Prelude.{ℕ, cond, List, leb, length}
use Rattle.decimal.specs.Write.{put}
use Rattle.report.specs.Report.{refused_text}
use Rattle.verdict.specs.Reply.{Reply, bytes, refused_at}

-- how many bytes of the room b are printed
abbrev pub shown_bytes : Reply → List ℕ → ℕ
shown_bytes (bytes n) b = n
shown_bytes (refused_at number line) b = cond (leb (length (refused_text number line)) (length b)) (length (refused_text number line)) 0

-- the room b after it: the output stays, a refusal's line is put at the front
abbrev pub shown_room : Reply → List ℕ → List ℕ
shown_room (bytes n) b = b
shown_room (refused_at number line) b = put b 0 (refused_text number line)
