-- From what writing a refusal's line answered, to what is printed.
use Prim.Native.Nat.{ℕ}
use mathlib.Core.Path.{◌≡◌, refl, ap, ◌∙◌}
use mathlib.Core.Bool.{Bool, true, false, cond}
use mathlib.Core.List.{List}
use lib.Dec.{leb}
use lib.ListN.{length}
use Rattle.std.specs.Prelude.{Result, Ok, Err}
use Rattle.std.specs.Result.{result_unwrap_or}
use Rattle.units.specs.declared.refusal.Refusal.{Refusal}
use Rattle.report.specs.Report.{refused_text}
use Rattle.report.specs.Write.{WriteReply, wrote_bytes, refused_with, written_reply, written_as}
use Rattle.verdict.specs.Reply.{refused_at}
use Rattle.verdict.specs.Show.{shown_bytes}

abbrev count : WriteReply → ℕ
count (wrote_bytes n) = n
count (refused_with number) = 0

counted : (w : Result ℕ Refusal) → result_unwrap_or w 0 ≡ count (written_reply w)
counted (Ok n) = refl
counted (Err f) = refl

pub printed_bytes : (number line : ℕ) (room : List ℕ) (w : Result ℕ Refusal) → written_reply w ≡ written_as room (refused_text number line)
    → result_unwrap_or w 0 ≡ shown_bytes (refused_at number line) room
unfolding written_as
printed_bytes number line room w p = counted w ∙ ap count p ∙ go (leb (length (refused_text number line)) (length room)) (length (refused_text number line))
  where
    go : (b : Bool) (n : ℕ) → count (cond b (wrote_bytes n) (refused_with 17)) ≡ cond b n 0
    go true n = refl
    go false n = refl
