-- From what the pass came to, to the reply and the room.
use Prim.Native.Nat.{ℕ, ◌≤◌, ◌<◌}
use mathlib.Core.Path.{◌≡◌, refl, sym, ap, ◌∙◌}
use mathlib.Core.Bool.{Bool, true, false, cond}
use mathlib.Core.List.{List}
use borrow.Author.Tests.{lt-ltb, le-ltb}
use lib.Dec.{leb}
use lib.ListN.{length, replicate}
use Rattle.std.specs.Prelude.{Result, Ok, Err}
use Rattle.units.specs.declared.refusal.Refusal.{Refusal}
use Rattle.records.specs.declared.Judged.{Judged}
use Rattle.records.specs.declared.Totals.{Totals}
use Rattle.records.specs.Totals.{no_totals}
use Rattle.book.specs.Layout.{word_count}
use Rattle.report.specs.Report.{report_text}
use Rattle.report.specs.Write.{WriteReply, wrote_bytes, refused_with, written_reply, written_as}
use Rattle.verdict.specs.Judge.{judged, refused, report_of}
use Rattle.verdict.specs.Reply.{Reply, bytes, refused_at, reply_of, replied}
use Rattle.verdict.specs.Pass.{ran_to, PassEnd, pass_end, passes}
use Rattle.verdict.specs.declared.RefusedAt.{RefusedAt}
use Rattle.verdict.proofs.Comes.{with_line}
use Rattle.verdict.proofs.Pass.{zero-words}

-- ---- the report written, or without room

abbrev heard : WriteReply → Reply
heard (wrote_bytes n) = bytes n
heard (refused_with number) = refused_at number 0

heard_line : (w : Result ℕ Refusal) → reply_of (with_line 0 w) ≡ heard (written_reply w)
heard_line (Ok n) = refl
heard_line (Err f) = refl

heard-text : (js : List Judged) (t : Totals) (room : List ℕ) → heard (written_as room (report_text js t)) ≡ replied (judged js t) room
unfolding written_as
heard-text js t room = go (leb (length (report_text js t)) (length room)) (length (report_text js t))
  where
    go : (b : Bool) (n : ℕ) → heard (cond b (wrote_bytes n) (refused_with 17)) ≡ cond b (bytes n) (refused_at 17 0)
    go true n = refl
    go false n = refl

pub reported : (js : List Judged) (t : Totals) (room : List ℕ) (w : Result ℕ Refusal) → written_reply w ≡ written_as room (report_text js t)
    → reply_of (with_line 0 w) ≡ replied (judged js t) room
reported js t room w p = heard_line w ∙ ap heard p ∙ heard-text js t room

-- ---- the whole answer

module _ (s : List ℕ) where
  pub too_long : 65536 < length s → report_of s ≡ refused 12 0
  unfolding report_of
  too_long h = rw (lt-ltb 65536 (length s) h)

  -- what the pass over words that are 0 came to
  pub passed : length s ≤ 65536 → (r : Result Totals RefusedAt) (ws : List ℕ) → pass_end (ran_to r ws) ws ≡ passes s 0 1 no_totals (replicate word_count 0)
      → report_of s ≡ ran_to r ws
  unfolding report_of
  passed h r ws p = rw (le-ltb 65536 (length s) h) (sym (zero-words s) ∙ ap (λ (x : PassEnd). x.report) (sym p))
