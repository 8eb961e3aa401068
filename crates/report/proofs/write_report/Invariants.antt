-- The lines passed stand behind the head, at most 24 bytes each.
use Rattle.std.proofs.Common.{◌≡◌, ◌+◌, ◌*◌, ◌≤◌, ◌++◌, length, reverse}
use Rattle.book.specs.Book.{judged_of}
use Rattle.report.specs.Report.{verdict_lines}
use Rattle.report.proofs.write_report.Given as goal

abbrev pub invariant-loop-i : goal.invariant-loop-i
invariant-loop-i l = record {
  lines : l.text ≡ l.initial.text ++ verdict_lines (reverse (judged_of l.memory l.i));
  few : length l.text ≤ length l.initial.text + 24 * l.i;
}
