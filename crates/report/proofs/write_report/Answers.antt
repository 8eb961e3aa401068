-- `write_report` meets its contract: the head, the verdicts and the totals.
use native.Mathlib.Omega.{arith}
use mathlib.Core.Path.{◌≡◌, ◌∙◌}
use mathlib.Core.List.{reverse}
use Rattle.book.specs.Book.{judged_in}
use Rattle.report.specs.Report.{report_text}
use Rattle.report.proofs.Lines.{passed-none, passed-more, report_whole}
use Rattle.report.proofs.write_report.Goals as goal

pub loop-i-init : goal.loop-i-init
loop-i-init c = record { lines = passed-none _ _; few = omega arith }

pub loop-i-preserved : goal.loop-i-preserved
loop-i-preserved c = record {
  lines = passed-more c.args.memory.now c.head.new.text c.loop-i.i c.loop-i.invariant.lines c.verdict.ensures.text;
  few = omega (arith, c.loop-i.invariant.few, c.verdict.ensures.length);
}

pub returns : goal.returns
returns c =
    let e : c.bytes.result.now ≡ report_text (reverse (judged_in c.args.memory.now)) c.args.totals =
    c.bytes.ensures
    ∙ report_whole c.args.memory.now c.args.totals c.head.new.text c.loop-i.i c.verdicts-n.result c.loop-i.auto.i-end c.loop-i-test.false c.verdicts-n.ensures
    (rw c.new-text.ensures at c.head.ensures.text) c.loop-i.invariant.lines c.total.ensures in
    record { reply = rw e at c.hand_over.ensures.reply; buffer = rw e at c.hand_over.ensures.buffer }
