-- `judge` meets its contract: 12, what the pass refused, or what the report came to.
use Rattle.std.proofs.Common.{◌≡◌, Ok, Err, refl, ap, ◌∙◌, rules}
use Rattle.std.proofs.lemmas.Result.{err_from_is_err_and}
use Rattle.verdict.specs.Reply.{reply_of}
use Rattle.verdict.proofs.Comes.{with_line, lined}
use Rattle.verdict.proofs.Answers.{reported, too_long, passed}
use Rattle.verdict.proofs.judge.Goals as goal

pub returns-then-text-gt-HISTORY : goal.returns-then-text-gt-HISTORY
returns-then-text-gt-HISTORY c = rw (too_long c.args.text.now c.if-text-gt-HISTORY.true) (record { reply = refl; buffer = refl })

pub returns-in_err-totals : goal.returns-in_err-totals
returns-in_err-totals c =
    let p = err_from_is_err_and c.from_residual.result c.from_residual.ensures.1 in
    rw (p.1, p.2, passed c.args.text.now c.if-text-gt-HISTORY.false (Err c.in_err-totals.field-0.0) c.run.new.memory c.in_err-totals.ensures) (record { reply = refl; buffer = refl })

pub returns : goal.returns
returns c =
    let k : c.map_err.result ≡ with_line 0 c.write_report.result = lined 0 c.write_report.result c.map_err.result c.map_err.ensures.cases (λ e d h. search rules) in
    rw (passed c.args.text.now c.if-text-gt-HISTORY.false (Ok c.in_ok-totals.totals) c.run.new.memory c.in_ok-totals.ensures)
    (record { reply = ap reply_of k ∙ reported _ _ _ _ c.write_report.ensures.reply; buffer = c.write_report.ensures.buffer })
