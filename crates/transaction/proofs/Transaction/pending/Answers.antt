-- `pending` meets its contract: a written key stands at the place of the key, or none does.
use Rattle.std.proofs.Common.{rules, ◌≡◌, ◌<◌, ◌≤◌, length, get_or, sym, ap, ◌∙◌}
use mir.Facts.{to_z-of_z}
use mir.Syntax.{w32}
use mir.Val.{SFits}
use Rattle.std.specs.Prelude.{Some}
use Rattle.transaction.specs.declared.Write.{Write}
use Rattle.transaction.specs.Transaction.{writes_of, no_write}
use Rattle.transaction.proofs.Laws.{pending-value, pending-nothing}
use Rattle.transaction.proofs.Transaction.pending.Goals as goal

pub returns-in_err-w : goal.returns-in_err-w
returns-in_err-w c =
    let h : length (writes_of c.args.self) ≤ c.wrote_at.result = rw (sym c.writes.ensures) (search rules) in
    c.from_residual.ensures ∙ pending-nothing c.args.self _ _ c.wrote_at.ensures h

pub returns : goal.returns
returns c =
    let f : SFits w32 c.in_ok-w.w.now.value = search rules in
    let h : c.wrote_at.result < length (writes_of c.args.self) = rw (sym c.writes.ensures) (search rules) in
    let e : c.in_ok-w.w.now ≡ get_or (writes_of c.args.self) c.wrote_at.result no_write = rw (sym c.writes.ensures) (search rules) in
    rw (to_z-of_z f) (ap (λ (w : Write). Some w.value) e ∙ pending-value c.args.self _ _ c.wrote_at.ensures h)
