-- `ended` meets its contract.
use native.Mathlib.Omega.{arith}
use Rattle.decimal.proofs.Steps.{byte_within}
use Rattle.history.proofs.Steps.{newline_missing, newline-there}
use Rattle.history.proofs.ended.Goals as goal

pub returns-then-byte_at-ne-NEWLINE : goal.returns-then-byte_at-ne-NEWLINE
returns-then-byte_at-ne-NEWLINE c = newline_missing _ _ c.byte_at.ensures _ (omega (arith, c.if-byte_at-ne-NEWLINE.true))

pub overflow_add-result : goal.overflow_add-result
overflow_add-result c =
    let a = c.args in
    omega (arith, byte_within a.text.now a.at (omega (arith, c.byte_at.ensures, c.if-byte_at-ne-NEWLINE.false)))

pub returns : goal.returns
returns c = newline-there _ _ c.byte_at.ensures _ (omega (arith, c.if-byte_at-ne-NEWLINE.false))
