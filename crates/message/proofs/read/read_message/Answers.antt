-- `read_message` meets its contract: each answer is one step of `read_line`.
use Rattle.std.proofs.Common.{arith, refl, sym, ◌∙◌}
use Rattle.decimal.proofs.Tabs.{natural_small}
use Rattle.message.proofs.Exactly.{message-answered}
use Rattle.message.proofs.Steps.{line_no_letter, line_no_stamp, line_goes}
use Rattle.message.proofs.read.read_message.Goals as goal

pub returns-then-byte_at-ne-LETTER : goal.returns-then-byte_at-ne-LETTER
returns-then-byte_at-ne-LETTER c =
    let a = message-answered _ (line_no_letter _ (omega (arith, c.byte_at.ensures, c.if-byte_at-ne-LETTER.true))) in
    record { reply = a.0; places = a.1 }

pub returns-in_err-stamp : goal.returns-in_err-stamp
returns-in_err-stamp c =
    let stamp = rw c.from.ensures at c.in_err-stamp.ensures in
    let a = message-answered _ (c.from_residual.ensures ∙ line_no_stamp _ (sym c.byte_at.ensures ∙ c.if-byte_at-ne-LETTER.false) stamp) in
    record { reply = a.0; places = a.1 }

pub overflow_cast-stamp : goal.overflow_cast-stamp
overflow_cast-stamp c =
    let stamp = rw c.from.ensures at c.in_ok-stamp.ensures in
    let h = natural_small _ _ 1 4294967295 stamp refl in
    omega arith

pub returns : goal.returns
returns c =
    let stamp = rw c.from.ensures at c.in_ok-stamp.ensures in
    let a = message-answered _ (line_goes _ (sym c.byte_at.ensures ∙ c.if-byte_at-ne-LETTER.false) stamp c.items_from.ensures) in
    record { reply = a.0; places = a.1 }
