-- `decimal::read::field_at` meets its contract: a minus stands within the text, so the place behind it is a number of the machine.
use Rattle.std.proofs.Common.{arith, sym, refl, ◌∙◌}
use Rattle.decimal.proofs.Steps.{byte_within, field_minus, field_plain, unsigned_in, unsigned_out, unsigned-bad, negative-zero, negative-some, negative-bad}
use Rattle.decimal.proofs.Values.{wide, wide_minus}
use Rattle.decimal.proofs.read.field_at.Goals as goal

pub overflow_add-at : goal.overflow_add-at
overflow_add-at c = omega (arith, byte_within c.args.s.now c.args.at (omega (arith, c.byte_at.ensures, c.if-byte_at-eq-MINUS.true)))

pub returns-in_err-m : goal.returns-in_err-m
returns-in_err-m c = c.from_residual.ensures ∙ field_minus _ _ _ (sym c.byte_at.ensures ∙ c.if-byte_at-eq-MINUS.true) c.in_err-m.ensures (negative-bad refl)

pub returns-then-m-eq0 : goal.returns-then-m-eq0
returns-then-m-eq0 c = field_minus _ _ _ (sym c.byte_at.ensures ∙ c.if-byte_at-eq-MINUS.true) c.in_ok-m.ensures (negative-zero refl c.if-m-eq0.true)

pub returns-then-byte_at-eq-MINUS : goal.returns-then-byte_at-eq-MINUS
returns-then-byte_at-eq-MINUS c =
    rw (wide_minus c.from.type_inv c.from.ensures c.if-m-eq0.false)
    (field_minus _ _ _ (sym c.byte_at.ensures ∙ c.if-byte_at-eq-MINUS.true) c.in_ok-m.ensures (negative-some refl c.if-m-eq0.false))

pub returns-in_err-v : goal.returns-in_err-v
returns-in_err-v c = c.from_residual-in_err-v.ensures ∙ field_plain _ _ _ (omega (arith, c.byte_at.ensures, c.if-byte_at-eq-MINUS.false)) c.in_err-v.ensures (unsigned-bad _ refl)

pub returns-then-v-range : goal.returns-then-v-range
returns-then-v-range c = field_plain _ _ _ (omega (arith, c.byte_at.ensures, c.if-byte_at-eq-MINUS.false)) c.in_ok-v.ensures (unsigned_out refl c.if-v-range.true)

pub returns : goal.returns
returns c =
    rw (wide c.from-2.type_inv, c.from-2.ensures)
    (field_plain _ _ _ (omega (arith, c.byte_at.ensures, c.if-byte_at-eq-MINUS.false)) c.in_ok-v.ensures (unsigned_in refl c.if-v-range.false))
