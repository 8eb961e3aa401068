-- `decimal::write::put_signed` meets its contract: a value below zero is a minus, and the digits behind it, and there is room for both.
use Prim.Native.Nat.{◌+◌, ◌≤◌}
use native.Mathlib.Omega.{arith}
use mathlib.Core.Path.{◌≡◌, ap, sym, ◌∙◌}
use mathlib.Core.List.{[], ◌∷◌}
use lib.IntN.{nat_abs}
use lib.ListN.{length}
use mir.Facts.{to_z-of_z}
use Rattle.decimal.specs.Text.{decimal, plain}
use Rattle.decimal.specs.Write.{put, wrote}
use Rattle.decimal.proofs.Digits.{decimal_64}
use Rattle.decimal.proofs.Writing.{no_end, end-is, wrote_none, then-wrote, then_put, plain-down}
use Rattle.decimal.proofs.write.put_signed.Goals as goal
use Rattle.decimal.proofs.write.put_signed.Goals.{After-width}

pub overflow_add-width : goal.overflow_add-width
overflow_add-width c = record { fits = omega (arith, c.width.ensures, decimal_64 c.from-digits.result c.from-digits.type_inv) }

text : (c : After-width) → plain c.args.n ≡ 45 ∷ decimal c.from-digits.result
text c = plain-down c.args.n (rw (to_z-of_z c.ranges.n) at c.if-n-ge0.false) (c.from-digits.ensures ∙ c.unsigned_abs.ensures.value ∙ ap nat_abs (to_z-of_z c.ranges.n))

wide : (c : After-width) → 1 + c.width.result ≡ length (plain c.args.n)
wide c = omega (arith, ap length (text c), c.width.ensures)

pub returns-in_err-end_of-clause-reply : goal.returns-in_err-end_of-clause-reply
returns-in_err-end_of-clause-reply c = c.from_residual.ensures ∙ (no_end _ _ _ _ (wide (goal.at.returns-in_err-end_of-clause-reply c).After-width) c.in_err-end_of.ensures).0

pub returns-in_err-end_of-clause-buffer : goal.returns-in_err-end_of-clause-buffer
returns-in_err-end_of-clause-buffer c = (no_end _ _ _ _ (wide (goal.at.returns-in_err-end_of-clause-buffer c).After-width) c.in_err-end_of.ensures).1

pub returns-in_err-first-clause-reply : goal.returns-in_err-first-clause-reply
returns-in_err-first-clause-reply c =
    let w : After-width = (goal.at.returns-in_err-first-clause-reply c).After-width in
    let room : c.args.at + length (plain c.args.n) ≤ length c.args.buf.now = (end-is _ _ _ (plain c.args.n) (wide w) c.in_ok-end_of.ensures).1 in
    absurd (omega (arith, wrote_none c.args.buf.now c.args.at (45 ∷ []) (sym c.in_err-first.ensures.reply), ap length (text w)))

pub returns-in_err-first-clause-buffer : goal.returns-in_err-first-clause-buffer
returns-in_err-first-clause-buffer c =
    let w : After-width = (goal.at.returns-in_err-first-clause-buffer c).After-width in
    let room : c.args.at + length (plain c.args.n) ≤ length c.args.buf.now = (end-is _ _ _ (plain c.args.n) (wide w) c.in_ok-end_of.ensures).1 in
    absurd (omega (arith, wrote_none c.args.buf.now c.args.at (45 ∷ []) (sym c.in_err-first.ensures.reply), ap length (text w)))

pub returns-clause-reply : goal.returns-clause-reply
returns-clause-reply c =
    let w : After-width = (goal.at.returns-clause-reply c).After-width in
    let room : c.args.at + length (plain c.args.n) ≤ length c.args.buf.now = (end-is _ _ _ (plain c.args.n) (wide w) c.in_ok-end_of.ensures).1 in
    then-wrote _ _ _ (45 ∷ []) (decimal c.from-digits.result) (omega (arith, ap length (text w))) c.in_ok-first.ensures.reply c.in_ok-first.ensures.buffer c.put_natural-2.ensures.reply
    ∙ ap (wrote c.args.buf.now c.args.at) (sym (text w))

pub returns-clause-buffer : goal.returns-clause-buffer
returns-clause-buffer c =
    let w : After-width = (goal.at.returns-clause-buffer c).After-width in
    let room : c.args.at + length (plain c.args.n) ≤ length c.args.buf.now = (end-is _ _ _ (plain c.args.n) (wide w) c.in_ok-end_of.ensures).1 in
    then_put _ _ _ (45 ∷ []) (decimal c.from-digits.result) (omega (arith, ap length (text w))) c.in_ok-first.ensures.reply c.in_ok-first.ensures.buffer c.put_natural-2.ensures.buffer
    ∙ ap (put c.args.buf.now c.args.at) (sym (text w))
