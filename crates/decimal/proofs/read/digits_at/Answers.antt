-- `decimal::read::digits_at` meets its contract: each answer is one step of `digits`.
use native.Mathlib.Omega.{arith}
use mathlib.Core.Path.{ap, ◌∙◌}
use lib.ListN.{get_or}
use Rattle.decimal.specs.Read.{digit}
use Rattle.decimal.proofs.Steps.{digit_none, digit-some, digit-within, no_digits, digits_over, digits_on}
use Rattle.decimal.proofs.read.digits_at.Goals as goal

pub returns-in_err-first : goal.returns-in_err-first
returns-in_err-first c = c.from_residual.ensures ∙ no_digits _ _ _ (digit_none (get_or c.args.s.now c.args.at 0) (c.in_err-first.ensures ∙ ap digit c.byte_at.ensures))

pub returns-then-most-first : goal.returns-then-most-first
returns-then-most-first c = let d = digit-some (get_or c.args.s.now c.args.at 0) (c.in_ok-first.ensures ∙ ap digit c.byte_at.ensures) in digits_over _ _ _ (digit-within _ _ d.0) d.0 _ d.1 c.if-most-first.true

pub overflow_add-at : goal.overflow_add-at
overflow_add-at c = let d = digit-some (get_or c.args.s.now c.args.at 0) (c.in_ok-first.ensures ∙ ap digit c.byte_at.ensures) in omega (arith, digit-within c.args.s.now c.args.at d.0)

pub more_digits-requires : goal.more_digits-requires
more_digits-requires c = let d = digit-some (get_or c.args.s.now c.args.at 0) (c.in_ok-first.ensures ∙ ap digit c.byte_at.ensures) in omega (arith, digit-within c.args.s.now c.args.at d.0)

pub returns : goal.returns
returns c = let d = digit-some (get_or c.args.s.now c.args.at 0) (c.in_ok-first.ensures ∙ ap digit c.byte_at.ensures) in c.more_digits.ensures ∙ digits_on _ _ _ (digit-within _ _ d.0) d.0 _ d.1 c.if-most-first.false
