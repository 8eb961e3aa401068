-- `decimal::write::spell` meets its contract. The invariant: the digits of what is left, in the places before i, and those stored are the whole.
use native.Mathlib.Omega.{arith}
use Rattle.decimal.proofs.Digits.{spelt_whole, spelt_back}
use Rattle.decimal.proofs.write.spell.Goals as goal

pub loop-i-init : goal.loop-i-init
loop-i-init c = spelt_whole c.args.buf.now c.args.n c.requires

pub loop-i-preserved : goal.loop-i-preserved
loop-i-preserved c = spelt_back _ _ _ _ c.loop-i-test.true (omega (arith, c.loop-i.auto.i, c.loop-i.auto.buf)) c.loop-i.invariant
