-- `decimal::write::spell` meets its contract. The invariant: the digits of what is left, in the places before i, and those stored are the whole.
use Rattle.std.proofs.Common.{◌≡◌, ◌++◌, length, drop}
use Rattle.decimal.specs.Text.{spelt, decimal}
use Rattle.decimal.proofs.write.spell.Given as goal

abbrev pub invariant-loop-i : goal.invariant-loop-i
invariant-loop-i l = (length (spelt l.i l.rest) ≡ l.i) × (spelt l.i l.rest ++ drop l.i l.buf ≡ decimal l.n)
