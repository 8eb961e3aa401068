-- `decimal::read::more_digits` meets its contract. The invariant: what is left to read gives the whole answer.
use Rattle.std.proofs.Common.{◌≡◌, drop}
use Rattle.decimal.specs.Read.{more}
use Rattle.decimal.proofs.read.more_digits.Given as goal

abbrev pub invariant-loop-i : goal.invariant-loop-i
invariant-loop-i l = more l.most l.v l.i (drop l.i l.s) ≡ more l.most l.first l.from (drop l.from l.s)
