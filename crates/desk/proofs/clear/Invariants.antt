-- `clear` meets its contract: place by place a transaction that has ended.
use mathlib.Core.Path.{◌≡◌}
use Rattle.words.specs.After.{cleared}
use Rattle.desk.proofs.clear.Given as goal

abbrev pub invariant-loop-i : goal.invariant-loop-i
invariant-loop-i l = l.memory ≡ cleared l.initial.memory l.i
