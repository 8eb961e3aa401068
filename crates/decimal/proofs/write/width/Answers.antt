-- `decimal::write::width` meets its contract: k + 1 digits from 10 ^ k on, below ten times it.
use Prim.Native.Nat.{suc}
use native.Mathlib.Nat.{pow-suc}
use native.Mathlib.Omega.{arith}
use mathlib.Core.Path.{sym, ap}
use lib.ListN.{length}
use Rattle.decimal.proofs.Digits.{decimal-length, decimal-longer, decimal_small}
use Rattle.decimal.proofs.write.width.Goals as goal

pub returns-in-Some : goal.returns-in-Some
returns-in-Some c =
    let k = c.in-Some.k in
    omega (arith, decimal-longer c.args.n k c.in-Some.ensures.power_le, decimal-length c.args.n (suc k) (omega arith) (omega (arith, pow-suc 10 k, c.in-Some.ensures.next_power_gt)))

pub returns-in-None : goal.returns-in-None
returns-in-None c = ap length (sym (decimal_small c.args.n (omega (arith, c.in-None.ensures.none))))
