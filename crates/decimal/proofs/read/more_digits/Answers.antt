-- `decimal::read::more_digits` meets its contract. The invariant: what is left to read gives the whole answer.
use Prim.Native.Nat.{ℕ}
use native.Mathlib.Omega.{arith}
use mathlib.Core.Path.{◌≡◌, sym, ap, ◌∙◌}
use lib.ListN.{length}
use Rattle.std.specs.Prelude.{Some}
use Rattle.decimal.proofs.Steps.{more-end, more_stop, more-none, more_on}
use Rattle.decimal.proofs.read.more_digits.Goals as goal

pub returns-in_default : goal.returns-in_default
returns-in_default c = more_stop _ _ _ _ c.loop-i-test.true c.in_default.ensures ∙ c.loop-i.invariant

pub returns-in_err-v : goal.returns-in_err-v
returns-in_err-v c = c.from_residual.ensures ∙ more-none _ _ _ _ c.loop-i-test.true c.in-Some.ensures c.in_err-v.ensures ∙ c.loop-i.invariant

pub loop-i-preserved : goal.loop-i-preserved
loop-i-preserved c = sym (more_on _ _ _ _ c.loop-i-test.true c.in-Some.ensures c.in_ok-v.ensures) ∙ c.loop-i.invariant

pub returns : goal.returns
returns c =
    let e : length c.args.s.now ≡ c.loop-i.i = omega (arith, c.loop-i.auto.i-end c.requires) in
    ap (λ (k : ℕ). Some (c.loop-i.v, k)) e ∙ more-end _ _ _ _ c.loop-i-test.false ∙ c.loop-i.invariant
