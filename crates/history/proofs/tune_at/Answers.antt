-- `tune_at` meets its contract.
use native.Mathlib.Omega.{arith}
use mathlib.Core.Path.{refl}
use Rattle.history.specs.Line.{tune_at}
use Rattle.decimal.proofs.Tabs.{natural_small}
use Rattle.history.proofs.Steps.{number_goes, number_stops}
use Rattle.history.proofs.tune_at.Goals as goal

pub returns-in_err-k1 : goal.returns-in_err-k1
unfolding tune_at
returns-in_err-k1 c = number_stops _ _ _ _ _ c.in_err-k1.ensures c.from_residual.ensures

pub returns-in_err-k2 : goal.returns-in_err-k2
unfolding tune_at
returns-in_err-k2 c = number_goes _ _ _ _ _ c.in_ok-k1.ensures (number_stops _ _ _ _ _ c.in_err-k2.ensures c.from_residual-in_err-k2.ensures)

pub returns-in_err-k3 : goal.returns-in_err-k3
unfolding tune_at
returns-in_err-k3 c =
    number_goes _ _ _ _ _ c.in_ok-k1.ensures (number_goes _ _ _ _ _ c.in_ok-k2.ensures (number_stops _ _ _ _ _ c.in_err-k3.ensures c.from_residual-in_err-k3.ensures))

pub overflow_cast-bounds : goal.overflow_cast-bounds
overflow_cast-bounds c = record { fits = omega (arith, natural_small _ _ _ _ c.in_ok-k1.ensures refl) }

pub overflow_cast-bounds-2 : goal.overflow_cast-bounds-2
overflow_cast-bounds-2 c = record { fits = omega (arith, natural_small _ _ _ _ c.in_ok-k2.ensures refl) }

pub overflow_cast-bounds-3 : goal.overflow_cast-bounds-3
overflow_cast-bounds-3 c = record { fits = omega (arith, natural_small _ _ _ _ c.in_ok-k3.ensures refl) }

pub returns : goal.returns
unfolding tune_at
returns c =
    number_goes _ _ _ _ _ c.in_ok-k1.ensures (number_goes _ _ _ _ _ c.in_ok-k2.ensures (number_goes _ _ _ _ _ c.in_ok-k3.ensures c.ended.ensures))
