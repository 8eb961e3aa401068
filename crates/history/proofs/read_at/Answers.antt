-- `read_at` meets its contract.
use native.Mathlib.Omega.{arith}
use mathlib.Core.Path.{refl}
use Rattle.history.specs.Line.{read_at}
use Rattle.decimal.proofs.Tabs.{natural_small}
use Rattle.history.proofs.Steps.{number_goes, number_stops}
use Rattle.history.proofs.read_at.Goals as goal

pub returns-in_err-key : goal.returns-in_err-key
unfolding read_at
returns-in_err-key c = number_stops _ _ _ _ _ c.in_err-key.ensures c.from_residual.ensures

pub returns-in_err-source : goal.returns-in_err-source
unfolding read_at
returns-in_err-source c = number_goes _ _ _ _ _ c.in_ok-key.ensures (number_stops _ _ _ _ _ c.in_err-source.ensures c.from_residual-in_err-source.ensures)

pub overflow_cast-key : goal.overflow_cast-key
overflow_cast-key c = record { fits = omega (arith, natural_small _ _ _ _ c.in_ok-key.ensures refl) }

pub overflow_cast-source : goal.overflow_cast-source
overflow_cast-source c = record { fits = omega (arith, natural_small _ _ _ _ c.in_ok-source.ensures refl) }

pub returns : goal.returns
unfolding read_at
returns c = number_goes _ _ _ _ _ c.in_ok-key.ensures (number_goes _ _ _ _ _ c.in_ok-source.ensures c.ended.ensures)
