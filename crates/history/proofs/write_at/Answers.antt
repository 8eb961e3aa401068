-- `write_at` meets its contract.
use native.Mathlib.Omega.{arith}
use mathlib.Core.Path.{refl}
use Rattle.history.specs.Line.{write_at}
use Rattle.decimal.proofs.Tabs.{natural_small}
use Rattle.history.proofs.Steps.{number_goes, number_stops}
use Rattle.history.proofs.write_at.Goals as goal

pub returns-in_err-key : goal.returns-in_err-key
unfolding write_at
returns-in_err-key c = number_stops _ _ _ _ _ c.in_err-key.ensures c.from_residual.ensures

pub overflow_cast-key : goal.overflow_cast-key
overflow_cast-key c = record { fits = omega (arith, natural_small _ _ _ _ c.in_ok-key.ensures refl) }

pub returns : goal.returns
unfolding write_at
returns c = number_goes _ _ _ _ _ c.in_ok-key.ensures c.ended.ensures
