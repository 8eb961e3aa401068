-- `record_at` meets its contract.
use native.Mathlib.Omega.{arith}
use mathlib.Core.Path.{refl}
use Rattle.history.specs.Line.{record_at}
use Rattle.decimal.proofs.Tabs.{natural_small}
use Rattle.history.proofs.Steps.{number_goes, number_stops}
use Rattle.history.proofs.record_at.Goals as goal

pub returns-in_err-t : goal.returns-in_err-t
unfolding record_at
returns-in_err-t c = number_stops _ _ _ _ _ c.in_err-t.ensures c.from_residual.ensures

pub overflow_cast-t : goal.overflow_cast-t
overflow_cast-t c = record { fits = omega (arith, natural_small _ _ _ _ c.in_ok-t.ensures refl) }

pub returns : goal.returns
unfolding record_at
returns c = number_goes _ _ _ _ _ c.in_ok-t.ensures c.behind_name.ensures
