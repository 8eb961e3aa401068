-- `empty` meets its contract.
use mathlib.Core.Path.{refl}
use Rattle.units.specs.Batch.{batch_of}
use Rattle.units.proofs.Batch.empty.Goals as goal

pub returns : goal.returns
unfolding batch_of
returns c = refl
