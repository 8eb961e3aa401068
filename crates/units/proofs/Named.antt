-- The triples in daily use, in numbers: document 01's snapshot, and M-100's default and calibration.
use mathlib.Core.Path.{◌≡◌, refl}
use Rattle.units.specs.Bounds.{triple, snapshot, default, calibration}

-- "The default becomes (2, 0, 1). The snapshot triple keeps its numbers." Calibration transactions tune to (1, 0, 0), the default of old
pub named : (snapshot ≡ triple 1 0 65535) × (default ≡ triple 2 0 1) × (calibration ≡ triple 1 0 0)
named = (refl, refl, refl)
