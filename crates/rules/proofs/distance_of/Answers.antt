-- `distance_of` meets its contract: the difference of the two counts, which fits.
use native.Mathlib.Omega.{arith}
use mir.Facts.{to_z-of_z, to_z_pos}
use mir.Syntax.{w64}
use Rattle.rules.proofs.Signed.{difference-fits}
use Rattle.rules.proofs.Asked.{by_counts}
use Rattle.rules.proofs.distance_of.Goals as goal

pub returns : goal.returns
returns c =
    let s = c.count_up_to-at_start in
    let r = c.count_up_to-at_read in
    rw (c.from.ensures, c.from-2.ensures, to_z_pos w64 {n = s.result} (omega arith), to_z_pos w64 {n = r.result} (omega arith), to_z-of_z (difference-fits s.result r.result s.type_inv r.type_inv))
    (by_counts _ _ _ _ _ s.ensures r.ensures)
