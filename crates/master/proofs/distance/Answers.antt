-- `distance` meets its contract: the distance of the read that was looked up.
use mir.Facts.{to_z-of_z}
use Rattle.master.proofs.Laws.{looked_up, distance-of}
use Rattle.master.proofs.distance.Goals as goal

pub returns : goal.returns
returns c =
    let at = looked_up (λ x. x.now) c.reads.result.now c.args.place c.get.result c.in_ok-read.read _ c.get.ensures.lookup.0 c.get.ensures.lookup.1 c.in_ok-read.ensures.value in
    rw (to_z-of_z (record { sfits = c.distance_of.type_inv }))
    (distance-of _ _ _ _ c.in_ok-t.t _ _ c.place_of.ensures c.in_ok-t.ensures (rw c.reads.ensures at at.0) (rw c.reads.ensures at at.1) c.distance_of.ensures)
