-- A read grows the room's front by what the reader gave, and one that failed leaves it.
use Rattle.std.proofs.Common.{◌≤◌, length, rules}
use Rattle.intake.proofs.Filled.{Consumes-trans, Consumes-kept, front_more, front_kept}
use Rattle.intake.proofs.read_full.Goals as goal
use Rattle.intake.proofs.read_full.Goals.{in-Ok, in-Err+else-ne}

pub loop-preserved : goal.loop-preserved
loop-preserved g c =
    let front : c.loop.done ≤ length c.loop.room = c.loop.invariant.within in
    elim c.match-read.branch [
      | in-Ok w ↦
          let part : w.in-Ok.n ≤ length c.read.new.buf = w.in-Ok.ensures.bound.0 in
          rw w.done-is (record {
            within = search rules;
            bytes = rw front_more (Consumes-trans _ _ _ _ _ c.loop.invariant.bytes w.in-Ok.ensures.bytes.0);
          })
      | in-Err+else-ne w ↦
          rw w.done-is (record {
            within = search rules;
            bytes = rw front_kept (Consumes-kept _ _ _ _ c.loop.invariant.bytes w.in-Err.ensures.bytes);
          })
    ]
