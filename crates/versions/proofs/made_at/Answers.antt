use Rattle.std.proofs.Common.{◌≡◌, ◌∙◌, arith}
use Rattle.model.specs.Log.{made_at}
use Rattle.memory.specs.Memory.{entries, length_of}
use Rattle.versions.specs.Batch.{batch_of}
use Rattle.versions.proofs.Gathering.{made_hit, made_miss}
use Rattle.versions.proofs.made_at.Goals as goal
use Rattle.versions.proofs.made_at.Goals.{then-memory-i, else-memory-i}

pub loop-i-init : goal.loop-i-init
unfolding made_at entries batch_of
loop-i-init c = c.empty-batch.ensures

pub loop-i-preserved : goal.loop-i-preserved
loop-i-preserved c =
    elim c.if-memory-i.branch [
      | then-memory-i w ↦ made_hit c.args.memory.now _ _ _ c.loop-i.invariant _ _ w.if-memory-i.true w.item_at.ensures (w.batch-is ∙ w.add-batch.ensures)
      | else-memory-i w ↦ w.batch-is ∙ made_miss c.args.memory.now _ _ _ c.loop-i.invariant w.if-memory-i.false
    ]

pub returns : goal.returns
returns c =
    let e : c.loop-i.i ≡ length_of c.args.memory.now = omega arith in
    c.loop-i.invariant ∙ rw e
