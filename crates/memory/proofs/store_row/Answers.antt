use Rattle.std.proofs.Common.{◌∙◌, sym, arith}
use Rattle.memory.proofs.Tables.{row-step, row_end}
use Rattle.memory.proofs.store_row.Goals as goal

pub loop-i-preserved : goal.loop-i-preserved
loop-i-preserved g c =
    let t = g.T.Stored in
    rw (c.store.ensures, c.WIDTH.ensures) (row-step t.words t.WIDTH g.met.T.Stored.as_many c.loop-i.memory c.args.from c.loop-i.i c.args.row.now c.index-row-i.result (omega arith) (sym c.index-row-i.is) ∙ c.loop-i.invariant)

pub returns : goal.returns
returns g c =
    let t = g.T.Stored in
    row_end t.words t.WIDTH g.met.T.Stored.as_many c.loop-i.memory c.args.from c.loop-i.i c.args.row.now (omega arith) ∙ c.loop-i.invariant
