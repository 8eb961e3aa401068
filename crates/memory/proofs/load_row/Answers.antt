use Rattle.std.proofs.Common.{ℕ, ◌+◌, ◌*◌, arith}
use Rattle.memory.proofs.Tables.{is_tab}
use Rattle.memory.proofs.load_row.Goals as goal

pub returns : goal.returns
returns g c =
    let t = g.T.Stored in
    let f = λ (i : ℕ). t.stands c.args.memory.now (c.args.from + t.WIDTH * i) in
    is_tab f _ (f 0) _ c.loop-i.invariant.0 (λ i h. c.loop-i.invariant.1 i (omega arith))
