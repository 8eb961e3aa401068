use Rattle.std.proofs.Common.{◌≡◌, ℕ, ◌+◌, ◌*◌, ◌<◌, length, get_or}
use Rattle.memory.proofs.load_row.Given as goal

abbrev pub invariant-loop-i : goal.invariant-loop-i
invariant-loop-i g l =
    let t = g.T.Stored in
    (length l.row ≡ length l.initial.row) × ((k : ℕ) → k < l.i → get_or l.row k (t.stands l.memory (l.from + t.WIDTH * 0)) ≡ t.stands l.memory (l.from + t.WIDTH * k))
