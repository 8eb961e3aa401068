use Rattle.std.proofs.Common.{◌≡◌, ◌+◌, ◌*◌, drop}
use Rattle.std.proofs.lemmas.List.Edits.{sets}
use Rattle.memory.specs.Memory.{row_words}
use Rattle.memory.proofs.store_row.Given as goal

abbrev pub invariant-loop-i : goal.invariant-loop-i
invariant-loop-i g l =
    let t = g.T.Stored in
    sets l.memory (l.from + t.WIDTH * l.i) (row_words t.words (drop l.i l.row)) ≡ sets l.initial.memory l.from (row_words t.words l.row)
