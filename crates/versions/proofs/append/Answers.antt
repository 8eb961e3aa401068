use Rattle.std.proofs.Common.{arith, rules, w32, SFits, to_z-of_z}
use Rattle.memory.specs.Memory.{length_of}
use Rattle.versions.proofs.Laws.{append_goes, append-full, versions_le}
use Rattle.versions.proofs.append.Goals as goal

pub overflow_add-ordinal : goal.overflow_add-ordinal
overflow_add-ordinal c = let a = c.args in omega (arith, c.count_versions-ordinal.ensures, versions_le a.memory.now (length_of a.memory.now) a.w.key)

pub returns-then-at-lt-LOG : goal.returns-then-at-lt-LOG
returns-then-at-lt-LOG c =
    let f : SFits w32 c.args.w.value = search rules in
    append_goes _ _ _ _ _ c.args.w c.length_of-at.ensures c.if-at-lt-LOG.true c.count_versions-ordinal.ensures (rw (to_z-of_z f) at c.word_of.ensures)

pub returns-else-at-lt-LOG : goal.returns-else-at-lt-LOG
returns-else-at-lt-LOG c = append-full _ _ _ _ c.length_of-at.ensures c.if-at-lt-LOG.false
