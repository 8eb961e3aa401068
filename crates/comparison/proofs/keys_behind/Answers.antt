-- `keys_behind` meets its contract: the word of the keys looked at so far.
use Rattle.std.proofs.Common.{◌+◌, refl, arith}
use Rattle.std.proofs.Math.Nat.{lt_of_lt_of_le}
use lib.Pow.{pow_mono}
use borrow.Author.Tests.{lt-ltb, le-ltb}
use Rattle.memory.specs.Memory.{log_of}
use Rattle.comparison.specs.Comparison.{is_behind, word_of}
use Rattle.comparison.proofs.Words.{word_lt, word_with, word_without}
use Rattle.comparison.proofs.keys_behind.Goals as goal
use Rattle.comparison.proofs.keys_behind.Goals.{then-held-key, else-held-key}

pub loop-key-init : goal.loop-key-init
unfolding word_of
loop-key-init c = refl

pub overflow_add-word : goal.overflow_add-word
overflow_add-word c =
    let k = c.loop-key.key in
    let p = is_behind (log_of c.args.memory.now) c.args.held in
    let e = word_with p k c.loop-key.invariant (omega (arith, c.loop-key-test.true)) (lt-ltb _ _ (rw c.newest_ordinal.ensures at c.if-held-key.true)) in
    record { fits = rw e (lt_of_lt_of_le (word_lt p (k + 1)) (pow_mono {j = 64} (omega (arith, c.loop-key-test.true)))) }

pub loop-key-preserved : goal.loop-key-preserved
loop-key-preserved c =
    let p = is_behind (log_of c.args.memory.now) c.args.held in
    elim c.if-held-key.branch [
      | then-held-key w ↦ rw w.word-is (word_with p _ c.loop-key.invariant (omega (arith, c.loop-key-test.true)) (lt-ltb _ _ (rw c.newest_ordinal.ensures at w.if-held-key.true)))
      | else-held-key w ↦ rw w.word-is (word_without p _ c.loop-key.invariant (le-ltb _ _ (rw c.newest_ordinal.ensures at w.if-held-key.false)))
    ]
