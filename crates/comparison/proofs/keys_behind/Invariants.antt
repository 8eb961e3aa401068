-- `keys_behind` meets its contract: the word of the keys looked at so far.
use Rattle.std.proofs.Common.{◌≡◌}
use Rattle.memory.specs.Memory.{log_of}
use Rattle.comparison.specs.Comparison.{is_behind, word_of}
use Rattle.comparison.proofs.keys_behind.Given as goal

abbrev pub invariant-loop-key : goal.invariant-loop-key
invariant-loop-key l = l.word ≡ word_of (is_behind (log_of l.memory) l.held) l.key
