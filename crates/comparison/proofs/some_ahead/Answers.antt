-- `some_ahead` meets its contract: the chain looks at the keys in turn.
use Rattle.std.proofs.Common.{◌∙◌, refl, rules}
use Rattle.std.proofs.lemmas.Iterator.{YieldsList-from_range}
use Rattle.std.proofs.lemmas.Iterator.Search.{any_from_yields_List}
use borrow.Author.Tests.{tests}
use Rattle.memory.specs.Memory.{log_of}
use Rattle.comparison.specs.Comparison.{is_ahead}
use Rattle.comparison.proofs.Words.{some-any}
use Rattle.comparison.proofs.some_ahead.Goals as goal

pub returns : goal.returns
returns c =
    let p = is_ahead (log_of c.args.memory.now) c.args.held in
    any_from_yields_List p _ _ _ c.any.ensures.ran (YieldsList-from_range 0 64 64 refl refl) (λ x b q k. search (rules, tests)) ∙ some-any p 64
