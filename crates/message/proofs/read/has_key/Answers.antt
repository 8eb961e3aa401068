-- `has_key` meets its contract: `any` of the library is that of these papers.
use Rattle.std.proofs.Common.{◌∙◌, sym, rules}
use Rattle.std.proofs.lemmas.Iterator.{YieldsList-from_slice}
use Rattle.std.proofs.lemmas.Iterator.Search.{any_from_yields_List}
use borrow.Author.Tests.{tests}
use Rattle.message.specs.Read.{is_of_key}
use Rattle.lists.proofs.Std.{any-list_any}
use Rattle.message.proofs.read.has_key.Goals as goal

pub returns : goal.returns
returns c =
    let p = is_of_key c.args.key in
    any_from_yields_List p _ _ _ c.any.ensures.ran (YieldsList-from_slice c.args.items.now cc) (λ x b q k. search (rules, tests)) ∙ sym (any-list_any p c.args.items.now)
