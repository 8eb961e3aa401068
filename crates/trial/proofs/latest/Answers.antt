-- The fold of `max` over the reads that the walk gives is the latest of their lines.
use Rattle.std.proofs.Common.{ℕ, max, rules, tests, ◌∙◌}
use Rattle.std.proofs.lemmas.Iterator.Consumers.{YieldsList-from_first, fold_from_yields_List}
use Rattle.records.specs.Ledger.{chain}
use Rattle.records.specs.declared.Seen.{Seen}
use Rattle.book.specs.Book.{seens_in}
use Rattle.trial.specs.Walk.{reads_from}
use Rattle.trial.proofs.Ranks.{latest_folded}
use Rattle.trial.proofs.latest.Goals as goal

pub returns : goal.returns
returns c =
    let ss = chain (seens_in c.args.memory.now) c.args.last in
    fold_from_yields_List _ (λ (y : ℕ) (s : Seen). max y s.line) 0 c.fold.result c.fold.ensures.ran (YieldsList-from_first (λ s. s) (λ s. reads_from s.memory.now s.most s.number) ss c.new.ensures) (λ y s b q k. search (rules, tests))
    ∙ latest_folded ss
