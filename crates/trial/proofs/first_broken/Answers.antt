-- The fold of `min` over the ranks of the reads that the walk gives is the first rule that any of them breaks.
use Rattle.std.proofs.Common.{rules, tests, ◌∙◌}
use Rattle.std.proofs.lemmas.Iterator.Consumers.{YieldsList-from_first, fold_from_yields_List}
use Rattle.records.specs.Ledger.{chain}
use Rattle.records.specs.declared.Seen.{Seen}
use Rattle.book.specs.Book.{rows_in, seens_in}
use Rattle.trial.specs.Trial.{rank_of}
use Rattle.trial.specs.Walk.{reads_from}
use Rattle.trial.specs.declared.Rank.{Rank}
use Rattle.trial.specs.declared.Rank.TheVariants.{Kept}
use Rattle.trial.proofs.Ranks.{lesser, first_folded}
use Rattle.trial.proofs.first_broken.Goals as goal

pub returns : goal.returns
returns c =
    let a = c.args in
    let rows = rows_in a.memory.now in
    let ss = chain (seens_in a.memory.now) a.row.last in
    fold_from_yields_List _ (λ (k : Rank) (s : Seen). lesser k (rank_of rows a.row a.y s)) Kept c.fold.result c.fold.ensures.ran (YieldsList-from_first (λ s. s) (λ s. reads_from s.memory.now s.most s.number) ss c.new.ensures) (λ k s b q h. search (rules, tests))
    ∙ first_folded rows a.row a.y ss
