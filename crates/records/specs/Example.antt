-- The written history of document 01 (P10), its lines in order, and what the judge says of it.
use Rattle.std.specs.Prelude.{List, [], ◌∷◌, reverse, ◌≡◌}
use Rattle.records.specs.declared.Record.{Record}
use Rattle.records.specs.declared.Record.TheVariants.{Start, Read, Write, Commit}
use Rattle.records.specs.declared.Verdict.TheVariants.{Ok, FV}
use Rattle.records.specs.declared.Judged.{Judged}
use Rattle.records.specs.declared.Totals.{Totals}
use Rattle.records.specs.Ledger.{Ledger}
use Rattle.records.specs.Totals.{no_totals}
use Rattle.records.specs.Tally.{totals_of}
use Rattle.records.specs.Judge.{Taken}

-- "`s 1`, `s 2`, `w 1 5`, `c 1`, `r 2 5 1`, `c 2`"
abbrev pub p10_lines : List Record
p10_lines = Start 1 ∷ Start 2 ∷ Write 1 5 ∷ Commit 1 ∷ Read 2 5 1 ∷ Commit 2 ∷ []

-- "`judge 2`, `1 ok`, `2 FV`, `total 2 2 0 0`"
abbrev pub p10_judged : List Judged
p10_judged = record { name = 1; verdict = Ok } ∷ record { name = 2; verdict = FV } ∷ []

abbrev pub p10_totals : Totals
p10_totals = record { started = 2; committed = 2; aborted = 0; «open» = 0 }

-- what is said of the lines of a history: the verdicts, and the totals
pub record JudgedAs (records : List Record) (judged : List Judged) (total : Totals) : Type 0 where
  pub ledger : Ledger
  pub taken : Taken (reverse records) ledger
  pub verdicts : reverse ledger.judged ≡ judged
  pub totals : totals_of (reverse records) ≡ total

abbrev pub P10 : Type 0
P10 = JudgedAs p10_lines p10_judged p10_totals

-- "Empty input: `judge 0`, `total 0 0 0 0`"
abbrev pub Empty : Type 0
Empty = JudgedAs [] [] no_totals
