-- P10 and the empty history, by computation from the definitions.
use mathlib.Core.Path.{refl}
use mathlib.Core.List.{[], ◌∷◌}
use Rattle.lists.specs.Lists.{any, count}
use Rattle.units.specs.Bounds.{calibration}
use Rattle.records.specs.declared.Verdict.TheVariants.{Ok, FV}
use Rattle.records.specs.Ledger.{Ledger, blank, row_of, become, rows_up_to, rows_between, resolved, chain, verdict_on, changed, noted, concluded, line_step}
use Rattle.records.specs.Tally.{totals_of}
use Rattle.records.specs.Judge.{nothing, line}
use Rattle.records.specs.Example.{P10, Empty}

abbrev after_c2 : Ledger
after_c2 =
    record {
      rows =
          record { name = 2; start = 2; end = 6; keys = 0; bounds = calibration; last = 1 }
          ∷ record { name = 1; start = 1; end = 4; keys = 32; bounds = calibration; last = 0 }
          ∷ [];
      seens = record { key = 5; line = 4; before = 0 } ∷ [];
      judged = record { name = 2; verdict = FV } ∷ record { name = 1; verdict = Ok } ∷ [];
    }

pub p10 : P10
unfolding any count row_of become rows_up_to rows_between resolved chain verdict_on changed noted concluded line_step totals_of
p10 = record { ledger = after_c2; taken = line (line (line (line (line (line nothing refl) refl) refl) refl) refl) refl; verdicts = refl; totals = refl }

pub empty : Empty
unfolding totals_of
empty = record { ledger = blank; taken = nothing; verdicts = refl; totals = refl }
