-- What is said of a text that the judge judges: it is the texts of a history's records, and every verdict and total is right over all of it.
use Rattle.std.specs.Prelude.{ℕ, ◌≤◌, List, reverse, ◌≡◌, length}
use Rattle.lists.specs.Lists.{Every}
use Rattle.records.specs.declared.Judged.{Judged}
use Rattle.records.specs.declared.Record.{Record}
use Rattle.records.specs.declared.Totals.{Totals}
use Rattle.records.specs.Judge.{Right}
use Rattle.records.specs.Refused.{Unrefused}
use Rattle.records.specs.Tally.{Counts}
use Rattle.history.specs.Text.{InForm, texts}

-- the records in line order; a history has its newest line first
pub record Whole (s : List ℕ) (js : List Judged) (t : Totals) : Type 0 where
  pub records : List Record
  pub text : s ≡ texts records
  pub form : Every InForm records
  pub few : length records ≤ 4096
  pub unrefused : Unrefused (reverse records)
  pub right : Right (reverse records) js
  pub totals : Counts (reverse records) t
