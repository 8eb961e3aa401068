-- The totals of a history, raised a line at a time, and what they count.
use Rattle.std.specs.Prelude.{Bool, ◌&&◌, [], ◌∷◌, ◌≡◌}
use Rattle.lists.specs.Lists.{count}
use Rattle.records.specs.declared.Record.{Record}
use Rattle.records.specs.Parts.{name_of, starts, commits, aborts}
use Rattle.records.specs.Refused.{open_in}
use Rattle.records.specs.declared.Totals.{Totals}
use Rattle.records.specs.Written.{History}
use Rattle.records.specs.Totals.{no_totals, raised}

-- the totals, raised a line at a time
unfoldable pub totals_of : History → Totals
totals_of [] = no_totals
totals_of (r ∷ h) = raised r (totals_of h)

-- an `s` line of a transaction that has not ended
abbrev pub still_open : History → Record → Bool
still_open h r = starts r && open_in h (name_of r)

-- "the numbers started, committed, aborted and still open"
pub record Counts (h : History) (n : Totals) : Type 0 where
  pub started : n.started ≡ count starts h
  pub committed : n.committed ≡ count commits h
  pub aborted : n.aborted ≡ count aborts h
  pub «open» : n.«open» ≡ count (still_open h) h
