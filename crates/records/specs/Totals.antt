-- "The four totals are raised one line at a time as records are read; started is the number of `s` lines": started, committed, aborted
-- and still open.
use Rattle.std.specs.Prelude.{ℕ, ◌+◌, ◌-◌, min, cond}
use Rattle.records.specs.declared.Record.{Record}
use Rattle.records.specs.Parts.{starts, commits, aborts}
use Rattle.records.specs.declared.Totals.{Totals}

abbrev pub no_totals : Totals
no_totals = record { started = 0; committed = 0; aborted = 0; «open» = 0 }

-- one more, up to the largest number of 32 bits
abbrev pub more : ℕ → ℕ
more n = min (n + 1) 4294967295

abbrev pub raise_started : Totals → Totals
raise_started t = record { started = more t.started; committed = t.committed; aborted = t.aborted; «open» = more t.«open» }

abbrev pub raise_committed : Totals → Totals
raise_committed t = record { started = t.started; committed = more t.committed; aborted = t.aborted; «open» = t.«open» - 1 }

abbrev pub raise_aborted : Totals → Totals
raise_aborted t = record { started = t.started; committed = t.committed; aborted = more t.aborted; «open» = t.«open» - 1 }

-- a record that starts or ends a transaction moves them
abbrev pub raised : Record → Totals → Totals
raised r n = cond (starts r) (raise_started n) (cond (commits r) (raise_committed n) (cond (aborts r) (raise_aborted n) n))
