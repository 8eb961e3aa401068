-- The first rule that a read breaks, so that a commit's reads are walked once: the first rule that any of them breaks is the least of theirs.
use Rattle.std.specs.Prelude.{ℕ, max, Bool, cond, ◌&&◌, List, [], ◌∷◌, eqb, leb, ltb}
use Rattle.lists.specs.Lists.{any}
use Rattle.records.specs.Ledger.{unread, stale, early, rows_between}
use Rattle.records.specs.declared.Row.{Row}
use Rattle.records.specs.declared.Seen.{Seen}
use Rattle.records.specs.declared.Verdict.{Verdict}
use Rattle.records.specs.declared.Verdict.TheVariants as verdict
use Rattle.trial.specs.declared.Rank.{Rank}
use Rattle.trial.specs.declared.Rank.TheVariants.{RC, BV, FV, SV, Kept}

-- the latest line read
unfoldable pub latest_of : List Seen → ℕ
latest_of [] = 0
latest_of (s ∷ ss) = max s.line (latest_of ss)

-- SV against a read of line y
abbrev pub outrun : List Row → Row → ℕ → Seen → Bool
outrun rows r y x = ltb r.bounds.k3 (rows_between rows x.key x.line y)

-- the first rule of which it is said that it is broken: RC, BV, FV, SV
abbrev pub ranked : Bool → Bool → Bool → Bool → Rank
ranked rc bv fv sv = cond rc RC (cond bv BV (cond fv FV (cond sv SV Kept)))

-- the first rule that a read breaks, SV against the latest line read
unfoldable pub rank_of : List Row → Row → ℕ → Seen → Rank
rank_of rows r y s = ranked (unread s) (stale rows r s) (early rows r s) (outrun rows r y s)

-- the first rule that any of the reads breaks
unfoldable pub first_of : List Row → Row → ℕ → List Seen → Rank
first_of rows r y ss = ranked (any unread ss) (any (stale rows r) ss) (any (early rows r) ss) (any (outrun rows r y) ss)

-- of BV and FV alone
unfoldable pub far_of : List Row → Row → Seen → Rank
far_of rows r s = cond (stale rows r s) BV (cond (early rows r s) FV Kept)

-- the same from n, the versions between the start and the line read
unfoldable pub far_by : Row → ℕ → ℕ → Rank
far_by r line n =
    cond (leb line r.start) (cond (leb r.bounds.k1 n) BV Kept)
    (cond (ltb r.bounds.k2 n) FV (cond (eqb n 0 && eqb r.bounds.k1 0) BV Kept))

-- the rule as a verdict; where none is broken, what comes after them
unfoldable pub ruled : Rank → Verdict → Verdict
ruled RC v = verdict.RC
ruled BV v = verdict.BV
ruled FV v = verdict.FV
ruled SV v = verdict.SV
ruled Kept v = v
