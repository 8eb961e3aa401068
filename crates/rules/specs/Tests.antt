-- What the walks over the recorded reads find or ask: BV and FV in one, SV over all pairs, whether a read is apart from one of a stamp,
-- the latest stamp among them.
use Rattle.std.specs.Prelude.{ℕ, max, Bool, List, [], ◌∷◌, ltb, get_or, Result}
use Rattle.lists.specs.Lists.{find, any}
use Rattle.units.specs.declared.rule.Rule.{Rule}
use Rattle.units.specs.declared.rule.Rule.TheVariants.{BV, FV, SV}
use Rattle.transaction.specs.declared.Mark.{Mark}
use Rattle.transaction.specs.declared.Transaction.{Transaction}
use Rattle.transaction.specs.Transaction.{reads_of, no_mark}
use Rattle.model.specs.Log.{Entry, between}
use Rattle.model.specs.Rules.{stale, early, apart, broken_at, ◌or_else◌}

-- BV over all reads, then FV over all reads
unfoldable pub outside : List Entry → Transaction → Result (Unit {0}) Rule
outside log t = broken_at BV (stale log t) (reads_of t) or_else broken_at FV (early log t) (reads_of t)

-- SV over all pairs of reads
unfoldable pub parted : List Entry → Transaction → Result (Unit {0}) Rule
parted log t =
    broken_at
    (λ (i : ℕ). SV i (find (apart log t (get_or (reads_of t) i no_mark)) (reads_of t)))
    (λ (x : Mark). any (apart log t x) (reads_of t))
    (reads_of t)

-- whether a read is apart from one of a stamp
abbrev pub torn : List Entry → Transaction → ℕ → Mark → Bool
torn log t last x = ltb t.bounds.k3 (between log x.key x.stamp.0 last)

-- the latest stamp of a version read; 0 where none was read
unfoldable pub latest : List Mark → ℕ
latest [] = 0
latest (x ∷ xs) = max x.stamp.0 (latest xs)
