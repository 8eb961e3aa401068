-- The judge in one pass: what it remembers while it reads, and what each record does to that. At its line a read is resolved for good, and
-- at the commit line every version that the rules count is known, so the verdict is made there.
use Rattle.std.specs.Prelude.{ℕ, suc, ◌/◌, ◌%◌, ◌^◌, Bool, true, false, cond, ◌&&◌, not, List, [], ◌∷◌, eqb, leb, ltb, ℤ, pos, neg_ℤ, ◌-ℤ◌, length}
use Rattle.std.specs.Int.Bits.{bit_and, bit_or}
use Rattle.std.specs.Int.Signed.{lt_z, le_z}
use Rattle.lists.specs.Lists.{any, count}
use Rattle.units.specs.Bounds.{calibration}
use Rattle.records.specs.declared.Record.{Record}
use Rattle.records.specs.declared.Record.TheVariants.{Start, Tune, Read, Write, Commit, Abort}
use Rattle.records.specs.Parts.{parts_of, name_of, starts, is_reading, commits}
use Rattle.records.specs.declared.Verdict.{Verdict}
use Rattle.records.specs.declared.Verdict.TheVariants.{Ok, RC, BV, FV, SV, WC}
use Rattle.records.specs.declared.Row.{Row}
use Rattle.records.specs.declared.Seen.{Seen}
use Rattle.records.specs.declared.Judged.{Judged}

-- newest first: the rows of the transactions started, the recorded reads, the verdicts
pub record Ledger : Type 0 where
  pub rows : List Row
  pub seens : List Seen
  pub judged : List Judged

abbrev pub blank : Ledger
blank = record { rows = []; seens = []; judged = [] }

-- no line has this number: the end of an aborted transaction, the version of a read that breaks RC
abbrev pub nowhere : ℕ
nowhere = 4294967295

-- a word as a set of keys
abbrev pub has : ℕ → ℕ → Bool
has word x = eqb (word / 2 ^ x % 2) 1

abbrev pub plus : ℕ → ℕ → ℕ
plus word x = bit_or word (2 ^ x)

abbrev pub meets : ℕ → ℕ → Bool
meets a b = not (eqb (bit_and a b) 0)

abbrev pub no_row : Row
no_row = record { name = 0; start = 0; end = nowhere; keys = 0; bounds = record { k1 = 0; k2 = 0; k3 = 0 }; last = 0 }

abbrev pub named : ℕ → Row → Bool
named t r = eqb r.name t

-- the newest row of a name; where there is none, a row that has ended
unfoldable pub row_of : List Row → ℕ → Row
row_of [] t = no_row
row_of (r ∷ rs) t = cond (named t r) r (row_of rs t)

-- that row becomes q
unfoldable pub become : List Row → ℕ → Row → List Row
become [] t q = []
become (r ∷ rs) t q = cond (named t r) (q ∷ rs) (r ∷ become rs t q)

abbrev pub is_open : Row → Bool
is_open r = eqb r.end 0

-- a committed row that wrote x, and whose commit line is at or before t; one between two lines
abbrev pub made_up_to : ℕ → ℕ → Row → Bool
made_up_to x t r = has r.keys x && (ltb 0 r.end && leb r.end t)

abbrev pub made_between : ℕ → ℕ → ℕ → Row → Bool
made_between x after before r = has r.keys x && (ltb after r.end && ltb r.end before)

unfoldable pub rows_up_to : List Row → ℕ → ℕ → ℕ
rows_up_to rows x t = count (made_up_to x t) rows

unfoldable pub rows_between : List Row → ℕ → ℕ → ℕ → ℕ
rows_between rows x after before = count (made_between x after before) rows

-- the line of W's commit where W committed and wrote x, 0 for the start version, else nowhere
unfoldable pub resolved : List Row → ℕ → ℕ → ℕ
resolved rows w x =
    cond (eqb w 0) 0 (cond (has (row_of rows w).keys x && (ltb 0 (row_of rows w).end && ltb (row_of rows w).end nowhere)) (row_of rows w).end nowhere)

-- the reads of one transaction, newest first: from its last one, each names the one before it
unfoldable pub chain : List Seen → ℕ → List Seen
chain [] n = []
chain (s ∷ ss) n = cond (eqb n (suc (length ss))) (s ∷ chain ss s.before) (chain ss n)

abbrev pub seen_distance : List Row → ℕ → Seen → ℤ
seen_distance rows start s = pos (rows_up_to rows s.key start) -ℤ pos (rows_up_to rows s.key s.line)

-- a read that breaks RC, BV, FV; a pair that breaks SV; a row that breaks WC for a commit at a line
abbrev pub unread : Seen → Bool
unread s = eqb s.line nowhere

abbrev pub stale : List Row → Row → Seen → Bool
stale rows r s = not (lt_z (seen_distance rows r.start s) (pos r.bounds.k1))

abbrev pub early : List Row → Row → Seen → Bool
early rows r s = not (le_z (neg_ℤ (seen_distance rows r.start s)) (pos r.bounds.k2))

abbrev pub apart : List Row → Row → Seen → Seen → Bool
apart rows r x y = ltb r.bounds.k3 (rows_between rows x.key x.line y.line)

abbrev pub overtakes : ℕ → Row → Row → Bool
overtakes line r q = ltb r.start q.end && (ltb q.end line && meets q.keys r.keys)

abbrev pub first : Bool → Verdict → Verdict → Verdict
first true v w = v
first false v w = w

-- "The first broken of RC, BV, FV, SV, WC is named"
unfoldable pub verdict_on : List Row → List Seen → ℕ → Row → Verdict
verdict_on rows seens line r =
    first (any unread seens) RC
    (first (any (stale rows r) seens) BV
    (first (any (early rows r) seens) FV
    (first (any (λ (x : Seen). any (apart rows r x) seens) seens) SV
    (first (any (overtakes line r) rows) WC Ok))))

abbrev pub fresh_row : ℕ → ℕ → Row
fresh_row line t = record { name = t; start = line; end = 0; keys = 0; bounds = calibration; last = 0 }

-- an own read after the own write is no record
abbrev pub is_recorded : Row → ℕ → ℕ → Bool
is_recorded r x w = not (eqb w r.name && has r.keys x)

abbrev pub with_last : Row → ℕ → Row
with_last r n = record { name = r.name; start = r.start; end = r.end; keys = r.keys; bounds = r.bounds; last = n }

abbrev pub with_end : Row → ℕ → Row
with_end r line = record { name = r.name; start = r.start; end = line; keys = r.keys; bounds = r.bounds; last = r.last }

-- what a record at a line does to its transaction's row; n recorded reads are there already
unfoldable pub changed : ℕ → ℕ → Record → Row → Row
changed line n (Start t) r = r
changed line n (Tune t b) r = record { name = r.name; start = r.start; end = r.end; keys = r.keys; bounds = b; last = r.last }
changed line n (Read t x w) r = cond (is_recorded r x w) (with_last r (suc n)) r
changed line n (Write t x) r = record { name = r.name; start = r.start; end = r.end; keys = plus r.keys x; bounds = r.bounds; last = r.last }
changed line n (Commit t) r = with_end r line
changed line n (Abort t) r = with_end r nowhere

-- to the recorded reads
unfoldable pub noted : List Row → Record → Row → List Seen → List Seen
noted rows e r ss =
    cond (is_reading e && is_recorded r (parts_of e).key (parts_of e).source)
    (record { key = (parts_of e).key; line = resolved rows (parts_of e).source (parts_of e).key; before = r.last } ∷ ss)
    ss

-- and to the verdicts
unfoldable pub concluded : ℕ → List Row → List Seen → Record → Row → List Judged → List Judged
concluded line rows ss e r js = cond (commits e) (record { name = name_of e; verdict = verdict_on rows (chain ss r.last) line r } ∷ js) js

pub data Outcome : Type 0 where
  refused : (number : ℕ) → Outcome
  went : Ledger → Outcome

-- "`s` of a number used before": 15; "513th `s`": 16
abbrev pub begun : ℕ → ℕ → Ledger → Outcome
begun line t l =
    cond (any (named t) l.rows) (refused 15)
    (cond (leb 512 (length l.rows)) (refused 16) (went (record { rows = fresh_row line t ∷ l.rows; seens = l.seens; judged = l.judged })))

-- "another record of one not started or already ended": 15
abbrev pub moved : ℕ → Record → Ledger → Outcome
moved line e l =
    let r : Row = row_of l.rows (name_of e) in
    cond (is_open r)
    (went
    (record {
      rows = become l.rows (name_of e) (changed line (length l.seens) e r);
      seens = noted l.rows e r l.seens;
      judged = concluded line l.rows l.seens e r l.judged;
    }))
    (refused 15)

unfoldable pub line_step : ℕ → Record → Ledger → Outcome
line_step line e l = cond (starts e) (begun line (name_of e) l) (moved line e l)
