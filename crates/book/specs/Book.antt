-- What the words of the judge's memory stand for: the ledger, newest first; and a row, a read, a verdict put down in them.
use Rattle.std.specs.Prelude.{ℕ, zero, suc, ◌+◌, ◌*◌, ◌/◌, ◌%◌, ◌<◌, min, cond, List, [], ◌∷◌, ltb, get_or, set}
use Rattle.records.specs.Ledger.{Ledger, no_row}
use Rattle.records.specs.Order.{code_of, verdict_from}
use Rattle.records.specs.declared.Judged.{Judged}
use Rattle.records.specs.declared.Row.{Row}
use Rattle.records.specs.declared.Seen.{Seen}
use Rattle.book.specs.Layout.{ends_from, judged_codes_from, judged_names_from, k1s_from, k2s_from, k3s_from, highs_from, lasts_from, lows_from, names_from, reads_at, rows_at, seen_befores_from, seen_keys_from, seen_lines_from, starts_from, verdicts_at}

-- the word of the keys written, out of its halves
abbrev pub key_word : ℕ → ℕ → ℕ
key_word low high = low % 4294967296 + 4294967296 * (high % 4294967296)

abbrev pub row_at : List ℕ → ℕ → Row
row_at ws i =
    record {
      name = get_or ws (names_from + i) 0;
      start = get_or ws (starts_from + i) 0;
      end = get_or ws (ends_from + i) 0;
      keys = key_word (get_or ws (lows_from + i) 0) (get_or ws (highs_from + i) 0);
      bounds = record { k1 = get_or ws (k1s_from + i) 0 % 65536; k2 = get_or ws (k2s_from + i) 0 % 65536; k3 = get_or ws (k3s_from + i) 0 % 65536 };
      last = get_or ws (lasts_from + i) 0;
    }

-- the first n rows, the newest first
unfoldable pub rows_of : List ℕ → ℕ → List Row
rows_of ws zero = []
rows_of ws (suc n) = row_at ws n ∷ rows_of ws n

abbrev pub seen_at : List ℕ → ℕ → Seen
seen_at ws i = record { key = get_or ws (seen_keys_from + i) 0; line = get_or ws (seen_lines_from + i) 0; before = get_or ws (seen_befores_from + i) 0 }

-- the first n recorded reads, the newest first
unfoldable pub seens_of : List ℕ → ℕ → List Seen
seens_of ws zero = []
seens_of ws (suc n) = seen_at ws n ∷ seens_of ws n

-- a verdict by its place in the order ok, RC, BV, FV, SV, WC
abbrev pub judged_at : List ℕ → ℕ → Judged
judged_at ws i = record { name = get_or ws (judged_names_from + i) 0; verdict = verdict_from (get_or ws (judged_codes_from + i) 0) }

-- the first n verdicts, the newest first
unfoldable pub judged_of : List ℕ → ℕ → List Judged
judged_of ws zero = []
judged_of ws (suc n) = judged_at ws n ∷ judged_of ws n

-- a count past its limit counts as the limit
abbrev pub row_count : List ℕ → ℕ
row_count ws = min (get_or ws rows_at 0) 512

abbrev pub read_count : List ℕ → ℕ
read_count ws = min (get_or ws reads_at 0) 4096

abbrev pub verdict_count : List ℕ → ℕ
verdict_count ws = min (get_or ws verdicts_at 0) 512

abbrev pub rows_in : List ℕ → List Row
rows_in ws = rows_of ws (row_count ws)

abbrev pub seens_in : List ℕ → List Seen
seens_in ws = seens_of ws (read_count ws)

abbrev pub judged_in : List ℕ → List Judged
judged_in ws = judged_of ws (verdict_count ws)

-- the ledger that the words stand for
abbrev pub ledger_of : List ℕ → Ledger
ledger_of ws = record { rows = rows_in ws; seens = seens_in ws; judged = judged_in ws }

-- the row of a number, counted from 1; where there is none, a row that has ended
unfoldable pub row_loaded : List ℕ → ℕ → Row
row_loaded ws zero = no_row
row_loaded ws (suc i) = cond (ltb i 512) (row_at ws i) no_row

-- a row at a place, counted from 0; past the last place nothing is stored
abbrev pub row_words : List ℕ → ℕ → Row → List ℕ
row_words ws i r =
    set
    (set
    (set
    (set
    (set
    (set
    (set (set (set ws (names_from + i) r.name) (starts_from + i) r.start) (ends_from + i) r.end)
    (lows_from + i)
    (r.keys % 4294967296))
    (highs_from + i)
    (r.keys / 4294967296))
    (k1s_from + i)
    r.bounds.k1)
    (k2s_from + i)
    r.bounds.k2)
    (k3s_from + i)
    r.bounds.k3)
    (lasts_from + i)
    r.last

unfoldable pub row_stored : List ℕ → ℕ → Row → List ℕ
row_stored ws i r = cond (ltb i 512) (row_words ws i r) ws

-- one row more; where there are 512, nothing is stored
unfoldable pub row_added : List ℕ → Row → List ℕ
row_added ws r = cond (ltb (row_count ws) 512) (set (row_words ws (row_count ws) r) rows_at (suc (row_count ws))) ws

-- one recorded read more; where there are 4,096, nothing is stored
abbrev pub seen_words : List ℕ → ℕ → Seen → List ℕ
seen_words ws i s = set (set (set ws (seen_keys_from + i) s.key) (seen_lines_from + i) s.line) (seen_befores_from + i) s.before

unfoldable pub seen_added : List ℕ → Seen → List ℕ
seen_added ws s = cond (ltb (read_count ws) 4096) (set (seen_words ws (read_count ws) s) reads_at (suc (read_count ws))) ws

-- one verdict more; where there are 512, nothing is stored
abbrev pub judged_words : List ℕ → ℕ → Judged → List ℕ
judged_words ws i j = set (set ws (judged_names_from + i) j.name) (judged_codes_from + i) (code_of j.verdict)

unfoldable pub judged_added : List ℕ → Judged → List ℕ
judged_added ws j = cond (ltb (verdict_count ws) 512) (set (judged_words ws (verdict_count ws) j) verdicts_at (suc (verdict_count ws))) ws

-- a row that its words can say: the word of its keys has 64 bits, its bounds 16
pub record Fits (r : Row) : Type 0 where
  pub keys : r.keys < 18446744073709551616
  pub k1 : r.bounds.k1 < 65536
  pub k2 : r.bounds.k2 < 65536
  pub k3 : r.bounds.k3 < 65536
