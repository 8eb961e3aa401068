-- Where each thing lies in the judge's memory, in words of 32 bits: three counts, then a region of 512 words for each field of a row, one of 4,096
-- for each field of a recorded read, and one of 512 for each field of a verdict. src/layout.rt says the same.
use Rattle.std.specs.Prelude.{ℕ}

abbrev pub rows_at : ℕ
rows_at = 0

abbrev pub reads_at : ℕ
reads_at = 1

abbrev pub verdicts_at : ℕ
verdicts_at = 2

abbrev pub names_from : ℕ
names_from = 3

abbrev pub starts_from : ℕ
starts_from = 515

abbrev pub ends_from : ℕ
ends_from = 1027

-- the word of the keys written, in two halves: the keys below 32, and the others
abbrev pub lows_from : ℕ
lows_from = 1539

abbrev pub highs_from : ℕ
highs_from = 2051

abbrev pub k1s_from : ℕ
k1s_from = 2563

abbrev pub k2s_from : ℕ
k2s_from = 3075

abbrev pub k3s_from : ℕ
k3s_from = 3587

abbrev pub lasts_from : ℕ
lasts_from = 4099

abbrev pub seen_keys_from : ℕ
seen_keys_from = 4611

abbrev pub seen_lines_from : ℕ
seen_lines_from = 8707

abbrev pub seen_befores_from : ℕ
seen_befores_from = 12803

abbrev pub judged_names_from : ℕ
judged_names_from = 16899

abbrev pub judged_codes_from : ℕ
judged_codes_from = 17411

abbrev pub word_count : ℕ
word_count = 17923
