-- Where each thing lies in the master's memory, in words of 32 bits: the clock, the log's length, the log's four regions of 4,096 words, and
-- the 32 places of the desk. src/layout.rt says the same.
use Rattle.std.specs.Prelude.{ℕ}

abbrev pub clock_at : ℕ
clock_at = 0

abbrev pub length_at : ℕ
length_at = 1

abbrev pub keys_from : ℕ
keys_from = 2

abbrev pub ordinals_from : ℕ
ordinals_from = 4098

abbrev pub stamps_from : ℕ
stamps_from = 8194

abbrev pub values_from : ℕ
values_from = 12290

abbrev pub desk_from : ℕ
desk_from = 16386

-- of a place of the desk: the name is its first word, then whether it is open, three bounds, how many reads and how many writes count; then the
-- reads, three words each, and the writes, two words each
abbrev pub live_at : ℕ
live_at = 1

abbrev pub reads_from : ℕ
reads_from = 7

abbrev pub writes_from : ℕ
writes_from = 55

abbrev pub place_words : ℕ
place_words = 87

abbrev pub word_count : ℕ
word_count = 19170
