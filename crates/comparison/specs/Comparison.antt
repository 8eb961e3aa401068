-- The comparison: document 01, "takes the copy's 64 ordinals and answers a 64-bit word with a one for each key that is behind, how many
-- keys that is, and the lowest of them (64 if none)"; 11 where "some ordinal is above the master's".
use Rattle.std.specs.Prelude.{ℕ, zero, suc, ◌+◌, ◌^◌, Bool, false, cond, ◌||◌, List, ltb, get_or, Result, Ok, Err}
use Rattle.std.specs.Int.Count.{ones, count_trailing_zeros}
use Rattle.units.specs.declared.Ordinal.{Ordinal}
use Rattle.units.specs.Refusal.{number_of}
use Rattle.units.specs.declared.refusal.Refusal.{Refusal}
use Rattle.model.specs.Log.{Entry, newest}
use Rattle.comparison.specs.declared.Behind.{Behind}

-- the reply in document 01's numbers
pub data CompareReply : Type 0 where
  behind : (word number lowest : ℕ) → CompareReply
  refused : (number : ℕ) → CompareReply

abbrev pub compare_reply : Result Behind Refusal → CompareReply
compare_reply (Ok b) = behind b.word b.keys b.lowest
compare_reply (Err f) = refused (number_of f)

-- the master's ordinal of a key
abbrev pub newest_ordinal : List Entry → ℕ → ℕ
newest_ordinal log k = (newest log k).ordinal.0

-- the copy's
abbrev pub held_ordinal : List Ordinal → ℕ → ℕ
held_ordinal held k = (get_or held k (record { 0 = 0 })).0

abbrev pub is_ahead : List Entry → List Ordinal → ℕ → Bool
is_ahead log held k = ltb (newest_ordinal log k) (held_ordinal held k)

abbrev pub is_behind : List Entry → List Ordinal → ℕ → Bool
is_behind log held k = ltb (held_ordinal held k) (newest_ordinal log k)

-- whether p holds of some key below n
unfoldable pub some_key : (ℕ → Bool) → ℕ → Bool
some_key p zero = false
some_key p (suc n) = some_key p n || p n

-- the word of the keys below n of which p holds
unfoldable pub word_of : (ℕ → Bool) → ℕ → ℕ
word_of p zero = 0
word_of p (suc n) = word_of p n + cond (p n) (2 ^ n) 0

-- "Ones give the number of keys behind; trailing zeros give the lowest, 64 for none"
abbrev pub from_word : ℕ → CompareReply
from_word word = behind word (ones word) (count_trailing_zeros 64 word)

unfoldable pub compared : List Entry → List Ordinal → CompareReply
compared log held = cond (some_key (is_ahead log held) 64) (refused 11) (from_word (word_of (is_behind log held) 64))

-- how many of the keys below n p holds of, and the lowest of them, n for none
unfoldable pub how_many : (ℕ → Bool) → ℕ → ℕ
how_many p zero = 0
how_many p (suc n) = how_many p n + cond (p n) 1 0

unfoldable pub lowest : (ℕ → Bool) → ℕ → ℕ
lowest p zero = zero
lowest p (suc n) = cond (some_key p n) (lowest p n) (cond (p n) n (suc n))
