-- Document 01's table of refusals, a proposition about the state for each row, and its lines "Start: 3, 5. Read, write: 1, 2, 4 ..", in which
-- the rows stand in the order in which they are looked at. Nothing here is a test or a search.
use Rattle.std.specs.Prelude.{ℕ, ◌+◌, ◌≤◌, ◌<◌, true, List, ◌≡◌, ◌≢◌, ◌⊎◌, length}
use Rattle.lists.specs.Lists.{Every}
use Rattle.lists.specs.Members.{In, Distinct}
use Rattle.transaction.specs.declared.Transaction.{Transaction}
use Rattle.transaction.specs.Transaction.{reads_of, writes_of}
use Rattle.model.specs.Log.{Entry}
use Rattle.model.specs.State.{State, at_place}
use Rattle.model.specs.Open.{OpenAt, Of}
use Rattle.model.specs.Call.{Call, Start, Read, Note, Write, Tune, Distance, Abort, Commit, Message, Newest}
use Rattle.model.specs.Kept.{Kept}
use Rattle.model.specs.Reached.{keys_of}

-- "1: no open transaction of that name"
abbrev pub NoneOpen : State → ℕ → Type 0
NoneOpen s n = (i : ℕ) → ¬ OpenAt s n i

-- "2: key above 63"
abbrev pub AboveKeys : ℕ → Type 0
AboveKeys k = 63 < k

-- "3: start while 32 are open"
abbrev pub AllOpen : State → Type 0
AllOpen s = (i : ℕ) → i < 32 → (at_place s i).live ≡ true

-- the transaction has written the key
abbrev pub Wrote : ℕ → Transaction → Type 0
Wrote k t = In k (keys_of (writes_of t))

-- "4: 17th recorded read": 16 are recorded
abbrev pub SixteenReads : Transaction → Type 0
SixteenReads t = length (reads_of t) ≡ 16

-- "4: .. or 17th different key written": 16 different keys are written, and this is none of them
pub record SixteenOthers (k : ℕ) (t : Transaction) : Type 0 where
  pub sixteen : length (keys_of (writes_of t)) ≡ 16
  pub different : Distinct (keys_of (writes_of t))
  pub others : ¬ Wrote k t

-- "5: a stamp is wanted and the clock is 4,294,967,295"
abbrev pub Spent : State → Type 0
Spent s = s.clock ≡ 4294967295

-- "6: commit: log length plus keys written exceeds 4,096"
abbrev pub TooLong : List Entry → Transaction → Type 0
TooLong log t = 4096 < length log + length (writes_of t)

-- "7: note: the key has no such ordinal": every key has 0, the start version's
abbrev pub NoOrdinal : List Entry → ℕ → ℕ → Type 0
NoOrdinal log k o = (o ≢ 0) × Every (λ (e : Entry). ¬ ((e.key ≡ k) × (e.ordinal ≡ o))) log

-- "9: .. a distance is asked for a place not recorded"
abbrev pub NotRecorded : ℕ → Transaction → Type 0
NotRecorded i t = length (reads_of t) ≤ i

-- "18: message asked for a stamp at which no commit wrote anything"
abbrev pub NothingAt : List Entry → ℕ → Type 0
NothingAt log t = Every (λ (e : Entry). e.stamp ≢ t) log

-- a line of the document: its rows by number, each with its proposition, and commit's "the aborts"
pub data Line : Type 1 where
  end : Line
  row : (number : ℕ) → Type 0 → Line → Line
  the_aborts : Type 0 → Line → Line

unfoldable pub line_of : State → Call → Line
line_of s Start = row 3 (AllOpen s) (row 5 (Spent s) end)
line_of s (Read n k) = row 1 (NoneOpen s n) (row 2 (AboveKeys k) (row 4 (Of s n (λ (t : Transaction). ¬ Wrote k t × SixteenReads t)) end))
line_of s (Write n k v) = row 1 (NoneOpen s n) (row 2 (AboveKeys k) (row 4 (Of s n (SixteenOthers k)) end))
line_of s (Note n k o) =
    row 1 (NoneOpen s n) (row 2 (AboveKeys k) (row 8 (Of s n (Wrote k)) (row 7 (NoOrdinal s.log k o) (row 4 (Of s n SixteenReads) end))))
line_of s (Tune n k1 k2 k3) = row 1 (NoneOpen s n) (row 9 (k1 ≡ 0) end)
line_of s (Distance n i) = row 1 (NoneOpen s n) (row 9 (Of s n (NotRecorded i)) end)
line_of s (Abort n) = row 1 (NoneOpen s n) end
line_of s (Commit n) =
    row 1 (NoneOpen s n) (the_aborts (Of s n (λ (t : Transaction). ¬ Kept s.log t)) (row 6 (Of s n (TooLong s.log)) (row 5 (Spent s) end)))
line_of s (Message t) = row 18 (NothingAt s.log t) end
line_of s (Newest k) = row 2 (AboveKeys k) end

-- "Where several apply, the order is given below": n's proposition holds, and none that stands before it in the line does
unfoldable pub RefusedBy : Line → ℕ → Type 0
RefusedBy end n = ⊥
RefusedBy (row m P l) n = (P × (n ≡ m)) ⊎ ((¬ P) × RefusedBy l n)
RefusedBy (the_aborts P l) n = (¬ P) × RefusedBy l n
