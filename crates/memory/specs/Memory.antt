-- What the words of the master's memory stand for.
use Rattle.std.specs.Prelude.{ℕ, zero, suc, ◌+◌, ◌*◌, ◌%◌, ◌<◌, min, ◌≡◌, not, List, [], ◌∷◌, ◌++◌, eqb, length, get_or}
use Rattle.std.proofs.lemmas.List.Edits.{sets}
use Rattle.std.specs.Int.{w32}
use mir.Val.{SFits, to_z, of_z, bool_byte}
use Rattle.transaction.specs.Transaction.{no_write}
use Rattle.transaction.specs.declared.Mark.{Mark}
use Rattle.transaction.specs.declared.Write.{Write}
use Rattle.transaction.specs.declared.Transaction.{Transaction}
use Rattle.model.specs.Log.{Entry}
use Rattle.model.specs.State.{State}
use Rattle.memory.specs.Layout.{clock_at, desk_from, keys_from, length_at, live_at, ordinals_from, place_words, reads_from, stamps_from, values_from, writes_from}

-- f at the places 0, 1, .., n - 1
unfoldable pub tab : {A : Type 0} → (ℕ → A) → ℕ → List A
tab f zero = []
tab f (suc n) = f 0 ∷ tab (λ (i : ℕ). f (suc i)) n

-- where a place of the desk begins; past the last, where the last begins
abbrev pub base_of : ℕ → ℕ
base_of p = desk_from + place_words * min p 31

abbrev pub mark_at : List ℕ → ℕ → Mark
mark_at ws a = record { key = get_or ws a 0; ordinal = record { 0 = get_or ws (a + 1) 0 }; stamp = record { 0 = get_or ws (a + 2) 0 } }

abbrev pub write_at : List ℕ → ℕ → Write
write_at ws a = record { key = get_or ws a 0; value = to_z w32 (get_or ws (a + 1) 0) }

-- the transaction at a place
unfoldable pub loaded : List ℕ → ℕ → Transaction
loaded ws p =
    record {
      name = record { 0 = get_or ws (base_of p) 0 };
      live = not (eqb (get_or ws (base_of p + live_at) 0) 0);
      bounds = record { k1 = get_or ws (base_of p + 2) 0 % 65536; k2 = get_or ws (base_of p + 3) 0 % 65536; k3 = get_or ws (base_of p + 4) 0 % 65536 };
      reads = tab (λ (i : ℕ). mark_at ws (base_of p + reads_from + 3 * i)) 16;
      recorded = get_or ws (base_of p + 5) 0;
      writes = tab (λ (i : ℕ). write_at ws (base_of p + writes_from + 2 * i)) 16;
      written = get_or ws (base_of p + 6) 0;
    }

-- the words that say a recorded read, and a written key
abbrev pub words_of_mark : Mark → List ℕ
words_of_mark m = m.key ∷ m.ordinal.0 ∷ m.stamp.0 ∷ []

abbrev pub words_of_write : Write → List ℕ
words_of_write w = w.key ∷ of_z w32 w.value ∷ []

-- those of a row, one behind the other
unfoldable pub row_words : {A : Type 0} → (A → List ℕ) → List A → List ℕ
row_words f [] = []
row_words f (x ∷ xs) = f x ++ row_words f xs

abbrev pub mark_words : List Mark → List ℕ
mark_words l = row_words words_of_mark l

abbrev pub write_words : List Write → List ℕ
write_words l = row_words words_of_write l

abbrev pub head_words : Transaction → List ℕ
head_words t = t.name.0 ∷ bool_byte t.live ∷ t.bounds.k1 ∷ t.bounds.k2 ∷ t.bounds.k3 ∷ t.recorded ∷ t.written ∷ []

unfoldable pub stored : List ℕ → ℕ → Transaction → List ℕ
stored ws p t =
    sets
    (sets (sets ws (base_of p) (head_words t)) (base_of p + reads_from) (mark_words t.reads))
    (base_of p + writes_from)
    (write_words t.writes)

-- a version of the log
abbrev pub entry_at : List ℕ → ℕ → Entry
entry_at ws i = record { key = get_or ws (keys_from + i) 0; ordinal = get_or ws (ordinals_from + i) 0; stamp = get_or ws (stamps_from + i) 0; value = to_z w32 (get_or ws (values_from + i) 0) }

-- the first n versions, the newest first
unfoldable pub entries : List ℕ → ℕ → List Entry
entries ws zero = []
entries ws (suc n) = entry_at ws n ∷ entries ws n

abbrev pub length_of : List ℕ → ℕ
length_of ws = min (get_or ws length_at 0) 4096

abbrev pub log_of : List ℕ → List Entry
log_of ws = entries ws (length_of ws)

unfoldable pub places_of : List ℕ → List Transaction
places_of ws = tab (loaded ws) 32

-- the state that the words stand for
abbrev pub state_of : List ℕ → State
state_of ws = record { clock = get_or ws clock_at 0; log = log_of ws; place = places_of ws }

-- a transaction that its words can say: its arrays have their places, its numbers their ranges
pub record Good (t : Transaction) : Type 0 where
  pub reads : length t.reads ≡ 16
  pub writes : length t.writes ≡ 16
  pub k1 : t.bounds.k1 < 65536
  pub k2 : t.bounds.k2 < 65536
  pub k3 : t.bounds.k3 < 65536
  pub values : (i : ℕ) → SFits w32 (get_or t.writes i no_write).value
