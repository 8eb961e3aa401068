-- What the comparison's reply says of the keys, in document 01's words and without the tests that find it.
use Rattle.std.specs.Prelude.{ℕ, ◌/◌, ◌%◌, ◌^◌, ◌≤◌, ◌<◌, ◌≡◌, ◌↔◌, List, length}
use Rattle.lists.specs.Members.{In, Distinct}
use Rattle.units.specs.declared.Ordinal.{Ordinal}
use Rattle.model.specs.Log.{Entry}
use Rattle.comparison.specs.Comparison.{newest_ordinal, held_ordinal, CompareReply, behind, refused}

-- 11: "some ordinal is above the master's"
pub record SomeAhead (log : List Entry) (held : List Ordinal) : Type 0 where
  pub key : ℕ
  pub within : key ≤ 63
  pub above : newest_ordinal log key < held_ordinal held key

-- the key is behind
abbrev pub Lags : List Entry → List Ordinal → ℕ → Type 0
Lags log held k = held_ordinal held k < newest_ordinal log k

-- "a 64-bit word with a one for each key that is behind"
abbrev pub Named : ℕ → ℕ → Type 0
Named word k = word / 2 ^ k % 2 ≡ 1

-- "how many keys that is": as many as stand in a list that has each of them once and no other
pub record HowMany (P : ℕ → Type 0) (number : ℕ) : Type 0 where
  pub keys : List ℕ
  pub once : Distinct keys
  pub these : (k : ℕ) → In k keys ↔ ((k ≤ 63) × P k)
  pub many : length keys ≡ number

-- "the lowest of them (64 if none)"
pub data Lowest (P : ℕ → Type 0) : ℕ → Type 0 where
  first : {k : ℕ} → k ≤ 63 → P k → ((j : ℕ) → j < k → ¬ P j) → Lowest P k
  nowhere : ((j : ℕ) → j ≤ 63 → ¬ P j) → Lowest P 64

-- word, number and lowest are those of the keys of which P holds
pub record Tells (P : ℕ → Type 0) (word number lowest : ℕ) : Type 0 where
  pub keys : (k : ℕ) → k ≤ 63 → Named word k ↔ P k
  pub many : HowMany P number
  pub least : Lowest P lowest

-- the whole reply: 11, or where no ordinal is above the master's, the keys that are behind
pub data Compares (log : List Entry) (held : List Ordinal) : CompareReply → Type 0 where
  ahead : SomeAhead log held → Compares log held (refused 11)
  tells : (word number lowest : ℕ) → ¬ SomeAhead log held → Tells (Lags log held) word number lowest → Compares log held (behind word number lowest)
