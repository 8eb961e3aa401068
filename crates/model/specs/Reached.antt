-- What holds of every state that a session reaches from a master opened at the clock `opening`: the log is a history of whole commits, and
-- the desk holds what such a history allows.
use Rattle.std.specs.Prelude.{ℕ, suc, ◌≤◌, ◌<◌, true, List, [], ◌∷◌, map, ◌≡◌, ◌≢◌, length, get_or}
use Rattle.lists.specs.Lists.{Every}
use Rattle.lists.specs.Members.{In, Distinct}
use Rattle.units.specs.Version.{start_version}
use Rattle.units.specs.declared.Version.{Version}
use Rattle.transaction.specs.declared.Mark.{Mark}
use Rattle.transaction.specs.declared.Write.{Write}
use Rattle.transaction.specs.declared.Transaction.{Transaction}
use Rattle.transaction.specs.Transaction.{reads_of, writes_of}
use Rattle.model.specs.Log.{Entry, version_of, versions, next, installed, made_at}
use Rattle.model.specs.State.{State, no_transaction}

abbrev pub keys_of : List Write → List ℕ
keys_of ws = map (λ (w : Write). w.key) ws

-- "A transaction holds at most .. 16 different keys written", and "Keys are 0 to 63"
pub record Writes (ws : List Write) : Type 0 where
  pub few : length ws ≤ 16
  pub keys : Every (λ (k : ℕ). k ≤ 63) (keys_of ws)
  pub once : Distinct (keys_of ws)

-- a log at a clock: nothing, or what one more commit installed at a stamp above the clock of its time
pub data Grown (opening : ℕ) : ℕ → List Entry → Type 0 where
  bare : {clock : ℕ} → opening ≤ clock → Grown opening clock []
  grew : {before clock : ℕ} {log : List Entry} (stamp : ℕ) (ws : List Write) → Grown opening before log → before < stamp → stamp ≤ clock → Writes ws
      → Grown opening clock (installed log stamp ws)

-- the same log read version by version, newest first: a version's stamp is above the opening and no later than that of the one above it, its
-- ordinal is the next of its key, and the earlier versions of its key have earlier stamps
pub data Chain (opening : ℕ) : ℕ → List Entry → Type 0 where
  base : {clock : ℕ} → opening ≤ clock → Chain opening clock []
  link : {clock : ℕ} {e : Entry} {es : List Entry} → opening < e.stamp → e.stamp ≤ clock → e.key ≤ 63 → e.ordinal ≡ suc (versions es e.key)
      → Every (λ (f : Entry). f.key ≡ e.key → f.stamp < e.stamp) es → Chain opening e.stamp es → Chain opening clock (e ∷ es)

-- the versions of one stamp are what one commit made of its writes, each with its key's next ordinal over the log of its time
pub record OneCommit (log : List Entry) (stamp : ℕ) : Type 0 where
  pub before : List Entry
  pub writes : List Write
  pub fine : Writes writes
  pub made : made_at log stamp ≡ map (next before stamp) writes

-- "the key's newest version": the start version where the key has no other, else the one with the greatest stamp
pub data NewestOf (log : List Entry) (k : ℕ) : Version → Type 0 where
  start : Every (λ (e : Entry). e.key ≢ k) log → NewestOf log k start_version
  last : (e : Entry) → In e log → e.key ≡ k → Every (λ (f : Entry). f.key ≡ k → f.stamp ≤ e.stamp) log → NewestOf log k (version_of e)

-- "An ordinal numbers the versions of one key": v is the version of the key k that has the ordinal o, the start version for 0
pub data Numbered (log : List Entry) (k o : ℕ) : Version → Type 0 where
  first : o ≡ 0 → Numbered log k o start_version
  later : (e : Entry) → In e log → e.key ≡ k → e.ordinal ≡ o → Numbered log k o (version_of e)

-- "the master looks it up and believes nothing else": a recorded read is the start version, or a version that the log has
pub data Stands (log : List Entry) (x : Mark) : Type 0 where
  loaded : x.ordinal.0 ≡ 0 → x.stamp.0 ≡ 0 → Stands log x
  stored : (e : Entry) → In e log → e.key ≡ x.key → e.ordinal ≡ x.ordinal.0 → e.stamp ≡ x.stamp.0 → Stands log x

pub record Recorded (log : List Entry) (x : Mark) : Type 0 where
  pub key : x.key ≤ 63
  pub stands : Stands log x

-- an open transaction
pub record Underway (opening clock : ℕ) (log : List Entry) (t : Transaction) : Type 0 where
  -- "A transaction's name is its start stamp"
  pub after : opening < t.name.0
  pub started : t.name.0 ≤ clock
  pub reads : Every (Recorded log) (reads_of t)
  pub writes : Writes (writes_of t)

-- what stands at a place of the desk, open or ended
pub record Seated (opening clock : ℕ) (log : List Entry) (t : Transaction) : Type 0 where
  pub marks : length t.reads ≡ 16
  pub pending : length t.writes ≡ 16
  pub recorded : t.recorded ≤ 16
  pub written : t.written ≤ 16
  pub bound : 1 ≤ t.bounds.k1
  pub underway : t.live ≡ true → Underway opening clock log t

pub record Good (opening : ℕ) (s : State) : Type 0 where
  pub history : Grown opening s.clock s.log
  pub ticks : s.clock ≤ 4294967295
  pub room : length s.log ≤ 4096
  pub desk : length s.place ≡ 32
  pub seated : Every (Seated opening s.clock s.log) s.place
  -- two places with open transactions of one name are one place
  pub names : (i j : ℕ) → (get_or s.place i no_transaction).live ≡ true → (get_or s.place j no_transaction).live ≡ true
      → (get_or s.place i no_transaction).name.0 ≡ (get_or s.place j no_transaction).name.0 → i ≡ j
