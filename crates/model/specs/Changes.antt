-- What a call answers, and what it changes of the state: the open transaction that it names, at its place, and no other place of the desk.
use Rattle.std.specs.Prelude.{ℕ, ◌<◌, true, false, List, [], ◌∷◌, ◌++◌, ◌≡◌, ◌≢◌, ℤ, length, get_or, set}
use Rattle.lists.specs.Members.{In}
use Rattle.units.specs.declared.rule.Rule.{Rule}
use Rattle.units.specs.declared.Version.{Version}
use Rattle.transaction.specs.declared.Mark.{Mark}
use Rattle.transaction.specs.declared.Write as pending
use Rattle.transaction.specs.declared.Transaction.{Transaction}
use Rattle.transaction.specs.Transaction.{fresh, ended, reads_of, writes_of, no_write}
use Rattle.model.specs.Log.{Entry}
use Rattle.model.specs.State.{State, at_place}
use Rattle.model.specs.Open.{OpenAt}
use Rattle.model.specs.Call.{Call, Start, Read, Note, Write, Tune, Distance, Abort, Commit, Message, Newest, Reply, refused, started, version, own, done, apart_by, committed, aborted, made, made_by}
use Rattle.model.specs.Reached.{keys_of}

-- the open transaction of the name n, and what it becomes; every other place is as it was
pub record Becomes (s : State) (n : ℕ) (P : Transaction → Transaction → Type 0) (after : State) : Type 0 where
  pub place : ℕ
  pub stands : OpenAt s n place
  pub becomes : P (at_place s place) (at_place after place)
  pub others : (i : ℕ) → i ≢ place → at_place after i ≡ at_place s i
  pub size : length after.place ≡ length s.place

-- no stamp is taken, and no version made
pub record Unmoved (s after : State) : Type 0 where
  pub clock : after.clock ≡ s.clock
  pub log : after.log ≡ s.log

-- name and bounds stay, and it stays open if it was
pub record Itself (t u : Transaction) : Type 0 where
  pub name : u.name ≡ t.name
  pub live : u.live ≡ t.live
  pub bounds : u.bounds ≡ t.bounds

-- "An abort only ends its transaction"
abbrev pub Ends : Transaction → Transaction → Type 0
Ends t u = u ≡ ended t

pub record OnlyEnds (s : State) (n : ℕ) (after : State) : Type 0 where
  pub ends : Becomes s n Ends after
  pub rest : Unmoved s after

-- "Two reads of one key are two records": the read stands behind those recorded, whatever they are, the same version also
pub record Records (m : Mark) (t u : Transaction) : Type 0 where
  pub reads : reads_of u ≡ reads_of t ++ (m ∷ [])
  pub writes : writes_of u ≡ writes_of t
  pub rest : Itself t u

-- "A second write of a key replaces the value and takes no new place"; the first one stands behind the keys written
pub data Puts (k : ℕ) (v : ℤ) (ws : List pending.Write) : List pending.Write → Type 0 where
  again : (i : ℕ) → i < length ws → (get_or ws i no_write).key ≡ k → Puts k v ws (set ws i (record { key = k; value = v }))
  anew : ¬ In k (keys_of ws) → Puts k v ws (ws ++ (record { key = k; value = v } ∷ []))

pub record Rewrites (k : ℕ) (v : ℤ) (t u : Transaction) : Type 0 where
  pub reads : reads_of u ≡ reads_of t
  pub writes : Puts k v (writes_of t) (writes_of u)
  pub rest : Itself t u

-- "an ended one frees its place, and the place is used again": the lowest place at which no open transaction stands takes the new one
pub record Seats (s : State) (n : ℕ) (after : State) : Type 0 where
  pub place : ℕ
  pub within : place < 32
  pub free : (at_place s place).live ≡ false
  pub lower : (i : ℕ) → i < place → (at_place s i).live ≡ true
  pub taken : at_place after place ≡ fresh n
  pub others : (i : ℕ) → i ≢ place → at_place after i ≡ at_place s i

-- what each call can answer: a refusal, or what it is for
pub data Answers : Call → Reply → Type 0 where
  refuses : {c : Call} (number : ℕ) → Answers c (refused number)
  starts : (name : ℕ) → Answers Start (started name)
  reads : {n k : ℕ} (v : Version) → Answers (Read n k) (version v)
  own_reads : {n k : ℕ} (v : ℤ) → Answers (Read n k) (own v)
  notes : {n k o : ℕ} (v : Version) → Answers (Note n k o) (version v)
  writes : {n k : ℕ} {v : ℤ} → Answers (Write n k v) done
  tunes : {n k1 k2 k3 : ℕ} → Answers (Tune n k1 k2 k3) done
  distances : {n i : ℕ} (d : ℤ) → Answers (Distance n i) (apart_by d)
  ends : {n : ℕ} → Answers (Abort n) done
  commits : {n : ℕ} (stamp : ℕ) → Answers (Commit n) (committed stamp)
  breaks : {n : ℕ} (r : Rule) → Answers (Commit n) (aborted r)
  messages : {t : ℕ} (es : List Entry) → Answers (Message t) (made es)
  newests : {k : ℕ} (stamp : ℕ) → Answers (Newest k) (made_by stamp)
