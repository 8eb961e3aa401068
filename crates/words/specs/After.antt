-- The words of the memory after each call, every one of them, from the call's reply: a refusal leaves them all.
use Rattle.std.specs.Prelude.{ℕ, zero, suc, ◌+◌, ◌<◌, List, [], ◌∷◌, ℤ, set}
use Rattle.std.specs.Int.{w32}
use Rattle.std.proofs.Common.{SFits}
use Rattle.units.specs.Bounds.{triple}
use Rattle.units.specs.declared.Version.{Version}
use Rattle.transaction.specs.Transaction.{recorded, writes_of, fresh, ended, written, tuned}
use Rattle.model.specs.State.{place_of, free_place}
use Rattle.model.specs.Call.{Call, Start, Read, Note, Write, Tune, Distance, Abort, Commit, Message, Newest, Reply, started, version, done, committed, aborted}
use Rattle.model.specs.Step.{step, marked}
use Rattle.memory.specs.Memory.{base_of, loaded, stored, places_of, state_of}
use Rattle.words.specs.Installed.{installed}
use Rattle.memory.specs.Layout.{live_at}

-- the place of the open transaction of a name
abbrev pub at : List ℕ → ℕ → ℕ
at ws n = place_of (places_of ws) n

-- a transaction's end is its second word
abbrev pub closed : List ℕ → ℕ → List ℕ
closed ws p = set ws (base_of p + live_at) 0

-- what a reply of a kind does, and what any other does
abbrev pub on_started : {A : Type 0} → (ℕ → A) → A → Reply → A
on_started f other (started m) = f m
on_started f other _ = other

abbrev pub on_version : {A : Type 0} → (Version → A) → A → Reply → A
on_version f other (version v) = f v
on_version f other _ = other

abbrev pub on_done : {A : Type 0} → A → A → Reply → A
on_done f other done = f
on_done f other _ = other

abbrev pub on_commit : {A : Type 0} → (ℕ → A) → A → A → Reply → A
on_commit f g other (committed s) = f s
on_commit f g other (aborted q) = g
on_commit f g other _ = other

-- the words after a call whose reply is r
unfoldable pub change : List ℕ → Call → Reply → List ℕ
change ws Start r = on_started (λ (m : ℕ). set (stored ws (free_place (places_of ws)) (fresh m)) 0 m) ws r
change ws (Read n k) r = on_version (λ (v : Version). stored ws (at ws n) (recorded (loaded ws (at ws n)) (marked k v))) ws r
change ws (Note n k o) r = on_version (λ (v : Version). stored ws (at ws n) (recorded (loaded ws (at ws n)) (marked k v))) ws r
change ws (Write n k v) r = on_done (stored ws (at ws n) (written (loaded ws (at ws n)) k v)) ws r
change ws (Tune n k1 k2 k3) r = on_done (stored ws (at ws n) (tuned (loaded ws (at ws n)) (triple k1 k2 k3))) ws r
change ws (Distance n i) r = ws
change ws (Abort n) r = on_done (closed ws (at ws n)) ws r
change ws (Commit n) r = on_commit (λ (s : ℕ). set (closed (installed ws s (writes_of (loaded ws (at ws n)))) (at ws n)) 0 s) (closed ws (at ws n)) ws r
change ws (Message t) r = ws
change ws (Newest k) r = ws

abbrev pub after : List ℕ → Call → List ℕ
after ws c = change ws c (step (state_of ws) c).reply

-- the desk with nobody at its first n places
unfoldable pub cleared : List ℕ → ℕ → List ℕ
cleared ws zero = ws
cleared ws (suc n) = stored (cleared ws n) n (ended (fresh 0))

-- "Opening a master gives the clock's first value, any 32-bit number": whatever the words were, nobody is at the desk and the log is empty
abbrev pub opened_words : List ℕ → ℕ → List ℕ
opened_words ws c = set (set (cleared ws 32) 0 c) 1 0

-- calls, one behind the other, on one memory whose words nobody else changes: the words after them, and what each answers
unfoldable pub played : List ℕ → List Call → List ℕ
played ws [] = ws
played ws (c ∷ cs) = played (after ws c) cs

unfoldable pub answered : List ℕ → List Call → List Reply
answered ws [] = []
answered ws (c ∷ cs) = (step (state_of ws) c).reply ∷ answered (after ws c) cs

-- the numbers that the code's types hold: a value of 32 bits, bounds of 16
pub data InRange : Call → Type 0 where
  start : InRange Start
  read : {n k : ℕ} → InRange (Read n k)
  note : {n k o : ℕ} → InRange (Note n k o)
  write : {n k : ℕ} {v : ℤ} → SFits w32 v → InRange (Write n k v)
  tune : {n k1 k2 k3 : ℕ} → k1 < 65536 → k2 < 65536 → k3 < 65536 → InRange (Tune n k1 k2 k3)
  distance : {n i : ℕ} → InRange (Distance n i)
  abort : {n : ℕ} → InRange (Abort n)
  commit : {n : ℕ} → InRange (Commit n)
  message : {t : ℕ} → InRange (Message t)
  latest : {k : ℕ} → InRange (Newest k)
