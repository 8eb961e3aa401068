-- "A value is any signed 32-bit number": what the type of the code's values says of a session, and what it comes to in the state.
use Rattle.lists.specs.Lists.{Every}
use Rattle.decimal.specs.Read.{InRange, values}
use Rattle.transaction.specs.declared.Write as pending
use Rattle.transaction.specs.declared.Transaction.{Transaction}
use Rattle.model.specs.Log.{Entry}
use Rattle.model.specs.State.{State}
use Rattle.model.specs.Call.{Call, Start, Read, Note, Write, Tune, Distance, Abort, Commit, Message, Newest}

-- a call that writes, writes such a number
abbrev pub Writable : Call → Type 0
Writable (Write n k v) = InRange values v
Writable Start = Unit {0}
Writable (Read n k) = Unit {0}
Writable (Note n k o) = Unit {0}
Writable (Tune n k1 k2 k3) = Unit {0}
Writable (Distance n i) = Unit {0}
Writable (Abort n) = Unit {0}
Writable (Commit n) = Unit {0}
Writable (Message t) = Unit {0}
Writable (Newest k) = Unit {0}

-- every pending write of a transaction; what stands at its places not yet written is 0
abbrev pub WritesRanged : Transaction → Type 0
WritesRanged t = Every (λ (w : pending.Write). InRange values w.value) t.writes

pub record Ranged (s : State) : Type 0 where
  pub log : Every (λ (e : Entry). InRange values e.value) s.log
  pub desk : Every WritesRanged s.place
