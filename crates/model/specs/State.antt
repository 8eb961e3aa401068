-- The master's state: the clock, the log and the desk of 32 places; and how a transaction is found and put back by name.
use Rattle.std.specs.Prelude.{ℕ, Bool, false, ◌&&◌, not, List, [], eqb, leb, get_or, set, replicate}
use Rattle.lists.specs.Lists.{find}
use Rattle.units.specs.Bounds.{triple}
use Rattle.transaction.specs.declared.Transaction.{Transaction}
use Rattle.transaction.specs.Transaction.{fresh, ended}
use Rattle.model.specs.Log.{Entry}

pub record State : Type 0 where
  pub clock : ℕ
  pub log : List Entry
  pub place : List Transaction

-- "Opening a master gives the clock's first value, any 32-bit number": no version but the start versions, no transaction open
abbrev pub opened : ℕ → State
opened c = record { clock = c; log = []; place = replicate 32 (ended (fresh 0)) }

-- what stands at a place that the desk does not have
abbrev pub no_transaction : Transaction
no_transaction = record { name = record { 0 = 0 }; live = false; bounds = triple 0 0 0; reads = []; recorded = 0; writes = []; written = 0 }

-- what stands at a place of the desk
abbrev pub at_place : State → ℕ → Transaction
at_place s i = get_or s.place i no_transaction

-- "A transaction's name is its start stamp"
abbrev pub goes_by : ℕ → Transaction → Bool
goes_by n t = t.live && eqb t.name.0 n

-- the place of the open transaction of a name; 32 where there is none
unfoldable pub place_of : List Transaction → ℕ → ℕ
place_of place n = find (goes_by n) place

abbrev pub nobody : State → ℕ → Bool
nobody s n = leb 32 (place_of s.place n)

abbrev pub transaction : State → ℕ → Transaction
transaction s n = get_or s.place (place_of s.place n) no_transaction

-- "an ended one frees its place, and the place is used again": the first free one; 32 where all are open
unfoldable pub free_place : List Transaction → ℕ
free_place place = find (λ (t : Transaction). not t.live) place

-- the open transaction of a name becomes t
abbrev pub with_transaction : State → ℕ → Transaction → State
with_transaction s n t = record { clock = s.clock; log = s.log; place = set s.place (place_of s.place n) t }
