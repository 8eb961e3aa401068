-- What a copy holds of a key. Demand 3: "the copy always holds, for every key, the newest committed version among those taken, or the start
-- version".
use Rattle.std.specs.Prelude.{ℕ, ◌≤◌, ◌≡◌, ◌≢◌, List}
use Rattle.lists.specs.Lists.{Every}
use Rattle.lists.specs.Members.{In}
use Rattle.units.specs.Version.{start_version}
use Rattle.units.specs.declared.Version.{Version}
use Rattle.model.specs.Log.{Entry, version_of}
use Rattle.copy.specs.Arrivals.{Arrival, arrival}
use Rattle.delivery.specs.Sent.{plain_item}

-- a version of the log as a message carries it
abbrev pub arrival_of : Entry → Arrival
arrival_of e = arrival e.stamp (plain_item e)

-- what arrived is a version of the log, with its key, ordinal, stamp and value
pub record Committed (log : List Entry) (x : Arrival) : Type 0 where
  pub entry : Entry
  pub there : In entry log
  pub same : x ≡ arrival_of entry

-- "or the start version": where no version of the key is among those taken. Else a version of the log that is among them, and of those
-- taken of its key none has a greater ordinal or a later stamp.
pub data NewestTaken (log : List Entry) (k : ℕ) (xs : List Arrival) : Version → Type 0 where
  start : Every (λ (x : Arrival). x.item.key ≢ k) xs → NewestTaken log k xs start_version
  taken : (e : Entry) → In e log → e.key ≡ k → In (arrival_of e) xs
      → Every (λ (x : Arrival). x.item.key ≡ k → (x.item.ordinal.0 ≤ e.ordinal) × (x.stamp ≤ e.stamp)) xs → NewestTaken log k xs (version_of e)
