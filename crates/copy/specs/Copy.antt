-- A hall's copy. Document 01: "A copy holds ordinal, stamp and value for each key, and a read there answers all three. A fresh copy
-- has the start versions. For each version in a message it replaces its own exactly if the message's ordinal is greater".
use Rattle.std.specs.Prelude.{ℕ, ◌≤◌, ◌<◌, ◌≡◌, cond, List, [], ◌∷◌, map, ltb, get_or, set, replicate, Result, Ok, Err}
use Rattle.units.specs.Version.{start_version}
use Rattle.units.specs.declared.Item.{Item}
use Rattle.units.specs.declared.Ordinal.{Ordinal}
use Rattle.units.specs.declared.Version.{Version}
use Rattle.units.specs.Refusal.{number_of}
use Rattle.units.specs.declared.refusal.Refusal.{Refusal}
use Rattle.message.specs.Read.{Reading, whole, bad, read_line}
use Rattle.copy.specs.declared.Copy.{Copy}

-- ---- replies in document 01's numbers

pub data CopyReply : Type 0 where
  refused : (number : ℕ) → CopyReply
  version : Version → CopyReply
  done : CopyReply

abbrev pub held_reply : Result Version Refusal → CopyReply
held_reply (Ok v) = version v
held_reply (Err f) = refused (number_of f)

abbrev pub take_reply : Result (Unit {0}) Refusal → CopyReply
take_reply (Ok u) = done
take_reply (Err f) = refused (number_of f)

-- what a line comes to: the reply, and the copy after it
pub record TakeStep : Type 0 where
  pub reply : CopyReply
  pub copy : Copy

abbrev pub take_step : Result (Unit {0}) Refusal → Copy → TakeStep
take_step answer c = record { reply = take_reply answer; copy = c }

-- ---- what a copy holds

abbrev pub fresh_copy : Copy
fresh_copy = record { versions = replicate 64 start_version }

abbrev pub held : Copy → ℕ → Version
held c k = get_or c.versions k start_version

unfoldable pub read_of : Copy → ℕ → CopyReply
read_of c k = cond (ltb 63 k) (refused 2) (version (held c k))

abbrev pub ordinal_of : Version → Ordinal
ordinal_of v = v.ordinal

unfoldable pub ordinals_of : Copy → List Ordinal
ordinals_of c = map ordinal_of c.versions

-- ---- what it takes

-- a version as a message of a stamp carries it
abbrev pub carried_version : ℕ → Item → Version
carried_version stamp i = record { ordinal = i.ordinal; stamp = record { 0 = stamp }; value = i.value }

abbrev pub replaced : Copy → ℕ → Item → Copy
replaced c stamp i = record { versions = set c.versions i.key (carried_version stamp i) }

unfoldable pub take_item : Copy → ℕ → Item → Copy
take_item c stamp i = cond (ltb (held c i.key).ordinal.0 i.ordinal.0) (replaced c stamp i) c

unfoldable pub take_items : Copy → ℕ → List Item → Copy
take_items c stamp [] = c
take_items c stamp (i ∷ is) = take_items (take_item c stamp i) stamp is

-- a message, or refusal 10 and the copy as it was
unfoldable pub take_reading : Copy → Reading → TakeStep
take_reading c (whole stamp items) = record { reply = done; copy = take_items c stamp items }
take_reading c bad = record { reply = refused 10; copy = c }

unfoldable pub take_line : Copy → List ℕ → TakeStep
take_line c line = take_reading c (read_line line)

-- "For each version in a message it replaces its own exactly if the message's ordinal is greater": the copy before and after, at the version's key
pub record Replaces (before after : Copy) (stamp : ℕ) (i : Item) : Type 0 where
  pub newer : (held before i.key).ordinal.0 < i.ordinal.0 → held after i.key ≡ carried_version stamp i
  pub older : i.ordinal.0 ≤ (held before i.key).ordinal.0 → held after i.key ≡ held before i.key
