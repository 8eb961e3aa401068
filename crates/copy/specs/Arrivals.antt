-- What reaches a copy: versions of any messages, in any order, lost or repeated.
use Rattle.std.specs.Prelude.{ℕ, ◌≡◌, List, [], ◌∷◌, ◌++◌, map}
use Rattle.units.specs.declared.Item.{Item}
use Rattle.units.specs.declared.Version.{Version}
use Rattle.message.specs.Read.{Reading, whole, bad, read_line}
use Rattle.copy.specs.declared.Copy.{Copy}
use Rattle.copy.specs.Copy.{carried_version, take_item, take_line}

-- a version, and the stamp of the message that carried it
pub record Arrival : Type 0 where
  pub stamp : ℕ
  pub item : Item

abbrev pub arrival : ℕ → Item → Arrival
arrival stamp i = record { stamp = stamp; item = i }

unfoldable pub take_all : Copy → List Arrival → Copy
take_all c [] = c
take_all c (x ∷ xs) = take_all (take_item c x.stamp x.item) xs

-- lines, one after the other, and the versions that they carry; a line that is not of the form carries none
unfoldable pub take_lines : Copy → List (List ℕ) → Copy
take_lines c [] = c
take_lines c (l ∷ ls) = take_lines (take_line c l).copy ls

unfoldable pub carried : Reading → List Arrival
carried (whole stamp items) = map (arrival stamp) items
carried bad = []

unfoldable pub arrivals : List (List ℕ) → List Arrival
arrivals [] = []
arrivals (l ∷ ls) = carried (read_line l) ++ arrivals ls

-- the version v of the key k is one of those that arrived
pub data Came (k : ℕ) (v : Version) : List Arrival → Type 0 where
  here : {x : Arrival} {xs : List Arrival} → x.item.key ≡ k → v ≡ carried_version x.stamp x.item → Came k v (x ∷ xs)
  later : {x : Arrival} {xs : List Arrival} → Came k v xs → Came k v (x ∷ xs)
