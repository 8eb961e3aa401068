-- A commit's message as text. Document 01: "a line: `p`, the commit's stamp, then key, ordinal and value for each version in
-- log order, fields parted by one tab, ended by one newline".
use Rattle.std.specs.Prelude.{ℕ, ◌≤◌, List, [], ◌∷◌, ◌++◌, map, pos, length}
pub use Rattle.units.specs.Batch.{items_of, no_item}
unfoldable pub use Rattle.units.specs.Batch.{batch_of}
use Rattle.units.specs.declared.Item.{Item}
use Rattle.lists.specs.Lists.{Every}
use Rattle.lists.specs.Members.{Distinct}
use Rattle.decimal.specs.Text.{field, joined}
use Rattle.decimal.specs.Read.{InRange, values}

unfoldable pub item_text : Item → List ℕ
item_text i = field (pos i.key) ++ field (pos i.ordinal.0) ++ field i.value

abbrev pub items_text : List Item → List ℕ
items_text items = joined item_text items

-- 112 is `p`, 10 the newline
unfoldable pub message_text : ℕ → List Item → List ℕ
message_text stamp items = 112 ∷ (field (pos stamp) ++ items_text items ++ (10 ∷ []))

-- ---- the form

-- "Keys are 0 to 63. A value is any signed 32-bit number"; "Ordinals here are 1 to 4,096"
pub record InRanges (i : Item) : Type 0 where
  pub key : i.key ≤ 63
  pub first : 1 ≤ i.ordinal.0
  pub last : i.ordinal.0 ≤ 4096
  pub value : InRange values i.value

-- the stamps of document 01 that a commit can have, and "1 to 16 versions; no key twice"
pub record IsMessage (stamp : ℕ) (items : List Item) : Type 0 where
  pub early : 1 ≤ stamp
  pub late : stamp ≤ 4294967295
  pub some : 1 ≤ length items
  pub few : length items ≤ 16
  pub ranges : Every InRanges items
  pub apart : Distinct (map (λ (i : Item). i.key) items)

-- "A message is at most 333 bytes"
abbrev pub longest : ℕ
longest = 333
