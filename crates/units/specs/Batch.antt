-- The versions of a batch: "1 to 16 versions", the first `count` of its sixteen places.
use Rattle.std.specs.Prelude.{◌+◌, cond, List, ltb, pos, length, take, set, replicate}
use Rattle.std.proofs.lemmas.List.Edits.{sets}
use Rattle.units.specs.declared.Item.{Item}
use Rattle.units.specs.declared.Batch.{Batch}

abbrev pub items_of : Batch → List Item
items_of b = take b.count b.items

abbrev pub no_item : Item
no_item = record { key = 0; ordinal = record { 0 = 0 }; value = pos 0 }

-- the batch of at most 16 versions; the places behind them are empty
unfoldable pub batch_of : List Item → Batch
batch_of items = record { items = sets (replicate 16 no_item) 0 items; count = length items }

-- one version more, where there is room
unfoldable pub added : Batch → Item → Batch
added b i = cond (ltb b.count 16) (record { items = set b.items b.count i; count = b.count + 1 }) b
