-- The versions of a batch: what was laid into it, and one more.
use Prim.Native.Nat.{◌≤◌, ◌<◌}
use native.Mathlib.Nat.{zero-add}
use mathlib.Core.Path.{◌≡◌}
use mathlib.Core.List.{List, [], ◌∷◌, ◌++◌}
use lib.ListN.{length, replicate, length-append}
use borrow.Author.Tests.{lt-ltb}
use Rattle.lists.proofs.Sets.{sets_snoc, take_sets}
use Rattle.units.specs.Batch.{items_of, no_item, batch_of, added}
use Rattle.units.specs.declared.Item.{Item}

pub batch_items : (items : List Item) → length items ≤ 16 → items_of (batch_of items) ≡ items
unfolding batch_of
batch_items items h = take_sets (replicate 16 no_item) items h

pub batch_added : (seen : List Item) (i : Item) → length seen < 16 → added (batch_of seen) i ≡ batch_of (seen ++ (i ∷ []))
unfolding batch_of added
batch_added seen i h = rw (lt-ltb (length seen) 16 h, sets_snoc (replicate 16 no_item) 0 seen i, length-append seen (i ∷ []), zero-add (length seen))
