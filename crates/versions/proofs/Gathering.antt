-- The batch of a commit's versions: one version more, and what its items are.
use Prim.Native.Nat.{ℕ, ◌+◌, ◌<◌, ◌≤◌}
use native.Mathlib.Omega.{arith}
use mathlib.Core.Path.{◌≡◌, refl, ◌∙◌}
use mathlib.Core.Bool.{Bool, true, false}
use mathlib.Core.List.{List, [], ◌∷◌, ◌++◌, map, map-append}
use lib.Dec.{ltb}
use lib.ListN.{length, get_or, take, length-append, length-map, length-take}
use lib.Seq.{take_all, take-append-le}
use borrow.Author.Tests.{ltb-true, ltb-false, le-ltb, eq-eqb, ne_eqb}
use Rattle.units.specs.Batch.{added}
use Rattle.units.specs.Batch as batch
use Rattle.units.proofs.Batches.{batch_items, batch_added}
use Rattle.units.specs.declared.Item.{Item}
use Rattle.units.specs.declared.Batch.{Batch}
use Rattle.model.specs.Log.{Entry, made_at}
use Rattle.memory.specs.Memory.{entry_at, entries}
use Rattle.versions.proofs.Laws.{log-more}
use Rattle.versions.specs.Batch.{item_of, batch_of}
use Rattle.memory.specs.Layout.{stamps_from}

-- the items that count are the first sixteen versions
pub items_of_batch : (es : List Entry) → take (batch_of es).count (batch_of es).items ≡ map item_of (take 16 es)
unfolding batch_of
items_of_batch es = batch_items (map item_of (take 16 es)) (omega (arith, length-map (take 16 es) item_of, length-take 16 es))

-- and there are as many as there are such versions
pub count_of_batch : (es : List Entry) → (batch_of es).count ≡ length (take 16 es)
unfolding batch_of batch.batch_of
count_of_batch es = length-map (take 16 es) item_of

module _ (es : List Entry) (e : Entry) where
  room : length es < 16 → added (batch_of es) (item_of e) ≡ batch_of (es ++ (e ∷ []))
  unfolding batch_of
  room h =
      rw (take_all 16 es (omega arith), take_all 16 (es ++ (e ∷ [])) (omega (arith, length-append es (e ∷ []))), map-append)
      (batch_added (map item_of es) (item_of e) (omega (arith, length-map es item_of)))

  full : 16 ≤ length es → added (batch_of es) (item_of e) ≡ batch_of (es ++ (e ∷ []))
  unfolding added batch_of batch.batch_of
  full h = rw (take-append-le 16 es (e ∷ []) h, le-ltb (length (map item_of (take 16 es))) 16 (omega (arith, length-map (take 16 es) item_of, length-take 16 es)))

  pub batch_more : added (batch_of es) (item_of e) ≡ batch_of (es ++ (e ∷ []))
  batch_more = either (ltb (length es) 16) refl
    where
      either : (t : Bool) → ltb (length es) 16 ≡ t → added (batch_of es) (item_of e) ≡ batch_of (es ++ (e ∷ []))
      either true h = room (ltb-true (length es) 16 h)
      either false h = full (ltb-false (length es) 16 h)

-- from the oldest end, i is the place looked at
module _ (ws : List ℕ) (i t : ℕ) (b : Batch) (a : b ≡ batch_of (made_at (entries ws i) t)) where
  pub made_hit : (x : Item) (b' : Batch) → get_or ws (stamps_from + i) 0 ≡ t → x ≡ item_of (entry_at ws i) → b' ≡ added b x → b' ≡ batch_of (made_at (entries ws (i + 1)) t)
  unfolding made_at
  made_hit x b' e f g = g ∙ rw (log-more ws i, eq-eqb _ _ e, f, a) (batch_more (made_at (entries ws i) t) (entry_at ws i))

  pub made_miss : (get_or ws (stamps_from + i) 0 ≡ t → ⊥) → b ≡ batch_of (made_at (entries ws (i + 1)) t)
  unfolding made_at
  made_miss e = rw (log-more ws i, ne_eqb _ _ e) a
