-- A text handed over at the front of the room.
use Prim.Native.Nat.{ℕ}
use native.Mathlib.Nat.{zero-add}
use mathlib.Core.Path.{◌≡◌, refl}
use mathlib.Core.Bool.{Bool, true, false, cond}
use mathlib.Core.List.{List}
use lib.Dec.{leb}
use lib.ListN.{length}
use Rattle.std.specs.Prelude.{Option, Some, None}
use Rattle.std.specs.Option.{ok_or}
use Rattle.units.specs.declared.refusal.Refusal.TheVariants.{NoRoom}
use Rattle.decimal.specs.Write.{wrote}
use Rattle.report.specs.Write.{wrote_bytes, refused_with, written_reply, written_as}

pub handed : (room t : List ℕ) {w : Option ℕ} → w ≡ wrote room 0 t → written_reply (ok_or w NoRoom) ≡ written_as room t
unfolding wrote written_as
handed room t p = rw (p, zero-add (length t)) (go (leb (length t) (length room)) (length t))
  where
    go : (b : Bool) (n : ℕ) → written_reply (ok_or (cond b (Some n) None) NoRoom) ≡ cond b (wrote_bytes n) (refused_with 17)
    go true n = refl
    go false n = refl
