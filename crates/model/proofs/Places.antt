-- What a good state says of the places of its desk: what is found under a name is open, has that name, and holds what its history allows.
use Prim.Native.Nat.{ℕ, ◌≤◌, ◌<◌}
use native.Mathlib.Omega.{arith}
use mathlib.Core.Path.{◌≡◌, refl}
use mathlib.Core.Bool.{Bool, true, false, ◌&&◌, false≢true}
use lib.Dec.{eqb, leb}
use lib.ListN.{length, get_or-eq_default}
use borrow.Author.Tests.{leb-true, leb-false, eqb-true}
use Rattle.lists.proofs.Find.{find-holds}
use Rattle.lists.proofs.Every.{every_at}
use Rattle.model.specs.State.{State, no_transaction, at_place, goes_by, place_of, nobody, transaction}
use Rattle.model.specs.Reached.{Good, Seated}

module _ {opening : ℕ} (s : State) (g : Good opening s) where
  -- every open name is at most the clock
  pub names_told : (j : ℕ) → (at_place s j).live ≡ true → (at_place s j).name.0 ≤ s.clock
  names_told j l = go (leb (length s.place) j) refl
    where
      go : (b : Bool) → leb (length s.place) j ≡ b → (at_place s j).name.0 ≤ s.clock
      go true e = rw (get_or-eq_default s.place no_transaction (leb-true _ _ e)) (omega arith)
      go false e = ((every_at no_transaction g.seated j (leb-false _ _ e)).underway l).started

  module _ (n : ℕ) (known : nobody s n ≡ false) where
    pub placed : place_of s.place n < length s.place
    placed = let h = leb-false _ (place_of s.place n) known in rw g.desk (omega arith)

    -- the transaction found by a name is open and has that name
    pub is_open : ((transaction s n).live ≡ true) × ((transaction s n).name.0 ≡ n)
    unfolding place_of
    is_open = go (transaction s n).live refl (find-holds (goes_by n) s.place no_transaction placed)
      where
        go : (b : Bool) → (transaction s n).live ≡ b → (b && eqb (transaction s n).name.0 n) ≡ true → ((transaction s n).live ≡ true) × ((transaction s n).name.0 ≡ n)
        go true e h = (e, eqb-true _ _ h)
        go false e h = absurd (false≢true h)

    pub seat : Seated opening s.clock s.log (transaction s n)
    seat = every_at no_transaction g.seated (place_of s.place n) placed
