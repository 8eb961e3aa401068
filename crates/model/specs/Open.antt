-- An open transaction is one that stands at a place of the desk: document 01, "At most 32 are open; an ended one frees its place, and the place
-- is used again." Nothing here searches the desk.
use Rattle.std.specs.Prelude.{ℕ, ◌<◌, true, ◌≡◌}
use Rattle.transaction.specs.declared.Transaction.{Transaction}
use Rattle.model.specs.State.{State, at_place}

-- at place i, one of the 32, an open transaction of the name n
pub record OpenAt (s : State) (n i : ℕ) : Type 0 where
  pub place : i < 32
  pub live : (at_place s i).live ≡ true
  pub name : (at_place s i).name.0 ≡ n

-- P of the open transaction of the name n
pub record Of (s : State) (n : ℕ) (P : Transaction → Type 0) : Type 0 where
  pub place : ℕ
  pub stands : OpenAt s n place
  pub has : P (at_place s place)
