-- "The master answers it for each recorded read": the distance is the signed difference of two counts of the history, of any size, and
-- nothing narrower.
use Prim.Native.Nat.{ℕ, ◌<◌}
use mathlib.Core.Path.{◌≡◌, ◌∙◌, ap}
use lib.IntN.{pos, ◌-ℤ◌}
use lib.ListN.{length, get_or}
use borrow.Author.Tests.{lt-leb}
use Rattle.lists.proofs.Every.{every_at}
use Rattle.transaction.specs.declared.Mark.{Mark}
use Rattle.transaction.specs.Transaction.{reads_of, no_mark}
use Rattle.model.specs.Log.{up_to}
use Rattle.model.specs.Rules.{distance}
use Rattle.model.specs.State.{State, at_place}
use Rattle.model.specs.Open.{OpenAt}
use Rattle.model.specs.Call.{Distance, apart_by}
use Rattle.model.specs.Step.{step, checks_of, final_of, order, answers}
use Rattle.model.specs.Reached.{Good}
use Rattle.model.proofs.History.{chain}
use Rattle.model.proofs.Stands.{stands_counts}
use Rattle.model.proofs.Desk.{not_nobody, found}
use Rattle.model.proofs.Snapshot.{reads_stand}

module _ {opening : ℕ} (s : State) (g : Good opening s) (n i : ℕ) (o : OpenAt s n i) (p : ℕ) (there : p < length (reads_of (at_place s i))) where
  abbrev mark : Mark
  mark = get_or (reads_of (at_place s i)) p no_mark

  -- "Distance of a read: O_x(s) − O_x(c_j), with its sign": n is the start stamp
  pub distance-answered : step s (Distance n p) ≡ answers s (apart_by (pos (up_to s.log mark.key n) -ℤ pos (up_to s.log mark.key mark.stamp.0)))
  unfolding step checks_of final_of order distance
  distance-answered = rw (not_nobody s g n o, found s g n o, lt-leb (length (reads_of (at_place s i))) p there, o.name)

  -- how many versions the key had at the start, less the ordinal of the version read
  pub distance-reached : step s (Distance n p) ≡ answers s (apart_by (pos (up_to s.log mark.key n) -ℤ pos mark.ordinal.0))
  distance-reached =
      distance-answered
      ∙ ap (λ (m : ℕ). answers s (apart_by (pos (up_to s.log mark.key n) -ℤ pos m))) (stands_counts (chain g.history) (every_at no_mark (reads_stand s g n i o) p there))
