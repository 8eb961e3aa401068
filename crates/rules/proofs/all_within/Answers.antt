-- `all_within` meets its contract: a search for the stale, and the first early one kept.
use native.Mathlib.Omega.{arith}
use mathlib.Core.Path.{ap}
use lib.ListN.{length, get_or}
use mir.Facts.{to_z-of_z}
use Rattle.lists.proofs.Find.{search_miss}
use Rattle.transaction.specs.Transaction.{no_mark}
use Rattle.rules.proofs.Asked.{is_stale, is_early}
use Rattle.rules.proofs.Outside.{keeps-more, outside-BV, outside-FV, inside}
use Rattle.rules.proofs.all_within.Goals as goal

pub returns-then-is_stale : goal.returns-then-is_stale
returns-then-is_stale c =
    let at = c.loop-i in
    let d = c.distance_of-d in
    outside-BV _ _ at.i at.invariant.0 (omega (arith, ap length c.reads-read-items.ensures))
    (is_stale _ c.args.t.now _ _ (ap (λ l. get_or l at.i no_mark) c.reads-read-items.ensures) d.result d.ensures (rw (to_z-of_z (record { sfits = d.type_inv })) at c.is_stale.ensures) c.if-is_stale.true)

pub loop-i-preserved : goal.loop-i-preserved
loop-i-preserved c =
    let at = c.loop-i in
    let d = c.distance_of-d in
    let read = ap (λ l. get_or l at.i no_mark) c.reads-read-items.ensures in (
      search_miss _ _ at.i _ no_mark at.invariant.0 (omega (arith, ap length c.reads-read-items.ensures))
          (is_stale _ c.args.t.now _ _ read d.result d.ensures (rw (to_z-of_z (record { sfits = d.type_inv })) at c.is_stale.ensures) c.if-is_stale.false),
      rw (c.or-early.ensures, c.then_some.ensures)
          (keeps-more _ _ at.i no_mark _ _ at.invariant.1 (omega (arith, ap length c.reads-read-items.ensures))
          (is_early _ c.args.t.now _ _ read d.result d.ensures (rw (to_z-of_z (record { sfits = d.type_inv })) at c.is_early.ensures))),
    )

pub returns-in-Some : goal.returns-in-Some
returns-in-Some c = let at = c.loop-i in outside-FV _ _ at.i at.invariant.0 (omega (arith, ap length c.reads-read-items.ensures)) _ (rw c.in-Some.is at at.invariant.1)

pub returns-in-None : goal.returns-in-None
returns-in-None c = let at = c.loop-i in inside _ _ at.i at.invariant.0 (omega (arith, ap length c.reads-read-items.ensures)) (rw c.in-None.is at at.invariant.1)
