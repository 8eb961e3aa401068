-- `ordinals` meets its contract: those copied so far are the first of all.
use Rattle.std.proofs.Common.{◌≡◌, length, refl, rules, arith}
use lib.ListN.{length-set}
use Rattle.lists.proofs.Length.{length_mapped}
use Rattle.copy.proofs.Steps.{ordinals-next, ordinals_all}
use Rattle.copy.proofs.Copy.ordinals.Goals as goal

pub loop-k-init : goal.loop-k-init
loop-k-init c = (refl, refl)

pub loop-k-preserved : goal.loop-k-preserved
loop-k-preserved c =
    let t = c.args.self in
    let l : length t.versions ≡ 64 = search (rules, length_mapped) in
    (simp length-set c.loop-k.invariant.0, ordinals-next t c.loop-k.all c.loop-k.k c.loop-k.invariant.1 (omega (arith, c.loop-k.invariant.0)) (omega arith))

pub returns : goal.returns
returns c =
    let t = c.args.self in
    let l : length t.versions ≡ 64 = search (rules, length_mapped) in
    ordinals_all t c.loop-k.all c.loop-k.k c.loop-k.invariant.1 (omega (arith, c.loop-k.invariant.0)) (omega arith)
