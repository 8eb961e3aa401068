use Rattle.std.proofs.Common.{◌≡◌, ◌∙◌, arith}
use Rattle.lists.proofs.Find.{search_over, search_hit, search_miss}
use Rattle.memory.specs.Memory.{places_of}
use Rattle.memory.proofs.Laws.{places_length}
use Rattle.model.specs.State.{no_transaction}
use Rattle.places.specs.First.{holds}
use Rattle.places.proofs.Laws.{holds-at}
use Rattle.places.proofs.first_place.Goals as goal

pub returns-then-test : goal.returns-then-test
returns-then-test g c =
    λ p h. let ws = c.args.memory.now in
    search_hit (holds p) (places_of ws) c.loop-i.i _ no_transaction (c.loop-i.invariant p h) (omega (arith, places_length ws)) (holds-at p ws c.loop-i.i _ (omega arith) c.base_of-b.ensures _ (h _ _ _ c.test.ensures) ∙ c.if-test.true)

pub loop-i-preserved : goal.loop-i-preserved
loop-i-preserved g c =
    λ p h. let ws = c.args.memory.now in
    search_miss (holds p) (places_of ws) c.loop-i.i _ no_transaction (c.loop-i.invariant p h) (omega (arith, places_length ws)) (holds-at p ws c.loop-i.i _ (omega arith) c.base_of-b.ensures _ (h _ _ _ c.test.ensures) ∙ c.if-test.false)

pub returns : goal.returns
returns g c =
    λ p h. let ws = c.args.memory.now in
    let e : 32 ≡ c.loop-i.i = omega arith in
    e ∙ search_over (holds p) (places_of ws) c.loop-i.i _ (c.loop-i.invariant p h) (omega (arith, places_length ws))
