use borrow.Author.Tests.{eq-eqb, ne_eqb}
use Rattle.units.specs.Bounds.{bounded}
use Rattle.units.proofs.Bounds.new.Goals as goal

-- src/lib.rt:62:13
pub returns-then-k1-eq0 : goal.returns-then-k1-eq0
unfolding bounded
returns-then-k1-eq0 c = simp (eq-eqb _ _ c.if-k1-eq0.true)

-- src/lib.rt:58:5
pub returns : goal.returns
unfolding bounded
returns c = simp (ne_eqb _ _ c.if-k1-eq0.false)
