use Rattle.std.proofs.Common.{◌∙◌, ℕ, ◌&&◌, eqb, ap, Some, eq-eqb, ne_eqb, rules}
use Rattle.model.specs.Log.{look_up}
use Rattle.versions.proofs.Laws.{last-logged}
use Rattle.versions.proofs.look_up.Goals as goal

pub returns-then-ordinal-eq0 : goal.returns-then-ordinal-eq0
unfolding look_up
returns-then-ordinal-eq0 c = rw (eq-eqb _ _ c.if-ordinal-eq0.true) (ap Some c.start.ensures)

pub returns : goal.returns
unfolding look_up
returns c =
    let e = c.last_where.ensures (λ (k o : ℕ). eqb k c.args.key && eqb o c.args.ordinal.0) (λ k o r h. search rules) in
    rw (ne_eqb _ _ c.if-ordinal-eq0.false) (e ∙ last-logged _ _ _)
