use Rattle.std.proofs.Common.{ℕ, ◌&&◌, eqb, ltb, rules}
use Rattle.model.specs.Log.{between}
use Rattle.counts.specs.Where.{counted}
use Rattle.counts.proofs.Laws.{nothing-between}
use Rattle.counts.proofs.count_between.Goals as goal

pub returns-then-before-after : goal.returns-then-before-after
returns-then-before-after c = nothing-between _ _ _ _ c.if-before-after.true

pub returns : goal.returns
unfolding between counted
returns c =
    c.count_where.ensures (λ (k s : ℕ). eqb k c.args.key && (ltb c.args.after.0 s && ltb s c.args.before.0)) (λ k s r h. search rules)
