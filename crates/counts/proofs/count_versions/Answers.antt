use Rattle.std.proofs.Common.{ℕ, eqb, rules}
use Rattle.model.specs.Log.{versions}
use Rattle.counts.specs.Where.{counted}
use Rattle.counts.proofs.count_versions.Goals as goal

pub returns : goal.returns
unfolding versions counted
returns c = c.count_where.ensures (λ (k s : ℕ). eqb k c.args.key) (λ k s r h. search rules)
