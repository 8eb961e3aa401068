use Rattle.std.proofs.Common.{ℕ, ◌&&◌, eqb, leb, rules}
use Rattle.model.specs.Log.{up_to}
use Rattle.counts.specs.Where.{counted}
use Rattle.counts.proofs.count_up_to.Goals as goal

pub returns : goal.returns
unfolding up_to counted
returns c = c.count_where.ensures (λ (k s : ℕ). eqb k c.args.key && leb s c.args.until.0) (λ k s r h. search rules)
