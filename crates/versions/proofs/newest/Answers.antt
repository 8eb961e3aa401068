use Rattle.std.proofs.Common.{◌∙◌, ℕ, eqb, rules}
use Rattle.versions.proofs.Laws.{last-newest}
use Rattle.versions.proofs.newest.Goals as goal

pub returns : goal.returns
returns c =
    let e = c.last_where.ensures (λ (k o : ℕ). eqb k c.args.key) (λ k o r h. search rules) in
    c.unwrap_or.ensures ∙ rw (e, c.start.ensures) (last-newest _ _)
