use Rattle.std.proofs.Common.{ℕ, Bool, not, rules}
use Rattle.model.specs.State.{free_place}
use Rattle.places.proofs.free_place.Goals as goal

pub returns : goal.returns
unfolding free_place
returns c = c.first_place.ensures (λ (n : ℕ) (live : Bool). not live) (λ n live r h. search rules)
