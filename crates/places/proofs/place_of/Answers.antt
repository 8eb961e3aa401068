use Rattle.std.proofs.Common.{ℕ, Bool, ◌&&◌, eqb, rules}
use Rattle.model.specs.State.{place_of}
use Rattle.places.proofs.place_of.Goals as goal

pub returns : goal.returns
unfolding place_of
returns c = c.first_place.ensures (λ (n : ℕ) (live : Bool). live && eqb n c.args.name.0) (λ n live r h. search rules)
