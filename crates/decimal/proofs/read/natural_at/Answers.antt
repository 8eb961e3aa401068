-- `decimal::read::natural_at` meets its contract: what was read in the range is a natural.
use mathlib.Core.Path.{ap, ◌∙◌}
use Rattle.decimal.specs.Read.{as_natural, natural_at}
use Rattle.decimal.proofs.Values.{natural_cast, natural_read}
use Rattle.decimal.proofs.read.natural_at.Goals as goal

pub returns-in_err-v : goal.returns-in_err-v
unfolding natural_at as_natural
returns-in_err-v c = c.from_residual.ensures ∙ ap as_natural c.in_err-v.ensures

pub overflow_cast-result : goal.overflow_cast-result
overflow_cast-result c = natural_cast _ _ _ _ c.ranges.most.fits _ c.in_ok-v.ensures

pub returns : goal.returns
returns c = natural_read _ _ _ _ c.ranges.most.fits _ c.in_ok-v.ensures
