-- `decimal::read::signed_at` meets its contract: what was read in the range fits 32 bits.
use mathlib.Core.Path.{◌∙◌}
use Rattle.decimal.specs.Read.{signed_at}
use Rattle.decimal.proofs.Values.{signed_cast, signed_read}
use Rattle.decimal.proofs.read.signed_at.Goals as goal

pub returns-in_err-v : goal.returns-in_err-v
unfolding signed_at
returns-in_err-v c = c.from_residual.ensures ∙ c.in_err-v.ensures

pub overflow_cast-result : goal.overflow_cast-result
overflow_cast-result c = signed_cast _ _ c.in_ok-v.ensures

pub returns : goal.returns
returns c = signed_read _ _ c.in_ok-v.ensures
