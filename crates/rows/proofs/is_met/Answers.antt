-- `is_met` meets its contract: half by half.
use Rattle.std.proofs.Common.{arith}
use Rattle.rows.proofs.Halves.{met_halves}
use Rattle.rows.proofs.is_met.Goals as goal

pub returns : goal.returns
returns c = met_halves c.args.low c.args.high c.args.keys (omega arith) (omega arith)
