-- `overtaken` meets its contract: what was walked is counted, and something is counted where some row passes.
use Rattle.std.proofs.Common.{◌≡◌, refl, arith}
use Rattle.lists.specs.Lists as lists
use Rattle.lists.proofs.Count.{any-count}
use Rattle.book.specs.Book.{rows_of, row_count}
use Rattle.rows.proofs.Walk.{counted_more}
use Rattle.rows.proofs.overtaken.Goals as goal

pub loop-i-init : goal.loop-i-init
unfolding rows_of lists.count
loop-i-init c = (omega arith, refl)

pub loop-i-preserved : goal.loop-i-preserved
loop-i-preserved c = rw c.from-n.ensures (counted_more _ _ _ _ _ c.loop-i.invariant (rw c.is_met-met.ensures refl))

pub returns : goal.returns
returns c = let e : c.loop-i.i ≡ row_count c.args.memory.now = omega arith in rw (← e) (any-count _ _ _ c.loop-i.invariant.1)
