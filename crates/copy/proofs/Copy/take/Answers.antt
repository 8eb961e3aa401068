-- `take` meets its contract: the line's form decides.
use Rattle.std.proofs.lemmas.Result.{err_from_is_err_and}
use Rattle.copy.proofs.Steps.{line-whole, line-bad}
use Rattle.copy.proofs.Copy.take.Goals as goal

pub returns-in_err-stamp : goal.returns-in_err-stamp
returns-in_err-stamp c =
    let p = err_from_is_err_and c.from_residual.result c.from_residual.ensures.1 in
    rw (p.1, p.2) (line-bad _ _ c.read_message.ensures.places c.in_err-stamp.ensures.value)

pub returns : goal.returns
returns c = line-whole _ _ c.read_message.ensures.places c.in_ok-stamp.ensures.value c.items.ensures c.take_items.ensures
