-- `decimal::write::put_natural` meets its contract.
use mathlib.Core.Path.{◌∙◌}
use Rattle.decimal.proofs.Writing.{no_end, slot-length, ended}
use Rattle.decimal.proofs.write.put_natural.Goals as goal

pub returns-in_err-end-clause-reply : goal.returns-in_err-end-clause-reply
returns-in_err-end-clause-reply c = c.from_residual.ensures ∙ (no_end _ _ _ _ c.width.ensures c.in_err-end.ensures).0

pub returns-in_err-end-clause-buffer : goal.returns-in_err-end-clause-buffer
returns-in_err-end-clause-buffer c = (no_end _ _ _ _ c.width.ensures c.in_err-end.ensures).1

pub spell-requires : goal.spell-requires
spell-requires c = slot-length _ _ _ _ c.width.ensures c.in_ok-end.ensures

pub returns-clause-reply : goal.returns-clause-reply
returns-clause-reply c = (ended _ _ _ _ c.width.ensures c.in_ok-end.ensures c.spell.ensures).0

pub returns-clause-buffer : goal.returns-clause-buffer
returns-clause-buffer c = (ended _ _ _ _ c.width.ensures c.in_ok-end.ensures c.spell.ensures).1
