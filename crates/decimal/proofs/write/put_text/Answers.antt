-- `decimal::write::put_text` meets its contract.
use mathlib.Core.Path.{refl, ◌∙◌}
use Rattle.decimal.proofs.Writing.{no_end, ended}
use Rattle.decimal.proofs.write.put_text.Goals as goal

pub returns-in_err-end-clause-reply : goal.returns-in_err-end-clause-reply
returns-in_err-end-clause-reply c = c.from_residual.ensures ∙ (no_end _ _ _ c.args.text.now refl c.in_err-end.ensures).0

pub returns-in_err-end-clause-buffer : goal.returns-in_err-end-clause-buffer
returns-in_err-end-clause-buffer c = (no_end _ _ _ c.args.text.now refl c.in_err-end.ensures).1

pub returns-clause-reply : goal.returns-clause-reply
returns-clause-reply c = (ended _ _ _ c.args.text.now refl c.in_ok-end.ensures refl).0

pub returns-clause-buffer : goal.returns-clause-buffer
returns-clause-buffer c = (ended _ _ _ c.args.text.now refl c.in_ok-end.ensures c.copy_from_slice.ensures.after).1
