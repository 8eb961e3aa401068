-- `none_apart` meets its contract: the first read that is apart from the latest, and the first that it is apart from.
use mathlib.Core.Path.{sym, ap, ◌∙◌}
use lib.ListN.{get_or}
use Rattle.transaction.specs.Transaction.{no_mark}
use Rattle.rules.specs.Tests.{latest}
use Rattle.rules.proofs.Verdict.{parted_at, parted-somewhere}
use Rattle.rules.proofs.none_apart.Goals as goal

pub returns-in-Some-first_apart : goal.returns-in-Some-first_apart
returns-in-Some-first_apart c =
    parted_at _ _ _ (c.latest.ensures ∙ ap latest c.reads-reads.ensures) _ (sym c.in-Some.is ∙ c.first_torn.ensures) _ (ap (λ l. get_or l c.in-Some.x no_mark) c.reads-reads.ensures) _
    (sym c.in-Some-first_apart.is ∙ c.first_apart.ensures)

pub returns-in_default-first_apart : goal.returns-in_default-first_apart
returns-in_default-first_apart c =
    parted-somewhere _ _ _ (c.latest.ensures ∙ ap latest c.reads-reads.ensures) _ (sym c.in-Some.is ∙ c.first_torn.ensures) _ (ap (λ l. get_or l c.in-Some.x no_mark) c.reads-reads.ensures)
    (sym c.in_default-first_apart.is ∙ c.first_apart.ensures)
