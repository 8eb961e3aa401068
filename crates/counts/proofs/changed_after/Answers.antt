-- `changed_after` meets its contract: a key with more versions than up to a stamp has one after it.
use Rattle.counts.proofs.Laws.{changed}
use Rattle.counts.proofs.changed_after.Goals as goal

pub returns : goal.returns
returns c = changed _ _ _ c.count_up_to.ensures c.count_versions.ensures
