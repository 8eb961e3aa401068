use Rattle.memory.proofs.Tables.{store_goes}
use Rattle.memory.proofs.store.Goals as goal

pub returns : goal.returns
returns c = store_goes _ _ _ _ _ _ _ _ _ _ c.base_of-b.ensures c.from.ensures c.from-2.ensures c.from-3.ensures c.from-4.ensures c.store_row.ensures c.store_row-2.ensures
