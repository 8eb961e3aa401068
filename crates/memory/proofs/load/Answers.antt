use Rattle.memory.specs.Memory.{loaded}
use Rattle.memory.proofs.load.Goals as goal

pub returns : goal.returns
unfolding loaded
returns c = rw (c.load_row-2.ensures, c.load_row.ensures, c.short_of-3.ensures, c.short_of-2.ensures, c.short_of.ensures, c.fresh-t.ensures, c.base_of-b.ensures)
