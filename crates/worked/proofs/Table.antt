-- Every row of the table holds, by computation from the definitions.
use mathlib.Core.Path.{refl}
use Rattle.lists.specs.Lists.{find, count, any, Every, none, also}
use Rattle.transaction.specs.Transaction.{recorded, written, wrote_at, pending_of}
use Rattle.model.specs.Log.{up_to, between, changed_after, versions, newest, logged, look_up, installed, made_at}
use Rattle.model.specs.Rules.{distance, broken_at, certified}
use Rattle.model.specs.State.{place_of, free_place}
use Rattle.model.specs.Step.{order, checks_of, final_of, step}
use Rattle.model.specs.Session.{replies}
use Rattle.records.proofs.Example.{p10}
use Rattle.worked.specs.Table.{Holds, table}

pub worked : Every Holds table
unfolding find count any recorded written wrote_at pending_of up_to between changed_after versions newest logged look_up installed made_at distance broken_at certified place_of free_place order checks_of final_of step replies
worked = also refl (also refl (also refl (also refl (also refl (also refl (also refl (also refl (also refl (also refl (also p10 none))))))))))
