-- `line_of` meets its contract. The invariant: the versions passed stand behind the stamp, at most 27 bytes each.
use Rattle.std.proofs.Common.{◌<◌, rules}
use Rattle.message.proofs.Putting.{stamp-room, line_none, line_more, line_all}
use Rattle.message.proofs.write.line_of.Goals as goal

pub put_field-requires : goal.put_field-requires
put_field-requires c =
    let small : c.args.stamp.0 < 4294967296 = search rules in
    rw c.from.ensures (stamp-room _ small (rw c.new-line.ensures at c.put_byte.ensures))

pub loop-item-init : goal.loop-item-init
loop-item-init c =
    let small : c.args.stamp.0 < 4294967296 = search rules in
    line_none _ small _ (rw c.new-line.ensures at c.put_byte.ensures) (rw c.from.ensures at c.put_field.ensures)

pub loop-item-preserved : goal.loop-item-preserved
loop-item-preserved c = line_more _ _ c.loop-item.invariant c.loop-item-test.true c.put_item.ensures.text c.put_item.ensures.long

pub returns : goal.returns
returns c = line_all _ _ c.loop-item.invariant c.loop-item-test.false c.put_byte-2.ensures
