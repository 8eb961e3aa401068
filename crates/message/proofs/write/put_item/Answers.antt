-- `put_item` meets its contract: three fields, and room for any numbers in them.
use Rattle.std.proofs.Common.{◌<◌, rules}
use mir.Facts.{to_z-of_z}
use mir.Syntax.{w32}
use mir.Val.{SFits}
use Rattle.message.proofs.Putting.{key-room, ordinal-room, value_room, item-put}
use Rattle.message.proofs.write.put_item.Goals as goal

pub put_field-requires : goal.put_field-requires
put_field-requires c =
    let i = c.args.item in
    let k : i.key < 256 = search rules in
    let o : i.ordinal.0 < 4294967296 = search rules in
    let v : SFits w32 i.value = search rules in
    rw c.from.ensures (key-room _ i c.requires k o v)

pub put_field-requires-2 : goal.put_field-requires-2
put_field-requires-2 c =
    let i = c.args.item in
    let k : i.key < 256 = search rules in
    let o : i.ordinal.0 < 4294967296 = search rules in
    let v : SFits w32 i.value = search rules in
    rw c.from-2.ensures (ordinal-room _ i c.requires k o v (rw c.from.ensures at c.put_field.ensures))

pub put_value-requires : goal.put_value-requires
put_value-requires c =
    let i = c.args.item in
    let k : i.key < 256 = search rules in
    let o : i.ordinal.0 < 4294967296 = search rules in
    let v : SFits w32 i.value = search rules in
    rw (to_z-of_z v) (value_room _ i c.requires k o v (rw c.from.ensures at c.put_field.ensures) (rw c.from-2.ensures at c.put_field-2.ensures))

pub returns : goal.returns
returns c =
    let i = c.args.item in
    let k : i.key < 256 = search rules in
    let o : i.ordinal.0 < 4294967296 = search rules in
    let v : SFits w32 i.value = search rules in
    let p = item-put _ i c.requires k o v (rw c.from.ensures at c.put_field.ensures) (rw c.from-2.ensures at c.put_field-2.ensures) (rw (to_z-of_z v) at c.put_value.ensures) in
    record { text = p.0; long = p.1 }
