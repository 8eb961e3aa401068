-- `put_value` meets its contract: a tab, and the number behind it.
use mir.Facts.{to_z-of_z}
use Rattle.message.proofs.Putting.{field_some, field_put}
use Rattle.message.proofs.write.put_value.Goals as goal

pub unwrap-requires : goal.unwrap-requires
unwrap-requires c = field_some _ _ c.put_byte.ensures c.requires (rw (to_z-of_z c.ranges.n) at c.put_signed.ensures.reply)

pub returns : goal.returns
returns c = field_put _ _ c.put_byte.ensures c.requires (rw (to_z-of_z c.ranges.n) at c.put_signed.ensures.text)
