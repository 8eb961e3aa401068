-- `put_field` meets its contract: a tab, and the number behind it.
use Rattle.message.proofs.Putting.{field_some, field_put}
use Rattle.message.proofs.write.put_field.Goals as goal

pub unwrap-requires : goal.unwrap-requires
unwrap-requires c = field_some _ _ c.put_byte.ensures c.requires c.put_natural.ensures.reply

pub returns : goal.returns
returns c = field_put _ _ c.put_byte.ensures c.requires c.put_natural.ensures.text
