-- `write_message` meets its contract: the line as it stands in the local text is put at the front of the room.
use Rattle.std.proofs.Common.{ap, ◌∙◌}
use Rattle.decimal.specs.Write.{put}
use Rattle.message.specs.Line.{message_text}
use Rattle.message.specs.Write.{message_reply}
use Rattle.message.proofs.Putting.{handed}
use Rattle.message.proofs.write.write_message.Goals as goal

pub returns : goal.returns
returns c =
    let line = c.bytes.ensures ∙ c.line_of-line.ensures ∙ ap (message_text c.args.stamp.0) c.items.ensures in
    record {
      reply = ap message_reply c.ok_or.ensures.value ∙ handed _ _ c.put_text.ensures.reply line;
      buffer = c.put_text.ensures.buffer ∙ ap (put c.args.room.now 0) line;
    }
