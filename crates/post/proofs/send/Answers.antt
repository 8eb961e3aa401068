-- `send` meets its contract: refusal 18, or what writing the message says.
use Rattle.std.proofs.lemmas.Result.{err_from_is_err_and}
use Rattle.memory.specs.Memory.{state_of}
use Rattle.post.proofs.Laws.{refused-sends, made-sends}
use Rattle.post.proofs.send.Goals as goal

pub returns-in_err-batch : goal.returns-in_err-batch
returns-in_err-batch c =
    let p = err_from_is_err_and c.from_residual.result c.from_residual.ensures.1 in
    let a = refused-sends (state_of c.args.memory.now) _ _ c.made.ensures.reply _ c.args.room.now c.in_err-batch.was in
    record { reply = rw (p.1, p.2) a.0; buffer = a.1 }

pub returns : goal.returns
returns c =
    let a = made-sends (state_of c.args.memory.now) _ _ c.made.ensures.reply _ _ _ c.write_message.result c.in_ok-batch.was c.in_ok-batch.ensures.batch c.write_message.ensures.reply c.write_message.ensures.buffer in
    record { reply = a.0; buffer = a.1 }
