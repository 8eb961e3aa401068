-- Writing a message line, in document 01's numbers: the bytes of the line, or 17, "the whole output or message is longer than the lent room".
use Rattle.std.specs.Prelude.{ℕ, List, Result, Ok, Err}
use Rattle.units.specs.Refusal.{number_of}
use Rattle.units.specs.declared.refusal.Refusal.{Refusal}
use Rattle.decimal.specs.Write.{handed_over}

pub data MessageReply : Type 0 where
  bytes : ℕ → MessageReply
  refused : (number : ℕ) → MessageReply

abbrev pub message_reply : Result ℕ Refusal → MessageReply
message_reply (Ok n) = bytes n
message_reply (Err f) = refused (number_of f)

-- what is replied where a text is to go to the front of a room
unfoldable pub text_reply : List ℕ → List ℕ → MessageReply
text_reply room text = handed_over bytes (refused 17) room text
