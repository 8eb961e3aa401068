-- "Each commit that wrote something has one message". Message: 18, 17.
use Rattle.std.specs.Prelude.{ℕ, ◌≤◌, ◌<◌, ◌≡◌, ◌≢◌, cond, List, ◌++◌, eqb, length, drop}
use Rattle.lists.specs.Lists.{Every}
use Rattle.lists.specs.Members.{In}
use Rattle.model.specs.Log.{Entry, made_at}
use Rattle.decimal.specs.Write.{put}
use Rattle.message.specs.Write.{MessageReply, bytes, refused, text_reply}
use Rattle.delivery.specs.Sent.{message_at}

unfoldable pub posted : List Entry → ℕ → List ℕ → MessageReply
posted log stamp room = cond (eqb (length (made_at log stamp)) 0) (refused 18) (text_reply room (message_at log stamp))

-- "the rest of its buffer is untouched", and the whole of it where the call is refused
unfoldable pub posted_room : List Entry → ℕ → List ℕ → List ℕ
posted_room log stamp room = cond (eqb (length (made_at log stamp)) 0) room (put room 0 (message_at log stamp))

-- ---- the same in words of the log

-- "a stamp at which no commit wrote anything"
abbrev pub NoneAt : List Entry → ℕ → Type 0
NoneAt log stamp = Every (λ (e : Entry). e.stamp ≢ stamp) log

pub record SomeAt (log : List Entry) (stamp : ℕ) : Type 0 where
  pub entry : Entry
  pub there : In entry log
  pub made : entry.stamp ≡ stamp

-- The reply and the room after it: 18; else 17, "the whole output or message is longer than the lent room"; else the message at the room's
-- front and the rest as it was.
pub data Sends (log : List Entry) (stamp : ℕ) (room : List ℕ) : MessageReply → List ℕ → Type 0 where
  nothing : NoneAt log stamp → Sends log stamp room (refused 18) room
  too_long : SomeAt log stamp → length room < length (message_at log stamp) → Sends log stamp room (refused 17) room
  sends : SomeAt log stamp → length (message_at log stamp) ≤ length room
      → Sends log stamp room (bytes (length (message_at log stamp))) (message_at log stamp ++ drop (length (message_at log stamp)) room)
