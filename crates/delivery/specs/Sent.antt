-- What one master sends. Demand 3: "Take one master from its opening and one fresh copy, and let messages be lost, repeated or reordered.
-- If each message taken is one this master sent, ..".
use Rattle.std.specs.Prelude.{ℕ, ◌≡◌, ◌≢◌, List, [], ◌++◌, map, take}
use Rattle.lists.specs.Lists.{Every}
use Rattle.lists.specs.Members.{In}
use Rattle.units.specs.declared.Item.{Item}
use Rattle.model.specs.Log.{Entry, made_at}
use Rattle.model.specs.State.{State, opened}
use Rattle.model.specs.Call.{Call, Message, made}
use Rattle.model.specs.Step.{step}
use Rattle.model.specs.Session.{reached}
use Rattle.versions.specs.Batch.{item_of}
use Rattle.message.specs.Line.{message_text, IsMessage}
use Rattle.message.specs.Read.{whole, read_line}
use Rattle.copy.specs.Copy.{done, take_line}
use Rattle.copy.specs.declared.Copy.{Copy}

-- a version as a message carries it: "key, ordinal and value"
abbrev pub plain_item : Entry → Item
plain_item e = record { key = e.key; ordinal = record { 0 = e.ordinal }; value = e.value }

-- the line that a master with this log sends for a stamp; in a log that a session reaches no commit made more than 16 versions and no key is
-- above 63, so that the line is the text of all of them as they are (`message_all`)
unfoldable pub message_at : List Entry → ℕ → List ℕ
message_at log stamp = message_text stamp (map item_of (take 16 (made_at log stamp)))

-- the line is the message of a commit of the log; 18 is for "a stamp at which no commit wrote anything"
pub record MessageOf (log : List Entry) (line : List ℕ) : Type 0 where
  pub stamp : ℕ
  pub wrote : made_at log stamp ≢ []
  pub text : line ≡ message_at log stamp

-- "one this master sent": at some moment of the session, after the calls `before`
pub record Sent (opening : ℕ) (calls : List Call) (line : List ℕ) : Type 0 where
  pub before : List Call
  pub after : List Call
  pub moment : calls ≡ before ++ after
  pub message : MessageOf (reached (opened opening) before).log line

-- the same by the master's reply: asked for a stamp it hands out versions, and the line is their text
pub record Answered (s : State) (line : List ℕ) : Type 0 where
  pub stamp : ℕ
  pub versions : List Entry
  pub reply : (step s (Message stamp)).reply ≡ made versions
  pub text : line ≡ message_text stamp (map plain_item versions)

-- what a message of a log carries: it is of document 01's form, it is read and taken, and its versions are those that the commit at its
-- stamp made, which are versions of the log
pub record Carries (log : List Entry) (line : List ℕ) : Type 0 where
  pub stamp : ℕ
  pub form : IsMessage stamp (map plain_item (made_at log stamp))
  pub reads : read_line line ≡ whole stamp (map plain_item (made_at log stamp))
  pub logged : Every (λ (e : Entry). In e log × (e.stamp ≡ stamp)) (made_at log stamp)
  pub taken : (c : Copy) → (take_line c line).reply ≡ done
