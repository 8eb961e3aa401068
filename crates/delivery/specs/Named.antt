-- The keys that the comparison names, and the messages that make the two equal. Demand 3: "The comparison names exactly the keys where it is
-- behind. If no commit comes between, taking one message for each named key, in any order, makes the two equal; it is the message of the commit
-- that made that key's newest version."
use Rattle.std.specs.Prelude.{ℕ, ◌≤◌, ◌<◌, ◌≡◌, ◌≢◌, List, map}
use Rattle.lists.specs.Lists.{Every}
use Rattle.lists.specs.Members.{In}
use Rattle.model.specs.Log.{Entry, version_of, newest}
use Rattle.model.specs.State.{State, opened}
use Rattle.model.specs.Call.{Call, Message, Newest, Reply, committed, made, made_by}
use Rattle.model.specs.Step.{step}
use Rattle.model.specs.Session.{reached}
use Rattle.message.specs.Line.{message_text}
use Rattle.comparison.specs.Comparison.{CompareReply, behind}
use Rattle.comparison.specs.Named.{Named, Tells}
use Rattle.copy.specs.Copy.{held}
use Rattle.copy.specs.declared.Copy.{Copy}
use Rattle.delivery.specs.Sent.{plain_item, message_at, Sent}

-- the copy's ordinal of the key is below the master's
abbrev pub Lacks : List Entry → Copy → ℕ → Type 0
Lacks log c k = (held c k).ordinal.0 < (newest log k).ordinal.0

-- a reply with a word, which is so no refusal 11, and what it names
pub data NamesBehind (log : List Entry) (c : Copy) : CompareReply → Type 0 where
  names : (word number lowest : ℕ) → Tells (Lacks log c) word number lowest → NamesBehind log c (behind word number lowest)

-- "the message of the commit that made that key's newest version"
abbrev pub newest_message : List Entry → ℕ → List ℕ
newest_message log k = message_at log (newest log k).stamp.0

-- The line is that message: for the key the master answers the stamp of a commit, for this stamp it hands out versions, the key's newest among
-- them, and the line is their text.
pub record Given (s : State) (k : ℕ) (line : List ℕ) : Type 0 where
  pub stamp : ℕ
  pub versions : List Entry
  pub entry : Entry
  pub named : (step s (Newest k)).reply ≡ made_by stamp
  pub given : (step s (Message stamp)).reply ≡ made versions
  pub there : In entry versions
  pub key : entry.key ≡ k
  pub same : newest s.log k ≡ version_of entry
  pub text : line ≡ message_text stamp (map plain_item versions)

-- what may come after the comparison, in a session of these calls: the message of a named key's newest version, or any other that this
-- master sent until then, be it old or come before
pub data Coming (opening : ℕ) (calls : List Call) (word : ℕ) : List ℕ → Type 0 where
  asked : (k : ℕ) → k ≤ 63 → Named word k → Coming opening calls word (newest_message (reached (opened opening) calls).log k)
  other : {line : List ℕ} → Sent opening calls line → Coming opening calls word line

-- "one message for each named key, in any order", with others of this master in between, and any of them again
pub record OneForEach (opening : ℕ) (calls : List Call) (word : ℕ) (lines : List (List ℕ)) : Type 0 where
  pub only : Every (Coming opening calls word) lines
  pub each : (k : ℕ) → k ≤ 63 → Named word k → In (newest_message (reached (opened opening) calls).log k) lines

-- "no commit comes between": none of these replies is of a granted commit
abbrev pub NoCommit : List Reply → Type 0
NoCommit rs = Every (λ (r : Reply). (m : ℕ) → r ≢ committed m) rs
