-- Demand 3, over every session of one master from its opening and every list of lines that it sent: "Take one master from its opening and one
-- fresh copy, and let messages be lost, repeated or reordered." The lines may stand in any order, some not at all and some again.
use Prim.Native.Nat.{ℕ, ◌≤◌, ◌<◌}
use native.Mathlib.Omega.{arith}
use mathlib.Core.Path.{◌≡◌, sym, ◌∙◌, ap, subst}
use mathlib.Core.List.{List, [], ◌++◌, append-nil}
use Rattle.lists.specs.Lists.{Every}
use Rattle.lists.specs.Members.{In}
use Rattle.lists.proofs.Every.{every_map}
use Rattle.model.specs.Log.{Entry, newest}
use Rattle.model.specs.State.{State, opened}
use Rattle.model.specs.Call.{Call}
use Rattle.model.specs.Session.{reached, replies}
use Rattle.model.specs.Reached.{Good}
use Rattle.model.proofs.Reached.{good_reached}
use Rattle.comparison.specs.Comparison.{CompareReply, behind, compared}
use Rattle.comparison.specs.Named.{Named}
use Rattle.copy.specs.Copy.{fresh_copy, held, ordinals_of}
use Rattle.copy.specs.Arrivals.{take_lines, arrivals}
use Rattle.copy.specs.declared.Copy.{Copy}
use Rattle.delivery.specs.Sent.{MessageOf, Sent, Carries}
use Rattle.delivery.specs.Values.{Writable, Ranged}
use Rattle.delivery.specs.Held.{NewestTaken}
use Rattle.delivery.specs.Named.{Lacks, NamesBehind, names, newest_message, Given, Coming, asked, other, OneForEach, NoCommit}
use Rattle.delivery.proofs.Values.{ranged_reached}
use Rattle.model.proofs.Untuned.{reached-append}
use Rattle.delivery.proofs.Messages.{sent_stays, message_carries}
use Rattle.delivery.proofs.Named.{compared_equal}
use Rattle.delivery.proofs.Quiet.{quiet_log}
use Rattle.delivery.proofs.Equal.{newest-message, newest-given, log-holds, log-names, log_equal}

-- a key that the word names is one that the copy lacks
named_lacks : {log : List Entry} {c : Copy} {a : CompareReply} (word number low : ℕ) → NamesBehind log c a → a ≡ behind word number low → (k : ℕ) → k ≤ 63 → Named word k → Lacks log c k
named_lacks word number low (names w n l t) e k h d = (t.keys k h).0 (let z : word ≡ w = cc in subst (λ (x : ℕ). Named x k) z d)

lacks_named : {log : List Entry} {c : Copy} {a : CompareReply} (word number low : ℕ) → NamesBehind log c a → a ≡ behind word number low → (k : ℕ) → k ≤ 63 → Lacks log c k → Named word k
lacks_named word number low (names w n l t) e k h d = let z : w ≡ word = cc in subst (λ (x : ℕ). Named x k) z ((t.keys k h).1 d)

module _ (opening : ℕ) (low : opening ≤ 4294967295) (calls : List Call) (writable : Every Writable calls) where
  abbrev end : State
  end = reached (opened opening) calls

  abbrev good : Good opening end
  good = good_reached opening low calls

  abbrev ranged : Ranged end
  ranged = ranged_reached opening writable

  -- a line that was sent is of document 01's form and is taken, and carries the versions of one commit of the log
  pub sent_carries : {line : List ℕ} → Sent opening calls line → Carries end.log line
  sent_carries m = message_carries end good ranged (sent_stays opening low calls m)

  module _ {lines : List (List ℕ)} (sent : Every (Sent opening calls) lines) where
    abbrev copy : Copy
    copy = take_lines fresh_copy lines

    messages : Every (MessageOf end.log) lines
    messages = every_map (λ line m. sent_stays opening low calls m) sent

    -- "If each message taken is one this master sent, the copy always holds, for every key, the newest committed version among those taken,
    -- or the start version."
    pub holds-newest : (k : ℕ) → k ≤ 63 → NewestTaken end.log k (arrivals lines) (held copy k)
    holds-newest = log-holds end good ranged messages

    -- "The comparison names exactly the keys where it is behind."
    pub names-behind : NamesBehind end.log copy (compared end.log (ordinals_of copy))
    names-behind = log-names end good ranged messages

    -- "If no commit comes between": the calls `more` after the comparison
    module _
        (more : List Call)
        (quiet : NoCommit (replies end more))
        (word number lowest : ℕ)
        (answer : compared end.log (ordinals_of copy) ≡ behind word number lowest)
        {further : List (List ℕ)}
        (one : OneForEach opening (calls ++ more) word further)
      where
        abbrev later : State
        later = reached (opened opening) (calls ++ more)

        same : later.log ≡ end.log
        same = ap (λ (s : State). s.log) (reached-append (opened opening) calls more) ∙ quiet_log end more quiet

        later_good : Good opening later
        later_good = good_reached opening low (calls ++ more)

        has-version : (k : ℕ) → k ≤ 63 → Named word k → 0 < (newest later.log k).ordinal.0
        has-version k h n =
            let l : Lacks end.log copy k = named_lacks word number lowest names-behind answer k h n in
            subst (λ (log : List Entry). 0 < (newest log k).ordinal.0) (sym same) (omega arith)

        coming_sent : (line : List ℕ) → Coming opening (calls ++ more) word line → Sent opening (calls ++ more) line
        coming_sent line (asked k h n) =
            record {
              before = calls ++ more;
              after = [];
              moment = sym (append-nil (calls ++ more));
              message = newest-message later later_good k (has-version k h n);
            }
        coming_sent line (other m) = m

        -- each of these lines is one that this master sent
        pub further_sent : Every (Sent opening (calls ++ more)) further
        further_sent = every_map coming_sent one.only

        -- "it is the message of the commit that made that key's newest version"
        pub further_given : (k : ℕ) → k ≤ 63 → Named word k → Given later k (newest_message later.log k)
        further_given k h n = newest-given later later_good k (has-version k h n) h

        -- "taking one message for each named key, in any order, makes the two equal", whatever else of this master's comes in between
        pub makes_equal : (k : ℕ) → k ≤ 63 → held (take_lines copy further) k ≡ newest later.log k
        makes_equal k h =
            log_equal end good ranged messages (every_map (λ line m. subst (λ (log : List Entry). MessageOf log line) same (sent_stays opening low (calls ++ more) m)) further_sent) each k h
            ∙ ap (λ (log : List Entry). newest log k) (sym same)
          where
            each : (j : ℕ) → j ≤ 63 → Lacks end.log copy j → In (newest_message end.log j) further
            each j l d = subst (λ (log : List Entry). In (newest_message log j) further) same (one.each j l (lacks_named word number lowest names-behind answer j l d))

        pub compares_equal : compared later.log (ordinals_of (take_lines copy further)) ≡ behind 0 0 64
        compares_equal = compared_equal later.log (take_lines copy further) makes_equal
