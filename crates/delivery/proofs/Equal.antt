-- Over one log: lines that are its messages, in any order, and what makes a copy equal to the master.
use Prim.Native.Nat.{ℕ, ◌≤◌, ◌<◌}
use native.Mathlib.Decide.{dec_lt}
use native.Mathlib.Omega.{arith}
use mathlib.Core.Path.{◌≡◌, refl, sym, ap, subst}
use mathlib.Core.Logic.{◌≢◌}
use mathlib.Core.List.{List, [], ◌∷◌, ◌++◌}
use borrow.Author.Tests.{le-ltb}
use Rattle.lists.specs.Lists.{Every}
use Rattle.lists.specs.Members.{In}
use Rattle.lists.proofs.Every.{every_map, every_append}
use Rattle.lists.proofs.Members.{in_nothing, in_right}
use Rattle.units.specs.declared.Version.{Version}
use Rattle.model.specs.Log.{Entry, version_of, newest, made_at}
use Rattle.model.specs.State.{State}
use Rattle.model.specs.Call.{Newest, made_by}
use Rattle.model.specs.Step.{step, checks_of, final_of, order}
use Rattle.model.specs.Reached.{Chain, Good, NewestOf, start, last}
use Rattle.model.proofs.History.{chain, newest_is}
use Rattle.model.proofs.Made.{in_made}
use Rattle.comparison.specs.Comparison.{compared}
use Rattle.copy.specs.Copy.{fresh_copy, held, ordinals_of, take_line}
use Rattle.copy.specs.Arrivals.{take_lines, arrivals}
use Rattle.copy.specs.declared.Copy.{Copy}
use Rattle.copy.proofs.Newest.{lines_all}
use Rattle.delivery.specs.Sent.{MessageOf, Carries}
use Rattle.delivery.specs.Values.{Ranged}
use Rattle.delivery.specs.Held.{arrival_of, NewestTaken}
use Rattle.delivery.specs.Named.{Lacks, NamesBehind, newest_message, Given}
use Rattle.delivery.proofs.Messages.{message_all, answers-message, message_carries, version-carried, lines-committed, line_arrives}
use Rattle.delivery.proofs.Held.{newest-held, taken_top, taken_le, taken-newest}
use Rattle.delivery.proofs.Named.{compared-names}
use Rattle.delivery.proofs.Again.{never_back}

lines-append : (c : Copy) (before after : List (List ℕ)) → take_lines c (before ++ after) ≡ take_lines (take_lines c before) after
unfolding take_lines
lines-append c [] after = refl
lines-append c (l ∷ before) after = lines-append (take_line c l).copy before after

-- the newest version of a key, where it is not the start version
record NewestEntry (log : List Entry) (k : ℕ) (v : Version) : Type 0 where
  entry : Entry
  there : In entry log
  key : entry.key ≡ k
  same : v ≡ version_of entry

newest-entry : {log : List Entry} {k : ℕ} {v : Version} → NewestOf log k v → 0 < v.ordinal.0 → NewestEntry log k v
newest-entry (start h) l = absurd (omega arith)
newest-entry (last e i q h) l = record { entry = e; there = i; key = q; same = refl }

-- "For a key it also answers the stamp of the commit that made the newest version". Every state is taken.
pub newest_answer : (s : State) (k : ℕ) → k ≤ 63 → (step s (Newest k)).reply ≡ made_by (newest s.log k).stamp.0
unfolding step checks_of final_of order
newest_answer s k h = rw (le-ltb 63 k h)

module _ {opening : ℕ} (s : State) (g : Good opening s) where
  abbrev whole-log : Chain opening s.clock s.log
  whole-log = chain g.history

  -- a key with a version besides the start version
  module _ (k : ℕ) (some : 0 < (newest s.log k).ordinal.0) where
    newest_one : NewestEntry s.log k (newest s.log k)
    newest_one = newest-entry (newest_is whole-log k) some

    -- it is among the versions of its own commit
    newest-made : In newest_one.entry (made_at s.log (newest s.log k).stamp.0)
    newest-made =
        subst (λ (t : ℕ). In newest_one.entry (made_at s.log t)) (sym (ap (λ (v : Version). v.stamp.0) newest_one.same)) (in_made newest_one.there)

    pub newest-wrote : made_at s.log (newest s.log k).stamp.0 ≢ []
    newest-wrote e = in_nothing (subst (In newest_one.entry) e newest-made)

    abbrev pub newest-message : MessageOf s.log (newest_message s.log k)
    newest-message = record { stamp = (newest s.log k).stamp.0; wrote = newest-wrote; text = refl }

    -- "it is the message of the commit that made that key's newest version"
    pub newest-given : k ≤ 63 → Given s k (newest_message s.log k)
    newest-given h =
        record {
          stamp = (newest s.log k).stamp.0;
          versions = made_at s.log (newest s.log k).stamp.0;
          entry = newest_one.entry;
          named = newest_answer s k h;
          given = answers-message s g (newest s.log k).stamp.0 newest-wrote;
          there = newest-made;
          key = newest_one.key;
          same = newest_one.same;
          text = message_all s g (newest s.log k).stamp.0;
        }

  module _ (r : Ranged s) where
    all_carry : {lines : List (List ℕ)} → Every (MessageOf s.log) lines → Every (Carries s.log) lines
    all_carry ms = every_map (λ line m. message_carries s g r m) ms

    pub log-holds : {lines : List (List ℕ)} → Every (MessageOf s.log) lines → (k : ℕ) → k ≤ 63
        → NewestTaken s.log k (arrivals lines) (held (take_lines fresh_copy lines) k)
    log-holds {lines} ms k h =
        subst (λ (c : Copy). NewestTaken s.log k (arrivals lines) (held c k)) (sym (lines_all fresh_copy lines))
        (newest-held whole-log (lines-committed (all_carry ms)) k h)

    pub log-names : {lines : List (List ℕ)} → Every (MessageOf s.log) lines → NamesBehind s.log (take_lines fresh_copy lines) (compared s.log (ordinals_of (take_lines fresh_copy lines)))
    log-names {lines} ms = compared-names s.log (take_lines fresh_copy lines) (λ k h. taken_le whole-log (log-holds ms k h))

    -- further messages of the log, among them that of the newest version of each key that the copy lacks
    module _
        {lines further : List (List ℕ)}
        (ms : Every (MessageOf s.log) lines)
        (fs : Every (MessageOf s.log) further)
        (each : (k : ℕ) → k ≤ 63 → Lacks s.log (take_lines fresh_copy lines) k → In (newest_message s.log k) further)
        (k : ℕ)
        (low : k ≤ 63)
      where
        abbrev after : Copy
        after = take_lines (take_lines fresh_copy lines) further

        then_holds : NewestTaken s.log k (arrivals (lines ++ further)) (held after k)
        then_holds =
            subst (λ (c : Copy). NewestTaken s.log k (arrivals (lines ++ further)) (held c k)) (lines-append fresh_copy lines further)
            (log-holds (every_append ms fs) k low)

        reaches : Dec (Lacks s.log (take_lines fresh_copy lines) k) → (newest s.log k).ordinal.0 ≤ (held after k).ordinal.0
        reaches (yes l) =
            let some : 0 < (newest s.log k).ordinal.0 = omega arith in
            let n : NewestEntry s.log k (newest s.log k) = newest_one k some in
            let i : In (arrival_of n.entry) (arrivals (lines ++ further)) =
            line_arrives (in_right lines (each k low l)) (version-carried s g r (newest-message k some) (newest-made k some)) in
            subst (λ (v : Version). v.ordinal.0 ≤ (held after k).ordinal.0) (sym n.same) (taken_top whole-log then_holds i n.key)
        reaches (no l) = let b = never_back (take_lines fresh_copy lines) further k in omega arith

        pub log_equal : held after k ≡ newest s.log k
        log_equal = taken-newest whole-log then_holds (reaches (dec_lt (held (take_lines fresh_copy lines) k).ordinal.0 (newest s.log k).ordinal.0))
