-- A line that a master sent stays the message of its commit to the end of the session; it is of document 01's form, and carries versions of
-- the log.
use Prim.Native.Nat.{ℕ, suc, ◌≤◌, ◌<◌}
use native.Mathlib.Decide.{dec_lt}
use native.Mathlib.Nat.{mod-eq_of_lt}
use native.Mathlib.Omega.{arith}
use mathlib.Core.Path.{◌≡◌, refl, sym, ◌∙◌, ap, subst}
use mathlib.Core.Logic.{◌≢◌, ◌↔◌}
use mathlib.Core.List.{List, [], ◌∷◌, map}
use lib.ListN.{length, take, length-map}
use lib.Seq.{take_all}
use Rattle.lists.specs.Lists.{Every, none, also}
use Rattle.lists.specs.Members.{In, here, below, Distinct}
use Rattle.lists.proofs.Every.{every_map, every_append}
use Rattle.lists.proofs.Images.{every_image}
use Rattle.lists.proofs.Members.{every_in, in_every, in_left, in_right, in_map}
use Rattle.units.specs.declared.Item.{Item}
use Rattle.model.specs.Log.{Entry, made_at}
use Rattle.model.specs.State.{State, opened}
use Rattle.model.specs.Call.{Call, Message, made}
use Rattle.model.specs.Step.{Step, step}
use Rattle.model.specs.Session.{reached}
use Rattle.model.specs.Reached.{Good}
use Rattle.model.proofs.Replies.{other}
use Rattle.model.proofs.History.{chain, chain_stamps, ordinal_range}
use Rattle.model.proofs.Made.{made-few, made-once, made-keys, made_in, made-later}
use Rattle.model.proofs.Granted.{message-none, message-whole}
use Rattle.model.proofs.Reached.{good_reached}
use Rattle.model.proofs.Sent.{made-stays}
use Rattle.versions.specs.Batch.{item_of}
use Rattle.message.specs.Line.{message_text, InRanges, IsMessage}
use Rattle.message.specs.Read.{Reading, whole, read_line}
use Rattle.message.proofs.Exactly.{line_back}
use Rattle.copy.specs.Copy.{done, take_reading, take_line}
use Rattle.copy.specs.Arrivals.{Arrival, arrival, carried, arrivals}
use Rattle.copy.specs.declared.Copy.{Copy}
use Rattle.delivery.specs.Sent.{plain_item, message_at, MessageOf, Sent, Answered, Carries}
use Rattle.delivery.specs.Values.{Ranged}
use Rattle.delivery.specs.Held.{arrival_of, Committed}
use Rattle.model.proofs.Untuned.{reached-append}

-- ---- to the end of the session

-- the message of a stamp is what was made at it
message-same : (a b : List Entry) (t : ℕ) → made_at a t ≡ made_at b t → message_at a t ≡ message_at b t
unfolding message_at
message-same a b t e = ap (λ (es : List Entry). message_text t (map item_of (take 16 es))) e

-- where a stamp has a message, the clock has passed it
passed_by : {opening : ℕ} (s : State) → Good opening s → (t : ℕ) → made_at s.log t ≢ [] → t ≤ s.clock
passed_by s g t h = go (dec_lt s.clock t)
  where
    go : Dec (s.clock < t) → t ≤ s.clock
    go (yes l) = absurd (h (made-later g.history t l))
    go (no l) = omega arith

module _ (opening : ℕ) (low : opening ≤ 4294967295) (calls : List Call) where
  -- a line once sent is the message of its commit in the log that the session reaches
  pub sent_stays : {line : List ℕ} → Sent opening calls line → MessageOf (reached (opened opening) calls).log line
  sent_stays m =
      let s : State = reached (opened opening) m.before in
      let t : ℕ = m.message.stamp in
      let past : t ≤ s.clock = passed_by s (good_reached opening low m.before) t m.message.wrote in
      let same : made_at (reached (opened opening) calls).log t ≡ made_at s.log t =
      ap (λ (cs : List Call). made_at (reached (opened opening) cs).log t) m.moment
      ∙ ap (λ (x : State). made_at x.log t) (reached-append (opened opening) m.before m.after)
      ∙ made-stays s m.after t past in
      record { stamp = t; wrote = λ e. m.message.wrote (sym same ∙ e); text = m.message.text ∙ message-same s.log (reached (opened opening) calls).log t (sym same) }

-- ---- the form

carried-whole : {r : Reading} {stamp : ℕ} {items : List Item} → r ≡ whole stamp items → carried r ≡ map (arrival stamp) items
unfolding carried
carried-whole e = rw e

-- a key up to 63 is its own remainder: the item that the code makes of such a version is the version as it is
plain-item : (e : Entry) → e.key ≤ 63 → item_of e ≡ plain_item e
plain-item e h = ap (λ (k : ℕ). record { key = k; ordinal = record { 0 = e.ordinal }; value = e.value }) (mod-eq_of_lt (omega arith))

plain_items : (es : List Entry) → Every (λ (k : ℕ). k ≤ 63) (map (λ (e : Entry). e.key) es) → map item_of es ≡ map plain_item es
plain_items [] none = refl
plain_items (e ∷ es) (also h hs) = rw (plain-item e h, plain_items es hs)

keys_items : (es : List Entry) → map (λ (i : Item). i.key) (map plain_item es) ≡ map (λ (e : Entry). e.key) es
keys_items [] = refl
keys_items (e ∷ es) = ap (λ (ks : List ℕ). e.key ∷ ks) (keys_items es)

module _ {opening : ℕ} (s : State) (g : Good opening s) where
  -- no commit made more than 16 versions, and no key is above 63
  pub message_all : (t : ℕ) → message_at s.log t ≡ message_text t (map plain_item (made_at s.log t))
  unfolding message_at
  message_all t =
      ap (λ (es : List Entry). message_text t (map item_of es)) (take_all 16 (made_at s.log t) (made-few g.history t))
      ∙ ap (message_text t) (plain_items (made_at s.log t) (made-keys g.history t))

  pub answers-message : (t : ℕ) → made_at s.log t ≢ [] → (step s (Message t)).reply ≡ made (made_at s.log t)
  answers-message t h = ap (λ (d : Step). d.reply) (message-whole s g t h)

  -- a message of the log is what the master hands out when it is asked for a stamp
  pub message_exactly : (line : List ℕ) → MessageOf s.log line ↔ Answered s line
  message_exactly line = (to, from)
    where
      to : MessageOf s.log line → Answered s line
      to m = record { stamp = m.stamp; versions = made_at s.log m.stamp; reply = answers-message m.stamp m.wrote; text = m.text ∙ message_all m.stamp }

      from : Answered s line → MessageOf s.log line
      from a =
          let some : made_at s.log a.stamp ≢ [] = λ e. other (sym (message-none s a.stamp e) ∙ a.reply) tt in
          let same : made (made_at s.log a.stamp) ≡ made a.versions = sym (answers-message a.stamp some) ∙ a.reply in
          let all : made_at s.log a.stamp ≡ a.versions = cc in
          record { stamp = a.stamp; wrote = some; text = a.text ∙ ap (λ (es : List Entry). message_text a.stamp (map plain_item es)) (sym all) ∙ sym (message_all a.stamp) }

  module _ (r : Ranged s) where
    in_ranges : (t : ℕ) (e : Entry) → In e (made_at s.log t) → InRanges (plain_item e)
    in_ranges t e i =
        let there : In e s.log = (made_in s.log t e i).0 in
        let o : (1 ≤ e.ordinal) × (e.ordinal ≤ length s.log) = ordinal_range (chain g.history) there in
        let room : length s.log ≤ 4096 = g.room in
        record { key = every_in (made-keys g.history t) (in_map (λ (e : Entry). e.key) i); first = o.0; last = omega (arith, o.1); value = every_in r.log there }

    -- every message is of the form of document 01
    pub in_form : (t : ℕ) → made_at s.log t ≢ [] → IsMessage t (map plain_item (made_at s.log t))
    in_form t h = go (made_at s.log t) refl
      where
        go : (es : List Entry) → made_at s.log t ≡ es → IsMessage t (map plain_item (made_at s.log t))
        go [] q = absurd (h q)
        go (e ∷ es) q =
            let i : In e (made_at s.log t) = rw q here in
            let m : In e s.log × (e.stamp ≡ t) = made_in s.log t e i in
            let c : (opening < e.stamp) × (e.stamp ≤ s.clock) = every_in (chain_stamps (chain g.history)) m.0 in
            let few : length (made_at s.log t) ≤ 16 = made-few g.history t in
            let some : length (made_at s.log t) ≡ suc (length es) = ap length q in
            let size : length (map plain_item (made_at s.log t)) ≡ length (made_at s.log t) = length-map (made_at s.log t) plain_item in
            record {
              early = omega (arith, c.0, m.1);
              late = omega (arith, c.1, m.1, g.ticks);
              some = omega arith;
              few = omega arith;
              ranges = every_image InRanges plain_item (in_every (λ (f : Entry). InRanges (plain_item f)) (made_at s.log t) (in_ranges t));
              apart = subst Distinct (sym (keys_items (made_at s.log t))) (made-once g.history t);
            }

    module _ {line : List ℕ} (m : MessageOf s.log line) where
      line_reads : read_line line ≡ whole m.stamp (map plain_item (made_at s.log m.stamp))
      line_reads = ap read_line (m.text ∙ message_all m.stamp) ∙ line_back m.stamp (map plain_item (made_at s.log m.stamp)) (in_form m.stamp m.wrote)

      line_taken : (c : Copy) → (take_line c line).reply ≡ done
      unfolding take_line take_reading
      line_taken c = rw line_reads

      pub message_carries : Carries s.log line
      message_carries =
          record {
            stamp = m.stamp;
            form = in_form m.stamp m.wrote;
            reads = line_reads;
            logged = in_every (λ (e : Entry). In e s.log × (e.stamp ≡ m.stamp)) (made_at s.log m.stamp) (made_in s.log m.stamp);
            taken = line_taken;
          }

      -- a version of a message's stamp is carried by it
      pub version-carried : {e : Entry} → In e (made_at s.log m.stamp) → In (arrival_of e) (carried (read_line line))
      version-carried {e} i = rw (carried-whole line_reads, (made_in s.log m.stamp e i).1) (in_map (arrival m.stamp) (in_map plain_item i))

-- ---- what it carries

module _ {log : List Entry} where
  -- "each message taken is one this master sent": what arrives are versions of its log
  line-committed : {line : List ℕ} → Carries log line → Every (Committed log) (carried (read_line line))
  line-committed m =
      rw (carried-whole m.reads)
      (every_image (Committed log) (arrival m.stamp) (every_image (λ (i : Item). Committed log (arrival m.stamp i)) plain_item
      (every_map (λ (e : Entry) h. record { entry = e; there = h.0; same = ap (λ (t : ℕ). arrival t (plain_item e)) (sym h.1) }) m.logged)))

  pub lines-committed : {lines : List (List ℕ)} → Every (Carries log) lines → Every (Committed log) (arrivals lines)
  unfolding arrivals
  lines-committed none = none
  lines-committed (also m ms) = every_append (line-committed m) (lines-committed ms)

-- a version that one of the lines carries arrives
pub line_arrives : {x : Arrival} {line : List ℕ} {lines : List (List ℕ)} → In line lines → In x (carried (read_line line)) → In x (arrivals lines)
unfolding arrivals
line_arrives (here {xs = ls}) i = in_left (arrivals ls) i
line_arrives (below {y = l} j) i = in_right (carried (read_line l)) (line_arrives j i)
