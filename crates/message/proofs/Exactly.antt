-- A line says a stamp and versions exactly if it is their text and they are of document 01's form.
use Prim.Native.Nat.{ℕ, zero, suc, ◌+◌, ◌≤◌, ◌<◌}
use native.Mathlib.Decide.{dec_lt}
use native.Mathlib.Omega.{arith}
use mathlib.Core.Path.{◌≡◌, refl, sym, ap, ◌∙◌, subst}
use mathlib.Core.Logic.{◌↔◌, ◌≢◌}
use mathlib.Core.Bool.{Bool, true, false, cond, not, ◌&&◌, true≢false}
use mathlib.Core.List.{List, [], ◌∷◌, ◌++◌, map, append_assoc, append-nil}
use borrow.Author.Tests.{eq-eqb, ne_eqb, eqb-true, eqb-false}
use lib.Dec.{eqb}
use lib.IntN.{pos}
use lib.ListN.{length, get_or, drop, take, length-drop, drop_of_length-le}
use Rattle.units.proofs.Batches.{batch_items}
use Rattle.units.specs.declared.Item.{Item}
use Rattle.units.specs.declared.refusal.Refusal.{Refusal}
use Rattle.lists.specs.Lists.{any, Every, none, also}
use Rattle.lists.specs.Members.{Distinct, empty, apart}
use Rattle.lists.proofs.Every.{every_map, any_none, none_any}
use Rattle.lists.proofs.Images.{every_image, image_every}
use Rattle.decimal.specs.Text.{field, joined}
use Rattle.decimal.specs.Read.{naturals, natural_behind_tab, on_number, Tabbed}
use Rattle.decimal.specs.Write.{put, Puts}
use Rattle.decimal.proofs.Reading.{after, head_of}
use Rattle.decimal.proofs.Tabs.{byte_stands, natural_tabbed, tabbed_stands, tabbed_at, Took, number_took}
use Rattle.decimal.proofs.Putting.{puts_one, puts_front}
use Rattle.message.specs.Line.{item_text, items_text, message_text, InRanges, IsMessage}
use Rattle.message.specs.Read.{Reading, whole, bad, is_of_key, distinct, on_piece, item_at, ends_at, if_distinct, items_at, read_line, message_of, says, read_message_reply, reading_reply}
use Rattle.message.specs.declared.read.Message.{Message}
use Rattle.message.specs.Write.{bytes, refused, message_reply, text_reply}
use Rattle.std.specs.Prelude.{Option, Some, Result, Ok}
use Rattle.message.proofs.Items.{ItemAt, item-reads, item_back, piece_took, stops_items}
use Rattle.message.proofs.Room.{text-fits, text-full}

no_reading : {A : Type 0} (stamp : ℕ) (items : List Item) → bad ≡ whole stamp items → A
no_reading stamp items q = let z : ◌≡◌ {A = ℕ} 0 1 = cc in absurd (omega arith)

-- ---- "no key twice"

distinct_apart : (items : List Item) → distinct items ≡ true → Distinct (map (λ (i : Item). i.key) items)
unfolding distinct
distinct_apart [] h = empty
distinct_apart (i ∷ is) h = go (any (is_of_key i.key) is) refl h (distinct_apart is)
  where
    go : (t : Bool) → any (is_of_key i.key) is ≡ t → (not t && distinct is) ≡ true → (distinct is ≡ true → Distinct (map (λ (j : Item). j.key) is)) → Distinct (i.key ∷ map (λ (j : Item). j.key) is)
    go true e h r = absurd (true≢false (sym h))
    go false e h r =
        apart (every_image (λ (k : ℕ). k ≢ i.key) (λ (j : Item). j.key) (every_map (λ (j : Item) q. eqb-false j.key i.key q) (none_any (is_of_key i.key) is e))) (r h)

apart_distinct : (items : List Item) → Distinct (map (λ (i : Item). i.key) items) → distinct items ≡ true
unfolding distinct
apart_distinct [] d = refl
apart_distinct (i ∷ is) (apart n d) =
    rw (any_none (is_of_key i.key) (every_map (λ (j : Item) h. ne_eqb j.key i.key h) (image_every (λ (k : ℕ). k ≢ i.key) (λ (j : Item). j.key) is n)), apart_distinct is d)

pub distinct_exactly : (items : List Item) → (distinct items ≡ true) ↔ Distinct (map (λ (i : Item). i.key) items)
distinct_exactly items = (distinct_apart items, apart_distinct items)

-- ---- the end of the line

module _ (s : List ℕ) (at : ℕ) where
  ends-text : ends_at s at ≡ true → drop at s ≡ 10 ∷ []
  unfolding ends_at
  ends-text h = go (eqb (get_or s at 0) 10) refl (eqb (at + 1) (length s)) refl h
    where
      go : (t : Bool) → eqb (get_or s at 0) 10 ≡ t → (u : Bool) → eqb (at + 1) (length s) ≡ u → (t && u) ≡ true → drop at s ≡ 10 ∷ []
      go true t true u h =
          let l : length s ≤ at + 1 = omega (arith, eqb-true (at + 1) (length s) u) in
          (byte_stands s at 10 (omega arith) (eqb-true (get_or s at 0) 10 t)).here ∙ ap (λ (l : List ℕ). 10 ∷ l) (drop_of_length-le s l)
      go true t false u h = let z : ◌≡◌ {A = ℕ} 0 1 = cc in absurd (omega arith)
      go false t u v h = let z : ◌≡◌ {A = ℕ} 0 1 = cc in absurd (omega arith)

  ends-here : drop at s ≡ 10 ∷ [] → ends_at s at ≡ true
  unfolding ends_at
  ends-here e =
      let b : get_or s at 0 ≡ 10 = sym (head_of s at) ∙ ap (λ (l : List ℕ). get_or l 0 0) e in
      rw (eq-eqb (get_or s at 0) 10 b, eq-eqb (at + 1) (length s) (omega (arith, length-drop at s, ap length e)))

  goes_on : (t : List ℕ) → drop at s ≡ 9 ∷ t → ends_at s at ≡ false
  unfolding ends_at
  goes_on t e =
      let b : get_or s at 0 ≡ 9 = sym (head_of s at) ∙ ap (λ (l : List ℕ). get_or l 0 0) e in
      rw (ne_eqb (get_or s at 0) 10 (omega arith))

-- ---- the versions

-- what was read from a place on: versions behind those seen, up to the newline
record ReadOn (stamp left : ℕ) (s : List ℕ) (at : ℕ) (seen : List Item) (was : ℕ) (items : List Item) : Type 0 where
  rest : List Item
  all : items ≡ seen ++ rest
  same : stamp ≡ was
  text : drop at s ≡ items_text rest ++ (10 ∷ [])
  ranges : Every InRanges rest
  some : 1 ≤ length rest
  few : length rest ≤ left
  apart : distinct items ≡ true

distinct_is : (stamp : ℕ) (xs : List Item) (was : ℕ) (items : List Item) → if_distinct stamp xs ≡ whole was items → (stamp ≡ was) × (items ≡ xs) × (distinct xs ≡ true)
unfolding if_distinct
distinct_is stamp xs was items q = go (distinct xs) refl q
  where
    go : (t : Bool) → distinct xs ≡ t → cond t (whole stamp xs) bad ≡ whole was items → (stamp ≡ was) × (items ≡ xs) × (distinct xs ≡ true)
    go true d q = let a : stamp ≡ was = cc in let b : items ≡ xs = cc in (a, b, d)
    go false d q = no_reading was items q

module _ (stamp : ℕ) (s : List ℕ) (was : ℕ) (items : List Item) where
  -- one version, and the end
  read-last : (left at : ℕ) (seen : List Item) (i : Item) (e : ℕ) → ItemAt s at i e → ends_at s e ≡ true → if_distinct stamp (seen ++ (i ∷ [])) ≡ whole was items
      → ReadOn stamp (suc left) s at seen was items
  unfolding joined
  read-last left at seen i e p h q =
      let c : (stamp ≡ was) × (items ≡ seen ++ (i ∷ [])) × (distinct (seen ++ (i ∷ [])) ≡ true) = distinct_is stamp (seen ++ (i ∷ [])) was items q in
      record {
        rest = i ∷ [];
        all = c.1;
        same = c.0;
        text = p.text ∙ ap (λ (l : List ℕ). item_text i ++ l) (ends-text s e h) ∙ ap (λ (l : List ℕ). l ++ (10 ∷ [])) (sym (append-nil (item_text i)));
        ranges = also p.ranges none;
        some = omega arith;
        few = omega arith;
        apart = ap distinct c.1 ∙ c.2;
      }

  -- one version, and more
  read_more : (left at : ℕ) (seen : List Item) (i : Item) (e : ℕ) → ItemAt s at i e → ReadOn stamp left s e (seen ++ (i ∷ [])) was items → ReadOn stamp (suc left) s at seen was items
  unfolding joined
  read_more left at seen i e p r =
      record {
        rest = i ∷ r.rest;
        all = r.all ∙ append_assoc seen (i ∷ []) r.rest;
        same = r.same;
        text = p.text ∙ ap (λ (l : List ℕ). item_text i ++ l) r.text ∙ sym (append_assoc (item_text i) (items_text r.rest) (10 ∷ []));
        ranges = also p.ranges r.ranges;
        some = omega arith;
        few = omega (arith, r.few);
        apart = r.apart;
      }

  items_read : (left at : ℕ) (seen : List Item) → items_at stamp left s at seen ≡ whole was items → ReadOn stamp left s at seen was items
  unfolding items_at
  items_read zero at seen q = no_reading was items q
  items_read (suc left) at seen q =
      let t : Took (item_at s at) (λ i e. cond (ends_at s e) (if_distinct stamp (seen ++ (i ∷ []))) (items_at stamp left s e (seen ++ (i ∷ [])))) (whole was items) =
      piece_took (item_at s at) (λ i e. cond (ends_at s e) (if_distinct stamp (seen ++ (i ∷ []))) (items_at stamp left s e (seen ++ (i ∷ [])))) bad (whole was items) (no_reading was items) q in
      go t.v t.e (item-reads s at t.v t.e t.is) (ends_at s t.e) refl (items_read left t.e (seen ++ (t.v ∷ []))) t.goes
    where
      go : (i : Item) (e : ℕ) → ItemAt s at i e → (t : Bool) → ends_at s e ≡ t → (items_at stamp left s e (seen ++ (i ∷ [])) ≡ whole was items → ReadOn stamp left s e (seen ++ (i ∷ [])) was items)
          → cond t (if_distinct stamp (seen ++ (i ∷ []))) (items_at stamp left s e (seen ++ (i ∷ []))) ≡ whole was items → ReadOn stamp (suc left) s at seen was items
      go i e p true h r q = read-last left at seen i e p h q
      go i e p false h r q = read_more left at seen i e p (r q)

module _ (stamp : ℕ) (s : List ℕ) where
  -- the first version of a text that is read on
  first_back : (at : ℕ) (i : Item) (rest : List Item) → drop at s ≡ items_text (i ∷ rest) ++ (10 ∷ []) → InRanges i
      → (item_at s at ≡ Some (i, at + length (item_text i))) × (drop (at + length (item_text i)) s ≡ items_text rest ++ (10 ∷ []))
  unfolding joined
  first_back at i rest q p =
      let text : drop at s ≡ item_text i ++ (items_text rest ++ (10 ∷ [])) = q ∙ append_assoc (item_text i) (items_text rest) (10 ∷ []) in
      (item_back s at i (items_text rest ++ (10 ∷ [])) text (stops_items rest []) p, after s (item_text i) (items_text rest ++ (10 ∷ [])) at text)

  items_back : (left at : ℕ) (seen rest : List Item) → drop at s ≡ items_text rest ++ (10 ∷ []) → Every InRanges rest → 1 ≤ length rest → length rest ≤ left → distinct (seen ++ rest) ≡ true
      → items_at stamp left s at seen ≡ whole stamp (seen ++ rest)
  unfolding items_at on_piece if_distinct joined item_text
  items_back left at seen [] text none some few d = absurd (omega arith)
  items_back zero at seen (i ∷ rest) text (also p ps) some few d = absurd (omega arith)
  items_back (suc left) at seen (i ∷ []) text (also p none) some few d =
      let f : (item_at s at ≡ Some (i, at + length (item_text i))) × (drop (at + length (item_text i)) s ≡ 10 ∷ []) = first_back at i [] text p in
      rw (f.0, ends-here s (at + length (item_text i)) f.1, d)
  items_back (suc left) at seen (i ∷ j ∷ rest) text (also p (also q ps)) some few d =
      let f : (item_at s at ≡ Some (i, at + length (item_text i))) × (drop (at + length (item_text i)) s ≡ items_text (j ∷ rest) ++ (10 ∷ [])) = first_back at i (j ∷ rest) text p in
      let again : items_at stamp left s (at + length (item_text i)) (seen ++ (i ∷ [])) ≡ whole stamp ((seen ++ (i ∷ [])) ++ (j ∷ rest)) =
      items_back left (at + length (item_text i)) (seen ++ (i ∷ [])) (j ∷ rest) f.1 (also q ps) (omega arith) (omega arith) (ap distinct (append_assoc seen (i ∷ []) (j ∷ rest)) ∙ d) in
      rw (f.0, goes_on s (at + length (item_text i)) _ f.1) (again ∙ ap (whole stamp) (append_assoc seen (i ∷ []) (j ∷ rest)))

-- ---- the line

module _ (s : List ℕ) (stamp : ℕ) (items : List Item) where
  line_reads : read_line s ≡ whole stamp items → (s ≡ message_text stamp items) × IsMessage stamp items
  unfolding read_line message_text
  line_reads q = go (eqb (get_or s 0 0) 112) refl q
    where
      line_is : (was e : ℕ) → eqb (get_or s 0 0) 112 ≡ true → Tabbed (naturals 1 4294967295) s 1 (pos was) e → ReadOn was 16 s e [] stamp items → (s ≡ message_text stamp items) × IsMessage stamp items
      line_is was e h t r =
          let first : s ≡ 112 ∷ drop 1 s = (byte_stands s 0 112 (omega arith) (eqb-true (get_or s 0 0) 112 h)).here in
          let text : drop 1 s ≡ field (pos was) ++ items_text items ++ (10 ∷ []) =
          (tabbed_stands s 1 t).here
          ∙ ap (λ (l : List ℕ). field (pos was) ++ l) (r.text ∙ ap (λ (l : List Item). items_text l ++ (10 ∷ [])) (sym r.all))
          ∙ sym (append_assoc (field (pos was)) (items_text items) (10 ∷ [])) in (
            first ∙ ap (λ (l : List ℕ). 112 ∷ l) text ∙ ap (λ (n : ℕ). 112 ∷ (field (pos n) ++ items_text items ++ (10 ∷ []))) r.same,
            record {
              early = omega (arith, t.reads.within.0, r.same);
              late = omega (arith, t.reads.within.1, r.same);
              some = rw r.all r.some;
              few = rw r.all r.few;
              ranges = rw r.all r.ranges;
              apart = (distinct_exactly items).0 r.apart;
            },
          )

      go : (t : Bool) → eqb (get_or s 0 0) 112 ≡ t → cond t (on_number (natural_behind_tab s 1 1 4294967295) (λ was e. items_at was 16 s e []) bad) bad ≡ whole stamp items → (s ≡ message_text stamp items) × IsMessage stamp items
      go true h q =
          let t : Took (natural_behind_tab s 1 1 4294967295) (λ was e. items_at was 16 s e []) (whole stamp items) =
          number_took (natural_behind_tab s 1 1 4294967295) (λ was e. items_at was 16 s e []) bad (whole stamp items) (no_reading stamp items) q in
          line_is t.v t.e h ((natural_tabbed s 1 1 4294967295 t.v t.e).0 t.is) (items_read t.v s stamp items 16 t.e [] t.goes)
      go false h q = no_reading stamp items q

line-starts : (stamp : ℕ) (items : List Item) → eqb (get_or (message_text stamp items) 0 0) 112 ≡ true
unfolding message_text
line-starts stamp items = refl

line-behind : (stamp : ℕ) (items : List Item) → drop 1 (message_text stamp items) ≡ field (pos stamp) ++ (items_text items ++ (10 ∷ []))
unfolding message_text
line-behind stamp items = append_assoc (field (pos stamp)) (items_text items) (10 ∷ [])

-- reading what was written gives the same stamp and versions back
pub line_back : (stamp : ℕ) (items : List Item) → IsMessage stamp items → read_line (message_text stamp items) ≡ whole stamp items
unfolding read_line on_number
line_back stamp items f =
    let s : List ℕ = message_text stamp items in
    let text : drop 1 s ≡ field (pos stamp) ++ (items_text items ++ (10 ∷ [])) = line-behind stamp items in
    let t : Tabbed (naturals 1 4294967295) s 1 (pos stamp) (1 + length (field (pos stamp))) =
    tabbed_at s 1 (naturals 1 4294967295) (pos stamp) (items_text items ++ (10 ∷ [])) text (stops_items items []) (f.early, f.late) in
    let left : drop (1 + length (field (pos stamp))) s ≡ items_text items ++ (10 ∷ []) = after s (field (pos stamp)) (items_text items ++ (10 ∷ [])) 1 text in
    rw (line-starts stamp items, (natural_tabbed s 1 1 4294967295 stamp (1 + length (field (pos stamp)))).1 t)
    (items_back stamp s 16 (1 + length (field (pos stamp))) [] items left f.ranges f.some f.few ((distinct_exactly items).1 f.apart))

-- the form of document 01, both ways
pub exactly : (s : List ℕ) (stamp : ℕ) (items : List Item) → (read_line s ≡ whole stamp items) ↔ ((s ≡ message_text stamp items) × IsMessage stamp items)
exactly s stamp items = (line_reads s stamp items, λ h. ap read_line h.0 ∙ line_back stamp items h.1)

-- a line is refused exactly if it is no such text
pub bad_exactly : (s : List ℕ) → (read_line s ≡ bad) ↔ ((stamp : ℕ) (items : List Item) → IsMessage stamp items → s ≡ message_text stamp items → ⊥)
bad_exactly s =
    (λ q stamp items f e. no_reading stamp items (sym q ∙ (exactly s stamp items).1 (e, f)), λ n. go (read_line s) refl n)
  where
    go : (r : Reading) → read_line s ≡ r → ((stamp : ℕ) (items : List Item) → IsMessage stamp items → s ≡ message_text stamp items → ⊥) → read_line s ≡ bad
    go (whole stamp items) q n = absurd (n stamp items (line_reads s stamp items q).1 (line_reads s stamp items q).0)
    go bad q n = q

-- ---- as the code hands it over

-- the reply in document 01's numbers
message-reply : (s : List ℕ) → read_message_reply (message_of (read_line s)) ≡ reading_reply (read_line s)
unfolding message_of
message-reply s = go (read_line s) refl
  where
    go : (r : Reading) → read_line s ≡ r → read_message_reply (message_of r) ≡ reading_reply r
    go (whole stamp items) q = ap (says stamp) (batch_items items (line_reads s stamp items q).1.few)
    go bad q = refl

pub message-answered : (s : List ℕ) {m : Option Message} → m ≡ message_of (read_line s) → (read_message_reply m ≡ reading_reply (read_line s)) × (m ≡ message_of (read_line s))
message-answered s e = (ap read_message_reply e ∙ message-reply s, e)

-- a message of the form that was put at the front of a room is read back from there
pub written_back : {b c : List ℕ} {r : ℕ} (stamp : ℕ) (items : List Item) → IsMessage stamp items → Puts b c 0 (message_text stamp items) r → read_line (take r c) ≡ whole stamp items
written_back stamp items f p = ap read_line (puts_front p) ∙ line_back stamp items f

-- what `write_message` promises of its reply and of its room, where it answers a length: the text was put at the front, and it ends there
module _ (stamp : ℕ) (items : List Item) (room : List ℕ) {after : List ℕ} {r : Result ℕ Refusal} (reply : message_reply r ≡ text_reply room (message_text stamp items)) (buffer : after ≡ put room 0 (message_text stamp items)) {n : ℕ} (ok : r ≡ Ok n) where
  pub written_puts : Puts room after 0 (message_text stamp items) n
  written_puts = go (dec_lt (length room) (length (message_text stamp items)))
    where
      answer : bytes n ≡ text_reply room (message_text stamp items)
      answer = sym (ap message_reply ok) ∙ reply

      go : Dec (length room < length (message_text stamp items)) → Puts room after 0 (message_text stamp items) n
      go (yes h) = let f : bytes n ≡ refused 17 = answer ∙ text-full room (message_text stamp items) h in let z : ◌≡◌ {A = ℕ} 0 1 = cc in absurd (omega arith)
      go (no h) =
          let f : bytes n ≡ bytes (length (message_text stamp items)) = answer ∙ text-fits room (message_text stamp items) (omega arith) in
          let e : n ≡ length (message_text stamp items) = cc in
          subst (λ (k : ℕ). Puts room after 0 (message_text stamp items) k) (omega (arith, e)) (puts_one (omega arith) buffer)

  -- a message of the form that it wrote is read back from its room
  pub message_read_back : IsMessage stamp items → read_line (take n after) ≡ whole stamp items
  message_read_back f = written_back stamp items f written_puts
