-- Taking, step by step: what the proofs of the copy's code cite.
use Prim.Native.Nat.{ℕ, ◌+◌, ◌≤◌, ◌<◌}
use native.Mathlib.Numerals.{add-one}
use native.Mathlib.Omega.{arith}
use mathlib.Core.Path.{◌≡◌, refl, sym, ap, ◌∙◌}
use mathlib.Core.Bool.{Bool, true, false, cond}
use mathlib.Core.List.{List, [], ◌∷◌, ◌++◌, map}
use lib.Dec.{ltb}
use borrow.Author.Tests.{lt-ltb, le-ltb}
use lib.ListN.{length, get_or, set, take, drop, length-map, drop_of_length-le, get_or-map}
use lib.Seq.{drop-cons, set_out, take-suc, take-suc-set, take_all}
use Rattle.units.specs.Version.{start_version}
use Rattle.units.proofs.Batches.{batch_items}
use Rattle.units.specs.declared.Item.{Item}
use Rattle.units.specs.declared.Ordinal.{Ordinal}
use Rattle.units.specs.declared.Version.{Version}
use Rattle.units.specs.declared.refusal.Refusal.{Refusal}
use Rattle.units.specs.declared.refusal.Refusal.TheVariants.{NotAMessage}
use Rattle.std.specs.Prelude.{Option, Some, None, Ok, Err}
use Rattle.std.specs.Option.{ok_or}
use Rattle.message.specs.Line.{items_of, no_item, batch_of}
use Rattle.message.specs.Read.{Reading, whole, bad, read_line, message_of}
use Rattle.message.specs.declared.read.Message.{Message}
use Rattle.message.proofs.Exactly.{exactly}
use Rattle.copy.specs.Copy.{done, held, ordinal_of, ordinals_of, carried_version, replaced, take_item, take_items, take_reading, take_line, take_step}
use Rattle.copy.specs.declared.Copy.{Copy}

-- ---- one version

module _ (c : Copy) (stamp : ℕ) (i : Item) where
  -- "it replaces its own exactly if the message's ordinal is greater"
  pub item-older : i.ordinal.0 ≤ (held c i.key).ordinal.0 → take_item c stamp i ≡ c
  unfolding take_item
  item-older h = ap (λ (t : Bool). cond t (replaced c stamp i) c) (le-ltb (held c i.key).ordinal.0 i.ordinal.0 h)

  pub item-newer : (held c i.key).ordinal.0 < i.ordinal.0 → take_item c stamp i ≡ replaced c stamp i
  unfolding take_item
  item-newer h = ap (λ (t : Bool). cond t (replaced c stamp i) c) (lt-ltb (held c i.key).ordinal.0 i.ordinal.0 h)

  -- no such key
  pub item-outside : length c.versions ≤ i.key → c ≡ take_item c stamp i
  unfolding take_item
  item-outside h = go (ltb (held c i.key).ordinal.0 i.ordinal.0)
    where
      same : c ≡ replaced c stamp i
      same = ap (λ (l : List Version). record { versions = l }) (sym (set_out c.versions i.key (carried_version stamp i) h))

      go : (t : Bool) → c ≡ cond t (replaced c stamp i) c
      go true = same
      go false = refl

-- ---- a run of versions: what is left to take gives the whole

module _ (l : List Item) (stamp i : ℕ) (c : Copy) {w : Copy} (e : w ≡ take_items c stamp (drop i l)) where
  pub items_over : length l ≤ i → c ≡ w
  unfolding take_items
  items_over h = sym (e ∙ rw (drop_of_length-le l h))

  pub items_next : {d : Copy} (x : Item) → i < length l → get_or l i no_item ≡ x → d ≡ take_item c stamp x → w ≡ take_items d stamp (drop (i + 1) l)
  unfolding take_items
  items_next {d = d} x h f g =
      let s : take_items c stamp (drop i l) ≡ take_items (take_item c stamp (get_or l i no_item)) stamp (drop (i + 1) l) = rw (drop-cons l i no_item h, add-one i) in
      e ∙ s ∙ ap (λ (y : Item). take_items (take_item c stamp y) stamp (drop (i + 1) l)) f ∙ ap (λ (y : Copy). take_items y stamp (drop (i + 1) l)) (sym g)

-- ---- a line

module _ (c : Copy) (s : List ℕ) {m : Option Message} (e : m ≡ message_of (read_line s)) where
  pub line-whole : {n : Message} {d : Copy} {l : List Item} → Ok n ≡ ok_or m NotAMessage → l ≡ items_of n.batch → d ≡ take_items c n.stamp.0 l → take_step (Ok tt) d ≡ take_line c s
  unfolding take_line take_reading message_of
  line-whole {n} {d} {l} o p q = go (read_line s) refl e
    where
      go : (t : Reading) → read_line s ≡ t → m ≡ message_of t → take_step (Ok tt) d ≡ take_reading c t
      go (whole stamp items) r f =
          let few : length items ≤ 16 = ((exactly s stamp items).0 r).1.few in
          let was : Message = record { stamp = record { 0 = stamp }; batch = batch_of items } in
          let same : n ≡ was = let h : Ok n ≡ ok_or (Some was) NotAMessage = rw f at o in cc in
          let taken : take_items c n.stamp.0 l ≡ take_items c stamp items = rw (p, same) (ap (take_items c stamp) (batch_items items few)) in
          ap (λ (x : Copy). record { reply = done; copy = x }) (q ∙ taken)
      go bad r f = let h : Ok n ≡ ok_or None NotAMessage = rw f at o in let z : ◌≡◌ {A = ℕ} 0 1 = cc in absurd (omega arith)

  pub line-bad : {f : Refusal} → Err f ≡ ok_or m NotAMessage → take_step (Err f) c ≡ take_line c s
  unfolding take_line take_reading message_of
  line-bad {f} o = go (read_line s) e
    where
      go : (t : Reading) → m ≡ message_of t → take_step (Err f) c ≡ take_reading c t
      go (whole stamp items) q =
          let was : Message = record { stamp = record { 0 = stamp }; batch = batch_of items } in
          let h : Err f ≡ ok_or (Some was) NotAMessage = rw q at o in
          let z : ◌≡◌ {A = ℕ} 0 1 = cc in absurd (omega arith)
      go bad q =
          let none : Option Message = None in
          let h : Err f ≡ ok_or none NotAMessage = rw q at o in
          let g : f ≡ NotAMessage = cc in
          rw g

-- ---- the ordinals: those copied so far are the first of all

module _ (c : Copy) (all : List Ordinal) (i : ℕ) (e : take i all ≡ take i (ordinals_of c)) where
  pub ordinals-next : i < length all → i < length c.versions → take (i + 1) (set all i (held c i).ordinal) ≡ take (i + 1) (ordinals_of c)
  unfolding ordinals_of
  ordinals-next h g =
      let l : i < length (map ordinal_of c.versions) = rw (length-map c.versions ordinal_of) g in
      let f : take (i + 1) (set all i (held c i).ordinal) ≡ take i all ++ ((held c i).ordinal ∷ []) = rw (add-one i) (take-suc-set all i (held c i).ordinal h) in
      let k : take (i + 1) (map ordinal_of c.versions) ≡ take i (map ordinal_of c.versions) ++ (get_or (map ordinal_of c.versions) i (ordinal_of start_version) ∷ []) = rw (add-one i) (take-suc (map ordinal_of c.versions) i (ordinal_of start_version) l) in
      f ∙ ap (λ (x : List Ordinal). x ++ ((held c i).ordinal ∷ [])) e ∙ ap (λ (o : Ordinal). take i (map ordinal_of c.versions) ++ (o ∷ [])) (sym (get_or-map ordinal_of c.versions i start_version)) ∙ sym k

  pub ordinals_all : length all ≤ i → length c.versions ≤ i → all ≡ ordinals_of c
  unfolding ordinals_of
  ordinals_all h g =
      let l : length (map ordinal_of c.versions) ≤ i = rw (length-map c.versions ordinal_of) g in
      sym (take_all i all h) ∙ e ∙ take_all i (map ordinal_of c.versions) l
