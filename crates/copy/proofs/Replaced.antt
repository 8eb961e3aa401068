-- What a line of the form does to a copy: each of its versions replaces the copy's own exactly if its ordinal is greater, and every other key
-- stays. Every copy of 64 keys is taken.
use Prim.Native.Nat.{ℕ, ◌<◌}
use native.Mathlib.Omega.{arith}
use mathlib.Core.Path.{◌≡◌, refl, sym, ap, ◌∙◌, subst}
use mathlib.Core.Logic.{◌≢◌}
use mathlib.Core.List.{List, [], ◌∷◌, map}
use lib.ListN.{length}
use lib.Seq.{get_or-set_same}
use Rattle.lists.specs.Lists.{Every, none, also}
use Rattle.lists.specs.Members.{In, here, below, Distinct, apart}
use Rattle.lists.proofs.Images.{image_every}
use Rattle.lists.proofs.Members.{every_in, in_every, in_map}
use Rattle.units.specs.Version.{start_version}
use Rattle.units.specs.declared.Item.{Item}
use Rattle.message.specs.Line.{message_text, InRanges, IsMessage}
use Rattle.message.proofs.Exactly.{line_back}
use Rattle.copy.specs.Copy.{TakeStep, done, held, carried_version, take_item, take_items, take_reading, take_line, Replaces}
use Rattle.copy.specs.declared.Copy.{Copy}
use Rattle.copy.proofs.Steps.{item-newer, item-older}
use Rattle.copy.proofs.Newest.{item-length, item-other}

items_other : (stamp k : ℕ) (c : Copy) {items : List Item} → Every (λ (i : Item). i.key ≢ k) items → held (take_items c stamp items) k ≡ held c k
unfolding take_items
items_other stamp k c none = refl
items_other stamp k c (also {x = i} n ns) = items_other stamp k (take_item c stamp i) ns ∙ item-other c stamp i k n

items_replace : (c : Copy) (stamp : ℕ) (items : List Item) → Distinct (map (λ (i : Item). i.key) items) → (i : Item) → In i items → i.key < length c.versions
    → Replaces c (take_items c stamp items) stamp i
unfolding take_items
items_replace c stamp [] d i m l = elim m [ ]
items_replace c stamp (j ∷ is) (apart n d) i here l =
    let rest : held (take_items (take_item c stamp i) stamp is) i.key ≡ held (take_item c stamp i) i.key =
    items_other stamp i.key (take_item c stamp i) (image_every (λ (k : ℕ). k ≢ i.key) (λ (j : Item). j.key) is n) in
    record {
      newer = λ h. rest ∙ ap (λ (x : Copy). held x i.key) (item-newer c stamp i h) ∙ get_or-set_same c.versions i.key (carried_version stamp i) start_version l;
      older = λ h. rest ∙ ap (λ (x : Copy). held x i.key) (item-older c stamp i h);
    }
items_replace c stamp (j ∷ is) (apart n d) i (below m) l =
    let same : held (take_item c stamp j) i.key ≡ held c i.key = item-other c stamp j i.key (λ e. every_in n (in_map (λ (x : Item). x.key) m) (sym e)) in
    let r : Replaces (take_item c stamp j) (take_items (take_item c stamp j) stamp is) stamp i =
    items_replace (take_item c stamp j) stamp is d i m (subst (λ (k : ℕ). i.key < k) (sym (item-length c stamp j)) l) in
    record { newer = λ h. r.newer (rw same h); older = λ h. r.older (rw same h) ∙ same }

module _ (c : Copy) (full : length c.versions ≡ 64) (stamp : ℕ) (items : List Item) (form : IsMessage stamp items) where
  abbrev line : List ℕ
  line = message_text stamp items

  taken_is : take_line c line ≡ record { reply = done; copy = take_items c stamp items }
  unfolding take_line take_reading
  taken_is = rw (line_back stamp items form)

  pub line-done : (take_line c line).reply ≡ done
  line-done = ap (λ (s : TakeStep). s.reply) taken_is

  -- "For each version in a message it replaces its own exactly if the message's ordinal is greater"
  pub line_replaces : Every (Replaces c (take_line c line).copy stamp) items
  line_replaces =
      subst (λ (s : TakeStep). Every (Replaces c s.copy stamp) items) (sym taken_is) (in_every (Replaces c (take_items c stamp items) stamp) items (λ i m.
      let r : InRanges i = every_in form.ranges m in
      items_replace c stamp items form.apart i m (omega (arith, r.key))))

  -- a key that it does not name stays
  pub line-others : (k : ℕ) → Every (λ (i : Item). i.key ≢ k) items → held (take_line c line).copy k ≡ held c k
  line-others k n = ap (λ (s : TakeStep). held s.copy k) taken_is ∙ items_other stamp k c n
