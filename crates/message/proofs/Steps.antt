-- Reading a line, step by step: what the proofs of the reader's code cite.
use Prim.Native.Nat.{ℕ, suc, ◌+◌, ◌-◌, ◌≤◌, ◌<◌}
use native.Mathlib.Numerals.{add-one}
use native.Mathlib.Omega.{arith}
use mathlib.Core.Path.{◌≡◌, refl, sym, ap, ◌∙◌}
use mathlib.Core.Bool.{Bool, true, false, cond}
use mathlib.Core.List.{List, [], ◌∷◌, ◌++◌}
use borrow.Author.Tests.{eq-eqb, ne_eqb}
use lib.IntN.{ℤ}
use lib.ListN.{length, get_or, take, drop, drop_of_length-le, length-drop, length-append}
use lib.Seq.{drop-cons, take_all}
use mir.Syntax.{w32}
use mir.Val.{SFits}
use Rattle.units.specs.Batch.{added}
use Rattle.units.specs.declared.Item.{Item}
use Rattle.units.specs.declared.Batch.{Batch}
use Rattle.units.proofs.Batches.{batch_items, batch_added}
use Rattle.lists.specs.Lists.{any}
use Rattle.decimal.specs.Read.{natural_behind_tab, signed_behind_tab, on_number}
use Rattle.decimal.proofs.Values.{value_small}
use Rattle.decimal.proofs.Tabs.{signed_tabbed}
use Rattle.message.specs.Line.{no_item, batch_of}
use Rattle.std.specs.Prelude.{Option, Some, None}
use Rattle.std.specs.Bool.{then_some}
use Rattle.message.specs.Line.{items_of}
use Rattle.message.specs.Read.{Reading, whole, bad, is_of_key, distinct, on_piece, item_at, ends_at, if_distinct, items_at, read_line, message_of}
use Rattle.message.specs.declared.read.Message.{Message}

-- ---- a version

-- a value that was read is one of 32 bits
pub value-fits : (s : List ℕ) (at : ℕ) {n : Option (ℤ × ℕ)} {v : ℤ} {e : ℕ} → n ≡ signed_behind_tab s at → n ≡ Some (v, e) → SFits w32 v
value-fits s at {v = v} {e = e} p q = record { sfits = value_small v ((signed_tabbed s at v e).0 (sym p ∙ q)).reads.within }

-- ---- "no key twice"

module _ (l : List Item) (i : ℕ) where
  pub distinct_over : length l ≤ i → distinct (drop i l) ≡ true
  unfolding distinct
  distinct_over h = rw (drop_of_length-le l h)

  module _ (h : i < length l) {t : Bool} (e : t ≡ any (is_of_key (get_or l i no_item).key) (take (length l - (i + 1)) (drop (i + 1) l))) where
    behind : t ≡ any (is_of_key (get_or l i no_item).key) (drop (i + 1) l)
    behind = e ∙ ap (any (is_of_key (get_or l i no_item).key)) (take_all (length l - (i + 1)) (drop (i + 1) l) (omega (arith, length-drop (i + 1) l)))

    pub distinct_twice : t ≡ true → distinct (drop i l) ≡ false
    unfolding distinct
    distinct_twice q = rw (drop-cons l i no_item h, ← add-one i, ← behind, q)

    pub distinct_on : t ≡ false → distinct (drop i l) ≡ distinct (drop (i + 1) l)
    unfolding distinct
    distinct_on q = rw (drop-cons l i no_item h, ← add-one i, ← behind, q) (ap (λ (k : ℕ). distinct (drop k l)) (sym (add-one i)))

-- ---- the versions of a line

-- n versions were seen, they make the batch, and what is left of the line gives the whole answer
pub record SoFar (stamp : ℕ) (s : List ℕ) (from : ℕ) (batch : Batch) (at n : ℕ) : Type 0 where
  pub seen : List Item
  pub many : length seen ≡ n
  pub made : batch ≡ batch_of seen
  pub left : items_at stamp (16 - n) s at seen ≡ items_at stamp 16 s from []

module _ (stamp : ℕ) (s : List ℕ) (from : ℕ) where
  module _ {batch : Batch} {at n : ℕ} (f : SoFar stamp s from batch at n) where
    -- sixteen versions and no end
    pub items_full : 16 ≤ n → None ≡ message_of (items_at stamp 16 s from [])
    unfolding items_at message_of
    items_full h = ap message_of (ap (λ (k : ℕ). items_at stamp k s at f.seen) zero_left ∙ f.left)
      where
        zero_left : 0 ≡ 16 - n
        zero_left = omega arith

    module _ (h : n < 16) {p : Option (Item × ℕ)} (q : p ≡ item_at s at) where
      fuel : suc (16 - (n + 1)) ≡ 16 - n
      fuel = omega arith

      pub items_none : p ≡ None → None ≡ message_of (items_at stamp 16 s from [])
      unfolding items_at message_of on_piece
      items_none b =
          let x : bad ≡ items_at stamp (suc (16 - (n + 1))) s at f.seen = rw (← q, b) in
          ap message_of (x ∙ ap (λ (k : ℕ). items_at stamp k s at f.seen) fuel ∙ f.left)

      module _ {i : Item} {e : ℕ} (b : p ≡ Some (i, e)) {more : Batch} (w : more ≡ added batch i) where
        made_now : more ≡ batch_of (f.seen ++ (i ∷ []))
        made_now = w ∙ ap (λ (x : Batch). added x i) f.made ∙ batch_added f.seen i (omega (arith, f.many))

        long : length (f.seen ++ (i ∷ [])) ≡ n + 1
        long = length-append f.seen (i ∷ []) ∙ ap (λ (k : ℕ). k + 1) f.many

        -- what the line goes on to, whether it ends here or not
        onward : Bool → Reading
        onward t = cond t (if_distinct stamp (f.seen ++ (i ∷ []))) (items_at stamp (16 - (n + 1)) s e (f.seen ++ (i ∷ [])))

        one_more : (t : Bool) → ends_at s e ≡ t → onward t ≡ items_at stamp 16 s from []
        unfolding items_at on_piece onward
        one_more t h =
            let x : onward (ends_at s e) ≡ items_at stamp (suc (16 - (n + 1))) s at f.seen = rw (← q, b) in
            ap onward (sym h) ∙ x ∙ ap (λ (k : ℕ). items_at stamp k s at f.seen) fuel ∙ f.left

        pub items_end : ends_at s e ≡ true → then_some (distinct (items_of more)) (record { stamp = record { 0 = stamp }; batch = more }) ≡ message_of (items_at stamp 16 s from [])
        unfolding if_distinct message_of onward
        items_end t =
            rw (made_now, batch_items (f.seen ++ (i ∷ [])) (omega (arith, long))) (both (distinct (f.seen ++ (i ∷ [])))) ∙ ap message_of (one_more true t)
          where
            both : (t : Bool) → then_some t (record { stamp = record { 0 = stamp }; batch = batch_of (f.seen ++ (i ∷ [])) }) ≡ message_of (cond t (whole stamp (f.seen ++ (i ∷ []))) bad)
            both true = refl
            both false = refl

        pub items_on : ends_at s e ≡ false → SoFar stamp s from more e (n + 1)
        unfolding onward
        items_on t = record { seen = f.seen ++ (i ∷ []); many = long; made = made_now; left = one_more false t }

-- ---- the line

module _ (s : List ℕ) where
  pub line_no_letter : (get_or s 0 0 ≡ 112 → ⊥) → None ≡ message_of (read_line s)
  unfolding read_line message_of
  line_no_letter h = rw (ne_eqb (get_or s 0 0) 112 h)

  module _ (h : get_or s 0 0 ≡ 112) where
    pub line_no_stamp : None ≡ natural_behind_tab s 1 1 4294967295 → None ≡ message_of (read_line s)
    unfolding read_line message_of on_number
    line_no_stamp q = rw (eq-eqb (get_or s 0 0) 112 h, ← q)

    pub line_goes : {v e : ℕ} {r : Option Message} → Some (v, e) ≡ natural_behind_tab s 1 1 4294967295 → r ≡ message_of (items_at v 16 s e []) → r ≡ message_of (read_line s)
    unfolding read_line on_number
    line_goes q d = rw (eq-eqb (get_or s 0 0) 112 h, ← q) d
