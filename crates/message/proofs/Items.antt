-- A version is read exactly if its text stands there, in its ranges, with no digit behind it.
use Prim.Native.Nat.{ℕ, ◌+◌}
use native.Mathlib.Omega.{arith}
use mathlib.Core.Path.{◌≡◌, refl, sym, ap, ◌∙◌, subst}
use mathlib.Core.List.{List, [], ◌∷◌, ◌++◌, append_assoc}
use lib.IntN.{ℤ, pos}
use lib.ListN.{length, drop, length-append}
use Rattle.units.specs.declared.Item.{Item}
use Rattle.decimal.specs.Text.{field, is_digit, joined}
use Rattle.decimal.specs.Read.{naturals, values, natural_behind_tab, signed_behind_tab, on_number, Tabbed}
use Rattle.decimal.proofs.Reading.{Stops, after}
use Rattle.decimal.proofs.Tabs.{natural_tabbed, signed_tabbed, tabbed_stands, tabbed_at, Took, number_took}
use Rattle.message.specs.Line.{item_text, items_text, InRanges}
use Rattle.message.specs.Read.{on_value, on_piece, item_at}
use Rattle.std.specs.Prelude.{Option, Some, None}
use Rattle.std.proofs.lemmas.Option.{some_pair_parts}

-- the version i stands in s from a place up to e, in its ranges
pub record ItemAt (s : List ℕ) (at : ℕ) (i : Item) (e : ℕ) : Type 0 where
  pub text : drop at s ≡ item_text i ++ drop e s
  pub ranges : InRanges i

-- a version and the place behind it
abbrev piece : Item → ℕ → Option (Item × ℕ)
piece i e = Some (i, e)

no_piece : {A : Type 0} (i : Item) (e : ℕ) → None ≡ piece i e → A
no_piece i e q = let z : ◌≡◌ {A = ℕ} 0 1 = cc in absurd (omega arith)

value_took : {A : Type 0} (n : Option (ℤ × ℕ)) (f : ℤ → ℕ → A) (z r : A) → (z ≡ r → ⊥) → on_value n f z ≡ r → Took n f r
unfolding on_value
value_took (Some (v, e)) f z r no-bad q = record { v = v; e = e; is = refl; goes = q }
value_took None f z r no-bad q = absurd (no-bad q)

module _ (s : List ℕ) (at : ℕ) where
  -- three fields, one behind the other
  fields_join : (k o : ℕ) (v : ℤ) (a b e : ℕ) → Tabbed (naturals 0 63) s at (pos k) a → Tabbed (naturals 1 4096) s a (pos o) b → Tabbed values s b v e
      → ItemAt s at (record { key = k; ordinal = record { 0 = o }; value = v }) e
  unfolding item_text
  fields_join k o v a b e p q r =
      record {
        text =
            (tabbed_stands s at p).here
            ∙ ap (λ (l : List ℕ). field (pos k) ++ l) ((tabbed_stands s a q).here ∙ ap (λ (l : List ℕ). field (pos o) ++ l) (tabbed_stands s b r).here)
            ∙ sym (append_assoc (field (pos k)) (field (pos o)) (field v ++ drop e s))
            ∙ sym (append_assoc (field (pos k) ++ field (pos o)) (field v) (drop e s));
        ranges = record { key = p.reads.within.1; first = q.reads.within.0; last = q.reads.within.1; value = r.reads.within };
      }

  -- what is answered stands there
  pub item-reads : (i : Item) (e : ℕ) → item_at s at ≡ Some (i, e) → ItemAt s at i e
  unfolding item_at
  item-reads i e q =
      let t : Took (natural_behind_tab s at 0 63) (λ k a. on_number (natural_behind_tab s a 1 4096) (λ o b. on_value (signed_behind_tab s b) (λ v e. piece (record { key = k; ordinal = record { 0 = o }; value = v }) e) None) None) (piece i e) =
      number_took (natural_behind_tab s at 0 63) (λ k a. on_number (natural_behind_tab s a 1 4096) (λ o b. on_value (signed_behind_tab s b) (λ v e. piece (record { key = k; ordinal = record { 0 = o }; value = v }) e) None) None) None (piece i e) (no_piece i e) q in
      let u : Took (natural_behind_tab s t.e 1 4096) (λ o b. on_value (signed_behind_tab s b) (λ v e. piece (record { key = t.v; ordinal = record { 0 = o }; value = v }) e) None) (piece i e) =
      number_took (natural_behind_tab s t.e 1 4096) (λ o b. on_value (signed_behind_tab s b) (λ v e. piece (record { key = t.v; ordinal = record { 0 = o }; value = v }) e) None) None (piece i e) (no_piece i e) t.goes in
      let w : Took (signed_behind_tab s u.e) (λ v e. piece (record { key = t.v; ordinal = record { 0 = u.v }; value = v }) e) (piece i e) =
      value_took (signed_behind_tab s u.e) (λ v e. piece (record { key = t.v; ordinal = record { 0 = u.v }; value = v }) e) None (piece i e) (no_piece i e) u.goes in
      let d : ItemAt s at (record { key = t.v; ordinal = record { 0 = u.v }; value = w.v }) w.e =
      fields_join t.v u.v w.v t.e u.e w.e ((natural_tabbed s at 0 63 t.v t.e).0 t.is) ((natural_tabbed s t.e 1 4096 u.v u.e).0 u.is) ((signed_tabbed s u.e w.v w.e).0 w.is) in
      same (record { key = t.v; ordinal = record { 0 = u.v }; value = w.v }) w.e w.goes d
    where
      same : (j : Item) (f : ℕ) → piece j f ≡ piece i e → ItemAt s at j f → ItemAt s at i e
      same j f q d =
          let p : (j ≡ i) × (f ≡ e) = some_pair_parts j i f e q in
          subst (λ (n : ℕ). ItemAt s at i n) p.1 (subst (λ (x : Item). ItemAt s at x f) p.0 d)

  -- what stands there is answered
  pub item_back : (i : Item) (rest : List ℕ) → drop at s ≡ item_text i ++ rest → Stops rest → InRanges i → item_at s at ≡ Some (i, at + length (item_text i))
  unfolding item_at on_number on_value item_text is_digit
  item_back i rest q n r =
      let k : List ℕ = field (pos i.key) in
      let o : List ℕ = field (pos i.ordinal.0) in
      let v : List ℕ = field i.value in
      let text : drop at s ≡ k ++ (o ++ (v ++ rest)) = q ∙ append_assoc (k ++ o) v rest ∙ append_assoc k o (v ++ rest) in
      let text₂ : drop (at + length k) s ≡ o ++ (v ++ rest) = after s k (o ++ (v ++ rest)) at text in
      let text₃ : drop (at + length k + length o) s ≡ v ++ rest = after s o (v ++ rest) (at + length k) text₂ in
      let ends : at + length k + length o + length v ≡ at + length (k ++ o ++ v) = omega (arith, length-append (k ++ o) v, length-append k o) in
      rw (
        (natural_tabbed s at 0 63 i.key (at + length k)).1 (tabbed_at s at (naturals 0 63) (pos i.key) (o ++ (v ++ rest)) text refl (omega arith, r.key)),
        (natural_tabbed s (at + length k) 1 4096 i.ordinal.0 (at + length k + length o)).1 (tabbed_at s (at + length k) (naturals 1 4096) (pos i.ordinal.0) (v ++ rest) text₂ refl (r.first, r.last)),
        (signed_tabbed s (at + length k + length o) i.value (at + length k + length o + length v)).1 (tabbed_at s (at + length k + length o) values i.value rest text₃ n r.value),
      )
      (ap (λ (n : ℕ). Some (i, n)) ends)

pub piece_took : {A : Type 0} (p : Option (Item × ℕ)) (f : Item → ℕ → A) (z r : A) → (z ≡ r → ⊥) → on_piece p f z ≡ r → Took p f r
unfolding on_piece
piece_took (Some (i, e)) f z r no-bad q = record { v = i; e = e; is = refl; goes = q }
piece_took None f z r no-bad q = absurd (no-bad q)

-- versions and a newline begin with no digit
pub stops_items : (items : List Item) (rest : List ℕ) → Stops (items_text items ++ (10 ∷ rest))
unfolding joined item_text is_digit
stops_items [] rest = refl
stops_items (i ∷ is) rest = refl
