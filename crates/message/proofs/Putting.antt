-- A line, put field by field and version by version.
use Rattle.std.proofs.Common.{ℕ, ◌+◌, ◌*◌, ◌≤◌, ◌<◌, ◌≡◌, Option, Some, None, IsSome, Bool, true, false, cond, leb, zero-add, List, [], ◌∷◌, ◌++◌, length, get_or, take, refl, sym, ap, ◌∙◌, arith, add-one, append_assoc, append-nil, length-append, take_all}
use mir.Syntax.{w32}
use mir.Val.{SFits}
use lib.IntN.{pos}
use lib.Seq.{take-suc}
use Rattle.std.specs.Option.{ok_or}
use Rattle.units.specs.declared.Item.{Item}
use Rattle.units.specs.declared.refusal.Refusal.TheVariants.{NoRoom}
use Rattle.decimal.specs.Text.{field, joined}
use Rattle.decimal.specs.Write.{wrote}
use Rattle.decimal.proofs.Putting.{joined_snoc}
use Rattle.decimal.proofs.Digits.{decimal_32}
use Rattle.texts.specs.Text.{grown, fitted}
use Rattle.texts.proofs.Growing.{grown_room, fitted_room}
use Rattle.message.specs.Line.{item_text, items_text, message_text, no_item}
use Rattle.message.specs.Write.{message_reply, bytes, refused, text_reply}
use Rattle.message.proofs.Lengths.{item-length, item-longest}

-- ---- a line that grows

-- a tab was put behind the line `old`, and the text t is to go behind it
module _ (old t : List ℕ) {now : List ℕ} (tab : now ≡ old ++ (9 ∷ [])) (room : length old + length (9 ∷ t) ≤ 445) where
  fits : length now + length t ≤ 445
  fits = omega (arith, ap length tab, length-append old (9 ∷ []))

  pub field_some : {w : Option Unit} → w ≡ fitted 445 now t → IsSome w
  field_some p = rw (p ∙ fitted_room 445 now t fits)

  pub field_put : {c : List ℕ} → c ≡ grown 445 now t → c ≡ old ++ (9 ∷ t)
  field_put q = q ∙ grown_room 445 now t fits ∙ ap (λ (l : List ℕ). l ++ t) tab ∙ append_assoc old (9 ∷ []) t

-- a version, field by field; 27 bytes are the most that it takes
module _ (old : List ℕ) (i : Item) (room : length old + 27 ≤ 445) (k : i.key < 256) (o : i.ordinal.0 < 4294967296) (v : SFits w32 i.value) where
  long : length (field (pos i.key)) + length (field (pos i.ordinal.0)) + length (field i.value) ≤ 27
  long = omega (arith, item-length i, item-longest i k o v.sfits)

  pub key-room : length old + length (field (pos i.key)) ≤ 445
  key-room = omega (arith, long)

  module _ {a : List ℕ} (p : a ≡ old ++ field (pos i.key)) where
    pub ordinal-room : length a + length (field (pos i.ordinal.0)) ≤ 445
    ordinal-room = omega (arith, long, ap length p, length-append old (field (pos i.key)))

    module _ {b : List ℕ} (q : b ≡ a ++ field (pos i.ordinal.0)) where
      pub value_room : length b + length (field i.value) ≤ 445
      value_room = omega (arith, long, ap length p, length-append old (field (pos i.key)), ap length q, length-append a (field (pos i.ordinal.0)))

      pub item-put : {c : List ℕ} → c ≡ b ++ field i.value → (c ≡ old ++ item_text i) × (length c ≤ length old + 27)
      unfolding item_text
      item-put s = (
        s ∙ rw (q, p, append_assoc old (field (pos i.key)) (field (pos i.ordinal.0)), append_assoc old (field (pos i.key) ++ field (pos i.ordinal.0)) (field i.value)),
        omega (
          arith,
          long,
          ap length p,
          length-append old (field (pos i.key)),
          ap length q,
          length-append a (field (pos i.ordinal.0)),
          ap length s,
          length-append b (field i.value),
        ),
      )

-- ---- the line

-- the letter, the stamp and the first n versions
pub record LineTo (stamp : ℕ) (items : List Item) (line : List ℕ) (n : ℕ) : Type 0 where
  pub text : line ≡ 112 ∷ (field (pos stamp) ++ items_text (take n items))
  pub long : length line ≤ 12 + 27 * n

module _ (stamp : ℕ) (small : stamp < 4294967296) where
  pub stamp-room : {line : List ℕ} → line ≡ 112 ∷ [] → length line + length (field (pos stamp)) ≤ 445
  stamp-room e = omega (arith, ap length e, decimal_32 stamp small)

  pub line_none : (items : List Item) {letter line : List ℕ} → letter ≡ 112 ∷ [] → line ≡ letter ++ field (pos stamp) → LineTo stamp items line 0
  unfolding joined
  line_none items {letter} {line} d e =
      let f : line ≡ 112 ∷ field (pos stamp) = rw d at e in
      record { text = f ∙ ap (λ (l : List ℕ). 112 ∷ l) (sym (append-nil (field (pos stamp)))); long = omega (arith, ap length f, decimal_32 stamp small) }

module _ (stamp : ℕ) (items : List Item) {line : List ℕ} {n : ℕ} (p : LineTo stamp items line n) where
  pub line_more : {more : List ℕ} → n < length items → more ≡ line ++ item_text (get_or items n no_item) → length more ≤ length line + 27 → LineTo stamp items more (n + 1)
  line_more h e l =
      let x : Item = get_or items n no_item in
      let next : take (n + 1) items ≡ take n items ++ (x ∷ []) = ap (λ (k : ℕ). take k items) (add-one n) ∙ take-suc items n no_item h in
      record {
        text =
            e
            ∙ ap (λ (a : List ℕ). a ++ item_text x) p.text
            ∙ ap (λ (a : List ℕ). 112 ∷ a) (append_assoc (field (pos stamp)) (items_text (take n items)) (item_text x))
            ∙ ap (λ (a : List ℕ). 112 ∷ (field (pos stamp) ++ a)) (sym (joined_snoc item_text (take n items) x))
            ∙ ap (λ (a : List Item). 112 ∷ (field (pos stamp) ++ items_text a)) (sym next);
        long = omega (arith, p.long);
      }

  pub line_all : {whole : List ℕ} → length items ≤ n → whole ≡ line ++ (10 ∷ []) → whole ≡ message_text stamp items
  unfolding message_text
  line_all h e = e ∙ ap (λ (a : List ℕ). a ++ (10 ∷ [])) (p.text ∙ ap (λ (a : List Item). 112 ∷ (field (pos stamp) ++ items_text a)) (take_all n items h))

-- ---- the line handed over

-- what `put_text` answered, or NoRoom in its place
pub handed : (room text : List ℕ) {line : List ℕ} {w : Option ℕ} → w ≡ wrote room 0 line → line ≡ text → message_reply (ok_or w NoRoom) ≡ text_reply room text
unfolding wrote text_reply
handed room text p q = rw (p, q, zero-add) (go (leb (length text) (length room)))
  where
    go : (t : Bool) → message_reply (ok_or (cond t (Some (length text)) None) NoRoom) ≡ cond t (bytes (length text)) (refused 17)
    go true = refl
    go false = refl
