-- One message has one text, which ends where its newline stands; and what is not of the form.
use Prim.Native.Nat.{ℕ, zero, suc, ◌+◌}
use native.Mathlib.Omega.{arith}
use mathlib.Core.Path.{◌≡◌, refl, sym, ap, ◌∙◌, subst}
use mathlib.Core.List.{List, [], ◌∷◌, ◌++◌, append_assoc, append-nil}
use lib.IntN.{ℤ, pos, negsuc}
use lib.ListN.{length, get_or, drop, length-append}
use lib.Seq.{get_or-append_seam}
use Rattle.units.specs.declared.Item.{Item}
use Rattle.lists.specs.Lists.{any}
use Rattle.decimal.specs.Text.{is_digit, spelt, decimal, plain, field, joined}
use Rattle.decimal.specs.Read.{more, digits, unsigned, negative, field_at, as_natural, natural_at, signed_at, natural_behind_tab, signed_behind_tab, on_number}
use Rattle.decimal.proofs.Reading.{Stops, after, reads_at, reads_one}
use Rattle.decimal.proofs.Bad.{up_to, in_up_to}
use Rattle.message.specs.Line.{item_text, items_text, message_text, IsMessage}
use Rattle.message.specs.Read.{whole, bad, on_value, on_piece, item_at, ends_at, distinct, if_distinct, items_at, read_line}
use Rattle.message.proofs.Exactly.{bad_exactly}
use Rattle.message.proofs.Items.{stops_items}

-- a field before no digit is one number's, and what is behind it is one text
field_inj : (y z : ℤ) (t u : List ℕ) → field y ++ t ≡ field z ++ u → Stops t → Stops u → (y ≡ z) × (t ≡ u)
field_inj y z t u e m n =
    let s : List ℕ = plain y ++ t in
    let e₂ : plain y ++ t ≡ plain z ++ u = ap (drop 1) e in
    let one : (y ≡ z) × (0 + length (plain y) ≡ 0 + length (plain z)) =
    reads_one (up_to y) (up_to z) s 0 y z (0 + length (plain y)) (0 + length (plain z))
    (reads_at (up_to y) s 0 y t refl m (in_up_to y)) (reads_at (up_to z) s 0 z u e₂ n (in_up_to z)) in
    (one.0, sym (after s (plain y) t 0 refl) ∙ ap (λ (k : ℕ). drop k s) one.1 ∙ after s (plain z) u 0 e₂)

-- a version before no digit
item_inj : (i j : Item) (t u : List ℕ) → item_text i ++ t ≡ item_text j ++ u → Stops t → Stops u → (i ≡ j) × (t ≡ u)
unfolding item_text is_digit
item_inj i j t u e m n =
    let spread : (i : Item) (t : List ℕ) → field (pos i.key) ++ field (pos i.ordinal.0) ++ field i.value ++ t ≡ field (pos i.key) ++ (field (pos i.ordinal.0) ++ (field i.value ++ t)) =
    (λ i t. append_assoc (field (pos i.key) ++ field (pos i.ordinal.0)) (field i.value) t ∙ append_assoc (field (pos i.key)) (field (pos i.ordinal.0)) (field i.value ++ t)) in
    let a : (pos i.key ≡ pos j.key) × (field (pos i.ordinal.0) ++ (field i.value ++ t) ≡ field (pos j.ordinal.0) ++ (field j.value ++ u)) =
    field_inj (pos i.key) (pos j.key) (field (pos i.ordinal.0) ++ (field i.value ++ t)) (field (pos j.ordinal.0) ++ (field j.value ++ u)) (sym (spread i t) ∙ e ∙ spread j u) refl refl in
    let b : (pos i.ordinal.0 ≡ pos j.ordinal.0) × (field i.value ++ t ≡ field j.value ++ u) =
    field_inj (pos i.ordinal.0) (pos j.ordinal.0) (field i.value ++ t) (field j.value ++ u) a.1 refl refl in
    let c : (i.value ≡ j.value) × (t ≡ u) = field_inj i.value j.value t u b.1 m n in
    (same i j a.0 b.0 c.0, c.1)
  where
    same : (i j : Item) → pos i.key ≡ pos j.key → pos i.ordinal.0 ≡ pos j.ordinal.0 → i.value ≡ j.value → i ≡ j
    same i j p q r =
        let k : i.key ≡ j.key = cc in
        let o : i.ordinal.0 ≡ j.ordinal.0 = cc in
        λ n. record { key = k n; ordinal = record { 0 = o n }; value = r n }

-- versions up to a newline
items_inj : (is js : List Item) (t u : List ℕ) → items_text is ++ (10 ∷ t) ≡ items_text js ++ (10 ∷ u) → (is ≡ js) × (t ≡ u)
unfolding joined item_text
items_inj [] [] t u e = (refl, ap (drop 1) e)
items_inj [] (j ∷ js) t u e = absurd (omega (arith, ap (λ (l : List ℕ). get_or l 0 0) e))
items_inj (i ∷ is) [] t u e = absurd (omega (arith, ap (λ (l : List ℕ). get_or l 0 0) e))
items_inj (i ∷ is) (j ∷ js) t u e =
    let a : (i ≡ j) × (items_text is ++ (10 ∷ t) ≡ items_text js ++ (10 ∷ u)) =
    item_inj i j (items_text is ++ (10 ∷ t)) (items_text js ++ (10 ∷ u)) (sym (append_assoc (item_text i) (items_text is) (10 ∷ t)) ∙ e ∙ append_assoc (item_text j) (items_text js) (10 ∷ u)) (stops_items is t) (stops_items js u) in
    let b : (is ≡ js) × (t ≡ u) = items_inj is js t u a.1 in
    (λ n. a.0 n ∷ b.0 n, b.1)

-- of every stamp and versions, of the form or not: the text says them, and no text goes on where another ends
pub line_inj : (stamp was : ℕ) (is js : List Item) (t u : List ℕ) → message_text stamp is ++ t ≡ message_text was js ++ u → (stamp ≡ was) × (is ≡ js) × (t ≡ u)
unfolding message_text
line_inj stamp was is js t u e =
    let spread : (n : ℕ) (is : List Item) (t : List ℕ) → field (pos n) ++ items_text is ++ (10 ∷ []) ++ t ≡ field (pos n) ++ (items_text is ++ (10 ∷ t)) =
    (λ n is t. append_assoc (field (pos n) ++ items_text is) (10 ∷ []) t ∙ append_assoc (field (pos n)) (items_text is) (10 ∷ t)) in
    let a : (pos stamp ≡ pos was) × (items_text is ++ (10 ∷ t) ≡ items_text js ++ (10 ∷ u)) =
    field_inj (pos stamp) (pos was) (items_text is ++ (10 ∷ t)) (items_text js ++ (10 ∷ u)) (sym (spread stamp is t) ∙ ap (drop 1) e ∙ spread was js u) (stops_items is t) (stops_items js u) in
    let b : (is ≡ js) × (t ≡ u) = items_inj is js t u a.1 in
    let c : stamp ≡ was = cc in
    (c, b.0, b.1)

-- the text of versions that are not of the form: a key twice, 17 of them, none, a number out of its range
pub bad-form : (stamp : ℕ) (items : List Item) → (IsMessage stamp items → ⊥) → read_line (message_text stamp items) ≡ bad
bad-form stamp items n =
    (bad_exactly (message_text stamp items)).1
    (λ was js f e.
    let a : (stamp ≡ was) × (items ≡ js) × (◌≡◌ {A = List ℕ} [] []) = line_inj stamp was items js [] [] (append-nil (message_text stamp items) ∙ e ∙ sym (append-nil (message_text was js))) in
    n (subst (λ (k : ℕ). IsMessage k items) (sym a.0) (subst (IsMessage was) (sym a.1) f)))

-- anything behind the newline, a second newline too
pub bad-behind : (stamp : ℕ) (items : List Item) (b : ℕ) (t : List ℕ) → read_line (message_text stamp items ++ (b ∷ t)) ≡ bad
bad-behind stamp items b t =
    (bad_exactly (message_text stamp items ++ (b ∷ t))).1
    (λ was js f e.
    let a : (stamp ≡ was) × (items ≡ js) × (b ∷ t ≡ []) = line_inj stamp was items js (b ∷ t) [] (e ∙ sym (append-nil (message_text was js))) in
    omega (arith, ap length a.2))

-- a line is its newline behind all else
ended : (stamp : ℕ) (items : List Item) → message_text stamp items ≡ (112 ∷ (field (pos stamp) ++ items_text items)) ++ (10 ∷ [])
unfolding message_text
ended stamp items = refl

-- no newline at the end
pub bad_unended : (t : List ℕ) (b : ℕ) → (b ≡ 10 → ⊥) → read_line (t ++ (b ∷ [])) ≡ bad
bad_unended t b n = (bad_exactly (t ++ (b ∷ []))).1 (λ was js f e. n (last (112 ∷ (field (pos was) ++ items_text js)) (e ∙ ended was js)))
  where
    last : (u : List ℕ) → t ++ (b ∷ []) ≡ u ++ (10 ∷ []) → b ≡ 10
    last u e =
        let l : length t ≡ length u = omega (arith, length-append t (b ∷ []), length-append u (10 ∷ []), ap length e) in
        sym (get_or-append_seam t b [] 0) ∙ ap (λ (s : List ℕ). get_or s (length t) 0) e ∙ ap (λ (k : ℕ). get_or (u ++ (10 ∷ [])) k 0) l ∙ get_or-append_seam u 10 [] 0

-- ---- the edges

-- the versions of n keys, each with ordinal o and the value -2048
pub run : ℕ → ℕ → List Item
run zero o = []
run (suc n) o = record { key = n; ordinal = record { 0 = o }; value = negsuc 2047 } ∷ run n o

-- `p 3 5 1 -2048` and its newline (tabs shown as spaces)
pub first : List ℕ
first = 112 ∷ 9 ∷ 51 ∷ 9 ∷ 53 ∷ 9 ∷ 49 ∷ 9 ∷ 45 ∷ 50 ∷ 48 ∷ 52 ∷ 56 ∷ 10 ∷ []

-- the line of P1's commit; sixteen versions, seventeen, none; the last ordinal and the one past it; key 64; a key twice; stamp 0, the last stamp, one past it;
-- no newline; two; a leading zero in the stamp; a second tab; a space at the end; another letter; nothing at all
pub edges :
    (read_line first ≡ whole 3 (record { key = 5; ordinal = record { 0 = 1 }; value = negsuc 2047 } ∷ []))
    × (read_line (message_text 3 (run 16 4096)) ≡ whole 3 (run 16 4096))
    × (read_line (message_text 3 (run 17 4096)) ≡ bad)
    × (read_line (message_text 3 []) ≡ bad)
    × (read_line (message_text 3 (run 1 4097)) ≡ bad)
    × (read_line (message_text 3 (run 1 0)) ≡ bad)
    × (read_line (message_text 3 (record { key = 64; ordinal = record { 0 = 1 }; value = pos 0 } ∷ [])) ≡ bad)
    × (read_line (message_text 3 (run 2 1 ++ run 1 2)) ≡ bad)
    × (read_line (message_text 0 (run 1 1)) ≡ bad)
    × (read_line (message_text 4294967295 (run 1 1)) ≡ whole 4294967295 (run 1 1))
    × (read_line (message_text 4294967296 (run 1 1)) ≡ bad)
    × (read_line (112 ∷ 9 ∷ 51 ∷ 9 ∷ 53 ∷ 9 ∷ 49 ∷ 9 ∷ 45 ∷ 50 ∷ 48 ∷ 52 ∷ 56 ∷ []) ≡ bad)
    × (read_line (first ++ (10 ∷ [])) ≡ bad)
    × (read_line (112 ∷ 9 ∷ 48 ∷ 51 ∷ 9 ∷ 53 ∷ 9 ∷ 49 ∷ 9 ∷ 48 ∷ 10 ∷ []) ≡ bad)
    × (read_line (112 ∷ 9 ∷ 51 ∷ 9 ∷ 9 ∷ 53 ∷ 9 ∷ 49 ∷ 9 ∷ 48 ∷ 10 ∷ []) ≡ bad)
    × (read_line (112 ∷ 9 ∷ 51 ∷ 9 ∷ 53 ∷ 9 ∷ 49 ∷ 9 ∷ 48 ∷ 32 ∷ 10 ∷ []) ≡ bad)
    × (read_line (113 ∷ 9 ∷ 51 ∷ 9 ∷ 53 ∷ 9 ∷ 49 ∷ 9 ∷ 48 ∷ 10 ∷ []) ≡ bad)
    × (read_line [] ≡ bad)
unfolding first run read_line items_at item_at natural_behind_tab signed_behind_tab on_number on_value on_piece ends_at if_distinct distinct any message_text joined item_text natural_at signed_at as_natural field_at digits more unsigned negative decimal spelt is_digit
edges = (refl, refl, refl, refl, refl, refl, refl, refl, refl, refl, refl, refl, refl, refl, refl, refl, refl, refl)
