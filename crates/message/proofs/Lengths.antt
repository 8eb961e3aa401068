-- How long a message is. Document 01: "A message is at most 333 bytes".
use Prim.Native.Nat.{ℕ, zero, suc, ◌+◌, ◌*◌, ◌≤◌, ◌<◌}
use native.Mathlib.Omega.{arith}
use mathlib.Core.Path.{◌≡◌, refl, ◌∙◌}
use mathlib.Core.List.{List, [], ◌∷◌, ◌++◌}
use lib.IntN.{pos, negsuc}
use lib.Signed.{mag}
use lib.ListN.{length, length-append}
use Rattle.units.specs.declared.Item.{Item}
use Rattle.lists.specs.Lists.{any, Every, none, also}
use Rattle.decimal.specs.Read.{natural_at, signed_at, as_natural, field_at, digits, more, unsigned, negative, natural_behind_tab, signed_behind_tab, on_number}
use Rattle.decimal.specs.Text.{field, joined, decimal, spelt, is_digit}
use Rattle.decimal.proofs.Digits.{decimal-length, decimal_32, plain_32}
use Rattle.decimal.proofs.Values.{value_small}
use Rattle.message.specs.Line.{item_text, items_text, message_text, InRanges, IsMessage, longest}
use Rattle.message.specs.Read.{whole, read_line, items_at, item_at, on_value, on_piece, ends_at, distinct, if_distinct}

pub item-length : (i : Item) → length (item_text i) ≡ length (field (pos i.key)) + length (field (pos i.ordinal.0)) + length (field i.value)
unfolding item_text
item-length i = length-append (field (pos i.key) ++ field (pos i.ordinal.0)) (field i.value) ∙ length_both
  where
    length_both : length (field (pos i.key) ++ field (pos i.ordinal.0)) + length (field i.value) ≡ length (field (pos i.key)) + length (field (pos i.ordinal.0)) + length (field i.value)
    length_both = rw (length-append (field (pos i.key)) (field (pos i.ordinal.0)))

-- a version whatever its numbers are
pub item-longest : (i : Item) → i.key < 256 → i.ordinal.0 < 4294967296 → mag i.value < 2147483648 → length (item_text i) ≤ 27
item-longest i k o v = omega (arith, item-length i, decimal-length i.key 3 (omega arith) (omega arith), decimal_32 i.ordinal.0 o, plain_32 i.value v)

-- a version of the form
pub item_of_form : (i : Item) → InRanges i → length (item_text i) ≤ 20
item_of_form i r =
    omega (arith, item-length i, decimal-length i.key 2 (omega arith) (omega (arith, r.key)), decimal-length i.ordinal.0 4 (omega arith) (omega (arith, r.last)), plain_32 i.value (value_small i.value r.value))

pub items_of_form : {items : List Item} → Every InRanges items → length (items_text items) ≤ 20 * length items
unfolding joined
items_of_form none = omega arith
items_of_form (also {x = i} {xs = is} p ps) = omega (arith, length-append (item_text i) (items_text is), item_of_form i p, items_of_form ps)

pub line-length : (stamp : ℕ) (items : List Item) → length (message_text stamp items) ≡ suc (length (field (pos stamp)) + length (items_text items) + 1)
unfolding message_text
line-length stamp items = omega (arith, length-append (field (pos stamp) ++ items_text items) (10 ∷ []), length-append (field (pos stamp)) (items_text items))

-- a message of the form
pub line_of_form : (stamp : ℕ) (items : List Item) → IsMessage stamp items → length (message_text stamp items) ≤ longest
line_of_form stamp items f = omega (arith, line-length stamp items, decimal_32 stamp (omega (arith, f.late)), items_of_form f.ranges, f.few)

-- and one that is as long: the last stamp, sixteen keys of two digits, each with the last ordinal and the lowest value
pub fullest : ℕ → List Item
fullest zero = []
fullest (suc n) = record { key = 48 + n; ordinal = record { 0 = 4096 }; value = negsuc 2147483647 } ∷ fullest n

pub longest-reached : (length (message_text 4294967295 (fullest 16)) ≡ longest) × (read_line (message_text 4294967295 (fullest 16)) ≡ whole 4294967295 (fullest 16))
unfolding fullest read_line items_at item_at natural_behind_tab signed_behind_tab on_number on_value on_piece ends_at if_distinct distinct any message_text joined item_text natural_at signed_at as_natural field_at digits more unsigned negative decimal spelt is_digit
longest-reached = (refl, refl)
