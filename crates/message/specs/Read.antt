-- Reading a message line, from its front, and each number with its range. Document 01: "Here and in a message, a number out of
-- its range is not of the form".
use Rattle.std.specs.Prelude.{ℕ, zero, suc, ◌+◌, Bool, true, cond, not, ◌&&◌, List, [], ◌∷◌, ◌++◌, eqb, ℤ, length, get_or, Option, Some, None}
use Rattle.lists.specs.Lists.{any}
use Rattle.units.specs.declared.Item.{Item}
use Rattle.decimal.specs.Read.{natural_behind_tab, signed_behind_tab, on_number}
use Rattle.message.specs.Line.{items_of, batch_of}
use Rattle.message.specs.declared.read.Message.{Message}

-- a line says its stamp and versions, or is not of the form
pub data Reading : Type 0 where
  whole : ℕ → List Item → Reading
  bad : Reading

-- ---- what follows a value, a version and the place behind it; or what is answered where there is none

unfoldable pub on_value : {A : Type 0} → Option (ℤ × ℕ) → (ℤ → ℕ → A) → A → A
on_value (Some (v, e)) f no_value = f v e
on_value None f no_value = no_value

unfoldable pub on_piece : {A : Type 0} → Option (Item × ℕ) → (Item → ℕ → A) → A → A
on_piece (Some (i, e)) f no_piece = f i e
on_piece None f no_piece = no_piece

-- ---- the parts of a line

unfoldable pub item_at : List ℕ → ℕ → Option (Item × ℕ)
item_at s at =
    on_number (natural_behind_tab s at 0 63) (λ k a.
    on_number (natural_behind_tab s a 1 4096) (λ o b.
    on_value (signed_behind_tab s b) (λ v e.
    Some (record { key = k; ordinal = record { 0 = o }; value = v }, e))
    None) None) None

abbrev pub is_of_key : ℕ → Item → Bool
is_of_key k i = eqb i.key k

-- "no key twice"
unfoldable pub distinct : List Item → Bool
distinct [] = true
distinct (i ∷ is) = not (any (is_of_key i.key) is) && distinct is

-- the newline at a place, and nothing behind it
unfoldable pub ends_at : List ℕ → ℕ → Bool
ends_at s at = eqb (get_or s at 0) 10 && eqb (at + 1) (length s)

unfoldable pub if_distinct : ℕ → List Item → Reading
if_distinct stamp items = cond (distinct items) (whole stamp items) bad

-- the versions from a place on, where those before it were seen and `left` more are allowed
unfoldable pub items_at : ℕ → ℕ → List ℕ → ℕ → List Item → Reading
items_at stamp zero s at seen = bad
items_at stamp (suc left) s at seen =
    on_piece (item_at s at) (λ i e.
    cond (ends_at s e) (if_distinct stamp (seen ++ (i ∷ []))) (items_at stamp left s e (seen ++ (i ∷ []))))
    bad

unfoldable pub read_line : List ℕ → Reading
read_line s = cond (eqb (get_or s 0 0) 112) (on_number (natural_behind_tab s 1 1 4294967295) (λ stamp e. items_at stamp 16 s e []) bad) bad

-- ---- the reading as the code hands it over

unfoldable pub message_of : Reading → Option Message
message_of (whole stamp items) = Some (record { stamp = record { 0 = stamp }; batch = batch_of items })
message_of bad = None

-- ---- the same in document 01's numbers: the stamp and the versions that the line says, or 10, "message line not of the form above"

pub data ReadMessageReply : Type 0 where
  says : (stamp : ℕ) → List Item → ReadMessageReply
  refused : (number : ℕ) → ReadMessageReply

abbrev pub read_message_reply : Option Message → ReadMessageReply
read_message_reply (Some m) = says m.stamp.0 (items_of m.batch)
read_message_reply None = refused 10

abbrev pub reading_reply : Reading → ReadMessageReply
reading_reply (whole stamp items) = says stamp items
reading_reply bad = refused 10
