-- A line of a written history, from its front. Document 01: "One record a line, tabs between, newline at the end"; "a number out of its
-- range is not of the form". A byte past the end is 0: no tab, no newline, no digit.
use Rattle.std.specs.Prelude.{ℕ, ◌+◌, cond, List, eqb, leb, length, get_or, Option, Some, None}
use Rattle.decimal.specs.Read.{natural_behind_tab, on_number}
use Rattle.units.specs.Bounds.{triple}
use Rattle.records.specs.declared.Record.{Record}
use Rattle.records.specs.declared.Record.TheVariants.{Start, Tune, Read, Write, Commit, Abort}
use Rattle.history.specs.declared.Line.{Line}
use Rattle.history.specs.declared.Line.TheVariants.{Taken, Bad, End}

-- "Transaction numbers are 1 to 4,294,967,295", and 0 for the start version's; "Keys are 0 to 63"; bounds are "16-bit numbers"
abbrev pub number : List ℕ → ℕ → ℕ → (ℕ → ℕ → Option (Record × ℕ)) → Option (Record × ℕ)
number s at least f = on_number (natural_behind_tab s at least 4294967295) f None

abbrev pub key : List ℕ → ℕ → (ℕ → ℕ → Option (Record × ℕ)) → Option (Record × ℕ)
key s at f = on_number (natural_behind_tab s at 0 63) f None

abbrev pub bound : List ℕ → ℕ → ℕ → (ℕ → ℕ → Option (Record × ℕ)) → Option (Record × ℕ)
bound s at least f = on_number (natural_behind_tab s at least 65535) f None

-- the newline (10), and the place of the next line
unfoldable pub ended : List ℕ → ℕ → Record → Option (Record × ℕ)
ended s at r = cond (eqb (get_or s at 0) 10) (Some (r, at + 1)) None

-- "`k` T k1 k2 k3 (tune, k1 from 1 ..)"
unfoldable pub tune_at : List ℕ → ℕ → ℕ → Option (Record × ℕ)
tune_at s t at = bound s at 1 (λ k1 a. bound s a 0 (λ k2 b. bound s b 0 (λ k3 e. ended s e (Tune t (triple k1 k2 k3)))))

-- "`r` T key W (T read W's version; W is 0 for the start version)"
unfoldable pub read_at : List ℕ → ℕ → ℕ → Option (Record × ℕ)
read_at s t at = key s at (λ x a. number s a 0 (λ w e. ended s e (Read t x w)))

-- "`w` T key"
unfoldable pub write_at : List ℕ → ℕ → ℕ → Option (Record × ℕ)
write_at s t at = key s at (λ x e. ended s e (Write t x))

-- the letters s, k, r, w, c, a: what stands behind the letter and T
unfoldable pub behind_name : List ℕ → ℕ → ℕ → ℕ → Option (Record × ℕ)
behind_name s letter t at =
    cond (eqb letter 115) (ended s at (Start t))
    (cond (eqb letter 107) (tune_at s t at)
    (cond (eqb letter 114) (read_at s t at)
    (cond (eqb letter 119) (write_at s t at)
    (cond (eqb letter 99) (ended s at (Commit t))
    (cond (eqb letter 97) (ended s at (Abort t)) None)))))

-- the record whose letter stands at a place, and the place of the next line
unfoldable pub record_at : List ℕ → ℕ → Option (Record × ℕ)
record_at s at = number s (at + 1) 1 (λ t e. behind_name s (get_or s at 0) t e)

abbrev pub line_of : Option (Record × ℕ) → Line
line_of (Some (r, next)) = Taken r next
line_of None = Bad

-- the line that begins at a place
unfoldable pub line_at : List ℕ → ℕ → Line
line_at s at = cond (leb (length s) at) End (line_of (record_at s at))

-- ---- the reply in document 01's numbers

-- a record and the place of the next line; a refusal by its number; or that nothing is left
pub data LineReply : Type 0 where
  a_record : Record → (next : ℕ) → LineReply
  refused_with : (number : ℕ) → LineReply
  nothing_left : LineReply

-- 13: "history line not of the form, or last line unended"
unfoldable pub line_reply : Line → LineReply
line_reply (Taken r next) = a_record r next
line_reply Bad = refused_with 13
line_reply End = nothing_left

unfoldable pub line_said : List ℕ → ℕ → LineReply
line_said s at = line_reply (line_at s at)
