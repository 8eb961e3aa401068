-- Which texts the judge refuses, with which number and line: document 01's table, rows 12 to 16, in its order "History: 12; at each line
-- 14, 13, 15, 16".
use Rattle.std.specs.Prelude.{ℕ, suc, ◌≤◌, ◌<◌, List, reverse, ◌≡◌, length}
use Rattle.lists.specs.Lists.{Every}
use Rattle.decimal.specs.Read.{Stands}
use Rattle.records.specs.declared.Record.{Record}
use Rattle.records.specs.Refused.{refusal_in, Unrefused}
use Rattle.history.specs.Text.{InForm, Written, texts}

-- the text begins with the texts of these records, up to a place; each is of the form, and none is refused: each is taken after those before it
pub record Front (s : List ℕ) (rs : List Record) (at : ℕ) : Type 0 where
  pub stands : Stands (texts rs) s 0 at
  pub form : Every InForm rs
  pub unrefused : Unrefused (reverse rs)

-- the text s gets this number and this line
pub data Refuses (s : List ℕ) : (number line : ℕ) → Type 0 where
  -- 12: "history longer than 65,536 bytes"; its line is 0
  long : 65536 < length s → Refuses s 12 0
  -- 14: "line 4,097 reached"
  many : {rs : List Record} {at : ℕ} → length s ≤ 65536 → Front s rs at → length rs ≡ 4096 → at < length s → Refuses s 14 4097
  -- 13: "history line not of the form, or last line unended": something is left, and it begins with no record's text
  formless : {rs : List Record} {at : ℕ} → length s ≤ 65536 → Front s rs at → length rs < 4096 → at < length s → ((e : Record) (next : ℕ) → ¬ Written s at e next)
      → Refuses s 13 (suc (length rs))
  -- 15: "`s` of a number used before; another record of one not started or already ended"
  misplaced : {rs : List Record} {at next : ℕ} {e : Record} → length s ≤ 65536 → Front s rs at → length rs < 4096 → Written s at e next → refusal_in (reverse rs) e ≡ 15
      → Refuses s 15 (suc (length rs))
  -- 16: "513th `s`"
  full : {rs : List Record} {at next : ℕ} {e : Record} → length s ≤ 65536 → Front s rs at → length rs < 4096 → Written s at e next → refusal_in (reverse rs) e ≡ 16
      → Refuses s 16 (suc (length rs))
