-- Which line of a written history is refused, in words of the lines before it: document 01's rows 15 and 16, as a number and as statements.
use Rattle.std.specs.Prelude.{ℕ, Bool, cond, not, ◌&&◌, ◌||◌, [], ◌∷◌, ◌≡◌, ◌⊎◌, ◌≢◌, leb}
use Rattle.lists.specs.Lists.{any, count}
use Rattle.lists.specs.Members.{In}
use Rattle.records.specs.declared.Record.{Record}
use Rattle.records.specs.declared.Record.TheVariants.{Start, Commit, Abort}
use Rattle.records.specs.Parts.{name_of, starts, is_start, is_commit, is_abort}
use Rattle.records.specs.Written.{History}

-- a transaction that has started and not ended
abbrev pub open_in : History → ℕ → Bool
open_in h t = any (is_start t) h && not (any (is_commit t) h || any (is_abort t) h)

-- the number that the table gives a record after the lines h, 0 where it is taken
unfoldable pub refusal_in : History → Record → ℕ
refusal_in h r = cond (starts r) (cond (any (is_start (name_of r)) h) 15 (cond (leb 512 (count starts h)) 16 0)) (cond (open_in h (name_of r)) 0 15)

-- no line is refused: each is taken after the lines before it
pub data Unrefused : History → Type 0 where
  no_lines : Unrefused []
  and_taken : {h : History} {r : Record} → Unrefused h → refusal_in h r ≡ 0 → Unrefused (r ∷ h)

-- 15: "`s` of a number used before; another record of one not started or already ended"
pub data Misplaced (h : History) (r : Record) : Type 0 where
  used_before : {t : ℕ} {e : Record} → r ≡ Start t → In e h → name_of e ≡ t → Misplaced h r
  not_started : ((t : ℕ) → r ≢ Start t) → ¬ In (Start (name_of r)) h → Misplaced h r
  ended_already : ((t : ℕ) → r ≢ Start t) → In (Commit (name_of r)) h ⊎ In (Abort (name_of r)) h → Misplaced h r

-- 16: "513th `s`": it is one, and 512 stand before it
pub record Surplus (h : History) (r : Record) : Type 0 where
  pub name : ℕ
  pub start : r ≡ Start name
  pub before : count starts h ≡ 512
