-- The totals raised a line at a time are the numbers of records of each kind, and the transactions still open.
use Prim.Native.Nat.{ℕ, suc, ◌+◌, ◌-◌, ◌≤◌}
use native.Mathlib.Omega.{arith}
use mathlib.Core.Path.{◌≡◌, refl, sym, ◌∙◌, ap}
use mathlib.Core.Bool.{Bool, true, false, cond, true≢false}
use mathlib.Core.List.{[], ◌∷◌}
use lib.ListN.{length}
use borrow.Author.Tests.{ne_eqb}
use Rattle.lists.specs.Lists.{count, bit}
use Rattle.lists.proofs.Count.{count_le, count-empty, count-step}
use Rattle.records.specs.Parts.{name_of, starts, commits, aborts}
use Rattle.records.specs.declared.Record.{Record}
use Rattle.records.specs.declared.Record.TheVariants.{Start, Tune, Read, Write, Commit, Abort}
use Rattle.records.specs.declared.Row.{Row}
use Rattle.records.specs.declared.Totals.{Totals}
use Rattle.records.specs.Written.{History}
use Rattle.records.specs.Ledger.{Ledger, row_of, is_open, nowhere, fresh_row, changed, is_recorded}
use Rattle.records.specs.Totals.{no_totals, raised, more}
use Rattle.records.specs.Tally.{totals_of, Counts}
use Rattle.records.specs.Judge.{Taken}
use Rattle.records.proofs.Rows.{open-there, become-count}
use Rattle.records.proofs.Runs.{Ran, bare, began, moved, moved_at, ran}
use Rattle.records.proofs.Fields.{read_keeps}
use Rattle.records.proofs.Open.{open-rest}

-- a total that each record of one kind raises
module _ (f : Totals → ℕ) (p : Record → Bool) (zero-first : f no_totals ≡ 0) (raises : (e : Record) (n : Totals) → f (raised e n) ≡ cond (p e) (more (f n)) (f n)) where
  counted : (h : History) → length h ≤ nowhere → f (totals_of h) ≡ count p h
  unfolding totals_of count
  counted [] small = zero-first
  counted (e ∷ h) small = raises e (totals_of h) ∙ go (p e) (counted h (omega arith))
    where
      go : (b : Bool) → f (totals_of h) ≡ count p h → cond b (more (f (totals_of h))) (f (totals_of h)) ≡ cond b (suc (count p h)) (count p h)
      go true k = omega (arith, count_le p h)
      go false k = k

-- "started is the number of `s` lines"
pub started_counted : (h : History) → length h ≤ nowhere → (totals_of h).started ≡ count starts h
started_counted = counted (λ (n : Totals). n.started) starts refl raises
  where
    raises : (e : Record) (n : Totals) → (raised e n).started ≡ cond (starts e) (more n.started) n.started
    raises (Start t) n = refl
    raises (Tune t b) n = refl
    raises (Read t x w) n = refl
    raises (Write t x) n = refl
    raises (Commit t) n = refl
    raises (Abort t) n = refl

pub committed_counted : (h : History) → length h ≤ nowhere → (totals_of h).committed ≡ count commits h
committed_counted = counted (λ (n : Totals). n.committed) commits refl raises
  where
    raises : (e : Record) (n : Totals) → (raised e n).committed ≡ cond (commits e) (more n.committed) n.committed
    raises (Start t) n = refl
    raises (Tune t b) n = refl
    raises (Read t x w) n = refl
    raises (Write t x) n = refl
    raises (Commit t) n = refl
    raises (Abort t) n = refl

pub aborted_counted : (h : History) → length h ≤ nowhere → (totals_of h).aborted ≡ count aborts h
aborted_counted = counted (λ (n : Totals). n.aborted) aborts refl raises
  where
    raises : (e : Record) (n : Totals) → (raised e n).aborted ≡ cond (aborts e) (more n.aborted) n.aborted
    raises (Start t) n = refl
    raises (Tune t b) n = refl
    raises (Read t x w) n = refl
    raises (Write t x) n = refl
    raises (Commit t) n = refl
    raises (Abort t) n = refl

-- a line of an open transaction ends it, or leaves it open
ends : (n m : ℕ) (e : Record) (r : Row) → starts e ≡ false → is_open r ≡ true → bit (is_open (changed (suc n) m e r)) + bit (commits e) + bit (aborts e) ≡ 1
unfolding changed bit
ends n m (Start t) r s o = absurd (true≢false s)
ends n m (Tune t b) r s o = rw o
ends n m (Read t x w) r s o = rw (read_keeps is_open r (suc m) (is_recorded r x w) refl, o)
ends n m (Write t x) r s o = rw o
ends n m (Commit t) r s o = rw (ne_eqb (suc n) 0 (λ e. omega arith))
ends n m (Abort t) r s o = refl

open_moves : (n : ℕ) (e : Record) (l : Ledger) → starts e ≡ false → is_open (row_of l.rows (name_of e)) ≡ true
    → count is_open (moved_at (suc n) e l).rows + bit (commits e) + bit (aborts e) ≡ count is_open l.rows
unfolding bit
open_moves n e l s o =
    omega (
      arith,
      become-count is_open l.rows (name_of e) (changed (suc n) (length l.seens) e (row_of l.rows (name_of e))) (open-there l.rows (name_of e) o),
      ends n (length l.seens) e (row_of l.rows (name_of e)) s o,
      ap bit o,
    )

pub open-rows : {h : History} {l : Ledger} → Ran h l → count is_open l.rows + count commits h + count aborts h ≡ count starts h
unfolding bit
open-rows bare = omega (arith, count-empty {A = Row} is_open, count-empty commits, count-empty aborts, count-empty starts)
open-rows (began {h} {t = t} {l = l} r k) =
    omega (
      arith,
      count-step is_open (fresh_row (suc (length h)) t) l.rows,
      count-step commits (Start t) h,
      count-step aborts (Start t) h,
      count-step starts (Start t) h,
      open-rows r,
    )
open-rows (moved {h} {e} {l} r s o) =
    omega (arith, open_moves (length h) e l s o, count-step commits e h, count-step aborts e h, count-step starts e h, ap bit s, open-rows r)

-- the fourth: still open
lowers : (e : Record) (n : Totals) → starts e ≡ false → (raised e n).«open» ≡ n.«open» - bit (commits e) - bit (aborts e)
unfolding bit
lowers (Start t) n s = absurd (true≢false s)
lowers (Tune t b) n s = omega arith
lowers (Read t x w) n s = omega arith
lowers (Write t x) n s = omega arith
lowers (Commit t) n s = omega arith
lowers (Abort t) n s = omega arith

open_counted : {h : History} {l : Ledger} → Ran h l → length h ≤ nowhere → (totals_of h).«open» ≡ count is_open l.rows
unfolding totals_of bit
open_counted bare small = sym (count-empty {A = Row} is_open)
open_counted (began {h} {t = t} {l = l} r k) small =
    omega (arith, count-step is_open (fresh_row (suc (length h)) t) l.rows, open_counted r (omega arith), open-rows r, count_le starts h)
open_counted (moved {h} {e} {l} r s o) small = omega (arith, lowers e (totals_of h) s, open_moves (length h) e l s o, open_counted r (omega arith))

-- what the totals say of a history
module _ {h : History} {l : Ledger} (taken : Taken h l) (lines : length h ≤ 4096) where
  pub totals-right : Counts h (totals_of h)
  totals-right =
      record {
        started = started_counted h (omega arith);
        committed = committed_counted h (omega arith);
        aborted = aborted_counted h (omega arith);
        «open» = omega (arith, open_counted (ran taken) (omega arith), open-rows (ran taken), open-rest (ran taken) (omega arith));
      }
