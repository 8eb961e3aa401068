-- A line is refused exactly where document 01's table says so of the lines before it, with the table's number.
use Prim.Native.Nat.{ℕ, suc, ◌≤◌}
use native.Mathlib.Omega.{arith}
use mathlib.Core.Path.{◌≡◌, refl, sym, ◌∙◌, ap}
use mathlib.Core.Logic.{◌⊎◌, inl, inr, ⊎_elim}
use mathlib.Core.Bool.{Bool, true, false, cond, not, ◌&&◌, ◌||◌, true≢false, false≢true}
use mathlib.Core.List.{◌∷◌}
use lib.Dec.{eqb, leb}
use lib.ListN.{length}
use borrow.Author.Tests.{ne_eqb}
use Rattle.lists.specs.Lists.{any, count, bit}
use Rattle.lists.proofs.Count.{count-empty, count-step}
use Rattle.records.specs.Parts.{is_start, is_commit, name_of, starts, is_abort}
use Rattle.records.specs.declared.Record.{Record}
use Rattle.records.specs.declared.Record.TheVariants.{Start}
use Rattle.records.specs.Written.{History, commit_line}
use Rattle.records.specs.Ledger.{Ledger, Outcome, refused, went, blank, named, row_of, is_open, nowhere, changed, begun, moved as movedOn, line_step}
use Rattle.records.specs.Mirror.{end_in, outcome_number}
use Rattle.records.specs.Refused.{open_in, refusal_in, Unrefused, no_lines, and_taken}
use Rattle.records.specs.Judge.{Taken, nothing, line}
use Rattle.records.proofs.Lines.{line-some}
use Rattle.records.proofs.Rows.{become-length}
use Rattle.records.proofs.Runs.{Ran, bare, began, moved, begun_at, moved_at, ran}
use Rattle.records.proofs.Fields.{named-started, end_tied}

-- as many rows as starts
pub rows_counted : {h : History} {l : Ledger} → Ran h l → length l.rows ≡ count starts h
unfolding bit
rows_counted bare = sym (count-empty starts)
rows_counted (began {h} {t = t} {l = l} r k) = omega (arith, rows_counted r, count-step starts (Start t) h)
rows_counted (moved {h} {e} {l} r s o) =
    omega (
      arith,
      become-length l.rows (name_of e) (changed (suc (length h)) (length l.seens) e (row_of l.rows (name_of e))),
      rows_counted r,
      count-step starts e h,
      ap bit s,
    )

-- a row is open exactly if its transaction is
open_exactly : (h : History) (t : ℕ) → eqb (end_in h t) 0 ≡ open_in h t
unfolding end_in
open_exactly h t = go (any (is_commit t) h) refl (any (is_abort t) h) (any (is_start t) h)
  where
    go : (a : Bool) → any (is_commit t) h ≡ a → (b c : Bool) → eqb (cond a (commit_line h t) (cond b nowhere (cond c 0 nowhere))) 0 ≡ (c && not (a || b))
    go true e b true = ne_eqb (commit_line h t) 0 (λ q. omega (arith, line-some (is_commit t) h e))
    go true e b false = ne_eqb (commit_line h t) 0 (λ q. omega (arith, line-some (is_commit t) h e))
    go false e true true = refl
    go false e true false = refl
    go false e false true = refl
    go false e false false = refl

-- what a test leaves of two outcomes
either : (n : ℕ) (a b : Bool) (l : Ledger) → a ≡ b → outcome_number (cond a (went l) (refused n)) ≡ cond b 0 n
either n true true l e = refl
either n true false l e = absurd (true≢false e)
either n false true l e = absurd (false≢true e)
either n false false l e = refl

pub refused_exactly : {h : History} {l : Ledger} → Taken h l → length h ≤ 4096 → (e : Record) → outcome_number (line_step (suc (length h)) e l) ≡ refusal_in h e
unfolding line_step refusal_in
refused_exactly {h} {l} taken lines e = go e (starts e)
  where
    r : Ran h l
    r = ran taken

    is_open_there : (t : ℕ) → is_open (row_of l.rows t) ≡ open_in h t
    is_open_there t = ap (λ (n : ℕ). eqb n 0) (end_tied r (omega arith) t) ∙ open_exactly h t

    used : (a b c d : Bool) (m : Ledger) → a ≡ b → c ≡ d → outcome_number (cond a (refused 15) (cond c (refused 16) (went m))) ≡ cond b 15 (cond d 16 0)
    used true b c d m e q = rw (← e)
    used false b true d m e q = rw (← e, ← q)
    used false b false d m e q = rw (← e, ← q)

    go : (e : Record) (b : Bool)
        → outcome_number (cond b (begun (suc (length h)) (name_of e) l) (movedOn (suc (length h)) e l))
        ≡ cond b (cond (any (is_start (name_of e)) h) 15 (cond (leb 512 (count starts h)) 16 0)) (cond (open_in h (name_of e)) 0 15)
    go e true = used _ _ _ _ _ (named-started r (name_of e)) (ap (leb 512) (rows_counted r))
    go e false = either 15 _ _ _ (is_open_there (name_of e))

-- ---- the histories that lead to a ledger are those of which no line is refused

pub taken-unrefused : {h : History} {l : Ledger} → Taken h l → length h ≤ 4096 → Unrefused h
taken-unrefused nothing lines = no_lines
taken-unrefused (line {h} {r = e} t q) lines = and_taken (taken-unrefused t (omega arith)) (sym (refused_exactly t (omega arith) e) ∙ ap outcome_number q)

-- a line is refused with 15 or 16
pub step_numbers : (n : ℕ) (e : Record) (l : Ledger) {k : ℕ} → line_step n e l ≡ refused k → (k ≡ 15) ⊎ (k ≡ 16)
unfolding line_step
step_numbers n e l {k} q =
    go (starts e) (any (named (name_of e)) l.rows) (leb 512 (length l.rows)) (is_open (row_of l.rows (name_of e))) (begun_at n (name_of e) l) (moved_at n e l) q
  where
    same : {j : ℕ} → refused j ≡ refused k → k ≡ j
    same q = cc

    not_refused : {m : Ledger} → went m ≡ refused k → (k ≡ 15) ⊎ (k ≡ 16)
    not_refused q = let z : ◌≡◌ {A = ℕ} 0 1 = cc in absurd (omega arith)

    go : (a b c d : Bool) (x y : Ledger) → cond a (cond b (refused 15) (cond c (refused 16) (went x))) (cond d (went y) (refused 15)) ≡ refused k → (k ≡ 15) ⊎ (k ≡ 16)
    go true true c d x y q = inl (same q)
    go true false true d x y q = inr (same q)
    go true false false d x y q = not_refused q
    go false b c true x y q = not_refused q
    go false b c false x y q = inl (same q)

pub unrefused-taken : {h : History} → Unrefused h → length h ≤ 4096 → (l : Ledger) × Taken h l
unrefused-taken no_lines lines = (blank, nothing)
unrefused-taken (and_taken {h} {r = e} u z) lines = go (unrefused-taken u (omega arith))
  where
    end : {l : Ledger} → Taken h l → (o : Outcome) → line_step (suc (length h)) e l ≡ o → outcome_number o ≡ 0 → (m : Ledger) × Taken (e ∷ h) m
    end {l} t (refused k) q n = absurd (⊎_elim (λ i. omega (arith, n, i)) (λ i. omega (arith, n, i)) (step_numbers (suc (length h)) e l q))
    end t (went m) q n = (m, line t q)

    go : (l : Ledger) × Taken h l → (m : Ledger) × Taken (e ∷ h) m
    go (l, t) = end t (line_step (suc (length h)) e l) refl (refused_exactly t (omega arith) e ∙ z)
