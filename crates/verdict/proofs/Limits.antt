-- What a history of at most 4,096 lines leaves room for: no read and no verdict is ever dropped.
use Prim.Native.Nat.{ℕ, suc, ◌≤◌, ◌<◌}
use native.Mathlib.Omega.{arith}
use mathlib.Core.Path.{◌≡◌, refl, ◌∙◌}
use mathlib.Core.Bool.{Bool, true, false, cond, ◌&&◌}
use mathlib.Core.List.{List, ◌∷◌, reverse}
use borrow.Author.Tests.{leb-false, ltb-true}
use lib.Dec.{leb}
use lib.ListN.{length, length-reverse}
use Rattle.lists.specs.Lists.{any, count}
use Rattle.lists.proofs.Count.{any-count}
use Rattle.records.specs.Parts.{parts_of, name_of, starts, is_reading}
use Rattle.records.specs.declared.Record.{Record}
use Rattle.records.specs.declared.Row.{Row}
use Rattle.records.specs.declared.Seen.{Seen}
use Rattle.records.specs.Written.{History}
use Rattle.records.specs.Ledger.{Ledger, refused, went, named, row_of, is_open, is_recorded, changed, noted, line_step}
use Rattle.records.specs.Judge.{Taken, nothing, line, Right}
use Rattle.records.proofs.Rows.{open-there, any-row, become-length}
use Rattle.records.proofs.Runs.{Ran, bare, began, moved, moved_at, begun_at, ran}
use Rattle.records.proofs.Refused.{rows_counted}
use Rattle.records.proofs.Verdicts.{judge-right}
use Rattle.records.proofs.Tallies.{open-rows}

-- ---- "512 transactions": a start past them is refused

stays : (b : Bool) (n : ℕ) (m l : Ledger) → length m.rows ≤ 512 → cond b (went m) (refused n) ≡ went l → length l.rows ≤ 512
stays true n m l h q = let e : m ≡ l = cc in rw (← e) h
stays false n m l h q = let z : ◌≡◌ {A = ℕ} 0 1 = cc in absurd (omega arith)

moves : (n : ℕ) (e : Record) (l m : Ledger) → length l.rows ≤ 512 → cond (is_open (row_of l.rows (name_of e))) (went (moved_at n e l)) (refused 15) ≡ went m → length m.rows ≤ 512
moves n e l m h q =
    stays (is_open (row_of l.rows (name_of e))) 15 (moved_at n e l) m
    (rw (become-length l.rows (name_of e) (changed n (length l.seens) e (row_of l.rows (name_of e)))) h) q

rows_step : (n : ℕ) (e : Record) (l m : Ledger) → length l.rows ≤ 512 → line_step n e l ≡ went m → length m.rows ≤ 512
unfolding line_step
rows_step n e l m h q = go (starts e) (any (named (name_of e)) l.rows) (leb 512 (length l.rows)) refl q
  where
    go : (s a b : Bool) → leb 512 (length l.rows) ≡ b
        → cond s (cond a (refused 15) (cond b (refused 16) (went (begun_at n (name_of e) l)))) (cond (is_open (row_of l.rows (name_of e))) (went (moved_at n e l)) (refused 15)) ≡ went m
        → length m.rows ≤ 512
    go true true b p q = let z : ◌≡◌ {A = ℕ} 0 1 = cc in absurd (omega arith)
    go true false true p q = let z : ◌≡◌ {A = ℕ} 0 1 = cc in absurd (omega arith)
    go true false false p q =
        let e : begun_at n (name_of e) l ≡ m = cc in
        rw (← e) (omega (arith, leb-false 512 (length l.rows) p))
    go false a b p q = moves n e l m h q

pub rows_most : {h : History} {l : Ledger} → Taken h l → length l.rows ≤ 512
rows_most nothing = omega arith
rows_most (line {h} {r = e} {l = l} {l' = m} t q) = rows_step (suc (length h)) e l m (rows_most t) q

-- ---- each line records at most one read

noted_most : (rows : List Row) (e : Record) (r : Row) (ss : List Seen) → length (noted rows e r ss) ≤ suc (length ss)
unfolding noted
noted_most rows e r ss = go (is_reading e && is_recorded r (parts_of e).key (parts_of e).source) _
  where
    go : (b : Bool) (s : Seen) → length (cond b (s ∷ ss) ss) ≤ suc (length ss)
    go true s = omega arith
    go false s = omega arith

seens_ran : {h : History} {l : Ledger} → Ran h l → length l.seens ≤ length h
seens_ran bare = omega arith
seens_ran (began r k) = omega (arith, seens_ran r)
seens_ran (moved {h} {e} {l} r s o) = omega (arith, noted_most l.rows e (row_of l.rows (name_of e)) l.seens, seens_ran r)

pub seens_most : {h : History} {l : Ledger} → Taken h l → length l.seens ≤ length h
seens_most t = seens_ran (ran t)

-- ---- an open row is one that has no verdict yet

open-some : (rs : List Row) (t : ℕ) → is_open (row_of rs t) ≡ true → 0 < count is_open rs
open-some rs t o = ltb-true 0 (count is_open rs) (any-count is_open rs (count is_open rs) refl ∙ any-row is_open rs t (open-there rs t o) o)

pub judged-room : {h : History} {l : Ledger} → Taken h l → length h ≤ 4096 → (t : ℕ) → is_open (row_of l.rows t) ≡ true → length l.judged < 512
judged-room {h} {l} taken few t o =
    let r : Right h (reverse l.judged) = judge-right taken few in
    omega (arith, r.number, length-reverse l.judged, open-rows (ran taken), open-some l.rows t o, rows_counted (ran taken), rows_most taken)
