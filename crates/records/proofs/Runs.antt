-- Histories whose lines were all taken, by what each line did: it started a transaction, or it moved one that is open.
use Prim.Native.Nat.{ℕ, suc}
use native.Mathlib.Omega.{arith}
use mathlib.Core.Path.{◌≡◌, refl, sym, subst}
use mathlib.Core.Bool.{Bool, true, false, cond}
use mathlib.Core.List.{[], ◌∷◌}
use lib.Dec.{leb}
use lib.ListN.{length}
use Rattle.lists.specs.Lists.{any}
use Rattle.records.specs.Parts.{name_of, starts}
use Rattle.records.specs.declared.Record.{Record}
use Rattle.records.specs.declared.Record.TheVariants.{Start}
use Rattle.records.specs.declared.Row.{Row}
use Rattle.records.specs.Written.{History}
use Rattle.records.specs.Ledger.{Ledger, blank, refused, went, line_step, begun, row_of, become, named, is_open, fresh_row, changed, noted, concluded}
use Rattle.records.specs.Judge.{Taken, nothing, line}
use Rattle.records.proofs.Parts.{start_is}

abbrev pub begun_at : ℕ → ℕ → Ledger → Ledger
begun_at n t l = record { rows = fresh_row n t ∷ l.rows; seens = l.seens; judged = l.judged }

abbrev pub moved_at : ℕ → Record → Ledger → Ledger
moved_at n e l =
    let r : Row = row_of l.rows (name_of e) in
    record {
      rows = become l.rows (name_of e) (changed n (length l.seens) e r);
      seens = noted l.rows e r l.seens;
      judged = concluded n l.rows l.seens e r l.judged;
    }

pub data Ran : History → Ledger → Type 0 where
  bare : Ran [] blank
  began : {h : History} {t : ℕ} {l : Ledger} → Ran h l → any (named t) l.rows ≡ false → Ran (Start t ∷ h) (begun_at (suc (length h)) t l)
  moved : {h : History} {e : Record} {l : Ledger} → Ran h l → starts e ≡ false → is_open (row_of l.rows (name_of e)) ≡ true
      → Ran (e ∷ h) (moved_at (suc (length h)) e l)

module _ {h : History} {l : Ledger} (r : Ran h l) (l' : Ledger) where
  land : {e : Record} {m : Ledger} → Ran (e ∷ h) m → went m ≡ went l' → Ran (e ∷ h) l'
  land {e} {m} k q = let z : m ≡ l' = cc in subst (λ (x : Ledger). Ran (e ∷ h) x) z k

  starting : (t : ℕ) → begun (suc (length h)) t l ≡ went l' → Ran (Start t ∷ h) l'
  starting t = go (any (named t) l.rows) refl (leb 512 (length l.rows))
    where
      go : (b : Bool) → any (named t) l.rows ≡ b → (c : Bool) → cond b (refused 15) (cond c (refused 16) (went (begun_at (suc (length h)) t l))) ≡ went l'
          → Ran (Start t ∷ h) l'
      go true e c q = let z : ◌≡◌ {A = ℕ} 0 1 = cc in absurd (omega arith)
      go false e true q = let z : ◌≡◌ {A = ℕ} 0 1 = cc in absurd (omega arith)
      go false e false q = land (began r e) q

  moving : (e : Record) → starts e ≡ false → cond (is_open (row_of l.rows (name_of e))) (went (moved_at (suc (length h)) e l)) (refused 15) ≡ went l'
      → Ran (e ∷ h) l'
  moving e s = go (is_open (row_of l.rows (name_of e))) refl
    where
      go : (b : Bool) → is_open (row_of l.rows (name_of e)) ≡ b → cond b (went (moved_at (suc (length h)) e l)) (refused 15) ≡ went l' → Ran (e ∷ h) l'
      go true p q = land (moved r s p) q
      go false p q = let z : ◌≡◌ {A = ℕ} 0 1 = cc in absurd (omega arith)

  one_more : (e : Record) → line_step (suc (length h)) e l ≡ went l' → Ran (e ∷ h) l'
  unfolding line_step
  one_more e = go (starts e) refl
    where
      go : (b : Bool) → starts e ≡ b → cond b (begun (suc (length h)) (name_of e) l) (cond (is_open (row_of l.rows (name_of e))) (went (moved_at (suc (length h)) e l)) (refused 15)) ≡ went l'
          → Ran (e ∷ h) l'
      go true s q = subst (λ (d : Record). Ran (d ∷ h) l') (sym (start_is e s)) (starting (name_of e) q)
      go false s q = moving e s q

pub ran : {h : History} {l : Ledger} → Taken h l → Ran h l
ran nothing = bare
ran (line {r = e} {l' = m} t q) = one_more (ran t) m e q
