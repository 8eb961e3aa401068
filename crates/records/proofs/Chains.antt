-- The reads that the ledger keeps for a transaction are its recorded reads, in order: each with its key, and resolved to the line of the
-- version read where it keeps RC, to nowhere where it does not.
use Prim.Native.Nat.{ℕ, suc, ◌≤◌, ◌<◌}
use native.Mathlib.Omega.{arith}
use native.Mathlib.Decide.{ℕ_discrete}
use mathlib.Core.Path.{◌≡◌, refl}
use mathlib.Core.Logic.{◌≢◌}
use mathlib.Core.Bool.{Bool, true, false, cond, not, ◌&&◌, ◌||◌, and-true, and-false, true≢false}
use mathlib.Core.List.{List, [], ◌∷◌}
use lib.Dec.{eqb, ltb}
use lib.ListN.{length}
use borrow.Author.Tests.{eqb-true, eq-eqb, ne_eqb}
use Rattle.lists.specs.Lists.{filter, Every, none, also}
use Rattle.lists.specs.Along.{Along, bare as no_more, beside}
use Rattle.lists.proofs.Every.{every_map}
use Rattle.lists.proofs.Filter.{every_filter}
use Rattle.records.specs.Parts.{name_of, starts, is_reading, is_read, is_commit}
use Rattle.records.specs.declared.Record.{Record}
use Rattle.records.specs.declared.Record.TheVariants.{Start, Tune, Read, Write, Commit, Abort}
use Rattle.records.specs.declared.Row.{Row}
use Rattle.records.specs.declared.Seen.{Seen}
use Rattle.records.specs.Written.{History, ReadLine, read_of, read_lines, recorded_reads, is_own, stamp_of, commit_line, wrote}
use Rattle.records.specs.Ledger.{Ledger, row_of, become, is_open, nowhere, fresh_row, changed, noted, is_recorded, resolved, chain}
use Rattle.records.specs.Mirror.{keeps, Resolves}
use Rattle.records.proofs.Lines.{line_le}
use Rattle.records.proofs.Rows.{unnamed, open-named}
use Rattle.records.proofs.Runs.{Ran, bare, began, moved}
use Rattle.records.proofs.Fields.{row_after, after_same, after-other, landed, keys_tied, commit_tied, other-line}

-- a line of another transaction, and one that is no read, adds none
pub other-reads : (t : ℕ) (e : Record) (h : History) → name_of e ≢ t → recorded_reads (e ∷ h) t ≡ recorded_reads h t
unfolding recorded_reads read_lines
other-reads t e h n = rw (other-line t (is_reading e) e n)

-- a read stands on a line of the history
lines-below : (h : History) (t : ℕ) → Every (λ (x : ReadLine). length x.before < length h) (read_lines h t)
unfolding read_lines
lines-below [] t = none
lines-below (e ∷ h) t = go (is_read t e) (every_map (λ x k. omega arith) (lines-below h t))
  where
    go : (b : Bool) → Every (λ (x : ReadLine). length x.before < suc (length h)) (read_lines h t)
        → Every (λ (x : ReadLine). length x.before < suc (length h)) (cond b (read_of e h ∷ read_lines h t) (read_lines h t))
    go true k = also {x = read_of e h} (omega arith) k
    go false k = k

pub reads-below : (h : History) (t : ℕ) → Every (λ (x : ReadLine). length x.before < length h) (recorded_reads h t)
unfolding recorded_reads
reads-below h t = every_filter _ (lines-below h t)

-- the version read is one of the lines before the read
pub stamp_le : (x : ReadLine) → stamp_of x ≤ length x.before
stamp_le x = go (eqb x.source 0)
  where
    go : (b : Bool) → cond b 0 (commit_line x.before x.source) ≤ length x.before
    go true = omega arith
    go false = line_le (is_commit x.source) x.before

module _ {h : History} {l : Ledger} (r : Ran h l) (small : length h < nowhere) where
  pub resolved_tied : (w x : ℕ) → resolved l.rows w x ≡ (let p : ReadLine = record { key = x; source = w; before = h } in cond (keeps p) (stamp_of p) nowhere)
  unfolding resolved
  resolved_tied w x = rw (keys_tied r (omega arith) w x) (go (eqb w 0) (wrote h w x) (row_of l.rows w).end (commit_line h w) (commit_tied r small w))
    where
      at : (b : Bool) (n c : ℕ) → cond b n 0 ≡ c → cond (ltb 0 n && b) n nowhere ≡ cond (ltb 0 c) c nowhere
      at true n c e = rw (and-true, e)
      at false n c e = rw (and-false, ← e)

      go : (z a : Bool) (n c : ℕ) → landed n ≡ c → cond z 0 (cond (a && (ltb 0 n && ltb n nowhere)) n nowhere) ≡ cond (z || a && ltb 0 c) (cond z 0 c) nowhere
      go true a n c e = refl
      go false true n c e = at (ltb n nowhere) n c e
      go false false n c e = refl

-- what a line of an open transaction does to the reads: nothing, or it records one that names the transaction's last one
data Noting (h : History) (e : Record) (l : Ledger) : Type 0 where
  quiet : (changed (suc (length h)) (length l.seens) e (row_of l.rows (name_of e))).last ≡ (row_of l.rows (name_of e)).last
      → noted l.rows e (row_of l.rows (name_of e)) l.seens ≡ l.seens
      → recorded_reads (e ∷ h) (name_of e) ≡ recorded_reads h (name_of e)
      → Noting h e l
  records : (s : Seen) (x : ReadLine)
      → Resolves s x
      → s.before ≡ (row_of l.rows (name_of e)).last
      → (changed (suc (length h)) (length l.seens) e (row_of l.rows (name_of e))).last ≡ suc (length l.seens)
      → noted l.rows e (row_of l.rows (name_of e)) l.seens ≡ s ∷ l.seens
      → recorded_reads (e ∷ h) (name_of e) ≡ x ∷ recorded_reads h (name_of e)
      → Noting h e l

noting : {h : History} {l : Ledger} → Ran h l → length h < nowhere → (e : Record) → starts e ≡ false → is_open (row_of l.rows (name_of e)) ≡ true → Noting h e l
unfolding changed noted recorded_reads read_lines filter
noting r small (Start t) s o = absurd (true≢false s)
noting r small (Tune t b) s o = quiet refl refl refl
noting {h} {l} r small (Read t x w) s o = go (is_recorded q x w) refl
  where
    q : Row
    q = row_of l.rows t

    as_row : not (is_own t (record { key = x; source = w; before = h })) ≡ is_recorded q x w
    as_row = rw (open-named l.rows t o, keys_tied r (omega arith) t x)

    go : (b : Bool) → is_recorded q x w ≡ b → Noting h (Read t x w) l
    go true e =
        records (record { key = x; line = resolved l.rows w x; before = q.last }) (record { key = x; source = w; before = h })
        (record { key = refl; line = resolved_tied r small w x }) refl (rw e) (rw e) (rw (eq-eqb t t refl, as_row, e))
    go false e = quiet (rw e) (rw e) (rw (eq-eqb t t refl, as_row, e))
noting r small (Write t x) s o = quiet refl refl refl
noting r small (Commit t) s o = quiet refl refl refl
noting r small (Abort t) s o = quiet refl refl refl

-- the number of a transaction's last read is one of the reads so far
pub last_le : {h : History} {l : Ledger} → Ran h l → length h ≤ nowhere → (t : ℕ) → (row_of l.rows t).last ≤ length l.seens
unfolding row_of
last_le bare small t = omega arith
last_le (began {h} {t = u} {l} r k) small t = go (eqb u t) (last_le r (omega arith) t)
  where
    go : (b : Bool) → (row_of l.rows t).last ≤ length l.seens → (cond b (fresh_row (suc (length h)) u) (row_of l.rows t)).last ≤ length l.seens
    go true k = omega arith
    go false k = k
last_le (moved {h} {e} {l} r s o) small t = go (ℕ_discrete (name_of e) t) (noting r small e s o) (λ u. last_le r (omega arith) u)
  where
    grown : Noting h e l → length l.seens ≤ length (noted l.rows e (row_of l.rows (name_of e)) l.seens)
    grown (quiet a b c) = rw b (omega arith)
    grown (records s x a b c d f) = rw d (omega arith)

    go : Dec (name_of e ≡ t) → Noting h e l → ((u : ℕ) → (row_of l.rows u).last ≤ length l.seens)
        → (row_of (become l.rows (name_of e) (row_after (suc (length h)) e l o)) t).last ≤ length (noted l.rows e (row_of l.rows (name_of e)) l.seens)
    go (yes k) (quiet a b c) ih = rw (← k, after_same (suc (length h)) e l o, a, b) (ih (name_of e))
    go (yes k) (records s x a b c d f) ih = rw (← k, after_same (suc (length h)) e l o, c, d) (omega arith)
    go (no k) n ih = rw (after-other (suc (length h)) e l o t k) (omega (arith, grown n, ih t))

-- a read more leaves the chain of an earlier one
chain_past : (s : Seen) (ss : List Seen) (n : ℕ) → n ≤ length ss → chain (s ∷ ss) n ≡ chain ss n
unfolding chain
chain_past s ss n k = rw (ne_eqb n (suc (length ss)) (λ e. omega arith))

chain-here : (s : Seen) (ss : List Seen) → chain (s ∷ ss) (suc (length ss)) ≡ s ∷ chain ss s.before
unfolding chain
chain-here s ss = rw (eq-eqb (suc (length ss)) (suc (length ss)) refl)

pub reads_tied : {h : History} {l : Ledger} → Ran h l → length h ≤ nowhere → (t : ℕ) → Along Resolves (chain l.seens (row_of l.rows t).last) (recorded_reads h t)
unfolding chain row_of recorded_reads read_lines filter
reads_tied bare small t = no_more
reads_tied (began {h} {t = u} {l} r k) small t = go (eqb u t) refl (reads_tied r (omega arith) t)
  where
    go : (b : Bool) → eqb u t ≡ b → Along Resolves (chain l.seens (row_of l.rows t).last) (recorded_reads h t)
        → Along Resolves (chain l.seens (cond b (fresh_row (suc (length h)) u) (row_of l.rows t)).last) (recorded_reads h t)
    go true e ih = rw (unnamed l.rows t (rw (eqb-true u t e) at k)) at ih
    go false e ih = ih
reads_tied (moved {h} {e} {l} r s o) small t = go (ℕ_discrete (name_of e) t) (noting r small e s o) (λ u. reads_tied r (omega arith) u)
  where
    go : Dec (name_of e ≡ t) → Noting h e l → ((u : ℕ) → Along Resolves (chain l.seens (row_of l.rows u).last) (recorded_reads h u))
        → Along Resolves (chain (noted l.rows e (row_of l.rows (name_of e)) l.seens) (row_of (become l.rows (name_of e) (row_after (suc (length h)) e l o)) t).last) (recorded_reads (e ∷ h) t)
    go (yes k) (quiet a b c) ih = rw (← k, after_same (suc (length h)) e l o, a, b, c) (ih (name_of e))
    go (yes k) (records s x a b c d f) ih = rw (← k, after_same (suc (length h)) e l o, c, d, f, chain-here s l.seens) (beside a (rw (← b) at (ih (name_of e))))
    go (no k) (quiet a b c) ih = rw (after-other (suc (length h)) e l o t k, b, other-reads t e h k) (ih t)
    go (no k) (records s x a b c d f) ih = rw (after-other (suc (length h)) e l o t k, d, other-reads t e h k, chain_past s l.seens (row_of l.rows t).last (last_le r (omega arith) t)) (ih t)
