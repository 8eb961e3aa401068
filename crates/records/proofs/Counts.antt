-- The versions that the rows count are the versions of the history: up to a line, and between two lines.
use Prim.Native.Nat.{ℕ, suc, ◌+◌, ◌≤◌, ◌<◌}
use native.Mathlib.Omega.{arith}
use mathlib.Core.Path.{◌≡◌, refl, ◌∙◌, ap}
use mathlib.Core.Bool.{Bool, true, false, cond, ◌&&◌, and-false, true≢false, false≢true}
use mathlib.Core.List.{List, [], ◌∷◌}
use lib.Dec.{leb, ltb}
use lib.ListN.{length}
use borrow.Author.Tests.{eqb-true, lt-ltb, le-ltb, lt-leb}
use Rattle.lists.specs.Lists.{count, bit, Every, none, also}
use Rattle.lists.proofs.Every.{every_map}
use Rattle.lists.proofs.Count.{count_same}
use Rattle.records.specs.Parts.{name_of, starts}
use Rattle.records.specs.declared.Record.{Record}
use Rattle.records.specs.declared.Record.TheVariants.{Start, Tune, Read, Write, Commit, Abort}
use Rattle.records.specs.declared.Row.{Row}
use Rattle.records.specs.Written.{History, version_lines, wrote, makes, up_to, between}
use Rattle.records.specs.Ledger.{Ledger, row_of, nowhere, fresh_row, changed, is_recorded, has, rows_up_to, rows_between}
use Rattle.records.proofs.Rows.{open-there, become-count}
use Rattle.records.proofs.Runs.{Ran, bare, began, moved}
use Rattle.records.proofs.Fields.{row_after, read_keeps, keys_tied}

-- f tests the line of a commit, and holds of no end that is none
module _ (x : ℕ) (f : ℕ → Bool) (not-open : f 0 ≡ false) (not-aborted : f nowhere ≡ false) where
  abbrev made : Row → Bool
  made q = has q.keys x && f q.end

  open_none : (q : Row) → q.end ≡ 0 → made q ≡ false
  open_none q e = rw (e, not-open) (and-false (has q.keys x))

  still : (m : ℕ) (q : Row) → made q ≡ false → m ≡ m + bit (made q)
  unfolding bit
  still m q e = rw e (omega arith)

  lands : (a b : Bool) (n : ℕ) (v : List ℕ) → a ≡ b → count f (cond b (n ∷ v) v) ≡ count f v + bit (a && f n)
  unfolding count bit
  lands true true n v e = go (f n)
    where
      go : (c : Bool) → cond c (suc (count f v)) (count f v) ≡ count f v + bit c
      go true = omega arith
      go false = omega arith
  lands true false n v e = absurd (true≢false e)
  lands false true n v e = absurd (false≢true e)
  lands false false n v e = omega arith

  -- a line adds the version that its row has become
  adds : (h : History) (e : Record) (n : ℕ) (r : Row) → starts e ≡ false → r.end ≡ 0 → has r.keys x ≡ wrote h (name_of e) x
      → count f (version_lines (e ∷ h) x) ≡ count f (version_lines h x) + bit (made (changed (suc (length h)) n e r))
  unfolding version_lines changed
  adds h (Start t) n r s o k = absurd (true≢false s)
  adds h (Tune t b) n r s o k = still _ (changed (suc (length h)) n (Tune t b) r) (open_none (changed (suc (length h)) n (Tune t b) r) o)
  adds h (Read t y w) n r s o k =
      still _ (changed (suc (length h)) n (Read t y w) r)
      (open_none (changed (suc (length h)) n (Read t y w) r) (read_keeps (λ (a : Row). a.end) r (suc n) (is_recorded r y w) refl ∙ o))
  adds h (Write t y) n r s o k = still _ (changed (suc (length h)) n (Write t y) r) (open_none (changed (suc (length h)) n (Write t y) r) o)
  adds h (Commit t) n r s o k = lands (has r.keys x) (wrote h t x) (suc (length h)) (version_lines h x) k
  adds h (Abort t) n r s o k = still _ (changed (suc (length h)) n (Abort t) r) (rw not-aborted (and-false (has r.keys x)))

  pub counted : {h : History} {l : Ledger} → Ran h l → length h ≤ nowhere → count made l.rows ≡ count f (version_lines h x)
  unfolding version_lines count bit
  counted bare small = refl
  counted (began {h} {t = t} {l} r k) small = rw (open_none (fresh_row (suc (length h)) t) refl) (counted r (omega arith))
  counted (moved {h} {e} {l} r s o) small =
      let z : (row_of l.rows (name_of e)).end ≡ 0 = eqb-true (row_of l.rows (name_of e)).end 0 o in
      let q = become-count made l.rows (name_of e) (row_after (suc (length h)) e l o) (open-there l.rows (name_of e) o) in
      let p : bit (made (row_of l.rows (name_of e))) ≡ 0 = ap bit (open_none (row_of l.rows (name_of e)) z) in
      let a = adds h e (length l.seens) (row_of l.rows (name_of e)) s z (keys_tied r (omega arith) (name_of e) x) in
      omega (arith, q, p, a, counted r (omega arith))

-- a version's line is a line of the history
pub version-lines : (h : History) (x : ℕ) → Every (λ (v : ℕ). (0 < v) × (v ≤ length h)) (version_lines h x)
unfolding version_lines
version-lines [] x = none
version-lines (e ∷ h) x = go (makes x h e) (every_map (λ v k. (k.0, omega arith)) (version-lines h x))
  where
    go : (b : Bool) → Every (λ (v : ℕ). (0 < v) × (v ≤ suc (length h))) (version_lines h x)
        → Every (λ (v : ℕ). (0 < v) × (v ≤ suc (length h))) (cond b (suc (length h) ∷ version_lines h x) (version_lines h x))
    go true k = also {x = suc (length h)} (omega arith) k
    go false k = k

module _ {h : History} {l : Ledger} (r : Ran h l) (small : length h ≤ nowhere) (x : ℕ) where
  -- O_x(t)
  pub up_to_tied : (t : ℕ) → t < nowhere → rows_up_to l.rows x t ≡ up_to h x t
  unfolding rows_up_to
  up_to_tied t k =
      counted x (λ (n : ℕ). ltb 0 n && leb n t) refl (rw (lt-leb nowhere t k) refl) r small
      ∙ count_same _ _ (every_map (λ v p. rw (lt-ltb 0 v p.0)) (version-lines h x))

  pub between_tied : (after before : ℕ) → before ≤ nowhere → rows_between l.rows x after before ≡ between h x after before
  unfolding rows_between
  between_tied after before k =
      counted x (λ (n : ℕ). ltb after n && ltb n before) (rw (le-ltb after 0 (omega arith))) (rw (le-ltb nowhere before k) (and-false (ltb after nowhere))) r small

-- a line changes no count of the lines before it
pub up_to_stays : (e : Record) (h : History) (x t : ℕ) → t ≤ length h → up_to (e ∷ h) x t ≡ up_to h x t
unfolding version_lines count
up_to_stays e h x t k = go (makes x h e)
  where
    go : (b : Bool) → count (λ (v : ℕ). leb v t) (cond b (suc (length h) ∷ version_lines h x) (version_lines h x)) ≡ up_to h x t
    go true = rw (lt-leb (suc (length h)) t (omega arith))
    go false = refl

pub between_stays : (e : Record) (h : History) (x after before : ℕ) → before ≤ suc (length h) → between (e ∷ h) x after before ≡ between h x after before
unfolding version_lines count
between_stays e h x after before k = go (makes x h e)
  where
    go : (b : Bool) → count (λ (v : ℕ). ltb after v && ltb v before) (cond b (suc (length h) ∷ version_lines h x) (version_lines h x)) ≡ between h x after before
    go true = rw (le-ltb (suc (length h)) before k, and-false (ltb after (suc (length h))))
    go false = refl
