-- The tie between the ledger and the history: what the row of each transaction holds is what the lines so far say of it.
use Prim.Native.Nat.{ℕ, suc, ◌^◌, ◌≤◌, ◌<◌}
use native.Mathlib.Omega.{arith}
use native.Mathlib.Nat.{zero-div}
use native.Mathlib.Decide.{ℕ_discrete}
use mathlib.Core.Path.{◌≡◌, refl, sym, ◌∙◌, ap}
use mathlib.Core.Logic.{◌≢◌}
use mathlib.Core.Bool.{Bool, true, false, cond, ◌&&◌, ◌||◌, or_comm, and-false, true≢false}
use mathlib.Core.List.{[], ◌∷◌, map}
use lib.Dec.{eqb, ltb}
use lib.ListN.{length}
use borrow.Author.Tests.{eqb-true, eqb-false, eq-eqb, ne_eqb, lt-ltb}
use Rattle.lists.specs.Lists.{any, Every, none, also}
use Rattle.lists.specs.Members.{Distinct, empty, apart}
use Rattle.lists.proofs.Every.{every_map, any_none, none_any}
use Rattle.units.specs.Bounds.{calibration}
use Rattle.units.specs.declared.Bounds.{Bounds}
use Rattle.records.specs.Parts.{name_of, starts, tunes, is_writing, commits, aborts, is_start, is_commit, is_write, is_abort}
use Rattle.records.specs.declared.Record.{Record}
use Rattle.records.specs.declared.Record.TheVariants.{Start, Tune, Read, Write, Commit, Abort}
use Rattle.records.specs.declared.Row.{Row}
use Rattle.records.specs.Written.{History, line_where, start_line, commit_line, wrote, bounds_in}
use Rattle.records.specs.Ledger.{Ledger, row_of, become, named, is_open, no_row, nowhere, fresh_row, changed, is_recorded, with_last, has}
use Rattle.records.specs.Mirror.{end_in}
use Rattle.records.proofs.Tuned.{last_counts}
use Rattle.records.proofs.Word.{has-plus}
use Rattle.records.proofs.Rows.{unnamed, open-named, open-there, become-same, become-other, become-names, become-named, named-names, changed-name}
use Rattle.records.proofs.Runs.{Ran, bare, began, moved}
use Rattle.records.proofs.Lines.{line_past, any_past, line_le, line-none, line-some}

-- a record that does not name t is none of its starts, commits, aborts, writes
module _ (t : ℕ) where
  pub other-line : (kind : Bool) (e : Record) → name_of e ≢ t → (kind && eqb (name_of e) t) ≡ false
  other-line kind e n = rw (ne_eqb (name_of e) t n) (and-false kind)

  pub other-start : (e : Record) → name_of e ≢ t → is_start t e ≡ false
  other-start e n = other-line (starts e) e n

  pub other-commit : (e : Record) → name_of e ≢ t → is_commit t e ≡ false
  other-commit e n = other-line (commits e) e n

  pub other-abort : (e : Record) → name_of e ≢ t → is_abort t e ≡ false
  other-abort e n = other-line (aborts e) e n

  pub other-write : (x : ℕ) (e : Record) → name_of e ≢ t → is_write t x e ≡ false
  other-write x e n = rw (ne_eqb (name_of e) t n) (and-false (is_writing e))

  pub other-bounds : (e : Record) (h : History) → name_of e ≢ t → bounds_in (e ∷ h) t ≡ bounds_in h t
  unfolding bounds_in
  other-bounds e h n = rw (other-line (tunes e) e n)

-- what a line makes of its transaction's row, under the same name
module _ (n : ℕ) (e : Record) (l : Ledger) (o : is_open (row_of l.rows (name_of e)) ≡ true) where
  abbrev pub row_after : Row
  row_after = changed n (length l.seens) e (row_of l.rows (name_of e))

  pub after-name : row_after.name ≡ name_of e
  after-name = changed-name n (length l.seens) e (row_of l.rows (name_of e)) ∙ open-named l.rows (name_of e) o

  pub after_same : row_of (become l.rows (name_of e) row_after) (name_of e) ≡ row_after
  after_same = become-same (name_of e) row_after after-name l.rows (open-there l.rows (name_of e) o)

  pub after-other : (u : ℕ) → name_of e ≢ u → row_of (become l.rows (name_of e) row_after) u ≡ row_of l.rows u
  after-other u k = become-other (name_of e) row_after after-name l.rows u k

-- no name comes or goes but by a start
pub named-started : {h : History} {l : Ledger} → Ran h l → (t : ℕ) → any (named t) l.rows ≡ any (is_start t) h
unfolding any
named-started bare t = refl
named-started (began {t = u} r f) t = rw (named-started r t)
named-started (moved {h} {e} {l} r s o) t =
    become-named (name_of e) (row_after (suc (length h)) e l o) (after-name (suc (length h)) e l o) l.rows t ∙ named-started r t ∙ sym (any_past (is_start t) e h (rw s))

-- before its start no line names a transaction
pub silent : {h : History} {l : Ledger} → Ran h l → (t : ℕ) → any (named t) l.rows ≡ false → Every (λ (e : Record). name_of e ≢ t) h
unfolding any
silent bare t f = none
silent (began {h} {t = u} {l} r k) t f = go (eqb u t) refl (λ q. silent r t q) f
  where
    go : (b : Bool) → eqb u t ≡ b → (any (named t) l.rows ≡ false → Every (λ (e : Record). name_of e ≢ t) h) → (b || any (named t) l.rows) ≡ false
        → Every (λ (e : Record). name_of e ≢ t) (Start u ∷ h)
    go true q k f = absurd (true≢false f)
    go false q k f = also (eqb-false u t q) (k f)
silent (moved {h} {e} {l} r s o) t f = also (λ q. true≢false (sym (open-there l.rows (name_of e) o) ∙ ap (λ (u : ℕ). any (named u) l.rows) q ∙ before)) (silent r t before)
  where
    before : any (named t) l.rows ≡ false
    before = sym (become-named (name_of e) (row_after (suc (length h)) e l o) (after-name (suc (length h)) e l o) l.rows t) ∙ f

-- a line after h that moves the open row q
pub record Moves (h : History) (e : Record) (q : Row) : Type 0 where
  pub below : length h < nowhere
  pub moving : starts e ≡ false
  pub name : q.name ≡ name_of e
  pub unended : q.end ≡ 0
  pub started : any (is_start (name_of e)) h ≡ true

-- what the lines say of a transaction that none of them names is what no lines say
pub unsaid : {B : Type 0} (F : History → ℕ → B) → ((e : Record) (h : History) (u : ℕ) → name_of e ≢ u → F (e ∷ h) u ≡ F h u) → {h : History} (t : ℕ)
    → Every (λ (e : Record). name_of e ≢ t) h → F h t ≡ F [] t
unsaid F others t n = along F others t n
  where
    along : {B : Type 0} (F : History → ℕ → B) → ((e : Record) (h : History) (u : ℕ) → name_of e ≢ u → F (e ∷ h) u ≡ F h u) → (t : ℕ) → {h : History}
        → Every (λ (e : Record). name_of e ≢ t) h → F h t ≡ F [] t
    along F others t none = refl
    along F others t (also {x = e} {xs = h} n ns) = others e h t n ∙ along F others t ns

pub silent_any : (p : ℕ → Record → Bool) → ((t : ℕ) (e : Record) → name_of e ≢ t → p t e ≡ false) → {h : History} {t : ℕ} → Every (λ (e : Record). name_of e ≢ t) h
    → any (p t) h ≡ false
silent_any p others {h} {t} s = any_none (p t) (every_map (λ e n. others t e n) s)

-- F h t is what the lines h say of t, f what a row says: they agree on every transaction if they do on each kind of line
module _ {B : Type 0} (f : Row → B) (F : History → ℕ → B)
    (at_first : (t : ℕ) → f no_row ≡ F [] t)
    (others : (e : Record) (h : History) (u : ℕ) → name_of e ≢ u → F (e ∷ h) u ≡ F h u)
    (begins : (h : History) (t : ℕ) → f no_row ≡ F h t → Every (λ (e : Record). name_of e ≢ t) h → f (fresh_row (suc (length h)) t) ≡ F (Start t ∷ h) t)
    (moves : (h : History) (e : Record) (n : ℕ) (r : Row) → Moves h e r → f r ≡ F h (name_of e) → f (changed (suc (length h)) n e r) ≡ F (e ∷ h) (name_of e)) where
  pub tied : {h : History} {l : Ledger} → Ran h l → length h ≤ nowhere → (t : ℕ) → f (row_of l.rows t) ≡ F h t
  unfolding row_of
  tied bare small t = at_first t
  tied (began {h} {t = u} {l} r k) small t = go (ℕ_discrete u t) (tied r (omega arith) t)
    where
      go : Dec (u ≡ t) → f (row_of l.rows t) ≡ F h t → f (cond (eqb u t) (fresh_row (suc (length h)) u) (row_of l.rows t)) ≡ F (Start u ∷ h) t
      go (yes e) ih =
          rw (eq-eqb u t e, ← e) (begins h u (sym (ap f (unnamed l.rows u k)) ∙ rw (← e) at ih) (silent r u k))
      go (no n) ih = rw (ne_eqb u t n) (ih ∙ sym (others (Start u) h t n))
  tied (moved {h} {e} {l} r s o) small t = go (ℕ_discrete (name_of e) t) (λ u. tied r (omega arith) u)
    where
      go : Dec (name_of e ≡ t) → ((u : ℕ) → f (row_of l.rows u) ≡ F h u) → f (row_of (become l.rows (name_of e) (row_after (suc (length h)) e l o)) t) ≡ F (e ∷ h) t
      go (yes q) ih =
          rw (← q, after_same (suc (length h)) e l o)
          (moves h e (length l.seens) (row_of l.rows (name_of e)) now (ih (name_of e)))
        where
          now : Moves h e (row_of l.rows (name_of e))
          now =
              record {
                below = small;
                moving = s;
                name = open-named l.rows (name_of e) o;
                unended = eqb-true (row_of l.rows (name_of e)).end 0 o;
                started = sym (named-started r (name_of e)) ∙ open-there l.rows (name_of e) o;
              }
      go (no n) ih = rw (after-other (suc (length h)) e l o t n) (ih t ∙ sym (others e h t n))

-- a read moves at most the last recorded read of its row
pub read_keeps : {B : Type 0} (f : Row → B) (r : Row) (m : ℕ) (b : Bool) → f (with_last r m) ≡ f r → f (cond b (with_last r m) r) ≡ f r
read_keeps f r m true e = e
read_keeps f r m false e = refl

-- the line of its start
pub start_tied : {h : History} {l : Ledger} → Ran h l → length h ≤ nowhere → (t : ℕ) → (row_of l.rows t).start ≡ start_line h t
unfolding line_where changed
start_tied = tied (λ (q : Row). q.start) start_line (λ u. refl) (λ e g u n. line_past (is_start u) e g (other-start u e n)) (λ g u e s. rw (eq-eqb u u refl)) moves
  where
    moves : (g : History) (e : Record) (n : ℕ) (q : Row) → Moves g e q
        → q.start ≡ start_line g (name_of e) → (changed (suc (length g)) n e q).start ≡ start_line (e ∷ g) (name_of e)
    moves g (Start u) n q m ih = absurd (true≢false m.moving)
    moves g (Tune u b) n q m ih = ih
    moves g (Read u x w) n q m ih = read_keeps (λ (a : Row). a.start) q (suc n) (is_recorded q x w) refl ∙ ih
    moves g (Write u x) n q m ih = ih
    moves g (Commit u) n q m ih = ih
    moves g (Abort u) n q m ih = ih

-- the keys that it wrote
pub keys_tied : {h : History} {l : Ledger} → Ran h l → length h ≤ nowhere → (t x : ℕ) → has (row_of l.rows t).keys x ≡ wrote h t x
unfolding any changed
keys_tied r small t x =
    tied (λ (q : Row). has q.keys x) (λ (g : History) (u : ℕ). wrote g u x) (λ u. empty) (λ e g u n. any_past (is_write u x) e g (other-write u x e n)) (λ g u e s. e) moves r small t
  where
    empty : has 0 x ≡ false
    empty = rw (zero-div (2 ^ x))

    moves : (g : History) (e : Record) (n : ℕ) (q : Row) → Moves g e q
        → has q.keys x ≡ wrote g (name_of e) x → has (changed (suc (length g)) n e q).keys x ≡ wrote (e ∷ g) (name_of e) x
    moves g (Start u) n q m ih = absurd (true≢false m.moving)
    moves g (Tune u b) n q m ih = ih
    moves g (Read u y w) n q m ih = read_keeps (λ (a : Row). has a.keys x) q (suc n) (is_recorded q y w) refl ∙ ih
    moves g (Write u y) n q m ih = has-plus q.keys y x ∙ rw (ih, eq-eqb u u refl) (or_comm (wrote g u x) (eqb y x))
    moves g (Commit u) n q m ih = ih
    moves g (Abort u) n q m ih = ih

-- its bounds, once it has started
abbrev bounds_or_none : History → ℕ → Bounds
bounds_or_none h t = cond (any (is_start t) h) (bounds_in h t) no_row.bounds

pub bounds_tied : {h : History} {l : Ledger} → Ran h l → length h ≤ nowhere → (t : ℕ) → any (is_start t) h ≡ true → (row_of l.rows t).bounds ≡ bounds_in h t
unfolding any bounds_in changed
bounds_tied r small t started = tied (λ (q : Row). q.bounds) bounds_or_none (λ u. refl) others begins moves r small t ∙ rw started
  where
    others : (e : Record) (g : History) (u : ℕ) → name_of e ≢ u → bounds_or_none (e ∷ g) u ≡ bounds_or_none g u
    others e g u n = rw (other-start u e n, other-bounds u e g n)

    begins : (g : History) (u : ℕ) → no_row.bounds ≡ bounds_or_none g u → Every (λ (e : Record). name_of e ≢ u) g → calibration ≡ bounds_or_none (Start u ∷ g) u
    begins g u e s = rw (eq-eqb u u refl) (sym (unsaid bounds_in (λ k i v n. other-bounds v k i n) u s))

    moves : (g : History) (e : Record) (n : ℕ) (q : Row) → Moves g e q
        → q.bounds ≡ bounds_or_none g (name_of e) → (changed (suc (length g)) n e q).bounds ≡ bounds_or_none (e ∷ g) (name_of e)
    moves g (Start u) n q m ih = absurd (true≢false m.moving)
    moves g (Tune u b) n q m ih = rw m.started (sym (last_counts u g b none))
    moves g (Read u x w) n q m ih = read_keeps (λ (a : Row). a.bounds) q (suc n) (is_recorded q x w) refl ∙ ih
    moves g (Write u x) n q m ih = ih
    moves g (Commit u) n q m ih = ih
    moves g (Abort u) n q m ih = ih

-- where it ended: 0 while it is open, the line of its commit, nowhere where it was aborted
open-commits : (h : History) (t : ℕ) → end_in h t ≡ 0 → any (is_commit t) h ≡ false
unfolding end_in
open-commits h t e = go (any (is_commit t) h) refl e
  where
    go : (b : Bool) → any (is_commit t) h ≡ b → cond b (commit_line h t) (cond (any (is_abort t) h) nowhere (cond (any (is_start t) h) 0 nowhere)) ≡ 0 → b ≡ false
    go true q e = absurd (omega (arith, line-some (is_commit t) h q))
    go false q e = refl

open-aborts : (h : History) (t : ℕ) → end_in h t ≡ 0 → any (is_abort t) h ≡ false
unfolding end_in
open-aborts h t e = go (any (is_abort t) h) (rw (open-commits h t e) at e)
  where
    go : (b : Bool) → cond b nowhere (cond (any (is_start t) h) 0 nowhere) ≡ 0 → b ≡ false
    go true e = absurd (omega arith)
    go false e = refl

pub end_tied : {h : History} {l : Ledger} → Ran h l → length h ≤ nowhere → (t : ℕ) → (row_of l.rows t).end ≡ end_in h t
unfolding any changed end_in line_where
end_tied = tied (λ (q : Row). q.end) end_in (λ u. refl) others begins moves
  where
    others : (e : Record) (g : History) (u : ℕ) → name_of e ≢ u → end_in (e ∷ g) u ≡ end_in g u
    others e g u n = rw (other-start u e n, other-commit u e n, other-abort u e n)

    begins : (g : History) (u : ℕ) → nowhere ≡ end_in g u → Every (λ (e : Record). name_of e ≢ u) g → 0 ≡ end_in (Start u ∷ g) u
    begins g u e s = rw (eq-eqb u u refl, silent_any is_commit other-commit s, silent_any is_abort other-abort s)

    moves : (g : History) (e : Record) (n : ℕ) (q : Row) → Moves g e q → q.end ≡ end_in g (name_of e) → (changed (suc (length g)) n e q).end ≡ end_in (e ∷ g) (name_of e)
    moves g (Start u) n q m ih = absurd (true≢false m.moving)
    moves g (Tune u b) n q m ih = ih
    moves g (Read u x w) n q m ih = read_keeps (λ (a : Row). a.end) q (suc n) (is_recorded q x w) refl ∙ ih
    moves g (Write u x) n q m ih = ih
    moves g (Commit u) n q m ih = rw (eq-eqb u u refl)
    moves g (Abort u) n q m ih = rw (eq-eqb u u refl, open-commits g u (sym ih ∙ m.unended))

-- the line of a commit, out of the row: the row of one that did not commit has an end that is no line
abbrev pub landed : ℕ → ℕ
landed n = cond (ltb n nowhere) n 0

end_landed : (h : History) (t : ℕ) → length h < nowhere → landed (end_in h t) ≡ commit_line h t
unfolding end_in
end_landed h t small = go (any (is_commit t) h) refl (any (is_abort t) h) (any (is_start t) h)
  where
    go : (b : Bool) → any (is_commit t) h ≡ b → (c d : Bool) → landed (cond b (commit_line h t) (cond c nowhere (cond d 0 nowhere))) ≡ commit_line h t
    go true e c d = rw (lt-ltb (commit_line h t) nowhere (omega (arith, line_le (is_commit t) h)))
    go false e true d = sym (line-none (is_commit t) h e)
    go false e false true = sym (line-none (is_commit t) h e)
    go false e false false = sym (line-none (is_commit t) h e)

pub commit_tied : {h : History} {l : Ledger} → Ran h l → length h < nowhere → (t : ℕ) → landed (row_of l.rows t).end ≡ commit_line h t
commit_tied {h} r small t = ap landed (end_tied r (omega arith) t) ∙ end_landed h t small

-- a line that is taken names no transaction that has ended
pub not_ended : {e : Record} {h : History} {l : Ledger} → Ran (e ∷ h) l → length h < nowhere → (any (is_commit (name_of e)) h ≡ false) × (any (is_abort (name_of e)) h ≡ false)
not_ended (began {t = t} r k) small = let s = silent r t k in (silent_any is_commit other-commit s, silent_any is_abort other-abort s)
not_ended (moved {h} {e} {l} r s o) small =
    let z : end_in h (name_of e) ≡ 0 = sym (end_tied r (omega arith) (name_of e)) ∙ eqb-true (row_of l.rows (name_of e)).end 0 o in
    (open-commits h (name_of e) z, open-aborts h (name_of e) z)

-- no two rows have one name
pub names-distinct : {h : History} {l : Ledger} → Ran h l → Distinct (map (λ (q : Row). q.name) l.rows)
names-distinct bare = empty
names-distinct (began {t = t} {l = l} r k) =
    apart (every_map (λ n e q. eqb-false n t e q) (none_any (λ (n : ℕ). eqb n t) (map (λ (q : Row). q.name) l.rows) (sym (named-names l.rows t) ∙ k))) (names-distinct r)
names-distinct (moved {h} {e} {l} r s o) =
    rw (become-names (name_of e) (row_after (suc (length h)) e l o) (after-name (suc (length h)) e l o) l.rows) (names-distinct r)

-- one that committed has a row
pub committed-named : {h : History} {l : Ledger} → Ran h l → (t : ℕ) → 0 < commit_line h t → any (named t) l.rows ≡ true
committed-named {h} {l} r t c = go (any (named t) l.rows) refl
  where
    go : (b : Bool) → any (named t) l.rows ≡ b → b ≡ true
    go true e = refl
    go false e = absurd (omega (arith, line-none (is_commit t) h (silent_any is_commit other-commit (silent r t e))))
