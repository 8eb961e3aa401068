-- The number of a line is document 01's: 15 and 16 exactly where the table says so in words of the lines before it, of which none is refused.
use Prim.Native.Nat.{ℕ, suc, ◌≤◌, ◌<◌}
use native.Mathlib.Omega.{arith}
use mathlib.Core.Path.{◌≡◌, refl, sym, ◌∙◌, ap, subst}
use mathlib.Core.Logic.{◌↔◌, ◌⊎◌, ◌≢◌, inl, inr}
use mathlib.Core.Bool.{Bool, true, false, cond, not, ◌&&◌, ◌||◌, or-true, true≢false, false≢true}
use mathlib.Core.List.{List, [], ◌∷◌}
use lib.Dec.{eqb, leb}
use borrow.Author.Tests.{eqb-true, eq-eqb, leb-true, leb-false, le-leb}
use Rattle.lists.specs.Lists.{any, count}
use Rattle.lists.specs.Members.{In, here, below}
use Rattle.lists.proofs.Members.{in_nothing}
use Rattle.records.specs.declared.Record.{Record}
use Rattle.records.specs.declared.Record.TheVariants.{Start, Commit, Abort}
use Rattle.records.specs.Parts.{name_of, starts, commits, aborts, is_start, is_commit, is_abort}
use Rattle.records.specs.Written.{History}
use Rattle.records.specs.Refused.{open_in, refusal_in, Unrefused, no_lines, and_taken, Misplaced, used_before, not_started, ended_already, Surplus}
use Rattle.records.proofs.Parts.{start_is, commit_is, abort_is}

-- ---- whether a line stands among the lines

some_in : {A : Type 0} (p : A → Bool) (l : List A) → any p l ≡ true → (x : A) × In x l × (p x ≡ true)
unfolding any
some_in p [] e = absurd (false≢true e)
some_in {A} p (x ∷ l) e = go (p x) refl (some_in p l) e
  where
    go : (b : Bool) → p x ≡ b → (any p l ≡ true → (y : A) × In y l × (p y ≡ true)) → (b || any p l) ≡ true → (y : A) × In y (x ∷ l) × (p y ≡ true)
    go true q k e = (x, here, q)
    go false q k e = let r = k e in (r.0, below r.1, r.2)

in_some : {A : Type 0} (p : A → Bool) {x : A} {l : List A} → In x l → p x ≡ true → any p l ≡ true
unfolding any
in_some p (here {xs = xs}) q = rw q
in_some p (below {y = y} i) q = rw (in_some p i q) (or-true (p y))

-- the line of a kind and a transaction
module _ (is : Record → Bool) (line : ℕ → Record) (only : (e : Record) → is e ≡ true → e ≡ line (name_of e)) (kind : (t : ℕ) → is (line t) ≡ true) (named : (t : ℕ) → name_of (line t) ≡ t) where
  has-line : (h : History) (t : ℕ) → any (λ (e : Record). is e && eqb (name_of e) t) h ≡ true → In (line t) h
  has-line h t e =
      let s = some_in (λ (e : Record). is e && eqb (name_of e) t) h e in
      let b = both (is s.0) (eqb (name_of s.0) t) s.2 in
      subst (λ (d : Record). In d h) (only s.0 b.0 ∙ ap line (eqb-true (name_of s.0) t b.1)) s.1
    where
      both : (a b : Bool) → (a && b) ≡ true → (a ≡ true) × (b ≡ true)
      both true b e = (refl, e)
      both false b e = absurd (false≢true e)

  line_in : {h : History} (t : ℕ) → In (line t) h → any (λ (e : Record). is e && eqb (name_of e) t) h ≡ true
  line_in t i = in_some (λ (e : Record). is e && eqb (name_of e) t) i (rw (kind t) (eq-eqb (name_of (line t)) t (named t)))

has-start : (h : History) (t : ℕ) → any (is_start t) h ≡ true → In (Start t) h
has-start h t e = has-line starts Start start_is (λ u. refl) (λ u. refl) h t e

start_in : {h : History} (t : ℕ) → In (Start t) h → any (is_start t) h ≡ true
start_in t i = line_in starts Start start_is (λ u. refl) (λ u. refl) t i

has-commit : (h : History) (t : ℕ) → any (is_commit t) h ≡ true → In (Commit t) h
has-commit h t e = has-line commits Commit commit_is (λ u. refl) (λ u. refl) h t e

commit_in : {h : History} (t : ℕ) → In (Commit t) h → any (is_commit t) h ≡ true
commit_in t i = line_in commits Commit commit_is (λ u. refl) (λ u. refl) t i

has-abort : (h : History) (t : ℕ) → any (is_abort t) h ≡ true → In (Abort t) h
has-abort h t e = has-line aborts Abort abort_is (λ u. refl) (λ u. refl) h t e

abort_in : {h : History} (t : ℕ) → In (Abort t) h → any (is_abort t) h ≡ true
abort_in t i = line_in aborts Abort abort_is (λ u. refl) (λ u. refl) t i

-- ---- what a number says of the tests

abbrev start_number : Bool → Bool → ℕ
start_number used full = cond used 15 (cond full 16 0)

abbrev other_number : Bool → ℕ
other_number live = cond live 0 15

module _ (h : History) (r : Record) where
  -- an `s`, by its two checks; any other record, by its one
  by_start : starts r ≡ true → refusal_in h r ≡ start_number (any (is_start (name_of r)) h) (leb 512 (count starts h))
  unfolding refusal_in
  by_start s = rw s

  by_other : starts r ≡ false → refusal_in h r ≡ other_number (open_in h (name_of r))
  unfolding refusal_in
  by_other s = rw s

-- a record that is taken is of a transaction that has started, unless it starts it
taken-open : (h : History) (r : Record) → refusal_in h r ≡ 0 → starts r ≡ false → open_in h (name_of r) ≡ true
taken-open h r z s = go (open_in h (name_of r)) (sym (by_other h r s) ∙ z)
  where
    go : (b : Bool) → other_number b ≡ 0 → b ≡ true
    go true e = refl
    go false e = absurd (omega arith)

open_started : (h : History) (t : ℕ) → open_in h t ≡ true → any (is_start t) h ≡ true
open_started h t e = go (any (is_start t) h) e
  where
    go : (b : Bool) → (b && not (any (is_commit t) h || any (is_abort t) h)) ≡ true → b ≡ true
    go true e = refl
    go false e = absurd (false≢true e)

-- so a number that is used was started
used_started : {h : History} {e : Record} → Unrefused h → In e h → In (Start (name_of e)) h
used_started no_lines i = absurd (in_nothing i)
used_started (and_taken {h} {r} u z) here = go (starts r) refl
  where
    go : (b : Bool) → starts r ≡ b → In (Start (name_of r)) (r ∷ h)
    go true s = subst (λ (d : Record). In d (r ∷ h)) (start_is r s) here
    go false s = below (has-start h (name_of r) (open_started h (name_of r) (taken-open h r z s)))
used_started (and_taken u z) (below i) = below (used_started u i)

-- and at most 512 are
pub starts_most : {h : History} → Unrefused h → count starts h ≤ 512
unfolding count
starts_most no_lines = omega arith
starts_most (and_taken {h} {r} u z) = go (starts r) refl (starts_most u)
  where
    room : (a b : Bool) → leb 512 (count starts h) ≡ b → start_number a b ≡ 0 → count starts h < 512
    room true b e q = absurd (omega arith)
    room false true e q = absurd (omega arith)
    room false false e q = leb-false 512 (count starts h) e

    go : (b : Bool) → starts r ≡ b → count starts h ≤ 512 → cond b (suc (count starts h)) (count starts h) ≤ 512
    go true s k = room (any (is_start (name_of r)) h) (leb 512 (count starts h)) refl (sym (by_start h r s) ∙ z)
    go false s k = k

-- ---- the table

-- another record
other_is : (r : Record) → ((t : ℕ) → r ≢ Start t) → starts r ≡ false
other_is r n = go (starts r) refl
  where
    go : (b : Bool) → starts r ≡ b → b ≡ false
    go true s = absurd (n (name_of r) (start_is r s))
    go false s = refl

is_other : (r : Record) → starts r ≡ false → (t : ℕ) → r ≢ Start t
is_other r s t e = true≢false (sym (ap starts e) ∙ s)

-- not started, or ended
closed : (h : History) (t : ℕ) → open_in h t ≡ false → (¬ In (Start t) h) ⊎ (In (Commit t) h ⊎ In (Abort t) h)
closed h t e = go (any (is_start t) h) refl (any (is_commit t) h) refl (any (is_abort t) h) refl e
  where
    go : (a : Bool) → any (is_start t) h ≡ a → (b : Bool) → any (is_commit t) h ≡ b → (c : Bool) → any (is_abort t) h ≡ c → (a && not (b || c)) ≡ false
        → (¬ In (Start t) h) ⊎ (In (Commit t) h ⊎ In (Abort t) h)
    go false p b q c s e = inl (λ i. true≢false (sym (start_in t i) ∙ p))
    go true p true q c s e = inr (inl (has-commit h t q))
    go true p false q true s e = inr (inr (has-abort h t s))
    go true p false q false s e = absurd (true≢false e)

closed_by : (h : History) (t : ℕ) → (¬ In (Start t) h) ⊎ (In (Commit t) h ⊎ In (Abort t) h) → open_in h t ≡ false
closed_by h t k = go (any (is_start t) h) refl (any (is_commit t) h) refl (any (is_abort t) h) refl k
  where
    go : (a : Bool) → any (is_start t) h ≡ a → (b : Bool) → any (is_commit t) h ≡ b → (c : Bool) → any (is_abort t) h ≡ c
        → (¬ In (Start t) h) ⊎ (In (Commit t) h ⊎ In (Abort t) h) → (a && not (b || c)) ≡ false
    go false p b q c s k = refl
    go true p true q c s k = refl
    go true p false q true s k = refl
    go true p false q false s (inl n) = absurd (n (has-start h t p))
    go true p false q false s (inr (inl i)) = absurd (true≢false (sym (commit_in t i) ∙ q))
    go true p false q false s (inr (inr i)) = absurd (true≢false (sym (abort_in t i) ∙ s))

module _ {h : History} (u : Unrefused h) (r : Record) where
  is_misplaced : refusal_in h r ≡ 15 → Misplaced h r
  is_misplaced e = go (starts r) refl
    where
      start : (a b : Bool) → any (is_start (name_of r)) h ≡ a → start_number a b ≡ 15 → a ≡ true
      start true b p q = refl
      start false true p q = absurd (omega arith)
      start false false p q = absurd (omega arith)

      shut : (a : Bool) → other_number a ≡ 15 → a ≡ false
      shut true q = absurd (omega arith)
      shut false q = refl

      other : starts r ≡ false → (¬ In (Start (name_of r)) h) ⊎ (In (Commit (name_of r)) h ⊎ In (Abort (name_of r)) h) → Misplaced h r
      other s (inl n) = not_started (is_other r s) n
      other s (inr i) = ended_already (is_other r s) i

      go : (b : Bool) → starts r ≡ b → Misplaced h r
      go true s = used_before (start_is r s) (has-start h (name_of r) (start (any (is_start (name_of r)) h) (leb 512 (count starts h)) refl (sym (by_start h r s) ∙ e))) refl
      go false s = other s (closed h (name_of r) (shut (open_in h (name_of r)) (sym (by_other h r s) ∙ e)))

  misplaced_is : Misplaced h r → refusal_in h r ≡ 15
  misplaced_is (used_before {t} {e} s i n) =
      by_start h r (ap starts s)
      ∙ ap (λ (b : Bool). start_number b (leb 512 (count starts h)))
      (start_in (name_of r) (subst (λ (d : ℕ). In (Start d) h) (n ∙ sym (ap name_of s)) (used_started u i)))
  misplaced_is (not_started o n) = by_other h r (other_is r o) ∙ ap (λ (b : Bool). other_number b) (closed_by h (name_of r) (inl n))
  misplaced_is (ended_already o i) = by_other h r (other_is r o) ∙ ap (λ (b : Bool). other_number b) (closed_by h (name_of r) (inr i))

  -- 15
  pub misplaced_exactly : (refusal_in h r ≡ 15) ↔ Misplaced h r
  misplaced_exactly = (is_misplaced, misplaced_is)

  is_surplus : refusal_in h r ≡ 16 → Surplus h r
  is_surplus e = go (starts r) refl
    where
      full : (a b : Bool) → leb 512 (count starts h) ≡ b → start_number a b ≡ 16 → 512 ≤ count starts h
      full true b p q = absurd (omega arith)
      full false true p q = leb-true 512 (count starts h) p
      full false false p q = absurd (omega arith)

      never : (a : Bool) → other_number a ≡ 16 → Surplus h r
      never true q = absurd (omega arith)
      never false q = absurd (omega arith)

      go : (b : Bool) → starts r ≡ b → Surplus h r
      go true s =
          record {
            name = name_of r;
            start = start_is r s;
            before = omega (arith, starts_most u, full (any (is_start (name_of r)) h) (leb 512 (count starts h)) refl (sym (by_start h r s) ∙ e));
          }
      go false s = never (open_in h (name_of r)) (sym (by_other h r s) ∙ e)

  surplus_is : Surplus h r → ¬ Misplaced h r → refusal_in h r ≡ 16
  surplus_is p n = by_start h r (ap starts p.start) ∙ go (any (is_start (name_of r)) h) refl
    where
      go : (b : Bool) → any (is_start (name_of r)) h ≡ b → start_number b (leb 512 (count starts h)) ≡ 16
      go true e = absurd (n (used_before p.start (has-start h (name_of r) e) (ap name_of p.start)))
      go false e = rw (le-leb 512 (count starts h) (omega (arith, p.before)))

  -- 16, where 15 is not
  pub surplus_exactly : (refusal_in h r ≡ 16) ↔ (Surplus h r × ¬ Misplaced h r)
  surplus_exactly = (λ e. (is_surplus e, λ m. omega (arith, misplaced_is m)), λ k. surplus_is k.0 k.1)

  -- there is no other number
  pub refusal_numbers : (refusal_in h r ≡ 0) ⊎ ((refusal_in h r ≡ 15) ⊎ (refusal_in h r ≡ 16))
  unfolding refusal_in
  refusal_numbers = go (starts r) (any (is_start (name_of r)) h) (leb 512 (count starts h)) (open_in h (name_of r))
    where
      go : (a b c d : Bool) → let n : ℕ = cond a (start_number b c) (other_number d) in (n ≡ 0) ⊎ ((n ≡ 15) ⊎ (n ≡ 16))
      go true true c d = inr (inl refl)
      go true false true d = inr (inr refl)
      go true false false d = inl refl
      go false b c true = inl refl
      go false b c false = inr (inl refl)

  -- and a line that neither row names is taken
  pub taken_exactly : (refusal_in h r ≡ 0) ↔ (¬ Misplaced h r × ¬ Surplus h r)
  taken_exactly = (λ e. (λ m. omega (arith, misplaced_is m), λ p. not_surplus e p), λ k. otherwise refusal_numbers k.0 k.1)
    where
      not_surplus : refusal_in h r ≡ 0 → Surplus h r → ⊥
      not_surplus e p = omega (arith, surplus_is p (λ m. omega (arith, misplaced_is m)))

      otherwise : (refusal_in h r ≡ 0) ⊎ ((refusal_in h r ≡ 15) ⊎ (refusal_in h r ≡ 16)) → ¬ Misplaced h r → ¬ Surplus h r → refusal_in h r ≡ 0
      otherwise (inl e) m p = e
      otherwise (inr (inl e)) m p = absurd (m (is_misplaced e))
      otherwise (inr (inr e)) m p = absurd (p (is_surplus e))
