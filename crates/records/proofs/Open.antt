-- The transactions still open: those started that neither committed nor were aborted, each by its one `s` line.
use Prim.Native.Nat.{ℕ, suc, ◌+◌, ◌≤◌}
use native.Mathlib.Omega.{arith}
use native.Mathlib.Decide.{ℕ_discrete}
use mathlib.Core.Path.{◌≡◌, refl, sym, ◌∙◌, ap}
use mathlib.Core.Logic.{◌≢◌}
use mathlib.Core.Bool.{Bool, true, false, cond, not, ◌&&◌, ◌||◌, true≢false}
use mathlib.Core.List.{[], ◌∷◌}
use lib.Dec.{eqb}
use lib.ListN.{length}
use borrow.Author.Tests.{eqb-true, eq-eqb, ne_eqb}
use Rattle.lists.specs.Lists.{any, count, bit}
use Rattle.lists.proofs.Every.{every_each, every_map}
use Rattle.lists.proofs.Count.{count-empty, count-step, count_same, count_both, count_none}
use Rattle.records.specs.declared.Record.{Record}
use Rattle.records.specs.declared.Record.TheVariants.{Start}
use Rattle.records.specs.Parts.{name_of, starts, commits, aborts, is_start, is_commit, is_abort}
use Rattle.records.specs.Written.{History}
use Rattle.records.specs.Ledger.{Ledger, nowhere}
use Rattle.records.specs.Refused.{open_in}
use Rattle.records.specs.Tally.{still_open}
use Rattle.records.proofs.Parts.{commit_is}
use Rattle.records.proofs.Lines.{any_past}
use Rattle.records.proofs.Rows.{open-there}
use Rattle.records.proofs.Runs.{Ran, bare, began, moved}
use Rattle.records.proofs.Fields.{other-start, other-commit, other-abort, named-started, silent, not_ended}

-- a line of another transaction leaves it open, or ended
open-other : (e : Record) (h : History) (u : ℕ) → name_of e ≢ u → open_in (e ∷ h) u ≡ open_in h u
open-other e h u n = rw (any_past (is_start u) e h (other-start u e n), any_past (is_commit u) e h (other-commit u e n), any_past (is_abort u) e h (other-abort u e n))

-- a transaction that has started has one `s` line
one_start : {h : History} {l : Ledger} → Ran h l → (t : ℕ) → count (is_start t) h ≡ bit (any (is_start t) h)
unfolding any bit count
one_start bare t = refl
one_start (began {h} {t = u} {l} r k) t = go (eqb u t) refl (one_start r t)
  where
    go : (b : Bool) → eqb u t ≡ b → count (is_start t) h ≡ bit (any (is_start t) h) → cond b (suc (count (is_start t) h)) (count (is_start t) h) ≡ bit (b || any (is_start t) h)
    go true e ih =
        let n : any (is_start t) h ≡ false = ap (λ (v : ℕ). any (is_start v) h) (sym (eqb-true u t e)) ∙ sym (named-started r u) ∙ k in
        omega (arith, ih, ap bit n)
    go false e ih = ih
one_start (moved {h} {e} r s o) t = rw s (one_start r t)

-- a line of an open transaction closes it exactly if it commits or aborts it
shape : (a b c : Bool) → (((a && true) || true) && not (((b && true) || false) || ((c && true) || false))) ≡ not (b || c)
shape true true c = refl
shape true false true = refl
shape true false false = refl
shape false true c = refl
shape false false true = refl
shape false false false = refl

closes : (e : Record) (h : History) → any (is_start (name_of e)) h ≡ true → any (is_commit (name_of e)) h ≡ false → any (is_abort (name_of e)) h ≡ false
    → open_in (e ∷ h) (name_of e) ≡ not (commits e || aborts e)
unfolding any
closes e h p q k = rw (p, q, k, eq-eqb (name_of e) (name_of e) refl) (shape (starts e) (commits e) (aborts e))

begins : (t : ℕ) (h : History) → any (is_commit t) h ≡ false → any (is_abort t) h ≡ false → open_in (Start t ∷ h) t ≡ true
unfolding any
begins t h p q = rw (eq-eqb t t refl, p, q)

ends_one : (e : Record) → bit (commits e) + bit (aborts e) ≡ bit (commits e || aborts e)
unfolding bit
ends_one e = go (commits e) refl (aborts e) refl
  where
    go : (a : Bool) → commits e ≡ a → (b : Bool) → aborts e ≡ b → bit a + bit b ≡ bit (a || b)
    go true p true q = absurd (true≢false (sym q ∙ ap aborts (commit_is e p)))
    go true p false q = refl
    go false p true q = refl
    go false p false q = refl

pub open-rest : {h : History} {l : Ledger} → Ran h l → length h ≤ nowhere → count (still_open h) h + count commits h + count aborts h ≡ count starts h
unfolding bit
open-rest bare small = omega (arith, count-empty (still_open []), count-empty commits, count-empty aborts, count-empty starts)
open-rest (began {h} {t = t} {l} r k) small =
    omega (
      arith,
      count-step (still_open (Start t ∷ h)) (Start t) h,
      ap bit fresh,
      others,
      count-step commits (Start t) h,
      count-step aborts (Start t) h,
      count-step starts (Start t) h,
      open-rest r (omega arith),
    )
  where
    ended : (any (is_commit t) h ≡ false) × (any (is_abort t) h ≡ false)
    ended = not_ended (began r k) small

    fresh : still_open (Start t ∷ h) (Start t) ≡ true
    fresh = begins t h ended.0 ended.1

    others : count (still_open (Start t ∷ h)) h ≡ count (still_open h) h
    others = count_same _ _ (every_map (λ x n. ap (λ (b : Bool). starts x && b) (open-other (Start t) h (name_of x) (λ q. n (sym q)))) (silent r t k))
open-rest (moved {h} {e} {l} r s o) small =
    omega (
      arith,
      count-step (still_open (e ∷ h)) e h,
      ap bit itself,
      count_both (still_open h) (still_open (e ∷ h)) (λ (x : Record). (commits e || aborts e) && is_start (name_of e) x) (every_each split h),
      closed (commits e || aborts e),
      ends_one e,
      count-step commits e h,
      count-step aborts e h,
      count-step starts e h,
      ap bit s,
      open-rest r (omega arith),
    )
  where
    ended : (any (is_commit (name_of e)) h ≡ false) × (any (is_abort (name_of e)) h ≡ false)
    ended = not_ended {e = e} (moved r s o) small

    started : any (is_start (name_of e)) h ≡ true
    started = sym (named-started r (name_of e)) ∙ open-there l.rows (name_of e) o

    itself : still_open (e ∷ h) e ≡ false
    itself = rw s

    before : open_in h (name_of e) ≡ true
    before = rw (started, ended.0, ended.1)

    mine : (a b : Bool) → bit (a && true) ≡ bit (a && not b) + bit (b && (a && true))
    mine true true = refl
    mine true false = refl
    mine false true = refl
    mine false false = refl

    theirs : (a b p : Bool) → bit (a && p) ≡ bit (a && p) + bit (b && (a && false))
    theirs true true true = refl
    theirs true true false = refl
    theirs true false true = refl
    theirs true false false = refl
    theirs false true p = refl
    theirs false false p = refl

    split : (x : Record) → bit (still_open h x) ≡ bit (still_open (e ∷ h) x) + bit ((commits e || aborts e) && is_start (name_of e) x)
    split x = go (ℕ_discrete (name_of x) (name_of e))
      where
        go : Dec (name_of x ≡ name_of e) → bit (still_open h x) ≡ bit (still_open (e ∷ h) x) + bit ((commits e || aborts e) && is_start (name_of e) x)
        go (yes q) = rw (q, before, closes e h started ended.0 ended.1, eq-eqb (name_of e) (name_of e) refl) (mine (starts x) (commits e || aborts e))
        go (no n) = rw (open-other e h (name_of x) (λ q. n (sym q)), ne_eqb (name_of x) (name_of e) n) (theirs (starts x) (commits e || aborts e) (open_in h (name_of x)))

    closed : (b : Bool) → count (λ (x : Record). b && is_start (name_of e) x) h ≡ bit b
    closed true = one_start r (name_of e) ∙ ap bit started
    closed false = count_none _ (every_each (λ x. refl) h)
