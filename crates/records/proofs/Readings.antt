-- Sentences of document 01 on reads and writes in written histories, from the definitions.
use Prim.Native.Nat.{ℕ, suc, ◌≤◌, ◌<◌}
use native.Mathlib.Omega.{arith}
use native.Mathlib.Decide.{ℕ_discrete}
use mathlib.Core.Path.{◌≡◌, refl, sym, ◌∙◌, ap}
use mathlib.Core.Logic.{◌≢◌, inl, inr}
use mathlib.Core.Bool.{Bool, true, false, cond, not, ◌&&◌, ◌||◌, true≢false, false≢true}
use mathlib.Core.List.{◌∷◌}
use lib.Dec.{eqb}
use lib.ListN.{length}
use borrow.Author.Tests.{eqb-true, eq-eqb, ne_eqb}
use Rattle.lists.specs.Lists.{any, filter, Every, also}
use Rattle.records.specs.Parts.{name_of, aborts, is_read, is_commit, is_abort}
use Rattle.records.specs.declared.Record.{Record}
use Rattle.records.specs.declared.Record.TheVariants.{Start, Read, Write, Commit}
use Rattle.records.specs.Written.{History, ReadLine, read_of, read_lines, recorded_reads, is_own, commit_line, wrote, version_lines, WithinRC, KeepsRC}
use Rattle.records.specs.Ledger.{Ledger, nowhere}
use Rattle.records.specs.Judge.{Taken}
use Rattle.records.proofs.Parts.{abort_is}
use Rattle.records.proofs.Lines.{line-none, any_past}
use Rattle.records.proofs.Runs.{Ran, bare, began, moved, ran}
use Rattle.records.proofs.Fields.{other-commit, other-abort, not_ended}

module _ (h : History) (t x : ℕ) where
  -- "A read with W = T is fine after T's own write of that key, and is no record"
  pub own_read : wrote h t x ≡ true → recorded_reads (Read t x t ∷ h) t ≡ recorded_reads h t
  unfolding recorded_reads read_lines filter
  own_read k = rw (eq-eqb t t refl, eq-eqb t t refl, k)

  -- "A key written twice by one transaction makes one version"
  pub written_twice : wrote h t x ≡ true → (u y : ℕ) → wrote (Write t x ∷ h) u y ≡ wrote h u y
  unfolding any
  written_twice k u y = go (eqb t u) refl (eqb x y) refl
    where
      go : (a : Bool) → eqb t u ≡ a → (b : Bool) → eqb x y ≡ b → (a && b || wrote h u y) ≡ wrote h u y
      go true e true q = sym (rw (eqb-true t u e, eqb-true x y q) at k)
      go true e false q = refl
      go false e b q = refl

  pub one_version : wrote h t x ≡ true → version_lines (Commit t ∷ h) x ≡ suc (length h) ∷ version_lines h x
  unfolding version_lines
  one_version k = rw k

  -- any other read is a record
  module _ (w : ℕ) (version : w ≢ 0) where
    recorded : (eqb w t && wrote h t x) ≡ false → recorded_reads (Read t x w ∷ h) t ≡ record { key = x; source = w; before = h } ∷ recorded_reads h t
    unfolding recorded_reads read_lines filter
    recorded k = rw (eq-eqb t t refl, k)

    breaks : (eqb w t && wrote h t x) ≡ false → ((wrote h w x ≡ true) → 0 < commit_line h w → ⊥) → ¬ KeepsRC (Read t x w ∷ h) t
    breaks k f rc = go (rw (recorded k) at rc)
      where
        go : Every WithinRC (record { key = x; source = w; before = h } ∷ recorded_reads h t) → ⊥
        go (also (inl e) es) = version e
        go (also (inr e) es) = f e.0 e.1

    -- W did not write the key; with W = T, "W = T before the write breaks it"
    pub unwritten_read : wrote h w x ≡ false → ¬ KeepsRC (Read t x w ∷ h) t
    unwritten_read k = breaks (go (ℕ_discrete w t)) (λ e c. true≢false (sym e ∙ k))
      where
        go : Dec (w ≡ t) → (eqb w t && wrote h t x) ≡ false
        go (yes e) = rw (eq-eqb w t e) (ap (λ (u : ℕ). wrote h u x) (sym e) ∙ k)
        go (no n) = rw (ne_eqb w t n)

    -- W is still open
    pub open-read : w ≢ t → any (is_commit w) h ≡ false → ¬ KeepsRC (Read t x w ∷ h) t
    open-read n k = breaks (rw (ne_eqb w t n)) (λ e c. omega (arith, line-none (is_commit w) h k))

-- no transaction both commits and aborts
ends-once : (t : ℕ) (e : Record) → is_abort t e ≡ true → is_commit t e ≡ false
ends-once t e a = go (aborts e) refl a
  where
    go : (b : Bool) → aborts e ≡ b → (b && eqb (name_of e) t) ≡ true → is_commit t e ≡ false
    go true k a = ap (is_commit t) (abort_is e k)
    go false k a = absurd (false≢true a)

either : (e : Record) (h : History) (t : ℕ) → (any (is_commit (name_of e)) h ≡ false) × (any (is_abort (name_of e)) h ≡ false)
    → (any (is_abort t) h ≡ true → any (is_commit t) h ≡ false) → any (is_abort t) (e ∷ h) ≡ true → any (is_commit t) (e ∷ h) ≡ false
either e h t n k a = go (ℕ_discrete (name_of e) t) (is_abort t e) refl
  where
    go : Dec (name_of e ≡ t) → (b : Bool) → is_abort t e ≡ b → any (is_commit t) (e ∷ h) ≡ false
    go (yes q) true i = any_past (is_commit t) e h (ends-once t e i) ∙ ap (λ (u : ℕ). any (is_commit u) h) (sym q) ∙ n.0
    go (yes q) false i = absurd (true≢false (sym a ∙ any_past (is_abort t) e h i ∙ ap (λ (u : ℕ). any (is_abort u) h) (sym q) ∙ n.1))
    go (no m) b i = any_past (is_commit t) e h (other-commit t e m) ∙ k (sym (any_past (is_abort t) e h (other-abort t e m)) ∙ a)

not_both : {h : History} {l : Ledger} → Ran h l → length h ≤ nowhere → (t : ℕ) → any (is_abort t) h ≡ true → any (is_commit t) h ≡ false
unfolding any
not_both bare small t a = refl
not_both (began {h} {t = u} r k) small t a = either (Start u) h t (not_ended (began r k) small) (λ i. not_both r (omega arith) t i) a
not_both (moved {h} {e} r s o) small t a = either e h t (not_ended {e = e} (moved r s o) small) (λ i. not_both r (omega arith) t i) a

-- W was aborted
pub aborted-read : {h : History} {l : Ledger} → Taken h l → length h ≤ 4096 → (t x w : ℕ) → w ≢ 0 → w ≢ t → any (is_abort w) h ≡ true → ¬ KeepsRC (Read t x w ∷ h) t
aborted-read {h} taken lines t x w version n a = open-read h t x w version n (not_both (ran taken) (omega arith) w a)

-- and no later line mends a broken RC
pub never_mended : (e : Record) (h : History) (t : ℕ) → KeepsRC (e ∷ h) t → KeepsRC h t
unfolding recorded_reads read_lines filter
never_mended e h t k = go (is_read t e) (not (is_own t (read_of e h))) refl k
  where
    go : (a b : Bool) → not (is_own t (read_of e h)) ≡ b
        → Every WithinRC (filter (λ (p : ReadLine). not (is_own t p)) (cond a (read_of e h ∷ read_lines h t) (read_lines h t)))
        → Every WithinRC (recorded_reads h t)
    go true true e k = tail (rw e at k)
      where
        tail : {x : ReadLine} → Every WithinRC (x ∷ recorded_reads h t) → Every WithinRC (recorded_reads h t)
        tail (also p ps) = ps
    go true false e k = rw e at k
    go false b e k = k
