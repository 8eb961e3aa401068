-- Demand 2: the search for the first broken rule finds nothing exactly if the rules hold as document 01 states them, "for every", and what
-- it finds is the first. Every log and every transaction is taken.
use Prim.Native.Nat.{ℕ, ◌≤◌, ◌<◌}
use native.Mathlib.Omega.{arith}
use mathlib.Core.Path.{◌≡◌, refl, sym, ◌∙◌, ap}
use mathlib.Core.Logic.{◌↔◌, ◌⊎◌, inl, inr, ⊎_elim}
use mathlib.Core.Bool.{Bool, true, false, cond, ◌&&◌, true≢false}
use mathlib.Core.List.{List}
use lib.Dec.{eqb, ltb}
use lib.IntN.{pos, neg_ℤ}
use lib.ListN.{length, get_or}
use lib.Signed.{lt_z, le_z}
use borrow.Author.Tests.{ltb-true, ltb-false, lt-ltb, le-ltb, eqb-true, eq-eqb}
use Rattle.lists.specs.Lists.{find, any, Every}
use Rattle.lists.proofs.Find.{find-holds, find_first}
use Rattle.lists.proofs.Every.{every_map, find_none, none_found, find_is, any_none, none_any}
use Rattle.lists.proofs.Tests.{not_tests}
use Rattle.units.specs.declared.rule.Rule.{Rule}
use Rattle.units.specs.declared.rule.Rule.TheVariants.{BV, FV, SV, WC}
use Rattle.std.specs.Prelude.{Result, Ok, Err}
use Rattle.transaction.specs.declared.Mark.{Mark}
use Rattle.transaction.specs.declared.Transaction.{Transaction}
use Rattle.transaction.specs.Transaction.{reads_of, writes_of, no_mark, no_write}
use Rattle.model.specs.Log.{Entry, changed_after}
use Rattle.model.specs.Rules.{distance, broken_at, certified, ◌or_else◌, stale, early, apart, overtaken, WithinBV, WithinFV, WithinSV, WithinWC, KeepsBV, KeepsFV, KeepsSV}
use Rattle.model.specs.Kept.{Kept, FirstBreak, FirstBroken, broke_bv, broke_fv, broke_sv, broke_wc}

-- a test that fails exactly where P holds
abbrev Tests : {A : Type 0} → (A → Bool) → (A → Type 0) → Type 0
Tests {A} p P = (x : A) → (p x ≡ false) ↔ P x

module _ {A : Type 0} (p : A → Bool) (P : A → Type 0) (tests : Tests p P) where
  passes : (x : A) → p x ≡ true → ¬ P x
  passes x e h = true≢false (sym e ∙ (tests x).1 h)

  fails : (x : A) → ¬ P x → p x ≡ true
  fails x h = go (p x) refl
    where
      go : (t : Bool) → p x ≡ t → t ≡ true
      go true e = refl
      go false e = absurd (h ((tests x).0 e))

  every_passed : {l : List A} → Every (λ (x : A). p x ≡ false) l → Every P l
  every_passed h = every_map (λ (x : A) e. (tests x).0 e) h

  every_tested : {l : List A} → Every P l → Every (λ (x : A). p x ≡ false) l
  every_tested h = every_map (λ (x : A) e. (tests x).1 e) h

  first_break : (l : List A) (d : A) → find p l < length l → FirstBreak P d l (find p l)
  first_break l d h = record { there = h; breaks = passes _ (find-holds p l d h); before = λ j k. (tests _).0 (find_first p l d j k) }

  break_first : (l : List A) (d : A) (i : ℕ) → FirstBreak P d l i → find p l ≡ i
  break_first l d i f = find_is p l d i f.there (fails _ f.breaks) (λ j h. (tests _).1 (f.before j h))

  module _ (rule : ℕ → Rule) (l : List A) where
    whole : broken_at rule p l ≡ Ok tt → Every P l
    unfolding broken_at
    whole = go (ltb (find p l) (length l)) refl
      where
        go : (t : Bool) → ltb (find p l) (length l) ≡ t → cond t (Err (rule (find p l))) (Ok (tt {0})) ≡ Ok (tt {0}) → Every P l
        go true e q = let z : ◌≡◌ {A = ℕ} 0 1 = cc in absurd (omega arith)
        go false e q = every_passed (none_found p l (ltb-false _ _ e))

    unbroken : Every P l → broken_at rule p l ≡ Ok tt
    unfolding broken_at
    unbroken h = rw (find_none p (every_tested h), le-ltb (length l) (length l) (omega arith))

    broken : (d : A) (r : Rule) → broken_at rule p l ≡ Err r → FirstBreak P d l (find p l) × (r ≡ rule (find p l))
    unfolding broken_at
    broken d r = go (ltb (find p l) (length l)) refl
      where
        go : (t : Bool) → ltb (find p l) (length l) ≡ t → cond t (Err (rule (find p l))) (Ok (tt {0})) ≡ Err r → FirstBreak P d l (find p l) × (r ≡ rule (find p l))
        go true e q = (first_break l d (ltb-true _ _ e), cc)
        go false e q = let z : ◌≡◌ {A = ℕ} 0 1 = cc in absurd (omega arith)

    breaks-at : (d : A) (i : ℕ) → FirstBreak P d l i → broken_at rule p l ≡ Err (rule i)
    unfolding broken_at
    breaks-at d i f = rw (break_first l d i f, lt-ltb i (length l) f.there)

-- the tests of the search are those of the rules
module _ (log : List Entry) (t : Transaction) where
  bv_tests : Tests (stale log t) (WithinBV log t)
  bv_tests x = let k = not_tests (lt_z (distance log t.name.0 x) (pos t.bounds.k1)) in (λ e. record { lt = k.0 e }, λ h. k.1 h.lt)

  fv_tests : Tests (early log t) (WithinFV log t)
  fv_tests x = let k = not_tests (le_z (neg_ℤ (distance log t.name.0 x)) (pos t.bounds.k2)) in (λ e. record { le = k.0 e }, λ h. k.1 h.le)

  sv_tests : (x : Mark) → Tests (apart log t x) (WithinSV log t x)
  sv_tests x y = (λ e. ltb-false _ _ e, λ h. le-ltb _ _ h)

  pair_tests : Tests (λ (x : Mark). any (apart log t x) (reads_of t)) (λ (x : Mark). Every (WithinSV log t x) (reads_of t))
  pair_tests x = (λ e. every_passed _ _ (sv_tests x) (none_any _ (reads_of t) e), λ h. any_none _ (every_tested _ _ (sv_tests x) h))

  wc_tests : Tests (overtaken log t) (WithinWC log t)
  unfolding changed_after
  wc_tests w = (λ e. every_map (λ (x : Entry). (after x.key x.stamp).0) (none_any _ log e), λ h. any_none _ (every_map (λ (x : Entry). (after x.key x.stamp).1) h))
    where
      after : (k u : ℕ) → ((eqb k w.key && ltb t.name.0 u) ≡ false) ↔ (k ≡ w.key → u ≤ t.name.0)
      after k u = (λ e q. ltb-false _ _ (rw (eq-eqb _ _ q) at e), λ h. go (eqb k w.key) refl h)
        where
          go : (b : Bool) → eqb k w.key ≡ b → (k ≡ w.key → u ≤ t.name.0) → (b && ltb t.name.0 u) ≡ false
          go true e h = le-ltb _ _ (h (eqb-true _ _ e))
          go false e h = refl

-- the chain of the four searches
or_whole : (a b : Result (Unit {0}) Rule) → (a or_else b) ≡ Ok tt → (a ≡ Ok tt) × (b ≡ Ok tt)
or_whole (Ok u) b e = (refl, e)
or_whole (Err r) b e = let z : ◌≡◌ {A = ℕ} 0 1 = cc in absurd (omega arith)

or_next : (a b : Result (Unit {0}) Rule) {c : Result (Unit {0}) Rule} → a ≡ Ok tt → b ≡ c → (a or_else b) ≡ c
or_next a b e q = rw e q

or_first : (a b : Result (Unit {0}) Rule) {r : Rule} → a ≡ Err r → (a or_else b) ≡ Err r
or_first a b e = rw e

or_broken : (a b : Result (Unit {0}) Rule) (r : Rule) → (a or_else b) ≡ Err r → (a ≡ Err r) ⊎ ((a ≡ Ok tt) × (b ≡ Err r))
or_broken (Ok u) b r e = inr (refl, e)
or_broken (Err q) b r e = inl e

module _ (log : List Entry) (t : Transaction) where
  abbrev apart_from : ℕ → ℕ
  apart_from i = find (apart log t (get_or (reads_of t) i no_mark)) (reads_of t)

  abbrev bvs : Result (Unit {0}) Rule
  bvs = broken_at BV (stale log t) (reads_of t)

  abbrev fvs : Result (Unit {0}) Rule
  fvs = broken_at FV (early log t) (reads_of t)

  abbrev svs : Result (Unit {0}) Rule
  svs = broken_at (λ (i : ℕ). SV i (apart_from i)) (λ (x : Mark). any (apart log t x) (reads_of t)) (reads_of t)

  abbrev wcs : Result (Unit {0}) Rule
  wcs = broken_at WC (overtaken log t) (writes_of t)

  -- "the rules hold": the search finds none broken exactly if each read, each pair and each written key keeps them
  pub certified_exactly : (certified log t ≡ Ok tt) ↔ Kept log t
  unfolding certified
  certified_exactly = (
    to,
    λ k. or_next _ _ (unbroken _ _ (bv_tests log t) BV _ k.bv)
        (or_next _ _ (unbroken _ _ (fv_tests log t) FV _ k.fv)
        (or_next _ _ (unbroken _ _ (pair_tests log t) _ _ k.sv)
        (unbroken _ _ (wc_tests log t) WC _ k.wc))),
  )
    where
      to : (bvs or_else fvs or_else svs or_else wcs) ≡ Ok tt → Kept log t
      to e =
          let b = or_whole bvs _ e in
          let f = or_whole fvs _ b.1 in
          let v = or_whole svs _ f.1 in
          record {
            bv = whole _ _ (bv_tests log t) BV _ b.0;
            fv = whole _ _ (fv_tests log t) FV _ f.0;
            sv = whole _ _ (pair_tests log t) _ _ v.0;
            wc = whole _ _ (wc_tests log t) WC _ v.1;
          }

  module _ (r : Rule) where
    broken_bv : bvs ≡ Err r → FirstBroken log t r
    broken_bv e = let b = broken _ _ (bv_tests log t) BV (reads_of t) no_mark r e in rw b.1 (broke_bv _ b.0)

    broken_fv : KeepsBV log t → fvs ≡ Err r → FirstBroken log t r
    broken_fv k e = let b = broken _ _ (fv_tests log t) FV (reads_of t) no_mark r e in rw b.1 (broke_fv _ k b.0)

    broken_sv : KeepsBV log t → KeepsFV log t → svs ≡ Err r → FirstBroken log t r
    broken_sv k l e =
        let b = broken _ _ (pair_tests log t) (λ (i : ℕ). SV i (apart_from i)) (reads_of t) no_mark r e in
        rw b.1 (broke_sv _ _ k l b.0 (inner (get_or (reads_of t) _ no_mark) b.0.breaks))
      where
        -- where some read is too far from x, the search finds the first such
        inner : (x : Mark) → ¬ Every (WithinSV log t x) (reads_of t) → FirstBreak (WithinSV log t x) no_mark (reads_of t) (find (apart log t x) (reads_of t))
        inner x h = go (ltb (find (apart log t x) (reads_of t)) (length (reads_of t))) refl
          where
            go : (b : Bool) → ltb (find (apart log t x) (reads_of t)) (length (reads_of t)) ≡ b → FirstBreak (WithinSV log t x) no_mark (reads_of t) (find (apart log t x) (reads_of t))
            go true e = first_break _ _ (sv_tests log t x) (reads_of t) no_mark (ltb-true _ _ e)
            go false e = absurd (h (every_passed _ _ (sv_tests log t x) (none_found _ (reads_of t) (ltb-false _ _ e))))

    broken_wc : KeepsBV log t → KeepsFV log t → KeepsSV log t → wcs ≡ Err r → FirstBroken log t r
    broken_wc k l m e = let b = broken _ _ (wc_tests log t) WC (writes_of t) no_write r e in rw b.1 (broke_wc _ k l m b.0)

    finds_broken : certified log t ≡ Err r → FirstBroken log t r
    unfolding certified
    finds_broken e = ⊎_elim broken_bv (λ b. let k = whole _ _ (bv_tests log t) BV _ b.0 in
        ⊎_elim (broken_fv k) (λ f. let l = whole _ _ (fv_tests log t) FV _ f.0 in
        ⊎_elim (broken_sv k l) (λ v. broken_wc k l (whole _ _ (pair_tests log t) _ _ v.0) v.1) (or_broken svs wcs r f.1)) (or_broken fvs _ r b.1)) (or_broken bvs _ r e)

  broken_finds : {r : Rule} → FirstBroken log t r → certified log t ≡ Err r
  unfolding certified
  broken_finds (broke_bv i b) = or_first bvs _ (breaks-at _ _ (bv_tests log t) BV _ no_mark i b)
  broken_finds (broke_fv i k b) = or_next _ _ (unbroken _ _ (bv_tests log t) BV _ k) (or_first fvs _ (breaks-at _ _ (fv_tests log t) FV _ no_mark i b))
  broken_finds (broke_sv i j k l b c) =
      or_next _ _ (unbroken _ _ (bv_tests log t) BV _ k)
      (or_next _ _ (unbroken _ _ (fv_tests log t) FV _ l)
      (or_first svs _ (breaks-at _ _ (pair_tests log t) (λ (i : ℕ). SV i (apart_from i)) _ no_mark i b
      ∙ ap (λ (j : ℕ). Err (SV i j)) (break_first _ _ (sv_tests log t (get_or (reads_of t) i no_mark)) (reads_of t) no_mark j c))))
  broken_finds (broke_wc i k l m b) =
      or_next _ _ (unbroken _ _ (bv_tests log t) BV _ k)
      (or_next _ _ (unbroken _ _ (fv_tests log t) FV _ l)
      (or_next _ _ (unbroken _ _ (pair_tests log t) _ _ m)
      (breaks-at _ _ (wc_tests log t) WC _ no_write i b)))

  -- "an aborted answer carries the rule and the place of the first read that broke it"
  pub broken_exactly : (r : Rule) → (certified log t ≡ Err r) ↔ FirstBroken log t r
  broken_exactly r = (finds_broken r, broken_finds)
