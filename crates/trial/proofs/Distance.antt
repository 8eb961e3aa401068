-- BV and FV without signed numbers: the distance of a read is the number of versions between the start and the line read.
use Prim.Native.Nat.{ℕ, zero, suc, ◌+◌, ◌-◌, ◌≤◌, ◌<◌, min, max}
use native.Mathlib.Omega.{arith}
use mathlib.Core.Path.{◌≡◌, refl, ◌∙◌, ap}
use mathlib.Core.Bool.{Bool, true, false, cond, ◌&&◌, not}
use mathlib.Core.List.{List}
use lib.Dec.{eqb, leb, ltb, leb-zero}
use lib.IntN.{ℤ, pos, negsuc, neg_ℤ, ◌-ℤ◌}
use lib.Signed.{lt_z, le_z}
use borrow.Author.Tests.{eqb-true, eqb-false, ltb-true, ltb-false, leb-true, leb-false, lt-ltb, le-ltb, le-leb, lt-leb}
use Rattle.lists.specs.Lists.{bit}
use Rattle.lists.proofs.Every.{every_each}
use Rattle.lists.proofs.Count.{count_both}
use Rattle.records.specs.Ledger.{has, rows_up_to, made_up_to}
use Rattle.records.specs.declared.Row.{Row}
use Rattle.records.specs.declared.Seen.{Seen}
use Rattle.rows.specs.Table.{rows_within, made_within}
use Rattle.trial.specs.Trial.{far_of, far_by}
use Rattle.trial.specs.declared.Rank.{Rank}
use Rattle.trial.specs.declared.Rank.TheVariants.{BV, FV, Kept}

module _ (low high : ℕ) (h : low ≤ high) where
  one : (b : Bool) (e : ℕ) (l : Bool) → leb e low ≡ l → (k : Bool) → leb e high ≡ k → (z : Bool) → ltb 0 e ≡ z
      → bit (b && (ltb 0 e && leb e high)) ≡ bit (b && (ltb 0 e && leb e low)) + bit (b && (ltb low e && leb e high))
  unfolding bit
  one false e l f k g z o = omega arith
  one true e true f true g true o = rw (f, g, o, le-ltb low e (leb-true e low f)) (omega arith)
  one true e true f true g false o = rw (f, g, o, le-ltb low e (leb-true e low f)) (omega arith)
  one true e true f false g z o = absurd (omega (arith, leb-true e low f, leb-false e high g))
  one true e false f true g true o = rw (f, g, o, lt-ltb low e (leb-false e low f)) (omega arith)
  one true e false f k g false o = absurd (omega (arith, leb-false e low f, ltb-false 0 e o))
  one true e false f false g true o = rw (f, g, o, lt-ltb low e (leb-false e low f)) (omega arith)

  -- versions up to a later line are those up to an earlier one and those between
  pub up_to_more : (rows : List Row) (x : ℕ) → rows_up_to rows x high ≡ rows_up_to rows x low + rows_within rows x low high
  unfolding rows_up_to rows_within
  up_to_more rows x =
      count_both (made_up_to x high) (made_up_to x low) (made_within x low high)
      (every_each (λ r. one (has r.keys x) r.end (leb r.end low) refl (leb r.end high) refl (ltb 0 r.end) refl) rows)

difference : (a b : ℕ) → b ≤ a → pos a -ℤ pos b ≡ pos (a - b)
difference a zero h = let e : a + 0 ≡ a - 0 = omega arith in ap pos e
difference a (suc b) h = rw (le-ltb a (suc b) h)

shortfall : (a b : ℕ) → a < b → pos a -ℤ pos b ≡ negsuc (b - suc a)
shortfall a zero h = absurd (omega arith)
shortfall a (suc b) h = rw (lt-ltb a (suc b) h)

far : ℤ → ℕ → ℕ → Rank
far d k1 k2 = cond (not (lt_z d (pos k1))) BV (cond (not (le_z (neg_ℤ d) (pos k2))) FV Kept)

never_early : (w k2 : ℕ) → not (le_z (neg_ℤ (pos w)) (pos k2)) ≡ false
never_early zero k2 = rw (leb-zero k2)
never_early (suc w) k2 = refl

-- a and b are the versions up to the start and up to the line read, and w lie between them
module _ (a b w k1 k2 : ℕ) where
  module _ (e : a ≡ b + w) where
    behind : pos a -ℤ pos b ≡ pos w
    behind = difference a b (omega arith) ∙ ap pos (omega arith)

    behind-stale : k1 ≤ w → BV ≡ far (pos a -ℤ pos b) k1 k2
    unfolding far
    behind-stale h = rw (behind, le-ltb w k1 h)

    behind-fresh : w < k1 → Kept ≡ far (pos a -ℤ pos b) k1 k2
    unfolding far
    behind-fresh h = rw (behind, lt-ltb w k1 h, never_early w k2)

    behind_far : cond (leb k1 w) BV Kept ≡ far (pos a -ℤ pos b) k1 k2
    behind_far = go (leb k1 w) refl
      where
        go : (t : Bool) → leb k1 w ≡ t → cond t BV Kept ≡ far (pos a -ℤ pos b) k1 k2
        go true f = behind-stale (leb-true k1 w f)
        go false f = behind-fresh (leb-false k1 w f)

  module _ (e : b ≡ a + w) where
    ahead-early : k2 < w → FV ≡ far (pos a -ℤ pos b) k1 k2
    unfolding far
    ahead-early h = rw (shortfall a b (omega arith), lt-leb (suc (b - suc a)) k2 (omega arith))

    ahead-stale : w ≡ 0 → k1 ≡ 0 → BV ≡ far (pos a -ℤ pos b) k1 k2
    unfolding far
    ahead-stale z h = rw (difference a b (omega arith), le-ltb (a - b) k1 (omega arith))

    ahead_even : w ≡ 0 → (k1 ≡ 0 → ⊥) → Kept ≡ far (pos a -ℤ pos b) k1 k2
    unfolding far
    ahead_even z h = rw (difference a b (omega arith), lt-ltb (a - b) k1 (omega arith), never_early (a - b) k2)

    ahead_near : (w ≡ 0 → ⊥) → w ≤ k2 → Kept ≡ far (pos a -ℤ pos b) k1 k2
    unfolding far
    ahead_near z h = rw (shortfall a b (omega arith), le-leb (suc (b - suc a)) k2 (omega arith))

    ahead_far : cond (ltb k2 w) FV (cond (eqb w 0 && eqb k1 0) BV Kept) ≡ far (pos a -ℤ pos b) k1 k2
    ahead_far = go (ltb k2 w) refl (eqb w 0) refl (eqb k1 0) refl
      where
        go : (t : Bool) → ltb k2 w ≡ t → (u : Bool) → eqb w 0 ≡ u → (v : Bool) → eqb k1 0 ≡ v → cond t FV (cond (u && v) BV Kept) ≡ far (pos a -ℤ pos b) k1 k2
        go true f u g v h = ahead-early (ltb-true k2 w f)
        go false f true g true h = ahead-stale (eqb-true w 0 g) (eqb-true k1 0 h)
        go false f true g false h = ahead_even (eqb-true w 0 g) (eqb-false k1 0 h)
        go false f false g v h = ahead_near (eqb-false w 0 g) (ltb-false k2 w f)

-- BV and FV by n, the versions between the start and the line read
module _ (rows : List Row) (r : Row) (s : Seen) (n : ℕ) where
  old : s.line ≤ r.start → n ≡ rows_within rows s.key s.line r.start → far_by r s.line n ≡ far_of rows r s
  unfolding far_by far_of far
  old h e =
      let sum : rows_up_to rows s.key r.start ≡ rows_up_to rows s.key s.line + n = rw e (up_to_more s.line r.start h rows s.key) in
      rw (le-leb s.line r.start h) (behind_far _ _ n r.bounds.k1 r.bounds.k2 sum)

  new : r.start < s.line → n ≡ rows_within rows s.key r.start s.line → far_by r s.line n ≡ far_of rows r s
  unfolding far_by far_of far
  new h e =
      let sum : rows_up_to rows s.key s.line ≡ rows_up_to rows s.key r.start + n = rw e (up_to_more r.start s.line (omega arith) rows s.key) in
      rw (lt-leb s.line r.start h) (ahead_far _ _ n r.bounds.k1 r.bounds.k2 sum)

  pub far_tied : (low high : ℕ) → low ≡ min r.start s.line → high ≡ max r.start s.line → n ≡ rows_within rows s.key low high → far_by r s.line n ≡ far_of rows r s
  far_tied low high f g e = go (leb s.line r.start) refl
    where
      go : (t : Bool) → leb s.line r.start ≡ t → far_by r s.line n ≡ far_of rows r s
      go true k =
          let h : s.line ≤ r.start = leb-true s.line r.start k in
          let a : low ≡ s.line = omega arith in
          let b : high ≡ r.start = omega arith in
          old h (e ∙ rw (a, b))
      go false k =
          let h : r.start < s.line = leb-false s.line r.start k in
          let a : low ≡ r.start = omega arith in
          let b : high ≡ s.line = omega arith in
          new h (e ∙ rw (a, b))
