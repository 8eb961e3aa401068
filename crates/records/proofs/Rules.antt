-- At the commit line the tests on the ledger say what the rules say of the lines before it; and no later line changes what they say.
use Prim.Native.Nat.{ℕ, ◌≤◌, ◌<◌}
use native.Mathlib.Omega.{arith}
use mathlib.Core.Path.{◌≡◌, refl, ◌∙◌, ap, ap₂}
use mathlib.Core.Logic.{◌↔◌, inl, inr}
use mathlib.Core.Bool.{Bool, true, false, cond, not, ◌&&◌, ◌||◌, or-true, false≢true}
use mathlib.Core.List.{List}
use lib.Dec.{eqb, ltb}
use lib.IntN.{ℤ, pos, neg_ℤ, ◌-ℤ◌}
use lib.ListN.{length}
use lib.Signed.{lt_z, le_z, ◌<ℤ◌, ◌≤ℤ◌}
use borrow.Author.Tests.{eqb-true, eqb-false, eq-eqb, ne_eqb, lt-ltb, le-ltb, ltb-true, ltb-false}
use Rattle.lists.specs.Lists.{any}
use Rattle.lists.specs.Along.{Along}
use Rattle.lists.proofs.Along.{along_with, along_any}
use Rattle.lists.proofs.Tests.{not_tests}
use Rattle.units.specs.declared.Bounds.{Bounds}
use Rattle.records.specs.Parts.{is_start}
use Rattle.records.specs.declared.Row.{Row}
use Rattle.records.specs.declared.Seen.{Seen}
use Rattle.records.specs.Written.{History, ReadLine, recorded_reads, start_line, commit_line, bounds_in, wrote, stamp_of, up_to, between, distance_in, WithinRC, KeepsRC, KeepsBV, KeepsFV, KeepsSV}
use Rattle.records.specs.Ledger.{Ledger, row_of, nowhere, chain, unread, stale, early, apart, seen_distance, rows_up_to, rows_between}
use Rattle.records.specs.Mirror.{keeps, Resolves}
use Rattle.records.proofs.Lines.{line_le}
use Rattle.records.proofs.Runs.{Ran}
use Rattle.records.proofs.Fields.{start_tied, bounds_tied}
use Rattle.records.proofs.Counts.{up_to_tied, between_tied}
use Rattle.records.proofs.Chains.{reads_tied, reads-below, stamp_le}

keeps-within : (x : ReadLine) → keeps x ≡ true → WithinRC x
keeps-within x = go (eqb x.source 0) refl (wrote x.before x.source x.key) refl
  where
    go : (b : Bool) → eqb x.source 0 ≡ b → (c : Bool) → wrote x.before x.source x.key ≡ c → (b || c && ltb 0 (commit_line x.before x.source)) ≡ true → WithinRC x
    go true e c q h = inl (eqb-true x.source 0 e)
    go false e true q h = inr (q, ltb-true 0 (commit_line x.before x.source) h)
    go false e false q h = absurd (false≢true h)

within-keeps : (x : ReadLine) → WithinRC x → keeps x ≡ true
within-keeps x (inl e) = rw (eq-eqb x.source 0 e)
within-keeps x (inr k) = rw (k.0, lt-ltb 0 (commit_line x.before x.source) k.1) (or-true (eqb x.source 0))

not_less : (d e : ℤ) (k n : ℕ) → d ≡ e → k ≡ n → (not (lt_z d (pos k)) ≡ false) ↔ (e <ℤ pos n)
not_less d e k n p q = let i = not_tests (lt_z d (pos k)) in rw (← p, ← q) (λ h. record { lt = i.0 h }, λ h. i.1 h.lt)

not_most : (d e : ℤ) (k n : ℕ) → d ≡ e → k ≡ n → (not (le_z (neg_ℤ d) (pos k)) ≡ false) ↔ (neg_ℤ e ≤ℤ pos n)
not_most d e k n p q = let i = not_tests (le_z (neg_ℤ d) (pos k)) in rw (← p, ← q) (λ h. record { le = i.0 h }, λ h. i.1 h.le)

not_more : (c d k n : ℕ) → c ≡ d → k ≡ n → (ltb k c ≡ false) ↔ (d ≤ n)
not_more c d k n p q = rw (← p, ← q) (λ h. ltb-false k c h, λ h. le-ltb k c h)

-- a kept read, and where it is resolved; and a read that keeps RC
record Kept (n : ℕ) (s : Seen) (x : ReadLine) : Type 0 where
  resolves : Resolves s x
  below : stamp_of x ≤ n

record Read (n : ℕ) (s : Seen) (x : ReadLine) : Type 0 where
  key : s.key ≡ x.key
  line : s.line ≡ stamp_of x
  below : stamp_of x ≤ n

at-stamp : (s : Seen) (x : ReadLine) → Resolves s x → WithinRC x → s.line ≡ stamp_of x
at-stamp s x k w = k.line ∙ ap (λ (b : Bool). cond b (stamp_of x) nowhere) (within-keeps x w)

abbrev row_in : Ledger → ℕ → Row
row_in l t = row_of l.rows t

abbrev reads_in : Ledger → ℕ → List Seen
reads_in l t = chain l.seens (row_in l t).last

module _ {h : History} {l : Ledger} (r : Ran h l) (small : length h < nowhere) (t : ℕ) (started : any (is_start t) h ≡ true) where
  kept : Along (Kept (length h)) (reads_in l t) (recorded_reads h t)
  kept = along_with (λ s x k b. record { resolves = k; below = omega (arith, stamp_le x) }) (reads_tied r (omega arith) t) (reads-below h t)

  -- RC
  pub rc_tests : (any unread (reads_in l t) ≡ false) ↔ KeepsRC h t
  rc_tests = along_any unread WithinRC at kept
    where
      at : (s : Seen) (x : ReadLine) → Kept (length h) s x → (unread s ≡ false) ↔ WithinRC x
      at s x k = (λ e. keeps-within x (go (keeps x) refl e), λ w. ne_eqb s.line nowhere (λ q. omega (arith, k.below, at-stamp s x k.resolves w)))
        where
          go : (b : Bool) → keeps x ≡ b → unread s ≡ false → b ≡ true
          go true q e = refl
          go false q e = absurd (eqb-false s.line nowhere e (k.resolves.line ∙ rw q))

  module _ (rc : KeepsRC h t) where
    read : Along (Read (length h)) (reads_in l t) (recorded_reads h t)
    read = along_with at kept rc
      where
        at : (s : Seen) (x : ReadLine) → Kept (length h) s x → WithinRC x → Read (length h) s x
        at s x k w = record { key = k.resolves.key; line = at-stamp s x k.resolves w; below = k.below }

    distance : (s : Seen) (x : ReadLine) → Read (length h) s x → seen_distance l.rows (row_in l t).start s ≡ distance_in h (start_line h t) x
    distance s x k = ap₂ (λ (a b : ℕ). pos a -ℤ pos b) (up _ _ (start_tied r (omega arith) t) (line_le (is_start t) h)) (up _ _ k.line k.below)
      where
        up : (c d : ℕ) → c ≡ d → d ≤ length h → rows_up_to l.rows s.key c ≡ up_to h x.key d
        up c d e b = ap₂ (rows_up_to l.rows) k.key e ∙ up_to_tied r (omega arith) x.key d (omega arith)

    bounds : (row_in l t).bounds ≡ bounds_in h t
    bounds = bounds_tied r (omega arith) t started

    pub bv_tests : (any (stale l.rows (row_in l t)) (reads_in l t) ≡ false) ↔ KeepsBV h t
    bv_tests = along_any _ _ (λ s x k. not_less _ _ _ _ (distance s x k) (ap (λ (b : Bounds). b.k1) bounds)) read

    pub fv_tests : (any (early l.rows (row_in l t)) (reads_in l t) ≡ false) ↔ KeepsFV h t
    fv_tests = along_any _ _ (λ s x k. not_most _ _ _ _ (distance s x k) (ap (λ (b : Bounds). b.k2) bounds)) read

    pub sv_tests : (any (λ (a : Seen). any (apart l.rows (row_in l t) a) (reads_in l t)) (reads_in l t) ≡ false) ↔ KeepsSV h t
    sv_tests = along_any _ _ (λ a x k. along_any _ _ (λ b y i. not_more _ _ _ _ (apartness a x k b y i) (ap (λ (b : Bounds). b.k3) bounds)) read) read
      where
        apartness : (a : Seen) (x : ReadLine) → Read (length h) a x → (b : Seen) (y : ReadLine) → Read (length h) b y
            → rows_between l.rows a.key a.line b.line ≡ between h x.key (stamp_of x) (stamp_of y)
        apartness a x k b y i = rw (k.key, k.line, i.line) (between_tied r (omega arith) x.key (stamp_of x) (stamp_of y) (omega (arith, i.below)))
