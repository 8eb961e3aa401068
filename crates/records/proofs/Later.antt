-- Later lines change nothing of what the rules say of a transaction that has committed.
use Prim.Native.Nat.{ℕ, ◌≤◌, ◌<◌}
use native.Mathlib.Omega.{arith}
use mathlib.Core.Path.{◌≡◌, refl, sym, ◌∙◌, ap, ap₂}
use mathlib.Core.Logic.Iff
use mathlib.Core.Logic.{◌↔◌, ◌≢◌}
use mathlib.Core.Bool.{Bool, true, false, true≢false}
use mathlib.Core.List.{◌∷◌}
use lib.IntN.{ℤ, pos, neg_ℤ, ◌-ℤ◌}
use lib.ListN.{length}
use lib.Signed.{◌<ℤ◌, ◌≤ℤ◌}
use Rattle.lists.specs.Lists.{any, Every}
use Rattle.lists.proofs.Every.{every_map}
use Rattle.lists.proofs.Along.{every_iff}
use Rattle.records.specs.Parts.{is_start, is_commit, is_write, name_of}
use Rattle.records.specs.declared.Record.{Record}
use Rattle.records.specs.declared.Record.TheVariants.{Commit}
use Rattle.records.specs.Written.{History, ReadLine, read_lines, recorded_reads, line_where, start_line, commit_line, bounds_in, wrote, stamp_of, distance_in, WithinBV, WithinFV, WithinSV, KeepsRC, KeepsBV, KeepsFV, KeepsSV, KeepsWC}
use Rattle.records.specs.Ledger.{Ledger, nowhere}
use Rattle.records.proofs.Lines.{line_past, line-here, line_le, some-line, any_past}
use Rattle.records.proofs.Runs.{Ran}
use Rattle.records.proofs.Fields.{other-start, other-commit, other-write, other-bounds, not_ended}
use Rattle.records.proofs.Counts.{up_to_stays, between_stays}
use Rattle.records.proofs.Chains.{other-reads, reads-below, stamp_le}

-- a line that leaves a transaction's start, bounds and recorded reads
pub record Steady (e : Record) (h : History) (t : ℕ) : Type 0 where
  pub start : start_line (e ∷ h) t ≡ start_line h t
  pub bounds : bounds_in (e ∷ h) t ≡ bounds_in h t
  pub reads : recorded_reads (e ∷ h) t ≡ recorded_reads h t

pub steady_other : (e : Record) (h : History) (t : ℕ) → name_of e ≢ t → Steady e h t
steady_other e h t n = record { start = line_past (is_start t) e h (other-start t e n); bounds = other-bounds t e h n; reads = other-reads t e h n }

pub steady_commit : (h : History) (t : ℕ) → Steady (Commit t) h t
unfolding line_where bounds_in recorded_reads read_lines
steady_commit h t = record { start = refl; bounds = refl; reads = refl }

same-less : {d e : ℤ} (k : ℤ) → d ≡ e → (d <ℤ k) ↔ (e <ℤ k)
same-less k p = rw p Iff.rfl

same_most : {d e : ℤ} (k : ℤ) → d ≡ e → (neg_ℤ d ≤ℤ k) ↔ (neg_ℤ e ≤ℤ k)
same_most k p = rw p Iff.rfl

same_count : {c d : ℕ} (k : ℕ) → c ≡ d → (c ≤ k) ↔ (d ≤ k)
same_count k p = rw p Iff.rfl

module _ (e : Record) (h : History) (t : ℕ) (k : Steady e h t) where
  stamps : Every (λ (x : ReadLine). stamp_of x ≤ length h) (recorded_reads h t)
  stamps = every_map (λ x b. omega (arith, stamp_le x)) (reads-below h t)

  distance-stays : (x : ReadLine) → stamp_of x ≤ length h → distance_in (e ∷ h) (start_line h t) x ≡ distance_in h (start_line h t) x
  distance-stays x b = ap₂ (λ (m n : ℕ). pos m -ℤ pos n) (up_to_stays e h x.key (start_line h t) (line_le (is_start t) h)) (up_to_stays e h x.key (stamp_of x) b)

  pub rc-stays : KeepsRC (e ∷ h) t ↔ KeepsRC h t
  rc-stays = rw k.reads Iff.rfl

  bv_one : (x : ReadLine) → stamp_of x ≤ length h → WithinBV (e ∷ h) t (bounds_in (e ∷ h) t) x ↔ WithinBV h t (bounds_in h t) x
  bv_one x b = rw (k.start, k.bounds) (same-less _ (distance-stays x b))

  fv_one : (x : ReadLine) → stamp_of x ≤ length h → WithinFV (e ∷ h) t (bounds_in (e ∷ h) t) x ↔ WithinFV h t (bounds_in h t) x
  fv_one x b = rw (k.start, k.bounds) (same_most _ (distance-stays x b))

  sv_one : (x y : ReadLine) → stamp_of y ≤ length h → WithinSV (e ∷ h) t (bounds_in (e ∷ h) t) x y ↔ WithinSV h t (bounds_in h t) x y
  sv_one x y c = rw k.bounds (same_count _ (between_stays e h x.key (stamp_of x) (stamp_of y) (omega arith)))

  pub bv-stays : KeepsBV (e ∷ h) t ↔ KeepsBV h t
  bv-stays = rw k.reads (every_iff (every_map bv_one stamps))

  pub fv-stays : KeepsFV (e ∷ h) t ↔ KeepsFV h t
  fv-stays = rw k.reads (every_iff (every_map fv_one stamps))

  pub sv-stays : KeepsSV (e ∷ h) t ↔ KeepsSV h t
  sv-stays = rw k.reads (every_iff (every_map (λ x b. every_iff (every_map (sv_one x) stamps)) stamps))

-- a line names no transaction that committed before it
pub past : {e : Record} {h : History} {l : Ledger} → Ran (e ∷ h) l → length h < nowhere → (u : ℕ) → 0 < commit_line h u → name_of e ≢ u
past {e} {h} r small u c q = true≢false (sym (some-line (is_commit u) h c) ∙ ap (λ (v : ℕ). any (is_commit v) h) (sym q) ∙ (not_ended r small).0)

module _ {e : Record} {h : History} {l : Ledger} (r : Ran (e ∷ h) l) (small : length h < nowhere) (t : ℕ) (committed : 0 < commit_line h t) where
  pub commit-stays : commit_line (e ∷ h) t ≡ commit_line h t
  commit-stays = line_past (is_commit t) e h (other-commit t e (past r small t committed))

  start-stays : start_line (e ∷ h) t ≡ start_line h t
  start-stays = line_past (is_start t) e h (other-start t e (past r small t committed))

  pub wrote-stays : (x : ℕ) → wrote (e ∷ h) t x ≡ wrote h t x
  wrote-stays x = any_past (is_write t x) e h (other-write t x e (past r small t committed))

pub wc-stays : {e : Record} {h : History} {l : Ledger} → Ran (e ∷ h) l → length h < nowhere → (t : ℕ) → 0 < commit_line h t → KeepsWC (e ∷ h) t ↔ KeepsWC h t
wc-stays {e} {h} r small t c = (to, from)
  where
    to : KeepsWC (e ∷ h) t → KeepsWC h t
    to k u x o =
        let d : 0 < commit_line h u = omega (arith, o.after) in
        k u x
        (record {
          other = o.other;
          own = wrote-stays r small t c x ∙ o.own;
          theirs = wrote-stays r small u d x ∙ o.theirs;
          after = omega (arith, start-stays r small t c, commit-stays r small u d, o.after);
          before = omega (arith, commit-stays r small t c, commit-stays r small u d, o.before);
        })

    from : KeepsWC h t → KeepsWC (e ∷ h) t
    from k u x o = go (is_commit u e) refl
      where
        go : (i : Bool) → is_commit u e ≡ i → ⊥
        go true q = omega (arith, line-here (is_commit u) e h q, commit-stays r small t c, line_le (is_commit t) h, o.before)
        go false q =
            let z : commit_line (e ∷ h) u ≡ commit_line h u = line_past (is_commit u) e h q in
            let d : 0 < commit_line h u = omega (arith, o.after) in
            k u x
            (record {
              other = o.other;
              own = sym (wrote-stays r small t c x) ∙ o.own;
              theirs = sym (wrote-stays r small u d x) ∙ o.theirs;
              after = omega (arith, start-stays r small t c, o.after);
              before = omega (arith, commit-stays r small t c, o.before);
            })
