-- WC at the commit line: some row was written to and committed since the start exactly if the rule is broken.
use Prim.Native.Nat.{ℕ, suc, ◌<◌}
use native.Mathlib.Omega.{arith}
use mathlib.Core.Path.{◌≡◌, refl, sym, ◌∙◌, ap}
use mathlib.Core.Logic.Iff
use mathlib.Core.Logic.{◌↔◌, ◌≢◌}
use mathlib.Core.Bool.{Bool, true, false, cond, ◌&&◌, true≢false, false≢true}
use mathlib.Core.List.{◌∷◌}
use lib.Dec.{ltb}
use lib.ListN.{length}
use borrow.Author.Tests.{eqb-true, eq-eqb, ne_eqb, lt-ltb, ltb-true}
use Rattle.lists.specs.Lists.{any}
use Rattle.lists.proofs.Every.{every_map, any_none}
use Rattle.records.specs.declared.Record.TheVariants.{Commit}
use Rattle.records.specs.Parts.{is_start, is_commit, is_write}
use Rattle.records.specs.declared.Row.{Row}
use Rattle.records.specs.Written.{History, start_line, commit_line, wrote, KeepsWC}
use Rattle.records.specs.Ledger.{Ledger, row_of, is_open, nowhere, has, meets, overtakes}
use Rattle.records.proofs.Word.{meets-none, meets-some}
use Rattle.records.proofs.Lines.{line_past, line-here, line_le, any_past}
use Rattle.records.proofs.Rows.{own_row, any-row}
use Rattle.records.proofs.Runs.{Ran}
use Rattle.records.proofs.Fields.{start_tied, keys_tied, commit_tied, landed, names-distinct, committed-named}

landed_pos : (n : ℕ) → 0 < landed n → n ≡ landed n
landed_pos n = go (ltb n nowhere)
  where
    go : (b : Bool) → 0 < cond b n 0 → n ≡ cond b n 0
    go true k = refl
    go false k = absurd (omega arith)

and_both : (a b : Bool) → (a && b) ≡ true → (a ≡ true) × (b ≡ true)
and_both true b e = (refl, e)
and_both false b e = absurd (false≢true e)

all_three : (a b c : Bool) → a ≡ true → b ≡ true → c ≡ true → (a && (b && c)) ≡ true
all_three a b c p q s = rw (p, q, s)

module _ {h : History} {l : Ledger} (r : Ran h l) (small : length h < nowhere) (t : ℕ) (o : is_open (row_of l.rows t) ≡ true) where
  -- every transaction that wrote one of the keys committed before the start
  Free : Type 0
  Free = (u x : ℕ) → u ≢ t → wrote h t x ≡ true → wrote h u x ≡ true → start_line h t < commit_line h u → ⊥

  free_tests : (any (overtakes (suc (length h)) (row_of l.rows t)) l.rows ≡ false) ↔ Free
  unfolding Free
  free_tests = (
    to,
    λ k. any_none
        (overtakes (suc (length h)) (row_of l.rows t))
        (every_map (λ q e. from k q e (overtakes (suc (length h)) (row_of l.rows t) q) refl) (own_row l.rows (names-distinct r))),
  )
    where
      to : any (overtakes (suc (length h)) (row_of l.rows t)) l.rows ≡ false → Free
      to e u x n wt wu a = true≢false (sym (any-row (overtakes (suc (length h)) (row_of l.rows t)) l.rows u (committed-named r u c) over) ∙ e)
        where
          c : 0 < commit_line h u
          c = omega arith

          z : (row_of l.rows u).end ≡ commit_line h u
          z = landed_pos (row_of l.rows u).end (rw (commit_tied r small u) c) ∙ commit_tied r small u

          over : overtakes (suc (length h)) (row_of l.rows t) (row_of l.rows u) ≡ true
          over =
              all_three _ _ _ (lt-ltb (row_of l.rows t).start (row_of l.rows u).end (rw (z, start_tied r (omega arith) t) a))
              (lt-ltb (row_of l.rows u).end (suc (length h)) (rw z (omega (arith, line_le (is_commit u) h))))
              (meets-some (row_of l.rows u).keys (row_of l.rows t).keys x (keys_tied r (omega arith) u x ∙ wu) (keys_tied r (omega arith) t x ∙ wt))

      from : Free → (q : Row) → row_of l.rows q.name ≡ q → (b : Bool) → overtakes (suc (length h)) (row_of l.rows t) q ≡ b → b ≡ false
      from k q e true v =
          let s = and_both (ltb (row_of l.rows t).start q.end) (ltb q.end (suc (length h)) && meets q.keys (row_of l.rows t).keys) v in
          let m = and_both (ltb q.end (suc (length h))) (meets q.keys (row_of l.rows t).keys) s.1 in
          let a : (row_of l.rows t).start < q.end = ltb-true _ _ s.0 in
          let b : q.end < suc (length h) = ltb-true _ _ m.0 in
          let z : q.end ≡ commit_line h q.name = rw (lt-ltb q.end nowhere (omega arith)) at (ap (λ (p : Row). landed p.end) (sym e) ∙ commit_tied r small q.name) in
          let own : q.name ≡ t → q.end ≡ 0 = λ i. ap (λ (p : Row). p.end) (sym e) ∙ ap (λ (n : ℕ). (row_of l.rows n).end) i ∙ eqb-true _ 0 o in
          let apart : meets q.keys (row_of l.rows t).keys ≡ false = (meets-none q.keys (row_of l.rows t).keys).1 (λ x hq ht.
          k q.name x (λ i. omega (arith, own i)) (sym (keys_tied r (omega arith) t x) ∙ ht)
          (sym (keys_tied r (omega arith) q.name x) ∙ ap (λ (p : Row). has p.keys x) e ∙ hq)
          (omega (arith, a, z, start_tied r (omega arith) t))) in
          absurd (true≢false (sym m.1 ∙ apart))
      from k q e false v = refl

  -- at the commit line, every commit line before it is below it
  free_rule : Free ↔ KeepsWC (Commit t ∷ h) t
  unfolding Free
  free_rule = (to, from)
    where
      as_before : (u : ℕ) → u ≢ t → commit_line (Commit t ∷ h) u ≡ commit_line h u
      as_before u n = line_past (is_commit u) (Commit t) h (ne_eqb t u (λ q. n (sym q)))

      started : start_line (Commit t ∷ h) t ≡ start_line h t
      started = line_past (is_start t) (Commit t) h refl

      as_written : (u x : ℕ) → wrote (Commit t ∷ h) u x ≡ wrote h u x
      as_written u x = any_past (is_write u x) (Commit t) h refl

      to : Free → KeepsWC (Commit t ∷ h) t
      to k u x o = k u x o.other (sym (as_written t x) ∙ o.own) (sym (as_written u x) ∙ o.theirs) (omega (arith, started, as_before u o.other, o.after))

      from : KeepsWC (Commit t ∷ h) t → Free
      from k u x n wt wu a =
          k u x
          (record {
            other = n;
            own = as_written t x ∙ wt;
            theirs = as_written u x ∙ wu;
            after = omega (arith, started, as_before u n);
            before = omega (arith, as_before u n, line_le (is_commit u) h, line-here (is_commit t) (Commit t) h (eq-eqb t t refl));
          })

  pub wc_tests : (any (overtakes (suc (length h)) (row_of l.rows t)) l.rows ≡ false) ↔ KeepsWC (Commit t ∷ h) t
  wc_tests = Iff.trans free_tests free_rule
