-- A text is refused exactly as document 01's table says, with the number and line of that row and no other.
use Prim.Native.Nat.{ℕ, suc, ◌≤◌, ◌<◌}
use native.Mathlib.Omega.{arith}
use mathlib.Core.Path.{◌≡◌, refl, sym, ap, ◌∙◌, subst}
use mathlib.Core.Logic.{◌↔◌, ◌⊎◌, inl, inr}
use mathlib.Core.Bool.{Bool, true, false, cond}
use mathlib.Core.List.{List, reverse, reverse-reverse}
use borrow.Author.Tests.{ltb-true, ltb-false, lt-ltb, le-ltb}
use lib.Dec.{ltb}
use lib.ListN.{length, length-reverse}
use Rattle.lists.specs.Lists.{any, count}
use Rattle.records.specs.Parts.{is_start, starts}
use Rattle.records.specs.declared.Record.{Record}
use Rattle.records.specs.declared.Record.TheVariants.{Start}
use Rattle.records.specs.Written.{History}
use Rattle.records.specs.Ledger.{Outcome, went, blank, line_step}
use Rattle.records.specs.Ledger as meaning
use Rattle.records.specs.Totals.{no_totals}
use Rattle.records.specs.Mirror.{outcome_number}
use Rattle.records.specs.Refused.{refusal_in}
use Rattle.records.proofs.Refused as records
use Rattle.history.specs.Text.{Written}
use Rattle.history.proofs.Reading.{bad_exactly}
use Rattle.verdict.specs.Judge.{Report, refused, lines, report_of}
use Rattle.verdict.specs.Refused.{Front, Refuses, long, many, formless, misplaced, full}
use Rattle.verdict.proofs.Ends.{passed_taken, passed_front, front-taken, front_passed, Ends, done, over, unread, stopped, ends, at_over, at-unread, at_stopped}

refuses_with : (o : Outcome) {k : ℕ} → 1 ≤ k → outcome_number o ≡ k → o ≡ meaning.refused k
refuses_with (meaning.refused n) some q = ap (λ (k : ℕ). meaning.refused k) q
refuses_with (went l) some q = absurd (omega arith)

module _ (s : List ℕ) where
  -- ---- what is refused is in the table

  module _ {n l : ℕ} where
    row : {a b c : ℕ} → Refuses s a b → b ≡ c → refused a c ≡ refused n l → Refuses s n l
    row {a} {b} {c} r e q =
        let x : a ≡ n = cc in
        let y : b ≡ l = cc in
        subst (λ (k : ℕ). Refuses s k l) x (subst (λ (k : ℕ). Refuses s a k) y r)

    in_table : {r : Report} → length s ≤ 65536 → Ends s r → r ≡ refused n l → Refuses s n l
    in_table short (done p few end) q = let z : ◌≡◌ {A = ℕ} 0 1 = cc in absurd (omega arith)
    in_table short (over {h} p e more) q = row (many short (passed_front s p (omega arith)) (length-reverse h ∙ e) more) (omega arith) q
    in_table short (unread {h} {at} p few bad) q =
        let b : (at < length s) × ((e : Record) (next : ℕ) → ¬ Written s at e next) = (bad_exactly s at).0 bad in
        row (formless short (passed_front s p (omega arith)) (omega (arith, length-reverse h)) b.0 b.1) (omega (arith, length-reverse h)) q
    in_table short (stopped {h} {at} {next} {e} {l = m} {n = k} p few w z) q = go (records.step_numbers (suc (length h)) e m z)
      where
        lines-before : length (reverse h) < 4096
        lines-before = omega (arith, length-reverse h)

        same_line : suc (length (reverse h)) ≡ suc (length h)
        same_line = omega (arith, length-reverse h)

        says : refusal_in (reverse (reverse h)) e ≡ k
        says = ap (λ (x : History). refusal_in x e) (reverse-reverse h) ∙ sym (records.refused_exactly (passed_taken s p) (omega arith) e) ∙ ap outcome_number z

        go : (k ≡ 15) ⊎ (k ≡ 16) → Refuses s n l
        go (inl i) = row (misplaced short (passed_front s p (omega arith)) lines-before w (says ∙ i)) same_line (ap (λ (x : ℕ). refused x (suc (length h))) (sym i) ∙ q)
        go (inr i) = row (full short (passed_front s p (omega arith)) lines-before w (says ∙ i)) same_line (ap (λ (x : ℕ). refused x (suc (length h))) (sym i) ∙ q)

  refused-only : {n l : ℕ} → report_of s ≡ refused n l → Refuses s n l
  unfolding report_of
  refused-only {n} {l} q = go (ltb 65536 (length s)) refl q
    where
      go : (b : Bool) → ltb 65536 (length s) ≡ b → cond b (refused 12 0) (lines 4096 s 0 1 blank no_totals) ≡ refused n l → Refuses s n l
      go true e q = row (long (ltb-true 65536 (length s) e)) refl q
      go false e q = in_table (ltb-false 65536 (length s) e) (ends s) q

  -- ---- what is in the table is refused

  report : {n l k : ℕ} → length s ≤ 65536 → lines 4096 s 0 1 blank no_totals ≡ refused n k → k ≡ l → report_of s ≡ refused n l
  unfolding report_of
  report {n} short q e = rw (le-ltb 65536 (length s) short) (q ∙ ap (refused n) e)

  module _ {rs : List Record} {at next : ℕ} {e : Record} (short : length s ≤ 65536) (f : Front s rs at) (few : length rs < 4096) (w : Written s at e next) where
    stops : {n : ℕ} → 1 ≤ n → refusal_in (reverse rs) e ≡ n → report_of s ≡ refused n (suc (length rs))
    stops some q =
        let k : length (reverse rs) < 4096 = omega (arith, length-reverse rs) in
        let t = front-taken s f (omega arith) in
        report short
        (at_stopped s (front_passed s f (omega arith)) k w
        (refuses_with (line_step (suc (length (reverse rs))) e t.0) some (records.refused_exactly t.1 (omega arith) e ∙ q)))
        (omega (arith, length-reverse rs))

  refused-there : {n l : ℕ} → Refuses s n l → report_of s ≡ refused n l
  unfolding report_of
  refused-there (long h) = rw (lt-ltb 65536 (length s) h)
  refused-there (many {rs} short f e more) = report short (at_over s (front_passed s f (omega arith)) (length-reverse rs ∙ e) more) (omega (arith, length-reverse rs))
  refused-there (formless {rs} {at} short f few more bad) =
      report short (at-unread s (front_passed s f (omega arith)) (omega (arith, length-reverse rs)) ((bad_exactly s at).1 (more, bad))) (omega (arith, length-reverse rs))
  refused-there (misplaced short f few w q) = stops short f few w (omega arith) q
  refused-there (full short f few w q) = stops short f few w (omega arith) q

  -- document 01's table, rows 12 to 16
  pub refused_exactly : (n l : ℕ) → (report_of s ≡ refused n l) ↔ Refuses s n l
  refused_exactly n l = (refused-only, refused-there)

  -- and no other number or line
  pub refused-once : (n l m k : ℕ) → Refuses s n l → Refuses s m k → (n ≡ m) × (l ≡ k)
  refused-once n l m k a b =
      let same : refused n l ≡ refused m k = sym (refused-there a) ∙ refused-there b in
      let x : n ≡ m = cc in
      let y : l ≡ k = cc in
      (x, y)

  -- "of a byte more", of a line more, "of a transaction more"
  pub byte_more : 65536 < length s → report_of s ≡ refused 12 0
  byte_more h = refused-there (long h)

  pub line-more : {rs : List Record} {at : ℕ} → length s ≤ 65536 → Front s rs at → length rs ≡ 4096 → at < length s → report_of s ≡ refused 14 4097
  line-more short f e more = refused-there (many short f e more)

  pub transaction-more : {rs : List Record} {at next t : ℕ} → length s ≤ 65536 → Front s rs at → length rs < 4096 → Written s at (Start t) next
      → any (is_start t) (reverse rs) ≡ false → count starts (reverse rs) ≡ 512 → report_of s ≡ refused 16 (suc (length rs))
  unfolding refusal_in
  transaction-more short f few w fresh all = refused-there (full short f few w (rw (fresh, all)))
