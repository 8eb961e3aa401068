-- The lines of the output, one behind the other.
use Prim.Native.Nat.{ℕ, ◌+◌, ◌≤◌}
use native.Mathlib.Numerals.{add-one}
use native.Mathlib.Omega.{arith}
use mathlib.Core.Path.{◌≡◌, refl, sym, ap, ◌∙◌}
use mathlib.Core.List.{List, [], ◌++◌, reverse, reverse-cons, append_assoc, append-nil}
use lib.ListN.{length, length-reverse}
use Rattle.decimal.specs.Text.{joined}
use Rattle.decimal.proofs.Putting.{joined_snoc}
use Rattle.records.specs.declared.Totals.{Totals}
use Rattle.book.specs.Book.{judged_at, judged_of, judged_in, verdict_count}
use Rattle.book.proofs.Laws.{judged-length}
use Rattle.report.specs.Report.{head_line, verdict_line, verdict_lines, total_line, report_text}

-- the first n verdicts in the memory, the oldest first
module _ (ws : List ℕ) where
  abbrev pub passed : ℕ → List ℕ
  passed n = verdict_lines (reverse (judged_of ws n))

  pub passed-none : (h : List ℕ) → h ≡ h ++ passed 0
  unfolding judged_of joined
  passed-none h = sym (append-nil h)

  -- one more
  pub passed-more : (h : List ℕ) (i : ℕ) {l m : List ℕ} → l ≡ h ++ passed i → m ≡ l ++ verdict_line (judged_at ws i) → m ≡ h ++ passed (i + 1)
  unfolding judged_of
  passed-more h i p q =
      q ∙ rw p (append_assoc h (passed i) (verdict_line (judged_at ws i)))
      ∙ ap (λ (t : List ℕ). h ++ t)
      (sym (joined_snoc verdict_line (reverse (judged_of ws i)) (judged_at ws i)) ∙ rw (add-one i, reverse-cons (judged_at ws i) (judged_of ws i)) refl)

  -- the whole
  pub report_whole : (t : Totals) (h : List ℕ) (i n : ℕ) {l m : List ℕ} → i ≤ n → n ≤ i → n ≡ verdict_count ws → h ≡ [] ++ head_line n → l ≡ h ++ passed i → m ≡ l ++ total_line t
      → m ≡ report_text (reverse (judged_in ws)) t
  unfolding report_text
  report_whole t h i n le ge e f p q =
      let k : i ≡ verdict_count ws = omega (arith, e) in
      let r : length (reverse (judged_in ws)) ≡ n = length-reverse (judged_in ws) ∙ judged-length ws (verdict_count ws) ∙ sym e in
      rw (q, p, f, k, r) refl
