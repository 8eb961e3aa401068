-- Where the pass over the lines of a text ends: behind the last line, or at the line that is refused.
use Prim.Native.Nat.{ℕ, zero, suc, ◌+◌, ◌-◌, ◌≤◌, ◌<◌}
use native.Mathlib.Numerals.{add-one}
use native.Mathlib.Omega.{arith}
use mathlib.Core.Path.{◌≡◌, refl, sym, ap, ◌∙◌, subst}
use mathlib.Core.Bool.{Bool, true, false, cond}
use mathlib.Core.List.{List, [], ◌∷◌, ◌++◌, reverse, reverse-cons, reverse-reverse, append_assoc}
use borrow.Author.Tests.{leb-true, leb-false, lt-leb}
use lib.Dec.{leb}
use lib.ListN.{length, drop, length-reverse}
use Rattle.lists.specs.Lists.{Every, none, also}
use Rattle.decimal.specs.Text.{joined}
use Rattle.decimal.specs.Read.{Stands}
use Rattle.decimal.proofs.Tabs.{stands_then, stands-behind}
use Rattle.decimal.proofs.Putting.{joined_snoc}
use Rattle.records.specs.declared.Record.{Record}
use Rattle.records.specs.Written.{History}
use Rattle.records.specs.Ledger.{Ledger, Outcome, refused, went, blank, line_step}
use Rattle.records.specs.Totals.{no_totals, raised}
use Rattle.records.specs.Tally.{totals_of}
use Rattle.records.specs.Judge.{Taken, nothing, line}
use Rattle.records.specs.Refused.{Unrefused}
use Rattle.records.proofs.Backwards.{every_reverse}
use Rattle.records.proofs.Refused.{taken-unrefused, unrefused-taken}
use Rattle.history.specs.declared.Line.{Line}
use Rattle.history.specs.declared.Line as read
use Rattle.history.specs.Line.{line_at}
use Rattle.history.specs.Text.{text_of, InForm, Written, texts}
use Rattle.history.proofs.Reading.{line_exactly, end_exactly}
use Rattle.verdict.specs.Judge.{Report, report_on, on_line, on_outcome, lines}
use Rattle.verdict.specs.Judge as said
use Rattle.verdict.specs.Refused.{Front}

-- the lines of h stand before a place, in line order, and were taken; they led to this ledger
pub data Passed (s : List ℕ) : History → ℕ → Ledger → Type 0 where
  first : Passed s [] 0 blank
  past : {h : History} {at next : ℕ} {e : Record} {l m : Ledger} → Passed s h at l → Written s at e next → line_step (suc (length h)) e l ≡ went m → Passed s (e ∷ h) next m

-- the pass came to an end with this report
pub data Ends (s : List ℕ) : Report → Type 0 where
  done : {h : History} {at : ℕ} {l : Ledger} → Passed s h at l → length h ≤ 4096 → length s ≤ at → Ends s (report_on l (totals_of h))
  over : {h : History} {at : ℕ} {l : Ledger} → Passed s h at l → length h ≡ 4096 → at < length s → Ends s (said.refused 14 (suc (length h)))
  unread : {h : History} {at : ℕ} {l : Ledger} → Passed s h at l → length h < 4096 → line_at s at ≡ read.TheVariants.Bad → Ends s (said.refused 13 (suc (length h)))
  stopped : {h : History} {at next : ℕ} {e : Record} {l : Ledger} {n : ℕ} → Passed s h at l → length h < 4096 → Written s at e next → line_step (suc (length h)) e l ≡ refused n
      → Ends s (said.refused n (suc (length h)))

-- ---- the same in line order

texts-newest : (e : Record) (h : History) → texts (reverse (e ∷ h)) ≡ texts (reverse h) ++ text_of e
texts-newest e h = ap texts (reverse-cons e h) ∙ joined_snoc text_of (reverse h) e

module _ (s : List ℕ) where
  passed_stands : {h : History} {at : ℕ} {l : Ledger} → Passed s h at l → Stands (texts (reverse h)) s 0 at
  unfolding joined
  passed_stands first = record { ends = refl; here = refl }
  passed_stands (past {h} {at} {next} {e} p w q) = subst (λ (t : List ℕ). Stands t s 0 next) (sym (texts-newest e h)) (stands_then s (passed_stands p) w.stands)

  passed_form : {h : History} {at : ℕ} {l : Ledger} → Passed s h at l → Every InForm h
  passed_form first = none
  passed_form (past p w q) = also w.form (passed_form p)

  pub passed_taken : {h : History} {at : ℕ} {l : Ledger} → Passed s h at l → Taken h l
  passed_taken first = nothing
  passed_taken (past p w q) = line (passed_taken p) q

  pub passed_back : {h : History} {at : ℕ} {l : Ledger} → Passed s h at l → Taken (reverse (reverse h)) l
  passed_back {h} {l = l} p = subst (λ (x : History). Taken x l) (sym (reverse-reverse h)) (passed_taken p)

  pub passed_front : {h : History} {at : ℕ} {l : Ledger} → Passed s h at l → length h ≤ 4096 → Front s (reverse h) at
  passed_front {h} p few =
      record {
        stands = passed_stands p;
        form = every_reverse (passed_form p);
        unrefused = subst Unrefused (sym (reverse-reverse h)) (taken-unrefused (passed_taken p) few);
      }

  taken_passed : {h : History} {l : Ledger} → Taken h l → Every InForm h → (at : ℕ) → Stands (texts (reverse h)) s 0 at → Passed s h at l
  unfolding joined
  taken_passed nothing none at p = subst (λ (x : ℕ). Passed s [] x blank) (sym p.ends) first
  taken_passed (line {h} {r = e} {l' = m} k q) (also f fs) at p =
      let t : List ℕ = texts (reverse h) in
      let both : Stands (t ++ text_of e) s 0 at = subst (λ (x : List ℕ). Stands x s 0 at) (texts-newest e h) p in
      let last : Stands (text_of e) s (0 + length t) at = stands-behind s t (text_of e) both in
      let before : Stands t s 0 (0 + length t) =
      record { ends = refl; here = both.here ∙ append_assoc t (text_of e) (drop at s) ∙ ap (λ (x : List ℕ). t ++ x) (sym last.here) } in
      past (taken_passed k fs (0 + length t) before) (record { stands = last; form = f }) q

  pub front-taken : {rs : List Record} {at : ℕ} → Front s rs at → length rs ≤ 4096 → (l : Ledger) × Taken (reverse rs) l
  front-taken {rs} f few = unrefused-taken f.unrefused (omega (arith, length-reverse rs))

  pub front_passed : {rs : List Record} {at : ℕ} (f : Front s rs at) (few : length rs ≤ 4096) → Passed s (reverse rs) at (front-taken f few).0
  front_passed {rs} {at} f few =
      taken_passed (front-taken f few).1 (every_reverse f.form) at (subst (λ (x : List Record). Stands (texts x) s 0 at) (sym (reverse-reverse rs)) f.stands)

  -- ---- the pass ends so

  ends-from : (left : ℕ) {h : History} {at : ℕ} {l : Ledger} → left + length h ≡ 4096 → Passed s h at l → Ends s (lines left s at (suc (length h)) l (totals_of h))
  unfolding lines totals_of
  ends-from zero {h} {at} {l} few p = go (leb (length s) at) refl
    where
      go : (b : Bool) → leb (length s) at ≡ b → Ends s (cond b (report_on l (totals_of h)) (said.refused 14 (suc (length h))))
      go true e = done p (omega arith) (leb-true (length s) at e)
      go false e = over p (omega arith) (leb-false (length s) at e)
  ends-from (suc left) {h} {at} {l} few p =
      go (line_at s at) refl (λ e next m w q. subst (λ (n : ℕ). Ends s (lines left s next n m (raised e (totals_of h)))) (sym (add-one (suc (length h)))) (ends-from left (omega arith) (past p w q)))
    where
      step_on : (e : Record) (next : ℕ) (o : Outcome) → line_step (suc (length h)) e l ≡ o → Written s at e next
          → ((m : Ledger) → line_step (suc (length h)) e l ≡ went m → Ends s (lines left s next (suc (length h) + 1) m (raised e (totals_of h))))
          → Ends s (on_outcome o (λ m. lines left s next (suc (length h) + 1) m (raised e (totals_of h))) (suc (length h)))
      step_on e next (refused n) q w f = stopped p (omega arith) w q
      step_on e next (went m) q w f = f m q

      go : (x : Line) → line_at s at ≡ x
          → ((e : Record) (next : ℕ) (m : Ledger) → Written s at e next → line_step (suc (length h)) e l ≡ went m → Ends s (lines left s next (suc (length h) + 1) m (raised e (totals_of h))))
          → Ends s (on_line x (report_on l (totals_of h)) (λ e next. on_outcome (line_step (suc (length h)) e l) (λ m. lines left s next (suc (length h) + 1) m (raised e (totals_of h))) (suc (length h))) (suc (length h)))
      go (read.TheVariants.Taken e next) q f =
          let w : Written s at e next = (line_exactly s at e next).0 q in
          step_on e next (line_step (suc (length h)) e l) refl w (λ m. f e next m w)
      go read.TheVariants.Bad q f = unread p (omega arith) q
      go read.TheVariants.End q f = done p (omega arith) ((end_exactly s at).0 q)

  pub ends : Ends s (lines 4096 s 0 1 blank no_totals)
  unfolding totals_of
  ends = ends-from 4096 (omega arith) first

  -- ---- and a line that is refused ends it

  left_at : {h : History} {at : ℕ} {l : Ledger} → Passed s h at l → (left total : ℕ) → left + length h ≡ total
      → lines total s 0 1 blank no_totals ≡ lines left s at (suc (length h)) l (totals_of h)
  unfolding lines totals_of
  left_at first left total d = ap (λ (n : ℕ). lines n s 0 1 blank no_totals) (let z : total ≡ left = omega arith in z)
  left_at (past {h} {at} {next} {e} {l} {m} p w q) left total d = left_at p (suc left) total (omega arith) ∙ on
    where
      on : lines (suc left) s at (suc (length h)) l (totals_of h) ≡ lines left s next (suc (suc (length h))) m (raised e (totals_of h))
      on = rw ((line_exactly s at e next).1 w, q, add-one (suc (length h)))

  module _ {h : History} {at : ℕ} {l : Ledger} (p : Passed s h at l) where
    pub at_over : length h ≡ 4096 → at < length s → lines 4096 s 0 1 blank no_totals ≡ said.refused 14 (suc (length h))
    unfolding lines
    at_over e more = left_at p 0 4096 (omega arith) ∙ rw (lt-leb (length s) at more)

    pub at-unread : length h < 4096 → line_at s at ≡ read.TheVariants.Bad → lines 4096 s 0 1 blank no_totals ≡ said.refused 13 (suc (length h))
    unfolding lines
    at-unread few q = left_at p (suc (4095 - length h)) 4096 (omega arith) ∙ rw q

    pub at_stopped : {e : Record} {next n : ℕ} → length h < 4096 → Written s at e next → line_step (suc (length h)) e l ≡ refused n
        → lines 4096 s 0 1 blank no_totals ≡ said.refused n (suc (length h))
    unfolding lines
    at_stopped {e} {next} few w q = left_at p (suc (4095 - length h)) 4096 (omega arith) ∙ rw ((line_exactly s at e next).1 w, q)
