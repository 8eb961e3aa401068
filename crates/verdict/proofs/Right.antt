-- What the judge says of a text is right over the whole history that the text is.
use Prim.Native.Nat.{ℕ, ◌≤◌}
use native.Mathlib.Omega.{arith}
use mathlib.Core.Path.{◌≡◌, ap, ◌∙◌, subst}
use mathlib.Core.Bool.{Bool, true, false, cond}
use mathlib.Core.List.{List, ◌++◌, reverse, reverse-reverse, append-nil}
use lib.Dec.{ltb}
use lib.ListN.{length, drop_of_length-le, length-reverse}
use Rattle.records.specs.declared.Judged.{Judged}
use Rattle.records.specs.declared.Totals.{Totals}
use Rattle.records.specs.Written.{History}
use Rattle.records.specs.Ledger.{Ledger, blank}
use Rattle.records.specs.Totals.{no_totals}
use Rattle.records.specs.Tally.{totals_of, Counts}
use Rattle.records.proofs.Verdicts.{judge-right}
use Rattle.records.proofs.Tallies.{totals-right}
use Rattle.history.specs.Text.{texts}
use Rattle.verdict.specs.Judge.{Report, refused, judged, lines, report_of}
use Rattle.verdict.specs.Whole.{Whole}
use Rattle.verdict.specs.Refused.{Front}
use Rattle.verdict.proofs.Ends.{Passed, passed_back, passed_front, Ends, done, over, unread, stopped, ends}

not_judged : {A : Type 0} {number n : ℕ} {js : List Judged} {t : Totals} → refused number n ≡ judged js t → A
not_judged q = let z : ◌≡◌ {A = ℕ} 0 1 = cc in absurd (omega arith)

module _ (s : List ℕ) where
  -- nothing is left behind the lines
  whole : {h : History} {at : ℕ} {l : Ledger} → Passed s h at l → length h ≤ 4096 → length s ≤ at → Whole s (reverse l.judged) (totals_of h)
  whole {h} {at} {l} p most end =
      let f : Front s (reverse h) at = passed_front s p most in
      let few : length (reverse (reverse h)) ≤ 4096 = omega (arith, length-reverse h, length-reverse (reverse h)) in
      record {
        records = reverse h;
        text = f.stands.here ∙ ap (λ (x : List ℕ). texts (reverse h) ++ x) (drop_of_length-le s end) ∙ append-nil (texts (reverse h));
        form = f.form;
        few = omega (arith, length-reverse h);
        unrefused = f.unrefused;
        right = judge-right (passed_back s p) few;
        totals = subst (Counts (reverse (reverse h))) (ap totals_of (reverse-reverse h)) (totals-right (passed_back s p) few);
      }

  module _ {js : List Judged} {t : Totals} where
    lands : {ks : List Judged} {u : Totals} → Whole s ks u → judged ks u ≡ judged js t → Whole s js t
    lands {ks} {u} w q =
        let x : ks ≡ js = cc in
        let y : u ≡ t = cc in
        subst (λ (k : List Judged). Whole s k t) x (subst (λ (n : Totals). Whole s ks n) y w)

    at-end : {r : Report} → Ends s r → r ≡ judged js t → Whole s js t
    at-end (done p few end) q = lands (whole p few end) q
    at-end (over p e more) q = not_judged q
    at-end (unread p few bad) q = not_judged q
    at-end (stopped p few w z) q = not_judged q

-- a text that is judged is a history's, each verdict is right over all of it, and the totals are its counts
pub judged-whole : (s : List ℕ) (js : List Judged) (t : Totals) → report_of s ≡ judged js t → Whole s js t
unfolding report_of
judged-whole s js t q = go (ltb 65536 (length s)) q
  where
    go : (b : Bool) → cond b (refused 12 0) (lines 4096 s 0 1 blank no_totals) ≡ judged js t → Whole s js t
    go true q = not_judged q
    go false q = at-end s (ends s) q
