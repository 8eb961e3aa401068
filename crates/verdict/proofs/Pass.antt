-- The pass over the lines is the meaning's: the words stand for its ledger before every line, and there is room for what each line records.
use Prim.Native.Nat.{ℕ, zero, suc, ◌+◌, ◌≤◌, ◌<◌}
use native.Mathlib.Decide.{dec_lt}
use native.Mathlib.Omega.{arith}
use mathlib.Core.Path.{◌≡◌, refl, sym, ap, ◌∙◌, subst}
use mathlib.Core.Bool.{cond}
use mathlib.Core.List.{List, [], ◌∷◌}
use borrow.Author.Tests.{le-leb, lt-leb, lt-ltb, le-ltb}
use lib.Dec.{leb}
use lib.ListN.{length, replicate, length-replicate}
use Rattle.records.specs.Parts.{parts_of, name_of}
use Rattle.records.specs.declared.Record.{Record}
use Rattle.records.specs.declared.Record.TheVariants.{Start, Tune, Read, Write, Commit, Abort}
use Rattle.records.specs.declared.Totals.{Totals}
use Rattle.records.specs.Written.{History}
use Rattle.records.specs.Ledger.{Ledger, Outcome, refused, went, blank, line_step}
use Rattle.records.specs.Totals.{no_totals, raised}
use Rattle.records.specs.Tally.{totals_of}
use Rattle.records.specs.Judge.{Taken, nothing, line}
use Rattle.history.specs.declared.Line.{Line}
use Rattle.history.specs.declared.Line.TheVariants as read
use Rattle.history.specs.Line.{line_at}
use Rattle.history.specs.Text.{InForm}
use Rattle.history.proofs.Reading.{line_reads, end_exactly, bad_exactly}
use Rattle.reader.specs.Reader.{place_after}
use Rattle.book.specs.Layout.{word_count}
use Rattle.book.specs.Book.{ledger_of, rows_of, seens_of, judged_of, row_count, read_count, verdict_count}
use Rattle.book.proofs.Laws.{seens-length, judged-length}
use Rattle.ledger.specs.Take.{reply_to, came_to, booked, Bounded}
use Rattle.ledger.proofs.After.{tidy-same, ledger-after, booked-length}
use Rattle.verdict.specs.Judge.{judged, report_on, on_line, on_outcome, lines}
use Rattle.verdict.specs.Judge as said
use Rattle.verdict.specs.Pass.{CameReply, on_take, comes_to, after_take, words_after, is_over, record_of, ends_in, PassEnd, pass_end, passes_on, passes}
use Rattle.verdict.proofs.Limits.{seens_most, judged-room}

-- the lines before this one were taken, and led to this ledger and these totals
pub record Reached (n : ℕ) (l : Ledger) (t : Totals) : Type 0 where
  pub history : History
  pub taken : Taken history l
  pub number : length history + 1 ≡ n
  pub totals : t ≡ totals_of history

pub reached-first : Reached 1 blank no_totals
unfolding totals_of
reached-first = record { history = []; taken = nothing; number = refl; totals = refl }

pub reached-more : {n : ℕ} {l : Ledger} {t : Totals} (e : Record) (l' : Ledger) → Reached n l t → line_step n e l ≡ went l' → Reached (n + 1) l' (raised e t)
unfolding totals_of
reached-more {n} {l} e l' r q =
    let m : n ≡ suc (length r.history) = omega (arith, r.number) in
    record {
      history = e ∷ r.history;
      taken = line r.taken (subst (λ (k : ℕ). line_step k e l ≡ went l') m q);
      number = omega (arith, r.number);
      totals = ap (raised e) r.totals;
    }

-- a record that was read has a key of 0 to 63 and bounds of 16 bits
in_keys : (e : Record) → InForm e → (parts_of e).key ≤ 63
unfolding InForm
in_keys (Start t) f = omega arith
in_keys (Tune t b) f = omega arith
in_keys (Read t x w) f = f.1.0.1
in_keys (Write t x) f = f.1.1
in_keys (Commit t) f = omega arith
in_keys (Abort t) f = omega arith

in_bounds : (e : Record) → InForm e → Bounded e
unfolding InForm
in_bounds (Start t) f = record { k1 = omega arith; k2 = omega arith; k3 = omega arith }
in_bounds (Tune t b) f = record { k1 = omega (arith, f.1.0.1); k2 = omega (arith, f.1.1.0.1); k3 = omega (arith, f.1.1.1.1) }
in_bounds (Read t x w) f = record { k1 = omega arith; k2 = omega arith; k3 = omega arith }
in_bounds (Write t x) f = record { k1 = omega arith; k2 = omega arith; k3 = omega arith }
in_bounds (Commit t) f = record { k1 = omega arith; k2 = omega arith; k3 = omega arith }
in_bounds (Abort t) f = record { k1 = omega arith; k2 = omega arith; k3 = omega arith }

-- before line n there are at most n - 1 recorded reads, and where a row is open there is a verdict less than rows
module _ (s : List ℕ) (at n : ℕ) (t : Totals) (ws : List ℕ) (whole : length ws ≡ word_count) (few : n ≤ 4096) (reached : Reached n (ledger_of ws) t) where
  stepped : (e : Record) (next : ℕ) → line_at s at ≡ read.Taken e next → came_to (reply_to (line_step n e (ledger_of ws))) (booked ws n e) ≡ line_step n e (ledger_of ws)
  stepped e next there =
      ledger-after ws n whole (omega (arith, reached.number, seens_most reached.taken, seens-length ws (read_count ws))) e
      (λ o. omega (arith, judged-room reached.taken (omega (arith, reached.number)) (name_of e) o, judged-length ws (verdict_count ws)))
      (in_bounds e (line_reads s at there).form)
      ∙ ap (λ (d : Record). line_step n d (ledger_of ws)) (tidy-same e (in_keys e (line_reads s at there).form))

-- line 4,097
module _ (s : List ℕ) (at n : ℕ) (t : Totals) (ws : List ℕ) (late : 4096 < n) where
  more : (e : Record) (next : ℕ) → line_at s at ≡ read.Taken e next → at < length s
  more e next q = go (dec_lt at (length s))
    where
      go : Dec (at < length s) → at < length s
      go (yes h) = h
      go (no h) =
          let p : line_at s at ≡ read.End = (end_exactly s at).1 (omega arith) in
          let z : ◌≡◌ {A = ℕ} 0 1 = cc in
          absurd (omega arith)

  last_line : (l : Line) → line_at s at ≡ l
      → ends_in (after_take ws n (comes_to n l)) t (words_after ws n (comes_to n l)) ≡ cond (leb (length s) at) (report_on (ledger_of ws) t) (said.refused 14 n)
  unfolding comes_to after_take words_after
  last_line (read.Taken e next) q = rw (lt-ltb 4096 n late, lt-leb (length s) at (more e next q))
  last_line read.Bad q = rw (lt-ltb 4096 n late, lt-leb (length s) at ((bad_exactly s at).0 q).0)
  last_line read.End q = rw (le-leb (length s) at ((end_exactly s at).0 q))

-- a line before it, where those behind it are the meaning's
module _ (left : ℕ) (s : List ℕ) (at n : ℕ) (t : Totals) (ws : List ℕ) (whole : length ws ≡ word_count) (few : n ≤ 4096) (reached : Reached n (ledger_of ws) t)
    (rest : (at' : ℕ) (t' : Totals) (ws' : List ℕ) → length ws' ≡ word_count → Reached (n + 1) (ledger_of ws') t' → (passes_on left s at' (n + 1) t' ws').report ≡ lines left s at' (n + 1) (ledger_of ws') t')
  where
    -- how the pass goes on after what a line came to
    abbrev onward : CameReply → List ℕ → ℕ → PassEnd
    onward c after next = cond (is_over c) (pass_end (ends_in c t after) after) (passes_on left s next (n + 1) (raised (record_of c) t) after)

    took : (e : Record) (next : ℕ) → line_at s at ≡ read.Taken e next → (o : Outcome) → line_step n e (ledger_of ws) ≡ o
        → (onward (on_take (reply_to o) n e) (booked ws n e) next).report ≡ on_outcome o (λ l'. lines left s next (n + 1) l' (raised e t)) n
    unfolding is_over record_of
    took e next q (refused m) p = refl
    took e next q (went l') p =
        let a : went (ledger_of (booked ws n e)) ≡ went l' = ap (λ (o : Outcome). came_to (reply_to o) (booked ws n e)) (sym p) ∙ stepped s at n t ws whole few reached e next q ∙ p in
        let b : ledger_of (booked ws n e) ≡ l' = cc in
        rest next (raised e t) (booked ws n e) (booked-length ws n e ∙ whole) (subst (λ (l : Ledger). Reached (n + 1) l (raised e t)) (sym b) (reached-more e l' reached p))
        ∙ ap (λ (l : Ledger). lines left s next (n + 1) l (raised e t)) b

    any-line : (l : Line) → line_at s at ≡ l
        → (onward (after_take ws n (comes_to n l)) (words_after ws n (comes_to n l)) (place_after l at)).report
        ≡ on_line l (report_on (ledger_of ws) t) (λ e next. on_outcome (line_step n e (ledger_of ws)) (λ l'. lines left s next (n + 1) l' (raised e t)) n) n
    unfolding comes_to after_take words_after is_over place_after
    any-line (read.Taken e next) q = rw (le-ltb 4096 n few) (took e next q (line_step n e (ledger_of ws)) refl)
    any-line read.Bad q = rw (le-ltb 4096 n few)
    any-line read.End q = refl

-- from a place on
pass_lines : (left : ℕ) (s : List ℕ) (at n : ℕ) (t : Totals) (ws : List ℕ) → left + n ≡ 4097 → length ws ≡ word_count → Reached n (ledger_of ws) t
    → (passes_on left s at n t ws).report ≡ lines left s at n (ledger_of ws) t
unfolding passes_on lines
pass_lines zero s at n t ws sum whole reached = last_line s at n t ws (omega (arith, sum)) (line_at s at) refl
pass_lines (suc left) s at n t ws sum whole reached =
    any-line left s at n t ws whole (omega (arith, sum)) reached (λ at' t' ws'. pass_lines left s at' (n + 1) t' ws' (omega (arith, sum))) (line_at s at) refl

-- words whose three counts are 0 stand for the blank ledger
blank_counts : (ws : List ℕ) (a b c : ℕ) → a ≡ 0 → b ≡ 0 → c ≡ 0 → record { rows = rows_of ws a; seens = seens_of ws b; judged = judged_of ws c } ≡ blank
unfolding rows_of seens_of judged_of
blank_counts ws a b c p q r = rw (p, q, r)

-- the pass over the whole text
pub passes-lines : (s ws : List ℕ) → length ws ≡ word_count → row_count ws ≡ 0 → read_count ws ≡ 0 → verdict_count ws ≡ 0
    → (passes s 0 1 no_totals ws).report ≡ lines 4096 s 0 1 blank no_totals
passes-lines s ws whole p q r =
    let e : ledger_of ws ≡ blank = blank_counts ws (row_count ws) (read_count ws) (verdict_count ws) p q r in
    pass_lines 4096 s 0 1 no_totals ws refl whole (subst (λ (l : Ledger). Reached 1 l no_totals) (sym e) reached-first) ∙ ap (λ (l : Ledger). lines 4096 s 0 1 l no_totals) e

-- and on the words as `judge` makes them
pub zero-words : (s : List ℕ) → (passes s 0 1 no_totals (replicate word_count 0)).report ≡ lines 4096 s 0 1 blank no_totals
zero-words s = passes-lines s (replicate word_count 0) (length-replicate {A = ℕ} word_count 0) refl refl refl
