-- One turn of the pass, in the numbers of document 01: it is over, or it goes on behind the line.
use Prim.Native.Nat.{ℕ, zero, suc, ◌+◌, ◌-◌, ◌≤◌, ◌<◌}
use native.Mathlib.Decide.{dec_lt}
use native.Mathlib.Omega.{arith}
use mathlib.Core.Path.{◌≡◌, refl, sym, ap, ◌∙◌}
use mathlib.Core.Bool.{true, false, false≢true}
use mathlib.Core.List.{List}
use borrow.Author.Tests.{lt-ltb}
use Rattle.records.specs.Totals.{raised}
use Rattle.records.specs.declared.Totals.{Totals}
use Rattle.history.specs.Line.{LineReply, line_reply, line_said, line_at}
use Rattle.history.specs.declared.Line.{Line}
use Rattle.history.specs.declared.Line.TheVariants as line
use Rattle.history.proofs.Determined.{line_inj}
use Rattle.reader.specs.Reader.{place_after}
use Rattle.verdict.specs.Pass.{CameReply, comes_to, after_take, words_after, is_over, record_of, ends_in, pass_end, passes_on, passes}

module _ (s : List ℕ) (at n : ℕ) (t : Totals) (ws : List ℕ) where
  -- what the line there comes to, before it is taken and after, and the words after it
  abbrev asked : CameReply
  asked = comes_to n (line_at s at)

  abbrev came : CameReply
  came = after_take ws n asked

  abbrev after : List ℕ
  after = words_after ws n asked

  ends : is_over came ≡ true → pass_end (ends_in came t after) after ≡ passes s at n t ws
  unfolding passes_on
  ends h = go (4097 - n)
    where
      go : (left : ℕ) → pass_end (ends_in came t after) after ≡ passes_on left s at n t ws
      go zero = refl
      go (suc left) = rw h

  -- line 4,097 is no record
  late : 4096 < n → is_over came ≡ true
  unfolding comes_to after_take is_over
  late h = go (line_at s at)
    where
      go : (l : Line) → is_over (after_take ws n (comes_to n l)) ≡ true
      go (line.Taken e next) = rw (lt-ltb 4096 n h)
      go line.Bad = rw (lt-ltb 4096 n h)
      go line.End = refl

  soon : is_over came ≡ false → n ≤ 4096
  soon h = go (dec_lt 4096 n)
    where
      go : Dec (4096 < n) → n ≤ 4096
      go (yes m) = absurd (false≢true (sym h ∙ late m))
      go (no m) = omega arith

  goes : is_over came ≡ false → passes s (place_after (line_at s at) at) (n + 1) (raised (record_of came) t) after ≡ passes s at n t ws
  unfolding passes_on
  goes h =
      let m : n ≤ 4096 = soon h in
      let a : 4097 - n ≡ suc (4096 - n) = omega arith in
      let b : 4097 - (n + 1) ≡ 4096 - n = omega arith in
      rw (a, b, h)

-- the reader's line is the line there
pub line-there : (s : List ℕ) (at : ℕ) (l : Line) → ◌≡◌ {A = LineReply} (line_reply l) (line_said s at) → l ≡ line_at s at
unfolding line_said
line-there s at l e = line_inj l (line_at s at) e

-- the same of what the calls of the turn answered
module _ (s : List ℕ) (at n : ℕ) (t : Totals) (ws : List ℕ) (l : Line) (c k : CameReply) (el : l ≡ line_at s at) (ec : c ≡ comes_to n l) (ek : k ≡ after_take ws n c) where
  same_asked : c ≡ comes_to n (line_at s at)
  same_asked = ec ∙ ap (λ (x : Line). comes_to n x) el

  same_came : k ≡ after_take ws n (comes_to n (line_at s at))
  same_came = ek ∙ ap (λ (x : CameReply). after_take ws n x) same_asked

  pub turn_over : is_over k ≡ true → pass_end (ends_in k t (words_after ws n c)) (words_after ws n c) ≡ passes s at n t ws
  turn_over h =
      ap (λ (x : CameReply). pass_end (ends_in x t (words_after ws n c)) (words_after ws n c)) same_came
      ∙ ap (λ (x : CameReply). pass_end (ends_in (after_take ws n (comes_to n (line_at s at))) t (words_after ws n x)) (words_after ws n x)) same_asked
      ∙ ends s at n t ws (sym (ap is_over same_came) ∙ h)

  pub turn_few : is_over k ≡ false → n ≤ 4096
  turn_few h = soon s at n t ws (sym (ap is_over same_came) ∙ h)

  pub turn_on : is_over k ≡ false → passes s (place_after l at) (n + 1) (raised (record_of k) t) (words_after ws n c) ≡ passes s at n t ws
  turn_on h =
      ap (λ (x : Line). passes s (place_after x at) (n + 1) (raised (record_of k) t) (words_after ws n c)) el
      ∙ ap (λ (x : CameReply). passes s (place_after (line_at s at) at) (n + 1) (raised (record_of x) t) (words_after ws n c)) same_came
      ∙ ap (λ (x : CameReply). passes s (place_after (line_at s at) at) (n + 1) (raised (record_of (after_take ws n (comes_to n (line_at s at)))) t) (words_after ws n x)) same_asked
      ∙ goes s at n t ws (sym (ap is_over same_came) ∙ h)
