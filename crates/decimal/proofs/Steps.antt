-- Reading decimal text, step by step: what the proofs of the reader's code cite.
use Prim.Native.Nat.{ℕ, zero, suc, ◌+◌, ◌-◌, ◌*◌, ◌≤◌, ◌<◌}
use native.Mathlib.Numerals.{add-one}
use native.Mathlib.Decide.{dec_lt}
use native.Mathlib.Omega.{arith}
use mathlib.Core.Path.{◌≡◌, refl, sym, ap, ◌∙◌}
use mathlib.Core.Bool.{Bool, true, false, cond}
use mathlib.Core.List.{List}
use borrow.Author.Tests.{le-leb, lt-leb, eq-eqb, ne_eqb}
use lib.Dec.{leb, eqb}
use lib.ListN.{length, get_or, drop, drop_of_length-le, get_or-eq_default}
use lib.Seq.{drop-cons}
use Rattle.std.specs.Prelude.{Option, Some, None, ℤ, pos, negsuc}
use Rattle.decimal.specs.Text.{is_digit}
use Rattle.decimal.specs.Read.{digit, with_digit, more, digits, unsigned, negative, field_at}
use Rattle.decimal.proofs.Digits.{digit-above}
use Rattle.decimal.specs.declared.read.Range.{Range}

-- ---- the sign

pub unsigned_in : {n : Option (ℕ × ℕ)} {least v e : ℕ} → n ≡ Some (v, e) → least ≤ v → Some (pos v, e) ≡ unsigned least n
unfolding unsigned
unsigned_in {least = least} {v = v} q h = rw (q, le-leb least v h)

pub unsigned_out : {n : Option (ℕ × ℕ)} {least v e : ℕ} → n ≡ Some (v, e) → v < least → None ≡ unsigned least n
unfolding unsigned
unsigned_out {least = least} {v = v} q h = rw (q, lt-leb least v h)

pub unsigned-bad : {n : Option (ℕ × ℕ)} (least : ℕ) → n ≡ None → None ≡ unsigned least n
unfolding unsigned
unsigned-bad least q = rw q

pub negative-zero : {n : Option (ℕ × ℕ)} {v e : ℕ} → n ≡ Some (v, e) → v ≡ 0 → None ≡ negative n
unfolding negative
negative-zero q h = rw (q, h)

negative-suc : (v e : ℕ) → (v ≡ 0 → ⊥) → Some (negsuc (v - 1), e) ≡ negative (Some (v, e))
unfolding negative
negative-suc zero e h = absurd (h refl)
negative-suc (suc v) e h = ap (λ (k : ℕ). Some (negsuc k, e)) (omega arith)

pub negative-some : {n : Option (ℕ × ℕ)} {v e : ℕ} → n ≡ Some (v, e) → (v ≡ 0 → ⊥) → Some (negsuc (v - 1), e) ≡ negative n
negative-some {v = v} {e = e} q h = rw q (negative-suc v e h)

pub negative-bad : {n : Option (ℕ × ℕ)} → n ≡ None → None ≡ negative n
unfolding negative
negative-bad q = rw q

-- ---- the digits, one by one

is-none : {A : Type 0} (x : A) (t : Bool) → None ≡ cond t (Some x) None → t ≡ false
is-none x false q = refl
is-none x true q = absurd (cc)

is_some : {A : Type 0} {y : A} (x : A) (t : Bool) → Some y ≡ cond t (Some x) None → (t ≡ true) × (y ≡ x)
is_some x false q = absurd (cc)
is_some x true q = (refl, cc)

pub digit_none : (b : ℕ) → None ≡ digit b → is_digit b ≡ false
digit_none b q = is-none (b - 48) (is_digit b) q

pub digit-some : (b : ℕ) {d : ℕ} → Some d ≡ digit b → (is_digit b ≡ true) × (d ≡ b - 48)
digit-some b q = is_some (b - 48) (is_digit b) q

-- what a further digit gives, from the tests of a leading zero and of the most
module _ {A : Type 0} (w : ℕ) (rest : Option A) where
  stops-here : (z k : Bool) → None ≡ cond z None (cond k (Some w) None) → None ≡ cond z None (cond k rest None)
  stops-here true k q = refl
  stops-here false true q = absurd (cc)
  stops-here false false q = refl

  goes_on : {u : ℕ} (z k : Bool) → Some u ≡ cond z None (cond k (Some w) None) → (u ≡ w) × (cond z None (cond k rest None) ≡ rest)
  goes_on true k q = absurd (cc)
  goes_on false true q = (cc, refl)
  goes_on false false q = absurd (cc)

module _ (most v : ℕ) (s : List ℕ) (i : ℕ) where
  pub more-end : length s ≤ i → Some (v, i) ≡ more most v i (drop i s)
  unfolding more
  more-end h = rw (drop_of_length-le s h)

  module _ (h : i < length s) where
    pub more_stop : None ≡ digit (get_or s i 0) → Some (v, i) ≡ more most v i (drop i s)
    unfolding more
    more_stop q = rw (drop-cons s i 0 h, digit_none (get_or s i 0) q)

    module _ {d : ℕ} (p : Some d ≡ digit (get_or s i 0)) where
      pub more-none : None ≡ with_digit most v d → None ≡ more most v i (drop i s)
      unfolding more
      more-none q =
          let g : (is_digit (get_or s i 0) ≡ true) × (d ≡ get_or s i 0 - 48) = digit-some (get_or s i 0) p in
          rw (drop-cons s i 0 h, g.0, ← g.1) (stops-here (v * 10 + d) (more most (v * 10 + d) (i + 1) (drop (suc i) s)) (eqb v 0) (leb (v * 10 + d) most) q)

      pub more_on : {w : ℕ} → Some w ≡ with_digit most v d → more most v i (drop i s) ≡ more most w (i + 1) (drop (i + 1) s)
      unfolding more
      more_on {w} q =
          let g : (is_digit (get_or s i 0) ≡ true) × (d ≡ get_or s i 0 - 48) = digit-some (get_or s i 0) p in
          let rest : Option (ℕ × ℕ) = more most (v * 10 + d) (i + 1) (drop (suc i) s) in
          let n : (w ≡ v * 10 + d) × (cond (eqb v 0) None (cond (leb (v * 10 + d) most) rest None) ≡ rest) = goes_on (v * 10 + d) rest (eqb v 0) (leb (v * 10 + d) most) q in
          rw (drop-cons s i 0 h, g.0, ← g.1, n.0) (n.1 ∙ ap (λ (k : ℕ). more most (v * 10 + d) (i + 1) (drop k s)) (sym (add-one i)))

module _ (most : ℕ) (s : List ℕ) (at : ℕ) where
  pub digits-end : length s ≤ at → None ≡ digits most at (drop at s)
  unfolding digits
  digits-end h = rw (drop_of_length-le s h)

  -- no digit: no number
  pub no_digits : is_digit (get_or s at 0) ≡ false → None ≡ digits most at (drop at s)
  unfolding digits
  no_digits n = go (dec_lt at (length s))
    where
      go : Dec (at < length s) → None ≡ digits most at (drop at s)
      go (yes h) = rw (drop-cons s at 0 h, n)
      go (no h) = digits-end (omega arith)

  module _ (h : at < length s) (b : is_digit (get_or s at 0) ≡ true) (d : ℕ) (w : d ≡ get_or s at 0 - 48) where
    pub digits_over : most < d → None ≡ digits most at (drop at s)
    unfolding digits
    digits_over l = rw (drop-cons s at 0 h, b, ← w, lt-leb d most l)

    pub digits_on : d ≤ most → more most d (at + 1) (drop (at + 1) s) ≡ digits most at (drop at s)
    unfolding digits
    digits_on l = rw (drop-cons s at 0 h, b, ← w, le-leb d most l, add-one)

-- ---- the field

-- a byte other than 0 stands within the text
pub byte_within : (s : List ℕ) (at : ℕ) → (get_or s at 0 ≡ 0 → ⊥) → at < length s
byte_within s at h = go (dec_lt at (length s))
  where
    go : Dec (at < length s) → at < length s
    go (yes l) = l
    go (no l) = absurd (h (get_or-eq_default {A = ℕ} s 0 (omega arith)))

pub digit-within : (s : List ℕ) (at : ℕ) → is_digit (get_or s at 0) ≡ true → at < length s
digit-within s at b = byte_within s at (omega (arith, digit-above (get_or s at 0) b))

module _ (s : List ℕ) (at : ℕ) (range : Range) where
  pub field_minus : {n : Option (ℕ × ℕ)} {f : Option (ℤ × ℕ)} → get_or s at 0 ≡ 45
      → n ≡ digits range.below (at + 1) (drop (at + 1) s) → f ≡ negative n → f ≡ field_at s at range
  unfolding field_at
  field_minus m p q = q ∙ rw (p, eq-eqb (get_or s at 0) 45 m)

  pub field_plain : {n : Option (ℕ × ℕ)} {f : Option (ℤ × ℕ)} → (get_or s at 0 ≡ 45 → ⊥)
      → n ≡ digits range.most at (drop at s) → f ≡ unsigned range.least n → f ≡ field_at s at range
  unfolding field_at
  field_plain m p q = q ∙ rw (p, ne_eqb (get_or s at 0) 45 m)
