-- What is not of the form, at any place of any text, in every range; then document 01's edges, by computation.
use Prim.Native.Nat.{ℕ, suc, ◌+◌, ◌-◌, ◌^◌, ◌≤◌, ◌<◌}
use native.Mathlib.Nat.{not-le_of_lt}
use native.Mathlib.Omega.{arith}
use mathlib.Core.Path.{◌≡◌, refl, sym, ap, ◌∙◌, subst}
use mathlib.Core.Bool.{Bool, true, false, cond}
use mathlib.Core.List.{List, [], ◌∷◌}
use lib.IntN.{ℤ, pos, negsuc}
use lib.Signed.{mag}
use lib.ListN.{length, get_or, drop, replicate, get_or-eq_default}
use Rattle.std.specs.Prelude.{Some, None}
use Rattle.decimal.specs.Text.{is_digit, spelt, decimal, plain}
use Rattle.decimal.specs.Read.{more, digits, unsigned, negative, field_at, naturals, values, InRange, Stands}
use Rattle.decimal.specs.declared.read.Range.{Range}
use Rattle.decimal.proofs.Digits.{digit-above, digit_is}
use Rattle.decimal.proofs.Reading.{head_of, bad_exactly, reads_one}
use Rattle.decimal.proofs.Steps.{byte_within, unsigned-bad, negative-bad, no_digits, digits_on, field_minus, field_plain}

no_digit : (b : ℕ) → b < 48 → is_digit b ≡ false
no_digit b h = go (is_digit b) refl
  where
    go : (t : Bool) → is_digit b ≡ t → is_digit b ≡ false
    go false e = e
    go true e = absurd (omega (arith, digit-above b e))

-- a zero is a number by itself, and none with a digit behind it
zero_more : (most e : ℕ) (s : List ℕ) → is_digit (get_or s 0 0) ≡ true → more most 0 e s ≡ None
unfolding more is_digit
zero_more most e [] h = let z : ◌≡◌ {A = ℕ} 0 1 = cc in absurd (omega arith)
zero_more most e (b ∷ s) h = rw h

zero-negative : (most e : ℕ) (s : List ℕ) → negative (more most 0 e s) ≡ None
unfolding more negative
zero-negative most e [] = refl
zero-negative most e (b ∷ s) = go (is_digit b)
  where
    go : (i : Bool) → negative (cond i None (Some (0, e))) ≡ None
    go true = refl
    go false = refl

-- a range that has z
pub up_to : ℤ → Range
up_to z = record { below = suc (mag z); least = 0; most = mag z }

pub in_up_to : (z : ℤ) → InRange (up_to z) z
unfolding up_to
in_up_to (pos v) = (omega arith, omega arith)
in_up_to (negsuc v) = omega arith

module _ (range : Range) (s : List ℕ) (at : ℕ) where
  -- neither a digit nor a minus: a plus, a separator, the end
  pub bad-start : is_digit (get_or s at 0) ≡ false → (get_or s at 0 ≡ 45 → ⊥) → field_at s at range ≡ None
  bad-start n m = sym (field_plain s at range m (no_digits range.most s at n) (unsigned-bad range.least refl))

  pub bad-plus : get_or s at 0 ≡ 43 → field_at s at range ≡ None
  bad-plus e = bad-start (no_digit (get_or s at 0) (omega arith)) (omega arith)

  pub bad_past : length s ≤ at → field_at s at range ≡ None
  bad_past h =
      let e : get_or s at 0 ≡ 0 = get_or-eq_default {A = ℕ} s 0 h in
      bad-start (no_digit (get_or s at 0) (omega arith)) (omega arith)

  -- a minus and no digit
  pub bad_minus : get_or s at 0 ≡ 45 → is_digit (get_or s (at + 1) 0) ≡ false → field_at s at range ≡ None
  bad_minus e n = sym (field_minus s at range e (no_digits range.below s (at + 1) n) (negative-bad refl))

  -- a minus before zero, whatever follows
  pub bad_minus_zero : get_or s at 0 ≡ 45 → get_or s (at + 1) 0 ≡ 48 → field_at s at range ≡ None
  bad_minus_zero e z =
      let h : at + 1 < length s = byte_within s (at + 1) (omega arith) in
      let n : more range.below 0 (at + 1 + 1) (drop (at + 1 + 1) s) ≡ digits range.below (at + 1) (drop (at + 1) s) =
      digits_on range.below s (at + 1) h (ap is_digit z ∙ digit_is 0 (omega arith)) 0 (omega arith) (omega arith) in
      sym (field_minus s at range e n (sym (zero-negative range.below (at + 1 + 1) (drop (at + 1 + 1) s))))

  -- a zero with a digit behind it
  pub bad-zero : get_or s at 0 ≡ 48 → is_digit (get_or s (at + 1) 0) ≡ true → field_at s at range ≡ None
  bad-zero z d =
      let h : at < length s = byte_within s at (omega arith) in
      let n : None ≡ digits range.most at (drop at s) =
      sym (zero_more range.most (at + 1) (drop (at + 1) s) (ap is_digit (head_of s (at + 1)) ∙ d))
      ∙ digits_on range.most s at h (ap is_digit z ∙ digit_is 0 (omega arith)) 0 (omega arith) (omega arith) in
      sym (field_plain s at range (omega arith) n (unsigned-bad range.least refl))

  -- "a number out of its range is not of the form"
  pub bad_out : (z : ℤ) (e : ℕ) → Stands (plain z) s at e → is_digit (get_or s e 0) ≡ false → (InRange range z → ⊥) → field_at s at range ≡ None
  bad_out z e t n out = (bad_exactly range s at).1 (λ y d r. out (subst (InRange range) (reads_one range (up_to z) s at y z d e r (record { stands = t; within = in_up_to z; whole = n })).0 r.within))

-- ---- the edges

-- `9` forty times, in every range whose values are below it
pub forty_nines : (range : Range) → range.most < 10 ^ 40 - 1 → field_at (replicate 40 57) 0 range ≡ None
unfolding decimal spelt is_digit
forty_nines range h =
    bad_out range (replicate 40 57) 0 (pos (10 ^ 40 - 1)) 40 (record { ends = refl; here = refl }) refl (λ r. not-le_of_lt h r.1)

-- `0`, `63`, `64` up to 63; the ends of the signed values and what lies just past them; `-0`, `00`, `01`, `+1`, the empty text, `-`, forty times `9`
pub edges :
    (field_at (48 ∷ []) 0 (naturals 0 63) ≡ Some (pos 0, 1))
    × (field_at (54 ∷ 51 ∷ []) 0 (naturals 0 63) ≡ Some (pos 63, 2))
    × (field_at (54 ∷ 52 ∷ []) 0 (naturals 0 63) ≡ None)
    × (field_at (48 ∷ []) 0 (naturals 1 4096) ≡ None)
    × (field_at (plain (negsuc 2147483647)) 0 values ≡ Some (negsuc 2147483647, 11))
    × (field_at (plain (negsuc 2147483648)) 0 values ≡ None)
    × (field_at (plain (pos 2147483647)) 0 values ≡ Some (pos 2147483647, 10))
    × (field_at (plain (pos 2147483648)) 0 values ≡ None)
    × (field_at (45 ∷ 48 ∷ []) 0 values ≡ None)
    × (field_at (48 ∷ 48 ∷ []) 0 values ≡ None)
    × (field_at (48 ∷ 49 ∷ []) 0 values ≡ None)
    × (field_at (43 ∷ 49 ∷ []) 0 values ≡ None)
    × (field_at [] 0 values ≡ None)
    × (field_at (45 ∷ []) 0 values ≡ None)
    × (field_at (replicate 40 57) 0 (naturals 0 18446744073709551615) ≡ None)
    × (plain (negsuc 2047) ≡ 45 ∷ 50 ∷ 48 ∷ 52 ∷ 56 ∷ [])
unfolding field_at digits more unsigned negative decimal spelt is_digit
edges = (refl, refl, refl, refl, refl, refl, refl, refl, refl, refl, refl, refl, refl, refl, refl, refl)
