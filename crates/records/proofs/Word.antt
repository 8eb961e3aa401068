-- A word as a set of keys: what is in it after a key is added, and when two have a key in common. Every number is taken.
use Prim.Native.Nat.{ℕ, zero, suc, ◌+◌, ◌-◌, ◌*◌, ◌/◌, ◌%◌, ◌^◌, ◌≤◌, ◌<◌, min, max}
use native.Mathlib.Omega.{arith}
use native.Mathlib.Nat.{div-one, div_self, div-eq_of_lt, mul-mod_left, pow-suc, mul_comm, zero-div, div-div-eq-div-mul}
use native.Mathlib.Decide.{ℕ_discrete, dec_lt}
use mathlib.Core.Path.{◌≡◌, refl, sym, ◌∙◌, ap}
use mathlib.Core.Logic.{◌↔◌, ◌≢◌}
use mathlib.Core.Bool.{Bool, true, false, not, ◌||◌, or-true, or-false}
use lib.Bits.{bit_and, bit_or, and_shr, or_shr, and_step, or_step}
use lib.Pow.{pow_pos, pow-lt, pow-add, shl-shr}
use lib.Dec.{eqb}
use borrow.Author.Tests.{eqb-true, eqb-false, eq-eqb, ne_eqb, not-false}
use Rattle.records.specs.Ledger.{has, plus, meets}

abbrev digit : ℕ → ℕ → ℕ
digit w x = w / 2 ^ x % 2

digit_or : (a b x : ℕ) → digit (bit_or a b) x ≡ max (digit a x) (digit b x)
digit_or a b x = rw (or_shr a b x) (omega (arith, or_step (a / 2 ^ x) (b / 2 ^ x)))

digit_and : (a b x : ℕ) → digit (bit_and a b) x ≡ min (digit a x) (digit b x)
digit_and a b x = rw (and_shr a b x) (omega (arith, and_step (a / 2 ^ x) (b / 2 ^ x)))

digit-same : (x : ℕ) → digit (2 ^ x) x ≡ 1
digit-same x = rw (div_self (pow_pos x))

digit-other : (x y : ℕ) → x ≢ y → digit (2 ^ x) y ≡ 0
digit-other x y n = go (dec_lt x y)
  where
    even : (d : ℕ) → d * 2 ^ suc y ≡ d * 2 * 2 ^ y
    even d = rw (pow-suc 2 y) (omega arith)

    above : (d : ℕ) → d * 2 ^ suc y / 2 ^ y % 2 ≡ 0
    above d = rw (even d, shl-shr (d * 2) y) (mul-mod_left d 2)

    go : Dec (x < y) → digit (2 ^ x) y ≡ 0
    go (yes h) = rw (div-eq_of_lt (pow-lt h))
    go (no h) = rw (power, pow-add 2 (x - suc y) (suc y)) (above (2 ^ (x - suc y)))
      where
        power : x ≡ (x - suc y) + suc y
        power = omega arith

-- a key added is in it, and no other key changes
pub has-plus : (w x y : ℕ) → has (plus w x) y ≡ (has w y || eqb x y)
has-plus w x y = go (ℕ_discrete x y)
  where
    with_one : (a b : ℕ) → a < 2 → b ≡ 1 → eqb (max a b) 1 ≡ (eqb a 1 || true)
    with_one a b h e = eq-eqb (max a b) 1 (omega arith) ∙ sym (or-true (eqb a 1))

    with_none : (a b : ℕ) → b ≡ 0 → eqb (max a b) 1 ≡ (eqb a 1 || false)
    with_none a b e = let m : max a b ≡ a = omega arith in rw (m, or-false)

    go : Dec (x ≡ y) → has (plus w x) y ≡ (has w y || eqb x y)
    go (yes e) = rw (digit_or w (2 ^ x) y, eq-eqb x y e) (with_one (digit w y) (digit (2 ^ x) y) (omega arith) (rw e (digit-same y)))
    go (no n) = rw (digit_or w (2 ^ x) y, ne_eqb x y n) (with_none (digit w y) (digit (2 ^ x) y) (digit-other x y n))

-- a number that is not 0 has a digit
some-digit : (fuel w : ℕ) → w ≤ fuel → 0 < w → (x : ℕ) × (digit w x ≡ 1)
some-digit zero w h p = absurd (omega arith)
some-digit (suc fuel) w h p = go (ℕ_discrete (w % 2) 1) (λ e. some-digit fuel (w / 2) (omega arith) (omega arith))
  where
    go : Dec (w % 2 ≡ 1) → (w % 2 ≢ 1 → (x : ℕ) × (digit (w / 2) x ≡ 1)) → (x : ℕ) × (digit w x ≡ 1)
    go (yes e) r = (0, rw (div-one w) e)
    go (no n) r = (suc (r n).0, ap (λ (k : ℕ). w / k % 2) (pow-suc 2 (r n).0 ∙ mul_comm _ 2) ∙ ap (λ (k : ℕ). k % 2) (sym (div-div-eq-div-mul w 2 (2 ^ (r n).0))) ∙ (r n).1)

-- two have a key in common exactly if they meet
pub meets-none : (a b : ℕ) → (meets a b ≡ false) ↔ ((x : ℕ) → has a x ≡ true → has b x ≡ true → ⊥)
meets-none a b = (to, from (eqb (bit_and a b) 0) refl)
  where
    to : meets a b ≡ false → (x : ℕ) → has a x ≡ true → has b x ≡ true → ⊥
    to e x p q =
        let z : bit_and a b ≡ 0 = eqb-true (bit_and a b) 0 (not-false _ e) in
        let n : digit (bit_and a b) x ≡ 0 = rw (z, zero-div (2 ^ x)) in
        omega (arith, digit_and a b x, eqb-true (digit a x) 1 p, eqb-true (digit b x) 1 q)

    from : (t : Bool) → eqb (bit_and a b) 0 ≡ t → ((x : ℕ) → has a x ≡ true → has b x ≡ true → ⊥) → not t ≡ false
    from true e f = refl
    from false e f =
        let n : 0 < bit_and a b = omega (arith, eqb-false (bit_and a b) 0 e) in
        let d = some-digit (bit_and a b) (bit_and a b) (omega arith) n in
        absurd (f d.0 (eq-eqb (digit a d.0) 1 (omega (arith, digit_and a b d.0, d.1))) (eq-eqb (digit b d.0) 1 (omega (arith, digit_and a b d.0, d.1))))

pub meets-some : (a b x : ℕ) → has a x ≡ true → has b x ≡ true → meets a b ≡ true
meets-some a b x p q = go (meets a b) refl
  where
    go : (t : Bool) → meets a b ≡ t → t ≡ true
    go true e = refl
    go false e = absurd ((meets-none a b).0 e x p q)
