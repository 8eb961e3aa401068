-- The two readings over the one: naturals of a range, and signed 32-bit values.
use Prim.Native.Nat.{ℕ, zero, suc, ◌≤◌, ◌-◌, ◌<◌}
use native.Mathlib.Omega.{arith}
use mathlib.Core.Path.{◌≡◌, refl, sym, ap}
use mathlib.Core.List.{List}
use mathlib.Core.Logic.{◌↔◌}
use lib.Dec.{T}
use lib.IntN.{ℤ, pos, negsuc, nat_abs, ◌-ℤ◌}
use lib.Signed.{mag, non_neg}
use mir.Syntax.{w32, w64, w128}
use mir.Val.{Fits, SFits, to_z, of_z}
use mir.Facts.{to_z-of_z}
use Rattle.std.proofs.lemmas.Int.{ints}
use Rattle.std.proofs.lemmas.Option.{some_pair_parts}
use Rattle.std.specs.Prelude.{Option, Some, None}
use Rattle.decimal.specs.Read.{field_at, as_natural, natural_at, naturals, signed_at, values, number, InRange, Reads}
use Rattle.decimal.proofs.Reading.{absurd_number, field-reads, field-read}

-- ---- a value of any range, in the machine's 128 bits

pub wide : {z : ℤ} → mag z < 170141183460469231731687303715884105728 → to_z w128 (of_z w128 z) ≡ z
wide {z} h = to_z-of_z {w = w128} {z = z} (record { sfits = h })

below-zero : (m : ℕ) → (m ≡ 0 → ⊥) → pos 0 -ℤ pos m ≡ negsuc (m - 1)
below-zero zero h = absurd (h refl)
below-zero (suc k) h = omega (arith, ints)

pub wide_minus : {z : ℤ} {m : ℕ} → mag z < 170141183460469231731687303715884105728 → z ≡ pos m → (m ≡ 0 → ⊥) → to_z w128 (of_z w128 (pos 0 -ℤ to_z w128 (of_z w128 z))) ≡ negsuc (m - 1)
wide_minus {z = z} {m = m} h q n =
    let l : mag (negsuc (m - 1)) < 170141183460469231731687303715884105728 = omega (arith, rw q at h) in
    rw (wide {z = z} h, q, below-zero m n) (wide l)

-- ---- naturals

module _ (s : List ℕ) (at least most : ℕ) where
  as-natural : (f : Option (ℤ × ℕ)) (v e : ℕ) → as_natural f ≡ Some (v, e) → f ≡ number (pos v) e
  unfolding as_natural
  as-natural (Some (pos w, d)) v e q = let p : (w ≡ v) × (d ≡ e) = some_pair_parts w v d e q in rw (p.0, p.1)
  as-natural (Some (negsuc w, d)) v e q = absurd_number q
  as-natural None v e q = absurd_number q

  -- a natural is answered exactly if its digits stand there, in the range, with no digit behind them
  pub natural_exactly : (v e : ℕ) → (natural_at s at least most ≡ Some (v, e)) ↔ Reads (naturals least most) s at (pos v) e
  unfolding natural_at as_natural
  natural_exactly v e = (
    λ q. field-reads (naturals least most) s at (pos v) e (as-natural (field_at s at (naturals least most)) v e q),
    λ r. ap as_natural (field-read (naturals least most) s at (pos v) e r),
  )

  -- the field that was read is a natural of 64 bits
  module _ (small : most < 18446744073709551616) {e : ℕ} where
    natural_within : (v : ℤ) → Some (v, e) ≡ field_at s at (naturals least most) → InRange (naturals least most) v
    natural_within v p = (field-reads (naturals least most) s at v e (sym p)).within

    pub natural_cast : (v : ℤ) → Some (v, e) ≡ field_at s at (naturals least most) → T (non_neg (to_z w128 (of_z w128 v))) × Fits w64 (nat_abs (to_z w128 (of_z w128 v)))
    natural_cast (pos v) p =
        let l : v ≤ most = (natural_within (pos v) p).1 in
        rw (wide {z = pos v} (omega arith)) (tt, record { fits = omega arith })
    natural_cast (negsuc v) p = absurd (omega (arith, natural_within (negsuc v) p))

    pub natural_read : (v : ℤ) → Some (v, e) ≡ field_at s at (naturals least most) → Some (nat_abs (to_z w128 (of_z w128 v)), e) ≡ natural_at s at least most
    unfolding natural_at as_natural
    natural_read (pos v) p =
        let l : v ≤ most = (natural_within (pos v) p).1 in
        rw (wide {z = pos v} (omega arith), ← p)
    natural_read (negsuc v) p = absurd (omega (arith, natural_within (negsuc v) p))

-- ---- signed values

pub value_small : (z : ℤ) → InRange values z → mag z < 2147483648
value_small (pos v) h = omega arith
value_small (negsuc v) h = h

module _ (s : List ℕ) (at : ℕ) where
  -- a signed 32-bit value is answered exactly if its plain form stands there, with no digit behind it
  pub signed_exactly : (z : ℤ) (e : ℕ) → (signed_at s at ≡ Some (z, e)) ↔ Reads values s at z e
  unfolding signed_at
  signed_exactly z e = (λ q. field-reads values s at z e q, λ r. field-read values s at z e r)

  -- the value that was read is one of 32 bits
  module _ {v : ℤ} {e : ℕ} (p : Some (v, e) ≡ field_at s at values) where
    signed_small : mag v < 2147483648
    signed_small = value_small v (field-reads values s at v e (sym p)).within

    signed_wide : to_z w128 (of_z w128 v) ≡ v
    signed_wide = wide (omega (arith, signed_small))

    pub signed_cast : SFits w32 (to_z w128 (of_z w128 v))
    signed_cast = rw signed_wide (record { sfits = signed_small })

    pub signed_read : Some (to_z w32 (of_z w32 (to_z w128 (of_z w128 v))), e) ≡ signed_at s at
    unfolding signed_at
    signed_read = let f : SFits w32 v = record { sfits = signed_small } in rw (signed_wide, to_z-of_z f) p
