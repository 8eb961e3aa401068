-- A verdict's number is its own, and a number past them all is the last one's.
use Prim.Native.Nat.{ℕ, zero, suc, ◌≤◌}
use native.Mathlib.Omega.{arith}
use mathlib.Core.Path.{◌≡◌, refl}
use Rattle.records.specs.declared.Verdict.{Verdict}
use Rattle.records.specs.declared.Verdict.TheVariants.{Ok, RC, BV, FV, SV, WC}
use Rattle.records.specs.Order.{code_of, verdict_from}

pub verdict_back : (v : Verdict) → verdict_from (code_of v) ≡ v
unfolding verdict_from
verdict_back Ok = refl
verdict_back RC = refl
verdict_back BV = refl
verdict_back FV = refl
verdict_back SV = refl
verdict_back WC = refl

pub verdict_past : (n : ℕ) → 5 ≤ n → WC ≡ verdict_from n
unfolding verdict_from
verdict_past zero h = absurd (omega arith)
verdict_past (suc zero) h = absurd (omega arith)
verdict_past (suc (suc zero)) h = absurd (omega arith)
verdict_past (suc (suc (suc zero))) h = absurd (omega arith)
verdict_past (suc (suc (suc (suc zero)))) h = absurd (omega arith)
verdict_past (suc (suc (suc (suc (suc n))))) h = refl
