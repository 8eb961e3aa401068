-- Two replies that a contract of this crate allows for one input are equal.
use Prim.Native.Nat.{ℕ}
use native.Mathlib.Omega.{arith}
use mathlib.Core.Path.{◌≡◌}
use Rattle.units.specs.Refusal.{number_of}
use Rattle.units.proofs.Numbers.{number_inj}
use Rattle.std.specs.Prelude.{Result, Ok, Err}
use Rattle.units.specs.declared.refusal.Refusal.{Refusal}
use Rattle.report.specs.Write.{written_reply}

-- document 01's numbers name the answer
pub written_inj : (a b : Result ℕ Refusal) → written_reply a ≡ written_reply b → a ≡ b
written_inj (Ok m) (Ok n) e = let p : m ≡ n = cc in rw p
written_inj (Ok m) (Err f) e = let z : ◌≡◌ {A = ℕ} 0 1 = cc in absurd (omega arith)
written_inj (Err f) (Ok n) e = let z : ◌≡◌ {A = ℕ} 0 1 = cc in absurd (omega arith)
written_inj (Err f) (Err g) e = let p : number_of f ≡ number_of g = cc in rw (number_inj f g p)
