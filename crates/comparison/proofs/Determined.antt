-- Two answers of the comparison with the same reply in document 01's numbers are equal.
use Rattle.std.proofs.Common.{ℕ, ◌≡◌, Result, Ok, Err, arith}
use Rattle.units.specs.Refusal.{number_of}
use Rattle.units.specs.declared.refusal.Refusal.{Refusal}
use Rattle.units.proofs.Numbers.{number_inj}
use Rattle.comparison.specs.Comparison.{compare_reply}
use Rattle.comparison.specs.declared.Behind.{Behind}

pub compare_inj : (a b : Result Behind Refusal) → compare_reply a ≡ compare_reply b → a ≡ b
compare_inj (Ok b) (Ok c) e = let p : b.word ≡ c.word = cc in let q : b.keys ≡ c.keys = cc in let r : b.lowest ≡ c.lowest = cc in λ n. Ok (record { word = p n; keys = q n; lowest = r n })
compare_inj (Ok b) (Err g) e = let z : ◌≡◌ {A = ℕ} 0 1 = cc in absurd (omega arith)
compare_inj (Err f) (Ok c) e = let z : ◌≡◌ {A = ℕ} 0 1 = cc in absurd (omega arith)
compare_inj (Err f) (Err g) e = let p : number_of f ≡ number_of g = cc in rw (number_inj f g p)
