-- Two answers of a copy with the same reply in document 01's numbers are equal.
use Rattle.std.proofs.Common.{ℕ, ◌≡◌, Result, Ok, Err, refl, ap, arith}
use Rattle.units.specs.Refusal.{number_of}
use Rattle.units.specs.declared.refusal.Refusal.{Refusal}
use Rattle.units.specs.declared.Version.{Version}
use Rattle.units.proofs.Numbers.{number_inj}
use Rattle.copy.specs.Copy.{TakeStep, held_reply, take_reply, take_step}
use Rattle.copy.specs.declared.Copy.{Copy}

-- `read`
pub held_inj : (a b : Result Version Refusal) → held_reply a ≡ held_reply b → a ≡ b
held_inj (Ok v) (Ok w) e = let p : v ≡ w = cc in rw p
held_inj (Ok v) (Err g) e = let z : ◌≡◌ {A = ℕ} 0 1 = cc in absurd (omega arith)
held_inj (Err f) (Ok w) e = let z : ◌≡◌ {A = ℕ} 0 1 = cc in absurd (omega arith)
held_inj (Err f) (Err g) e = let p : number_of f ≡ number_of g = cc in rw (number_inj f g p)

answer_inj : (a b : Result (Unit {0}) Refusal) → take_reply a ≡ take_reply b → a ≡ b
answer_inj (Ok u) (Ok v) e = refl
answer_inj (Ok u) (Err g) e = let z : ◌≡◌ {A = ℕ} 0 1 = cc in absurd (omega arith)
answer_inj (Err f) (Ok v) e = let z : ◌≡◌ {A = ℕ} 0 1 = cc in absurd (omega arith)
answer_inj (Err f) (Err g) e = let p : number_of f ≡ number_of g = cc in rw (number_inj f g p)

-- `take`: the answer and the copy
pub take_inj : (a b : Result (Unit {0}) Refusal) (c d : Copy) → take_step a c ≡ take_step b d → (a ≡ b) × (c ≡ d)
take_inj a b c d e = (answer_inj a b (ap (λ (s : TakeStep). s.reply) e), ap (λ (s : TakeStep). s.copy) e)
