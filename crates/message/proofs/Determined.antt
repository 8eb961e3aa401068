-- Two answers with the same reply in document 01's numbers are equal.
use Rattle.std.proofs.Common.{ℕ, ◌≡◌, Result, Ok, Err, arith}
use Rattle.units.specs.Refusal.{number_of}
use Rattle.units.specs.declared.refusal.Refusal.{Refusal}
use Rattle.units.proofs.Numbers.{number_inj}
use Rattle.message.specs.Write.{message_reply}

-- `write_message`, and `send` of the crate `post`
pub message_inj : (a b : Result ℕ Refusal) → message_reply a ≡ message_reply b → a ≡ b
message_inj (Ok m) (Ok n) e = let p : m ≡ n = cc in rw p
message_inj (Ok m) (Err g) e = let z : ◌≡◌ {A = ℕ} 0 1 = cc in absurd (omega arith)
message_inj (Err f) (Ok n) e = let z : ◌≡◌ {A = ℕ} 0 1 = cc in absurd (omega arith)
message_inj (Err f) (Err g) e = let p : number_of f ≡ number_of g = cc in rw (number_inj f g p)
