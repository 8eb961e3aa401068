-- Two replies that the contract of `take` allows for one input are equal, and so are the words.
use Prim.Native.Nat.{ℕ}
use native.Mathlib.Omega.{arith}
use mathlib.Core.Path.{◌≡◌, refl, sym, ◌∙◌}
use mathlib.Core.List.{List}
use Rattle.units.specs.Refusal.{number_of}
use Rattle.units.proofs.Numbers.{number_inj}
use Rattle.records.specs.Ledger.{line_step}
use Rattle.records.specs.declared.Record.{Record}
use Rattle.book.specs.Book.{ledger_of}
use Rattle.std.specs.Prelude.{Result, Ok, Err}
use Rattle.units.specs.declared.refusal.Refusal.{Refusal}
use Rattle.ledger.specs.Take.{taken_reply, reply_to, booked}

-- document 01's numbers name the answer
pub taken_inj : (a b : Result (Unit {0}) Refusal) → taken_reply a ≡ taken_reply b → a ≡ b
taken_inj (Err f) (Err g) e = let p : number_of f ≡ number_of g = cc in rw (number_inj f g p)
taken_inj (Err f) (Ok v) e = let z : ◌≡◌ {A = ℕ} 0 1 = cc in absurd (omega arith)
taken_inj (Ok u) (Err g) e = let z : ◌≡◌ {A = ℕ} 0 1 = cc in absurd (omega arith)
taken_inj (Ok u) (Ok v) e = refl

-- take
pub take_one : (ws : List ℕ) (line : ℕ) (e : Record) {r r' : Result (Unit {0}) Refusal} {us us' : List ℕ}
    → (taken_reply r ≡ reply_to (line_step line e (ledger_of ws))) × (us ≡ booked ws line e)
    → (taken_reply r' ≡ reply_to (line_step line e (ledger_of ws))) × (us' ≡ booked ws line e)
    → (r ≡ r') × (us ≡ us')
take_one ws line e {r} {r'} p q = (taken_inj r r' (p.0 ∙ sym q.0), p.1 ∙ sym q.1)
