-- What a line comes to where its record is taken into the ledger.
use Prim.Native.Nat.{ℕ}
use mathlib.Core.Path.{◌≡◌, refl, ap, ◌∙◌}
use Rattle.std.specs.Prelude.{Result, Ok, Err}
use Rattle.std.specs.Result.{MatchResult, IsErrAnd}
use Rattle.std.proofs.lemmas.Result.{err_from_is_err_and}
use Rattle.units.specs.Refusal.{number_of}
use Rattle.units.specs.declared.refusal.Refusal.{Refusal}
use Rattle.records.specs.declared.Record.{Record}
use Rattle.ledger.specs.Take.{taken_reply}
use Rattle.verdict.specs.Pass.{came_record, came_refused, on_take}
use Rattle.verdict.specs.declared.RefusedAt.{RefusedAt}

-- a refusal with its line
abbrev pub with_line : {T : Type 0} → ℕ → Result T Refusal → Result T RefusedAt
with_line n (Ok x) = Ok x
with_line n (Err f) = Err (record { refusal = f; line = n })

-- what `map_err` makes of an answer, by a closure that gives each refusal the line n
pub lined : {T : Type 0} (n : ℕ) (r : Result T Refusal) (k : Result T RefusedAt) {P : Refusal → RefusedAt → Type 0}
    → MatchResult r (λ x. k ≡ Ok x) (λ e. IsErrAnd k (P e)) → ((e : Refusal) (d : RefusedAt) → P e d → d ≡ record { refusal = e; line = n }) → k ≡ with_line n r
lined n (Ok x) k h g = h
lined n (Err e) k h g =
    let p = err_from_is_err_and k h in
    p.1 ∙ ap Err (g e p.0 p.2)

-- the record stands, or it is refused with its line
pub took : (n : ℕ) (e : Record) (r : Result (Unit {0}) Refusal) {u : Unit {0}} → Ok u ≡ with_line n r → came_record e ≡ on_take (taken_reply r) n e
took n e (Ok v) q = refl
took n e (Err f) q = cc

pub stopped : (n : ℕ) (e : Record) (r : Result (Unit {0}) Refusal) {d : RefusedAt} → Err d ≡ with_line n r → came_refused (number_of d.refusal) d.line ≡ on_take (taken_reply r) n e
stopped n e (Ok v) q = cc
stopped n e (Err f) {d} q = let p : d ≡ record { refusal = f; line = n } = cc in rw p refl
