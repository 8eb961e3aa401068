-- A contract determines its answer: two answers with the same meaning in document 01's numbers are equal. Every word of the memory has its
-- equation.
use mathlib.Core.Path.{◌≡◌, refl, ap}
use mathlib.Core.Bool.{cond}
use lib.Dec.{eqb}
use Rattle.units.proofs.Numbers.{refusal_of, number_back, back_inj}
use Rattle.model.specs.Call.{Reply}
use Rattle.model.proofs.Replies.{Told, told}
use Rattle.std.specs.Prelude.{Result, Ok, Err}
use Rattle.units.specs.declared.Stamp.{Stamp}
use Rattle.units.specs.declared.refusal.Refusal.{Refusal}
use Rattle.desk.specs.Desk.{start_reply, done_reply}

abbrev start_from : Told → Result Stamp Refusal
start_from t = cond (eqb t.kind 0) (Err (refusal_of t.number)) (Ok (record { 0 = t.number }))

start_back : (a : Result Stamp Refusal) → start_from (told (start_reply a)) ≡ a
start_back (Ok s) = refl
start_back (Err f) = ap Err (number_back f)

pub start_inj : (a b : Result Stamp Refusal) → start_reply a ≡ start_reply b → a ≡ b
start_inj = back_inj start_reply (λ (r : Reply). start_from (told r)) start_back

abbrev done_from : Told → Result Unit Refusal
done_from t = cond (eqb t.kind 0) (Err (refusal_of t.number)) (Ok tt)

done_back : (a : Result Unit Refusal) → done_from (told (done_reply a)) ≡ a
done_back (Ok u) = refl
done_back (Err f) = ap Err (number_back f)

pub done_inj : (a b : Result Unit Refusal) → done_reply a ≡ done_reply b → a ≡ b
done_inj = back_inj done_reply (λ (r : Reply). done_from (told r)) done_back
