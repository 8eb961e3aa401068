-- A contract determines its answer, for the calls that look at versions: two answers with the same meaning in document 01's numbers are
-- equal. Every word of the memory, and the whole batch, has its equation.
use mathlib.Core.Path.{◌≡◌, refl, ap}
use mathlib.Core.Bool.{cond}
use mathlib.Core.List.{List}
use lib.Dec.{eqb}
use Rattle.units.proofs.Numbers.{refusal_of, number_back, back_inj}
use Rattle.model.specs.Log.{Entry}
use Rattle.model.specs.Call.{Reply}
use Rattle.model.proofs.Replies.{Told, told}
use Rattle.std.specs.Prelude.{ℤ, Result, Ok, Err, IfOk}
use mathlib.Core.Path.{sym, ◌∙◌}
use Rattle.units.specs.declared.Stamp.{Stamp}
use Rattle.units.specs.declared.Batch.{Batch}
use Rattle.units.specs.declared.refusal.Refusal.{Refusal}
use Rattle.versions.specs.Batch.{batch_of}
use Rattle.master.specs.declared.Reading.{Reading}
use Rattle.master.specs.declared.NotCommitted.{NotCommitted}
use Rattle.master.specs.Master.{read_reply, distance_reply, commit_reply, made_reply, newest_reply}

abbrev read_from : Told → Result Reading Refusal
read_from t = cond (eqb t.kind 0) (Err (refusal_of t.number)) (cond (eqb t.kind 2) (Ok (Reading.Version t.version)) (Ok (Reading.Own t.value)))

read_back : (a : Result Reading Refusal) → read_from (told (read_reply a)) ≡ a
read_back (Ok (Reading.Version v)) = refl
read_back (Ok (Reading.Own v)) = refl
read_back (Err f) = ap Err (number_back f)

pub read_inj : (a b : Result Reading Refusal) → read_reply a ≡ read_reply b → a ≡ b
read_inj = back_inj read_reply (λ (r : Reply). read_from (told r)) read_back

abbrev distance_from : Told → Result ℤ Refusal
distance_from t = cond (eqb t.kind 0) (Err (refusal_of t.number)) (Ok t.value)

distance_back : (a : Result ℤ Refusal) → distance_from (told (distance_reply a)) ≡ a
distance_back (Ok d) = refl
distance_back (Err f) = ap Err (number_back f)

pub distance_inj : (a b : Result ℤ Refusal) → distance_reply a ≡ distance_reply b → a ≡ b
distance_inj = back_inj distance_reply (λ (r : Reply). distance_from (told r)) distance_back

abbrev commit_from : Told → Result Stamp NotCommitted
commit_from t = cond (eqb t.kind 0) (Err (NotCommitted.Refused (refusal_of t.number))) (cond (eqb t.kind 6) (Ok (record { 0 = t.number })) (Err (NotCommitted.Aborted t.rule)))

commit_back : (a : Result Stamp NotCommitted) → commit_from (told (commit_reply a)) ≡ a
commit_back (Ok s) = refl
commit_back (Err (NotCommitted.Aborted r)) = refl
commit_back (Err (NotCommitted.Refused f)) = ap (λ (g : Refusal). Err (NotCommitted.Refused g)) (number_back f)

pub commit_inj : (a b : Result Stamp NotCommitted) → commit_reply a ≡ commit_reply b → a ≡ b
commit_inj = back_inj commit_reply (λ (r : Reply). commit_from (told r)) commit_back

-- the reply's meaning and the batch that an answer holds
abbrev made_from : List Entry → Told → Result Batch Refusal
made_from es t = cond (eqb t.kind 0) (Err (refusal_of t.number)) (Ok (batch_of es))

made_back : (es : List Entry) (a : Result Batch Refusal) → IfOk a (λ b. b ≡ batch_of es) → made_from es (told (made_reply a es)) ≡ a
made_back es (Ok b) h = ap Ok (sym h)
made_back es (Err f) h = ap Err (number_back f)

-- what the reply alone fixes: that there is a batch, or the refusal
abbrev made_so : Result Batch Refusal → Result (Unit {0}) Refusal
made_so (Ok b) = Ok tt
made_so (Err f) = Err f

abbrev so_from : Told → Result (Unit {0}) Refusal
so_from t = cond (eqb t.kind 0) (Err (refusal_of t.number)) (Ok tt)

so_back : (es : List Entry) (a : Result Batch Refusal) → so_from (told (made_reply a es)) ≡ made_so a
so_back es (Ok b) = refl
so_back es (Err f) = ap Err (number_back f)

pub made_same : (es : List Entry) (a b : Result Batch Refusal) → made_reply a es ≡ made_reply b es → made_so a ≡ made_so b
made_same es a b e = sym (so_back es a) ∙ ap (λ (r : Reply). so_from (told r)) e ∙ so_back es b

pub made_inj : (es : List Entry) (a b : Result Batch Refusal) → made_reply a es ≡ made_reply b es → IfOk a (λ x. x ≡ batch_of es) → IfOk b (λ x. x ≡ batch_of es) → a ≡ b
made_inj es a b e h k = sym (made_back es a h) ∙ ap (λ (r : Reply). made_from es (told r)) e ∙ made_back es b k

abbrev newest_from : Told → Result Stamp Refusal
newest_from t = cond (eqb t.kind 0) (Err (refusal_of t.number)) (Ok (record { 0 = t.number }))

newest_back : (a : Result Stamp Refusal) → newest_from (told (newest_reply a)) ≡ a
newest_back (Ok s) = refl
newest_back (Err f) = ap Err (number_back f)

pub newest_inj : (a b : Result Stamp Refusal) → newest_reply a ≡ newest_reply b → a ≡ b
newest_inj = back_inj newest_reply (λ (r : Reply). newest_from (told r)) newest_back
