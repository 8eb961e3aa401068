-- A refusal's number names it: no two refusals share one.
use Prim.Native.Nat.{ℕ, ◌-◌, ◌<◌}
use native.Mathlib.Omega.{arith}
use mathlib.Core.List.{List, [], ◌∷◌}
use mathlib.Core.Path.{◌≡◌, refl, sym, ap, ◌∙◌}
use lib.ListN.{get_or}
use Rattle.units.specs.Refusal.{number_of}
use Rattle.units.specs.Bounds.{TripleReply, refused, taken, triple_reply}
use Rattle.std.specs.Prelude.{Result, Ok, Err}
use Rattle.units.specs.declared.Bounds.{Bounds}
use Rattle.units.specs.declared.refusal.Refusal.{Refusal}
use Rattle.units.specs.declared.refusal.Refusal.TheVariants.{NoTransaction, NoKey, DeskFull, TransactionFull, ClockSpent, LogFull, NoVersion, KeyWritten, NoSuchBoundOrPlace, NotAMessage, OrdinalAhead, HistoryTooLong, NotARecord, TooManyLines, WrongTransaction, TooManyTransactions, NoRoom, NothingWritten}

-- document 01's table, from 1
abbrev pub refusals : List Refusal
refusals =
    NoTransaction ∷ NoKey ∷ DeskFull ∷ TransactionFull ∷ ClockSpent ∷ LogFull ∷ NoVersion ∷ KeyWritten ∷ NoSuchBoundOrPlace ∷ NotAMessage ∷ OrdinalAhead ∷ HistoryTooLong ∷ NotARecord ∷ TooManyLines ∷ WrongTransaction ∷ TooManyTransactions ∷ NoRoom ∷ NothingWritten ∷ []

abbrev pub refusal_of : ℕ → Refusal
refusal_of n = get_or refusals (n - 1) NoTransaction

pub number_back : (f : Refusal) → refusal_of (number_of f) ≡ f
number_back NoTransaction = refl
number_back NoKey = refl
number_back DeskFull = refl
number_back TransactionFull = refl
number_back ClockSpent = refl
number_back LogFull = refl
number_back NoVersion = refl
number_back KeyWritten = refl
number_back NoSuchBoundOrPlace = refl
number_back NotAMessage = refl
number_back OrdinalAhead = refl
number_back HistoryTooLong = refl
number_back NotARecord = refl
number_back TooManyLines = refl
number_back WrongTransaction = refl
number_back TooManyTransactions = refl
number_back NoRoom = refl
number_back NothingWritten = refl

-- what has a way back is one to one
pub back_inj : {A B : Type 0} (f : A → B) (g : B → A) → ((x : A) → g (f x) ≡ x) → (x y : A) → f x ≡ f y → x ≡ y
back_inj f g h x y e = sym (h x) ∙ ap g e ∙ h y

pub number_inj : (f g : Refusal) → number_of f ≡ number_of g → f ≡ g
number_inj = back_inj number_of refusal_of number_back

-- and 0 is no refusal
pub number_pos : (f : Refusal) → 0 < number_of f
number_pos NoTransaction = omega arith
number_pos NoKey = omega arith
number_pos DeskFull = omega arith
number_pos TransactionFull = omega arith
number_pos ClockSpent = omega arith
number_pos LogFull = omega arith
number_pos NoVersion = omega arith
number_pos KeyWritten = omega arith
number_pos NoSuchBoundOrPlace = omega arith
number_pos NotAMessage = omega arith
number_pos OrdinalAhead = omega arith
number_pos HistoryTooLong = omega arith
number_pos NotARecord = omega arith
number_pos TooManyLines = omega arith
number_pos WrongTransaction = omega arith
number_pos TooManyTransactions = omega arith
number_pos NoRoom = omega arith
number_pos NothingWritten = omega arith

-- so a triple's answer comes back from its reply
pub triple_inj : (a b : Result Bounds Refusal) → triple_reply a ≡ triple_reply b → a ≡ b
triple_inj = back_inj triple_reply back there
  where
    back : TripleReply → Result Bounds Refusal
    back (taken b) = Ok b
    back (refused n) = Err (refusal_of n)

    there : (a : Result Bounds Refusal) → back (triple_reply a) ≡ a
    there (Ok b) = refl
    there (Err f) = ap Err (number_back f)
