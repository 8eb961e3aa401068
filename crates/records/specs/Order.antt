-- A verdict by its place in the order ok, RC, BV, FV, SV, WC, as a column holds it, and back.
use Rattle.std.specs.Prelude.{ℕ, zero, suc}
use Rattle.records.specs.declared.Verdict.{Verdict}
use Rattle.records.specs.declared.Verdict.TheVariants.{Ok, RC, BV, FV, SV, WC}

abbrev pub code_of : Verdict → ℕ
code_of Ok = 0
code_of RC = 1
code_of BV = 2
code_of FV = 3
code_of SV = 4
code_of WC = 5

-- a number past them is the last
unfoldable pub verdict_from : ℕ → Verdict
verdict_from zero = Ok
verdict_from (suc zero) = RC
verdict_from (suc (suc zero)) = BV
verdict_from (suc (suc (suc zero))) = FV
verdict_from (suc (suc (suc (suc zero)))) = SV
verdict_from (suc (suc (suc (suc (suc n))))) = WC
