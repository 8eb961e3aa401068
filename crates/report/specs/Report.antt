-- What the judge prints, as text. Document 01: "prints lines with one space between fields: `judge` and the number of committed
-- transactions; for each, in order of commit lines, its number and `ok` or the rule; last `total` with the numbers started, committed,
-- aborted and still open. On a refusal it prints only `refused`, the number and the line".
use Rattle.std.specs.Prelude.{ℕ, List, [], ◌∷◌, ◌++◌, length}
use Rattle.decimal.specs.Text.{decimal, joined}
use Rattle.records.specs.declared.Judged.{Judged}
use Rattle.records.specs.declared.Totals.{Totals}
use Rattle.records.specs.declared.Verdict.{Verdict}
use Rattle.records.specs.declared.Verdict.TheVariants.{Ok, RC, BV, FV, SV, WC}

-- the line of a field and those behind it: 32 is the space, 10 the newline
unfoldable pub spaced_line : List ℕ → List (List ℕ) → List ℕ
spaced_line f [] = f ++ (10 ∷ [])
spaced_line f (g ∷ gs) = f ++ (32 ∷ []) ++ spaced_line g gs

-- `judge`, `total`, `refused`
abbrev pub judge_word : List ℕ
judge_word = 106 ∷ 117 ∷ 100 ∷ 103 ∷ 101 ∷ []

abbrev pub total_word : List ℕ
total_word = 116 ∷ 111 ∷ 116 ∷ 97 ∷ 108 ∷ []

abbrev pub refused_word : List ℕ
refused_word = 114 ∷ 101 ∷ 102 ∷ 117 ∷ 115 ∷ 101 ∷ 100 ∷ []

-- `ok` or the rule
unfoldable pub verdict_word : Verdict → List ℕ
verdict_word Ok = 111 ∷ 107 ∷ []
verdict_word RC = 82 ∷ 67 ∷ []
verdict_word BV = 66 ∷ 86 ∷ []
verdict_word FV = 70 ∷ 86 ∷ []
verdict_word SV = 83 ∷ 86 ∷ []
verdict_word WC = 87 ∷ 67 ∷ []

unfoldable pub head_line : ℕ → List ℕ
head_line n = spaced_line judge_word (decimal n ∷ [])

unfoldable pub verdict_line : Judged → List ℕ
verdict_line j = spaced_line (decimal j.name) (verdict_word j.verdict ∷ [])

abbrev pub verdict_lines : List Judged → List ℕ
verdict_lines js = joined verdict_line js

unfoldable pub total_line : Totals → List ℕ
total_line t = spaced_line total_word (decimal t.started ∷ decimal t.committed ∷ decimal t.aborted ∷ decimal t.«open» ∷ [])

-- the verdicts in order of commit lines
unfoldable pub report_text : List Judged → Totals → List ℕ
report_text js t = head_line (length js) ++ verdict_lines js ++ total_line t

unfoldable pub refused_text : ℕ → ℕ → List ℕ
refused_text number line = spaced_line refused_word (decimal number ∷ decimal line ∷ [])
