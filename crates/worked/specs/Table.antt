-- The worked examples P1 to P10 of document 01: sessions with their replies, and a written history with its verdicts and totals. The
-- master is opened at 0; default bounds unless given, by M-100 (2, 0, 1), with which P1, P5 and P6 answer as before.
use Rattle.std.specs.Prelude.{ℕ, List, [], ◌∷◌, ◌≡◌, ℤ, pos, negsuc}
use Rattle.units.specs.declared.rule.Rule.TheVariants.{BV, FV, SV, WC}
use Rattle.records.specs.declared.Record.{Record}
use Rattle.records.specs.declared.Judged.{Judged}
use Rattle.records.specs.declared.Totals.{Totals}
use Rattle.records.specs.Example.{JudgedAs, p10_lines, p10_judged, p10_totals}
use Rattle.model.specs.State.{opened}
use Rattle.model.specs.Call.{Call, Start, Read, Note, Write, Tune, Distance, Commit, Reply, started, version, done, apart_by, committed, aborted}
use Rattle.model.specs.Session.{replies}

-- a session and the replies that document 01 gives it; a written history, its lines in order, with the verdicts and the totals
pub data Row : Type 0 where
  session : List Call → List Reply → Row
  history : List Record → List Judged → Totals → Row

abbrev pub Holds : Row → Type 0
Holds (session calls expected) = replies (opened 0) calls ≡ expected
Holds (history records verdicts totals) = JudgedAs records verdicts totals

abbrev pub answered : ℕ → ℕ → ℤ → Reply
answered ordinal stamp value = version (record { ordinal = record { 0 = ordinal }; stamp = record { 0 = stamp }; value = value })

abbrev pub table : List Row
table =
    -- P1. Starts 1, 2; 1 writes key 5 := −2048, commits at 3; 2 reads key 5: ordinal 1, distance −1; commit: aborted FV
    session
    (Start ∷ Start ∷ Write 1 5 (negsuc 2047) ∷ Commit 1 ∷ Read 2 5 ∷ Distance 2 0 ∷ Commit 2 ∷ [])
    (started 1 ∷ started 2 ∷ done ∷ committed 3 ∷ answered 1 3 (negsuc 2047) ∷ apart_by (negsuc 0) ∷ aborted (FV 0) ∷ [])
    -- P2. With (1, 1, 0): committed at 4
    ∷ session
    (Start ∷ Start ∷ Write 1 5 (negsuc 2047) ∷ Commit 1 ∷ Tune 2 1 1 0 ∷ Read 2 5 ∷ Distance 2 0 ∷ Commit 2 ∷ [])
    (started 1 ∷ started 2 ∷ done ∷ committed 3 ∷ done ∷ answered 1 3 (negsuc 2047) ∷ apart_by (negsuc 0) ∷ committed 4 ∷ [])
    -- P3. Start 1 writes key 5, commits at 2; start 3 notes key 5 ordinal 0: distance 1; by M-100 it "now commits at 4"
    ∷ session
    (Start ∷ Write 1 5 (pos 7) ∷ Commit 1 ∷ Start ∷ Note 3 5 0 ∷ Distance 3 0 ∷ Commit 3 ∷ [])
    (started 1 ∷ done ∷ committed 2 ∷ started 3 ∷ answered 0 0 (pos 0) ∷ apart_by (pos 1) ∷ committed 4 ∷ [])
    -- P3 as document 01 has it, "kept as a case with (1, 0, 0) tuned": aborted BV
    ∷ session
    (Start ∷ Write 1 5 (pos 7) ∷ Commit 1 ∷ Start ∷ Tune 3 1 0 0 ∷ Note 3 5 0 ∷ Distance 3 0 ∷ Commit 3 ∷ [])
    (started 1 ∷ done ∷ committed 2 ∷ started 3 ∷ done ∷ answered 0 0 (pos 0) ∷ apart_by (pos 1) ∷ aborted (BV 0) ∷ [])
    -- P4. With (2, 0, 0): committed at 4
    ∷ session
    (Start ∷ Write 1 5 (pos 7) ∷ Commit 1 ∷ Start ∷ Tune 3 2 0 0 ∷ Note 3 5 0 ∷ Distance 3 0 ∷ Commit 3 ∷ [])
    (started 1 ∷ done ∷ committed 2 ∷ started 3 ∷ done ∷ answered 0 0 (pos 0) ∷ apart_by (pos 1) ∷ committed 4 ∷ [])
    -- P5. 1 and 2 both write key 5; 1 commits at 3; 2: aborted WC
    ∷ session
    (Start ∷ Start ∷ Write 1 5 (pos 7) ∷ Write 2 5 (pos 8) ∷ Commit 1 ∷ Commit 2 ∷ [])
    (started 1 ∷ started 2 ∷ done ∷ done ∷ committed 3 ∷ aborted (WC 0) ∷ [])
    -- P6. Had the second started after that commit (start 3): committed at 4
    ∷ session
    (Start ∷ Write 1 5 (pos 7) ∷ Commit 1 ∷ Start ∷ Write 3 5 (pos 8) ∷ Commit 3 ∷ [])
    (started 1 ∷ done ∷ committed 2 ∷ started 3 ∷ done ∷ committed 4 ∷ [])
    -- P7. Starts 1, 2; 2 writes key 5, commits at 3; start 4 writes key 6, commits at 5. Transaction 1 notes key 5 ordinal 0 and
    -- key 6 ordinal 1 under (1, 1, 0): aborted SV
    ∷ session
    (Start ∷ Start ∷ Write 2 5 (pos 7) ∷ Commit 2 ∷ Start ∷ Write 4 6 (pos 8) ∷ Commit 4 ∷ Tune 1 1 1 0 ∷ Note 1 5 0 ∷ Note 1 6 1 ∷ Commit 1 ∷ [])
    (started 1 ∷ started 2 ∷ done ∷ committed 3 ∷ started 4 ∷ done ∷ committed 5 ∷ done ∷ answered 0 0 (pos 0) ∷ answered 1 5 (pos 8) ∷ aborted (SV 0 1) ∷ [])
    -- P8. Under (1, 1, 1): committed at 6
    ∷ session
    (Start ∷ Start ∷ Write 2 5 (pos 7) ∷ Commit 2 ∷ Start ∷ Write 4 6 (pos 8) ∷ Commit 4 ∷ Tune 1 1 1 1 ∷ Note 1 5 0 ∷ Note 1 6 1 ∷ Commit 1 ∷ [])
    (started 1 ∷ started 2 ∷ done ∷ committed 3 ∷ started 4 ∷ done ∷ committed 5 ∷ done ∷ answered 0 0 (pos 0) ∷ answered 1 5 (pos 8) ∷ committed 6 ∷ [])
    -- P9. Starts 1, 2; 2 writes keys 5 and 6, commits at 3; 1 notes key 5 ordinal 0 and key 6 ordinal 1 under (1, 1, 0): committed at 4
    ∷ session
    (Start ∷ Start ∷ Write 2 5 (pos 7) ∷ Write 2 6 (pos 8) ∷ Commit 2 ∷ Tune 1 1 1 0 ∷ Note 1 5 0 ∷ Note 1 6 1 ∷ Commit 1 ∷ [])
    (started 1 ∷ started 2 ∷ done ∷ done ∷ committed 3 ∷ done ∷ answered 0 0 (pos 0) ∷ answered 1 3 (pos 8) ∷ committed 4 ∷ [])
    -- P10. `s 1`, `s 2`, `w 1 5`, `c 1`, `r 2 5 1`, `c 2`: `judge 2`, `1 ok`, `2 FV`, `total 2 2 0 0`
    ∷ history
    p10_lines
    p10_judged
    p10_totals
    ∷ []
