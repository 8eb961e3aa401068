-- `run` meets its contract: what is left to pass gives the whole answer, and no line past 4,097 is reached.
use Rattle.std.proofs.Common.{◌≡◌, ◌-◌, ◌≤◌}
use Rattle.records.specs.Totals.{no_totals}
use Rattle.verdict.specs.Pass.{passes}
use Rattle.verdict.proofs.run.Given as goal

abbrev pub invariant-loop-e : goal.invariant-loop-e
invariant-loop-e l = record {
  text : l.reader.text.now ≡ l.text;
  few : l.line ≤ 4097;
  rest : passes l.text l.reader.at l.line l.totals l.memory ≡ passes l.fn.text 0 1 no_totals l.fn.memory;
}

abbrev pub decreases-loop-e : goal.decreases-loop-e
decreases-loop-e l = 4097 - l.line
