-- `run` meets its contract: a turn is over, or it goes on behind the line; the calls of the turn say which line, what it comes to, and what it leaves.
use Rattle.std.proofs.Common.{◌≡◌, ◌+◌, ◌≤◌, refl, sym, ap, ◌∙◌, arith, rules}
use Rattle.std.proofs.lemmas.Result.{err_from_is_err_and}
use Rattle.history.specs.Line.{line_at}
use Rattle.reader.specs.declared.Reader.{Reader}
use Rattle.verdict.specs.Pass.{came_record, came_end, on_take, after_take, words_after, is_over, record_of, passes}
use Rattle.verdict.proofs.Comes.{with_line, lined, took, stopped}
use Rattle.verdict.proofs.Turn.{line-there, turn_over, turn_few, turn_on}
use Rattle.verdict.proofs.run.Goals as goal
use Rattle.verdict.proofs.run.Goals.{After-comes_to, After-map_err, After-raise}

-- the line that the reader answered is the line at its place
there : (c : After-comes_to) → c.next.result ≡ line_at c.args.text.now c.loop-e.reader.at
there c = line-there c.args.text.now c.loop-e.reader.at c.next.result (rw c.loop-e.invariant.text at c.next.ensures.line)

-- the ledger's answer, with its line
answered : (c : After-map_err) → c.map_err.result ≡ with_line c.loop-e.line c.take.result
answered c = lined c.loop-e.line c.take.result c.map_err.result c.map_err.ensures.cases (λ e d h. search rules)

pub returns-in_err-e : goal.returns-in_err-e
unfolding after_take words_after is_over
returns-in_err-e c =
    let p = err_from_is_err_and c.from_residual.result c.from_residual.ensures.1 in
    rw (p.1, p.2) (
    turn_over c.args.text.now c.loop-e.reader.at c.loop-e.line c.loop-e.totals c.loop-e.memory c.next.result _ _
    (there (goal.at.returns-in_err-e c).After-comes_to) c.in_err-e.ensures refl refl
    ∙ c.loop-e.invariant.rest)

pub returns : goal.returns
unfolding after_take words_after is_over
returns c =
    turn_over c.args.text.now c.loop-e.reader.at c.loop-e.line c.loop-e.totals c.loop-e.memory c.next.result came_end came_end
    (there (goal.at.returns c).After-comes_to) (rw c.in_default.is at c.in_ok-e.ensures) refl refl
    ∙ c.loop-e.invariant.rest

pub returns-in_err-map_err : goal.returns-in_err-map_err
unfolding after_take words_after is_over
returns-in_err-map_err c =
    let p = err_from_is_err_and c.from_residual-in_err-map_err.result c.from_residual-in_err-map_err.ensures.1 in
    let k = answered (goal.at.returns-in_err-map_err c).After-map_err in
    rw (p.1, p.2, c.take.ensures.memory) (
    turn_over c.args.text.now c.loop-e.reader.at c.loop-e.line c.loop-e.totals c.loop-e.memory c.next.result (came_record c.in-Some.e) _
    (there (goal.at.returns-in_err-map_err c).After-comes_to) (rw c.in-Some.is at c.in_ok-e.ensures)
    (stopped c.loop-e.line c.in-Some.e c.take.result (sym c.in_err-map_err.was ∙ k) ∙ ap (λ x. on_take x c.loop-e.line c.in-Some.e) c.take.ensures.reply) refl
    ∙ c.loop-e.invariant.rest)

-- the record that was taken, as the pass of the definitions has it
went_on : (c : After-raise) → came_record c.in-Some.e ≡ after_take c.loop-e.memory c.loop-e.line (came_record c.in-Some.e)
unfolding after_take
went_on c =
    let k = answered (goal.at.loop-e-preserved c).After-map_err in
    took c.loop-e.line c.in-Some.e c.take.result (sym c.in_ok-map_err.was ∙ k) ∙ ap (λ x. on_take x c.loop-e.line c.in-Some.e) c.take.ensures.reply

-- and the pass goes on only up to line 4,096
few : (c : After-raise) → c.loop-e.line ≤ 4096
unfolding is_over
few c =
    turn_few c.args.text.now c.loop-e.reader.at c.loop-e.line c.loop-e.totals c.loop-e.memory c.next.result (came_record c.in-Some.e) (came_record c.in-Some.e)
    (there (goal.at.loop-e-preserved c).After-comes_to) (rw c.in-Some.is at c.in_ok-e.ensures) (went_on c) refl

pub loop-e-smaller : goal.loop-e-smaller
loop-e-smaller c = omega (arith, few c)

pub loop-e-preserved : goal.loop-e-preserved
unfolding words_after is_over record_of
loop-e-preserved c = record {
  text = ap (λ (r : Reader). r.text.now) c.next.ensures.reader ∙ c.loop-e.invariant.text;
  few = omega (arith, few c);
  rest =
      ap (λ (r : Reader). passes c.args.text.now r.at (c.loop-e.line + 1) c.raise.new.t c.take.new.memory) c.next.ensures.reader
      ∙ rw (c.take.ensures.memory, c.raise.ensures)
      (turn_on c.args.text.now c.loop-e.reader.at c.loop-e.line c.loop-e.totals c.loop-e.memory c.next.result (came_record c.in-Some.e) (came_record c.in-Some.e)
      (there (goal.at.loop-e-preserved c).After-comes_to) (rw c.in-Some.is at c.in_ok-e.ensures) (went_on c) refl)
      ∙ c.loop-e.invariant.rest;
}
