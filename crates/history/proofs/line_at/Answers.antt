-- `line_at` meets its contract.
use mathlib.Core.Path.{ap, refl}
use borrow.Author.Tests.{le-leb, lt-leb}
use Rattle.history.specs.Line.{line_at, line_reply, line_said}
use Rattle.history.proofs.line_at.Goals as goal

pub returns-then-text-at : goal.returns-then-text-at
unfolding line_at line_said
returns-then-text-at c = ap line_reply (rw (le-leb _ _ c.if-text-at.true))

pub returns-in-Some : goal.returns-in-Some
unfolding line_at line_said
returns-in-Some c = rw (lt-leb _ _ c.if-text-at.false, ← c.in-Some.ensures) refl

pub returns-in-None : goal.returns-in-None
unfolding line_at line_said
returns-in-None c = rw (lt-leb _ _ c.if-text-at.false, ← c.in-None.ensures) refl
