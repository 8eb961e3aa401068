-- `behind_name` meets its contract, a letter at a time.
use borrow.Author.Tests.{ne_eqb}
use Rattle.history.specs.Line.{behind_name}
use Rattle.history.proofs.behind_name.Goals as goal

pub returns-in-115 : goal.returns-in-115
unfolding behind_name
returns-in-115 c = rw c.in-115.is c.ended.ensures

pub returns-in-107 : goal.returns-in-107
unfolding behind_name
returns-in-107 c = rw c.in-107.is c.tune_at.ensures

pub returns-in-114 : goal.returns-in-114
unfolding behind_name
returns-in-114 c = rw c.in-114.is c.read_at.ensures

pub returns-in-119 : goal.returns-in-119
unfolding behind_name
returns-in-119 c = rw c.in-119.is c.write_at.ensures

pub returns-in-99 : goal.returns-in-99
unfolding behind_name
returns-in-99 c = rw c.in-99.is c.ended-in-99.ensures

pub returns-in-97 : goal.returns-in-97
unfolding behind_name
returns-in-97 c = rw c.in-97.is c.ended-in-97.ensures

pub returns-in_default : goal.returns-in_default
unfolding behind_name
returns-in_default c =
    let r = c.in_default.in_default-own.rest in
    rw (ne_eqb _ 115 r.0.0.0.0.0.1, ne_eqb _ 107 r.0.0.0.0.1, ne_eqb _ 114 r.0.0.0.1, ne_eqb _ 119 r.0.0.1, ne_eqb _ 99 r.0.1, ne_eqb _ 97 r.1)
