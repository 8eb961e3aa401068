-- `item_at` meets its contract: each answer is one step of `item_at`.
use Rattle.std.proofs.Common.{arith, refl}
use mir.Facts.{to_z-of_z}
use Rattle.decimal.specs.Read.{on_number}
use Rattle.decimal.proofs.Tabs.{natural_small}
use Rattle.message.specs.Read.{item_at, on_value}
use Rattle.message.proofs.Steps.{value-fits}
use Rattle.message.proofs.read.item_at.Goals as goal

pub returns-in_err-key : goal.returns-in_err-key
unfolding item_at on_number
returns-in_err-key c =
    let key = rw c.from.ensures at c.in_err-key.ensures in
    rw (← key) c.from_residual.ensures

pub returns-in_err-ordinal : goal.returns-in_err-ordinal
unfolding item_at on_number
returns-in_err-ordinal c =
    let key = rw c.from.ensures at c.in_ok-key.ensures in
    rw (← key, ← c.in_err-ordinal.ensures) c.from_residual-in_err-ordinal.ensures

pub returns-in_err-value : goal.returns-in_err-value
unfolding item_at on_number on_value
returns-in_err-value c =
    let key = rw c.from.ensures at c.in_ok-key.ensures in
    rw (← key, ← c.in_ok-ordinal.ensures, ← c.in_err-value.ensures) c.from_residual-in_err-value.ensures

pub overflow_cast-item : goal.overflow_cast-item
overflow_cast-item c =
    let key = rw c.from.ensures at c.in_ok-key.ensures in
    let h = natural_small _ _ 0 63 key refl in
    omega arith

pub overflow_cast-item-2 : goal.overflow_cast-item-2
overflow_cast-item-2 c =
    let h = natural_small _ _ 1 4096 c.in_ok-ordinal.ensures refl in
    omega arith

pub returns : goal.returns
unfolding item_at on_number on_value
returns c =
    let key = rw c.from.ensures at c.in_ok-key.ensures in
    rw (← key, ← c.in_ok-ordinal.ensures, ← c.in_ok-value.ensures, to_z-of_z (value-fits _ _ c.in_ok-value.ensures refl))
