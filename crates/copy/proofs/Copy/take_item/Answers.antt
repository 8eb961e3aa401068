-- `take_item` meets its contract: the version is newer, or not, or its key is past the last.
use Rattle.std.proofs.Common.{◌≡◌, ◌∙◌, length, sym, rules, arith}
use mir.Facts.{to_z-of_z}
use mir.Syntax.{w32}
use mir.Val.{SFits}
use borrow.Author.Tests.{ltb-true, ltb-false}
use Rattle.lists.proofs.Length.{length_mapped}
use Rattle.copy.proofs.Steps.{item-newer, item-older, item-outside}
use Rattle.copy.proofs.Copy.take_item.Goals as goal
use Rattle.copy.proofs.Copy.take_item.Goals.{else-k-lt-KEYS-via-then-k-lt-KEYS+else-newer, else-k-lt-KEYS-via-else-k-lt-KEYS}

pub returns-then-newer : goal.returns-then-newer
returns-then-newer c =
    let a = c.args in
    let v : SFits w32 a.item.value = search rules in
    let lt = rw c.from-k.ensures at (ltb-true _ _ (sym c.newer.ensures ∙ c.if-newer.true)) in
    rw (c.from-k.ensures, to_z-of_z v) (sym (item-newer a.self.now a.stamp.0 a.item lt))

pub returns-else-k-lt-KEYS : goal.returns-else-k-lt-KEYS
returns-else-k-lt-KEYS c =
    let a = c.args in
    elim c.else-k-lt-KEYS.branch [
      | else-k-lt-KEYS-via-then-k-lt-KEYS+else-newer w ↦
          let le = rw c.from-k.ensures at (ltb-false _ _ (sym w.newer.ensures ∙ w.if-newer.false)) in
          sym (item-older a.self.now a.stamp.0 a.item le)
      | else-k-lt-KEYS-via-else-k-lt-KEYS w ↦
          let l : length a.self.now.versions ≡ 64 = search (rules, length_mapped) in
          item-outside a.self.now a.stamp.0 a.item (omega (arith, c.from-k.ensures, w.if-k-lt-KEYS.false))
    ]
