-- Reading a line, step by step: what the proofs of the code cite.
use Prim.Native.Nat.{ℕ, ◌+◌}
use mathlib.Core.Path.{◌≡◌}
use mathlib.Core.List.{List}
use borrow.Author.Tests.{eq-eqb, ne_eqb}
use lib.ListN.{get_or}
use Rattle.std.specs.Prelude.{Option, Some, None}
use Rattle.decimal.specs.Read.{natural_behind_tab, on_number}
use Rattle.records.specs.declared.Record.{Record}
use Rattle.history.specs.Line.{ended}

module _ (s : List ℕ) (at : ℕ) {b : ℕ} (e : b ≡ get_or s at 0) where
  pub newline_missing : (r : Record) → (b ≡ 10 → ⊥) → None ≡ ended s at r
  unfolding ended
  newline_missing r h = rw (← e, ne_eqb b 10 h)

  pub newline-there : (r : Record) → b ≡ 10 → Some (r, at + 1) ≡ ended s at r
  unfolding ended
  newline-there r h = rw (← e, eq-eqb b 10 h)

module _ (s : List ℕ) (at least most : ℕ) where
  -- what follows a number answers, and nothing does where there is none
  pub number_goes : (f : ℕ → ℕ → Option (Record × ℕ)) {v e : ℕ} {l : Option (Record × ℕ)} → Some (v, e) ≡ natural_behind_tab s at least most → l ≡ f v e
      → l ≡ on_number (natural_behind_tab s at least most) f None
  unfolding on_number
  number_goes f p d = rw (← p) d

  pub number_stops : (f : ℕ → ℕ → Option (Record × ℕ)) {l : Option (Record × ℕ)} → None ≡ natural_behind_tab s at least most → l ≡ None
      → l ≡ on_number (natural_behind_tab s at least most) f None
  unfolding on_number
  number_stops f p d = rw (← p) d
