-- Reading a value back from where it was put, in any range that has it.
use Prim.Native.Nat.{ℕ, ◌+◌, ◌≤◌}
use native.Mathlib.Nat.{le_refl}
use mathlib.Core.Path.{◌≡◌, ap, ◌∙◌}
use mathlib.Core.Bool.{false}
use mathlib.Core.List.{List}
use mathlib.Core.Logic.{inr}
use lib.IntN.{ℤ}
use lib.ListN.{length, get_or}
use Rattle.decimal.specs.Text.{is_digit, plain}
use Rattle.decimal.specs.Read.{field_at, number, InRange, Reads}
use Rattle.decimal.specs.Write.{put}
use Rattle.decimal.specs.declared.read.Range.{Range}
use Rattle.decimal.proofs.Reading.{field-read}
use Rattle.decimal.proofs.Writing.{put-stands, put_other}

module _ (range : Range) (b : List ℕ) (at : ℕ) (z : ℤ) (room : at + length (plain z) ≤ length b)
    (stops : is_digit (get_or b (at + length (plain z)) 0) ≡ false) (within : InRange range z) where
  pub put_reads : Reads range (put b at (plain z)) at z (at + length (plain z))
  put_reads =
      record {
        stands = put-stands b at (plain z) room;
        within = within;
        whole = ap is_digit (put_other b at (plain z) (at + length (plain z)) (inr (le_refl (at + length (plain z))))) ∙ stops;
      }

  pub put_back : field_at (put b at (plain z)) at range ≡ number z (at + length (plain z))
  put_back = field-read range (put b at (plain z)) at z (at + length (plain z)) put_reads
