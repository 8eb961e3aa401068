-- When a commit is granted, and what an aborted answer says: the four rules as document 01 states them, read by read, and the first that
-- is broken.
use Rattle.std.specs.Prelude.{ℕ, ◌+◌, ◌≤◌, ◌<◌, List, ◌≢◌, length, get_or}
use Rattle.lists.specs.Lists.{Every}
use Rattle.units.specs.declared.rule.Rule.{Rule}
use Rattle.units.specs.declared.rule.Rule.TheVariants.{BV, FV, SV, WC}
use Rattle.transaction.specs.declared.Mark.{Mark}
use Rattle.transaction.specs.declared.Transaction.{Transaction}
use Rattle.transaction.specs.Transaction.{reads_of, writes_of, no_mark, no_write}
use Rattle.model.specs.Log.{Entry}
use Rattle.model.specs.Rules.{WithinBV, WithinFV, WithinSV, WithinWC, KeepsBV, KeepsFV, KeepsSV, KeepsWC}
use Rattle.model.specs.State.{State, at_place}
use Rattle.model.specs.Open.{OpenAt}

-- "each recorded read and each pair of reads is within that transaction's three bounds .. and no other commit after its start wrote a key
-- that it writes too"
pub record Kept (log : List Entry) (t : Transaction) : Type 0 where
  pub bv : KeepsBV log t
  pub fv : KeepsFV log t
  pub sv : KeepsSV log t
  pub wc : KeepsWC log t

-- "An open transaction's commit is granted exactly when ..; a full log or a spent clock are the only further hindrances"
pub record Grantable (s : State) (n : ℕ) : Type 0 where
  pub place : ℕ
  pub stands : OpenAt s n place
  pub kept : Kept s.log (at_place s place)
  pub room : length s.log + length (writes_of (at_place s place)) ≤ 4096
  pub ticks : s.clock ≢ 4294967295

-- the first place of a list at which P is broken
pub record FirstBreak {A : Type 0} (P : A → Type 0) (d : A) (l : List A) (i : ℕ) : Type 0 where
  pub there : i < length l
  pub breaks : ¬ P (get_or l i d)
  pub before : (j : ℕ) → j < i → P (get_or l j d)

module _ (log : List Entry) (t : Transaction) where
  -- "Order at commit: BV over all reads, FV over all reads, SV, WC .. an aborted answer carries the rule and the place of the first read
  -- that broke it (for WC the first such written key) .. For SV it is the pair with the lowest place of x, and among these the lowest place of y."
  pub data FirstBroken : Rule → Type 0 where
    broke_bv : (i : ℕ) → FirstBreak (WithinBV log t) no_mark (reads_of t) i → FirstBroken (BV i)
    broke_fv : (i : ℕ) → KeepsBV log t → FirstBreak (WithinFV log t) no_mark (reads_of t) i → FirstBroken (FV i)
    broke_sv : (i j : ℕ) → KeepsBV log t → KeepsFV log t → FirstBreak (λ (x : Mark). Every (WithinSV log t x) (reads_of t)) no_mark (reads_of t) i
        → FirstBreak (WithinSV log t (get_or (reads_of t) i no_mark)) no_mark (reads_of t) j → FirstBroken (SV i j)
    broke_wc : (i : ℕ) → KeepsBV log t → KeepsFV log t → KeepsSV log t → FirstBreak (WithinWC log t) no_write (writes_of t) i → FirstBroken (WC i)
