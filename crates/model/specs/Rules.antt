-- The rules of RVSI, stated twice: as document 01 states them, for every read, pair and written key; and as the search for the first
-- that is broken, in the order BV, FV, SV, WC.
use Rattle.std.specs.Prelude.{ℕ, ◌≤◌, Bool, cond, not, List, ◌≡◌, ltb, ℤ, pos, neg_ℤ, ◌-ℤ◌, length, get_or, ◌<ℤ◌, ◌≤ℤ◌, Result, Ok, Err}
use Rattle.std.specs.Int.Signed.{lt_z, le_z}
use Rattle.lists.specs.Lists.{find, any, Every}
use Rattle.units.specs.declared.rule.Rule.{Rule}
use Rattle.units.specs.declared.rule.Rule.TheVariants.{BV, FV, SV, WC}
use Rattle.transaction.specs.declared.Mark.{Mark}
use Rattle.transaction.specs.declared.Write.{Write}
use Rattle.transaction.specs.declared.Transaction.{Transaction}
use Rattle.transaction.specs.Transaction.{reads_of, writes_of, no_mark}
use Rattle.model.specs.Log.{Entry, up_to, between, changed_after}

-- "Distance of a read: O_x(s) − O_x(c_j), with its sign", for a transaction started at s
unfoldable pub distance : List Entry → ℕ → Mark → ℤ
distance log s x = pos (up_to log x.key s) -ℤ pos (up_to log x.key x.stamp.0)

module _ (log : List Entry) (t : Transaction) where
  -- "BV: distance less than k1", of one read
  abbrev pub WithinBV : Mark → Type 0
  WithinBV x = distance log t.name.0 x <ℤ pos t.bounds.k1

  -- "FV: minus the distance at most k2", of one read
  abbrev pub WithinFV : Mark → Type 0
  WithinFV x = neg_ℤ (distance log t.name.0 x) ≤ℤ pos t.bounds.k2

  -- "the versions of x committed strictly after c_j and strictly before c_l number at most k3", of one ordered pair of reads x_j and y_l
  abbrev pub WithinSV : Mark → Mark → Type 0
  WithinSV x y = between log x.key x.stamp.0 y.stamp.0 ≤ t.bounds.k3

  -- "no version of a written key has a stamp above s", of one written key
  abbrev pub WithinWC : Write → Type 0
  WithinWC w = Every (λ (e : Entry). e.key ≡ w.key → e.stamp ≤ t.name.0) log

  abbrev pub KeepsBV : Type 0
  KeepsBV = Every WithinBV (reads_of t)

  abbrev pub KeepsFV : Type 0
  KeepsFV = Every WithinFV (reads_of t)

  -- "for every ordered pair of recorded reads"
  abbrev pub KeepsSV : Type 0
  KeepsSV = Every (λ (x : Mark). Every (WithinSV x) (reads_of t)) (reads_of t)

  abbrev pub KeepsWC : Type 0
  KeepsWC = Every WithinWC (writes_of t)

  -- a read that breaks BV, one that breaks FV, a pair that breaks SV, a written key that breaks WC
  abbrev pub stale : Mark → Bool
  stale x = not (lt_z (distance log t.name.0 x) (pos t.bounds.k1))

  abbrev pub early : Mark → Bool
  early x = not (le_z (neg_ℤ (distance log t.name.0 x)) (pos t.bounds.k2))

  abbrev pub apart : Mark → Mark → Bool
  apart x y = ltb t.bounds.k3 (between log x.key x.stamp.0 y.stamp.0)

  abbrev pub overtaken : Write → Bool
  overtaken w = changed_after log w.key t.name.0

-- the first of a list of which p holds breaks a rule at its place
unfoldable pub broken_at : {A : Type 0} → (ℕ → Rule) → (A → Bool) → List A → Result (Unit {0}) Rule
broken_at rule p l = cond (ltb (find p l) (length l)) (Err (rule (find p l))) (Ok tt)

abbrev pub ◌or_else◌ : Result (Unit {0}) Rule → Result (Unit {0}) Rule → Result (Unit {0}) Rule
◌or_else◌ (Ok u) b = b
◌or_else◌ (Err r) b = Err r

infixr 30 ◌or_else◌
-- "an aborted answer carries the rule and the place of the first read that broke it (for WC the first such written key) .. For SV it is
-- the pair with the lowest place of x, and among these the lowest place of y"
unfoldable pub certified : List Entry → Transaction → Result (Unit {0}) Rule
certified log t =
    broken_at BV (stale log t) (reads_of t)
    or_else broken_at FV (early log t) (reads_of t)
    or_else broken_at
    (λ (i : ℕ). SV i (find (apart log t (get_or (reads_of t) i no_mark)) (reads_of t)))
    (λ (x : Mark). any (apart log t x) (reads_of t))
    (reads_of t)
    or_else broken_at WC (overtaken log t) (writes_of t)
