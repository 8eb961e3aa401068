-- BV and FV in one walk over the reads: the search for the stale ends at its first, the first early one is kept meanwhile.
use Prim.Native.Nat.{ℕ, ◌+◌, ◌<◌, ◌≤◌}
use mathlib.Core.Path.{◌≡◌, sym}
use mathlib.Core.Bool.{Bool, true, false}
use mathlib.Core.List.{List}
use lib.ListN.{length, get_or, drop}
use Rattle.std.specs.Prelude.{Option, Some, None, Ok, Err}
use Rattle.std.specs.Option.{option_or}
use Rattle.std.specs.Bool.{then_some}
use Rattle.lists.specs.Lists.{find}
use Rattle.lists.proofs.Find.{search_over, search_hit, search_miss}
use Rattle.units.specs.declared.rule.Rule.TheVariants.{BV, FV}
use Rattle.transaction.specs.declared.Transaction.{Transaction}
use Rattle.transaction.specs.Transaction.{reads_of, no_mark}
use Rattle.model.specs.Log.{Entry}
use Rattle.model.specs.Rules.{stale, early, broken_at}
use Rattle.rules.specs.Tests.{outside}
use Rattle.rules.proofs.Verdict.{broken, kept}

-- where i places have been looked at, the first hit is the one found so far, or that of what is left
abbrev pub Keeps : {A : Type 0} → (A → Bool) → List A → ℕ → Option ℕ → Type 0
Keeps p l i (Some k) = (k ≡ find p l) × (k < length l)
Keeps p l i None = find p l ≡ i + find p (drop i l)

pub keeps-more : {A : Type 0} (p : A → Bool) (l : List A) (i : ℕ) (d : A) (found : Option ℕ) (hit : Bool) → Keeps p l i found → i < length l → hit ≡ p (get_or l i d) → Keeps p l (i + 1) (option_or found (then_some hit i))
keeps-more p l i d (Some k) hit e h f = e
keeps-more p l i d None true e h f = (search_hit p l i _ d e h (sym f), h)
keeps-more p l i d None false e h f = search_miss p l i _ d e h (sym f)

module _ (log : List Entry) (t : Transaction) (i : ℕ) (searched : find (stale log t) (reads_of t) ≡ i + find (stale log t) (drop i (reads_of t))) where
  pub outside-BV : i < length (reads_of t) → stale log t (get_or (reads_of t) i no_mark) ≡ true → Err (BV i) ≡ outside log t
  unfolding outside
  outside-BV h e = rw (broken BV (stale log t) (reads_of t) i (search_hit (stale log t) (reads_of t) i _ no_mark searched h e) h)

  module _ (over : length (reads_of t) ≤ i) where
    no_BV : broken_at BV (stale log t) (reads_of t) ≡ Ok tt
    no_BV = kept BV (stale log t) (reads_of t) i (search_over (stale log t) (reads_of t) i _ searched over) over

    pub outside-FV : (k : ℕ) → Keeps (early log t) (reads_of t) i (Some k) → Err (FV k) ≡ outside log t
    unfolding outside
    outside-FV k e = rw (no_BV, broken FV (early log t) (reads_of t) k e.0 e.1)

    pub inside : Keeps (early log t) (reads_of t) i None → Ok tt ≡ outside log t
    unfolding outside
    inside e = rw (no_BV, kept FV (early log t) (reads_of t) i (search_over (early log t) (reads_of t) i _ e over) over)
