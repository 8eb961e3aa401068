-- Demand 2: "An open transaction's commit is granted exactly when .." its four rules hold, and "a full log or a spent clock are the only
-- further hindrances"; and what an aborted answer names. In every state that a session reaches.
use Prim.Native.Nat.{ℕ, suc, ◌+◌}
use mathlib.Core.Path.{◌≡◌, refl, sym, ◌∙◌, ap}
use mathlib.Core.Logic.{◌↔◌}
use mathlib.Core.Bool.{false, false≢true}
use lib.ListN.{length}
use borrow.Author.Tests.{ltb-false, le-ltb, eqb-false, ne_eqb}
use Rattle.lists.specs.Lists.{Every, none, also}
use Rattle.units.specs.declared.rule.Rule.{Rule}
use Rattle.std.specs.Prelude.{Result, Ok, Err}
use Rattle.transaction.specs.declared.Transaction.{Transaction}
use Rattle.transaction.specs.Transaction.{writes_of}
use Rattle.model.specs.Rules.{certified}
use Rattle.model.specs.State.{State, place_of, nobody, transaction}
use Rattle.model.specs.Open.{Of}
use Rattle.model.specs.Call.{Commit, committed, aborted}
use Rattle.model.specs.Step.{Step, step, order, checks_of, final_of, aborts, commits}
use Rattle.model.specs.Kept.{Grantable, FirstBroken}
use Rattle.model.specs.Reached.{Good}
use Rattle.model.proofs.Replies.{other}
use Rattle.model.proofs.Order.{Fails, order-none}
use Rattle.model.proofs.Rules.{certified_exactly, broken_exactly}
use Rattle.model.proofs.Desk.{standing, not_nobody, found, of_found}
use Rattle.model.proofs.Refusals.{commit_cases}

-- where the search for a broken rule fails it found none
no_abort : (s : State) (n : ℕ) (c : Result (Unit {0}) Rule) → (aborts s n c).holds ≡ false → c ≡ Ok tt
no_abort s n (Ok u) e = refl
no_abort s n (Err r) e = absurd (false≢true (sym e))

abort-fails : (s : State) (n : ℕ) {c : Result (Unit {0}) Rule} → c ≡ Ok tt → Fails (aborts s n c)
abort-fails s n e = rw e

module _ {opening : ℕ} (s : State) (g : Good opening s) (n : ℕ) where
  -- the answer "committed" is none of the checks'
  passed : (m : ℕ) → (step s (Commit n)).reply ≡ committed m → Every Fails (checks_of s (Commit n)) × (m ≡ suc s.clock)
  passed m =
      commit_cases (λ (d : Step). d.reply ≡ committed m → Every Fails (checks_of s (Commit n)) × (m ≡ suc s.clock)) s n
      (λ q e. other e tt)
      (λ known r q e. other e tt)
      (λ h e. (h, cc))

  free : Every Fails (checks_of s (Commit n)) → Grantable s n
  unfolding checks_of
  free (also known (also kept (also room (also ticks none)))) =
      record {
        place = place_of s.place n;
        stands = standing s g n known;
        kept = (certified_exactly _ _).0 (no_abort s n _ kept);
        room = ltb-false _ _ room;
        ticks = eqb-false _ _ ticks;
      }

  unhindered : Grantable s n → Every Fails (checks_of s (Commit n))
  unfolding checks_of
  unhindered p =
      let e = found s g n p.stands in
      also (not_nobody s g n p.stands)
      (also (abort-fails s n ((certified_exactly s.log (transaction s n)).1 (rw e p.kept)))
      (also (le-ltb 4096 (length s.log + length (writes_of (transaction s n))) (rw e p.room))
      (also (ne_eqb _ _ p.ticks) none)))

  -- a commit that nothing hinders takes its step
  pub granted-step : Grantable s n → step s (Commit n) ≡ commits s n
  unfolding step final_of
  granted-step p = order-none (commits s n) (unhindered p)

  -- "An open transaction's commit is granted exactly when each recorded read and each pair of reads is within that transaction's three bounds
  -- .. and no other commit after its start wrote a key that it writes too; a full log or a spent clock are the only further hindrances."
  -- "each granted commit adds one and takes the result"
  pub granted_exactly : (m : ℕ) → ((step s (Commit n)).reply ≡ committed m) ↔ (Grantable s n × (m ≡ suc s.clock))
  granted_exactly m = (λ e. (free (passed m e).0, (passed m e).1), λ g. ap (λ (d : Step). d.reply) (granted-step g.0) ∙ ap committed (sym g.1))

  -- the answer "aborted" is that of the rules, of an open transaction
  broke : (r : Rule) → (step s (Commit n)).reply ≡ aborted r → (nobody s n ≡ false) × (certified s.log (transaction s n) ≡ Err r)
  broke r =
      commit_cases (λ (d : Step). d.reply ≡ aborted r → (nobody s n ≡ false) × (certified s.log (transaction s n) ≡ Err r)) s n
      (λ q e. other e tt)
      (λ known x q e. (known, q ∙ cc))
      (λ h e. other e tt)

  breaks : (r : Rule) → nobody s n ≡ false → certified s.log (transaction s n) ≡ Err r → (step s (Commit n)).reply ≡ aborted r
  unfolding step checks_of final_of order
  breaks r known e = rw (known, e)

  -- "The answer is committed with its stamp, or aborted, and an aborted answer carries the rule and the place of the first read that broke it"
  pub aborted_exactly : (r : Rule) → ((step s (Commit n)).reply ≡ aborted r) ↔ Of s n (λ (t : Transaction). FirstBroken s.log t r)
  aborted_exactly r = (
    λ e. let b = broke r e in (of_found s g n b.0 (λ (t : Transaction). FirstBroken s.log t r)).0 ((broken_exactly _ _ r).0 b.1),
    λ o. let known = not_nobody s g n o.stands in
        breaks r known ((broken_exactly _ _ r).1 ((of_found s g n known (λ (t : Transaction). FirstBroken s.log t r)).1 o)),
  )
