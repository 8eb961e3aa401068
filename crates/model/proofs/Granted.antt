-- What a granted commit does, and what a message of its stamp holds.
use Prim.Native.Nat.{ℕ, suc, ◌≤◌}
use native.Mathlib.Omega.{arith}
use mathlib.Core.Path.{◌≡◌, refl, ◌∙◌, ap}
use mathlib.Core.Logic.{◌≢◌}
use mathlib.Core.List.{List, [], ◌∷◌, ◌++◌, map}
use lib.ListN.{length}
use lib.Seq.{take_all}
use borrow.Author.Tests.{ne_eqb}
use Rattle.lists.specs.Lists.{none}
use Rattle.transaction.specs.declared.Write.{Write}
use Rattle.transaction.specs.declared.Transaction.{Transaction}
use Rattle.transaction.specs.Transaction.{reads_of, writes_of}
use Rattle.model.specs.Log.{Entry, next, installed, made_at}
use Rattle.model.specs.State.{State, at_place}
use Rattle.model.specs.Open.{OpenAt}
use Rattle.model.specs.Call.{Commit, Message, refused, made}
use Rattle.model.specs.Step.{Step, step, checks_of, final_of, order, answers}
use Rattle.model.specs.Kept.{Grantable}
use Rattle.model.specs.Reached.{Good}
use Rattle.model.proofs.Commits.{granted-step}
use Rattle.model.proofs.Made.{made-installed, made-later, made-few}
use Rattle.model.proofs.Desk.{found, underway-at}

-- "A transaction that read and wrote nothing may commit." Every state is taken.
pub idle_granted : (s : State) (n i : ℕ) → OpenAt s n i → reads_of (at_place s i) ≡ [] → writes_of (at_place s i) ≡ [] → length s.log ≤ 4096 → s.clock ≢ 4294967295 → Grantable s n
idle_granted s n i o r w room ticks =
    record {
      place = i;
      stands = o;
      kept = record { bv = rw r none; fv = rw r none; sv = rw r none; wc = rw w none };
      room = rw w (omega arith);
      ticks = ticks;
    }

-- "18: message asked for a stamp at which no commit wrote anything". Every state is taken.
pub message-none : (s : State) (t : ℕ) → made_at s.log t ≡ [] → (step s (Message t)).reply ≡ refused 18
unfolding step checks_of final_of order
message-none s t e = rw e

module _ {opening : ℕ} (s : State) (g : Good opening s) where
  -- "Each commit that wrote something has one message": it holds every version of that stamp, and there are no more than sixteen
  pub message-whole : (t : ℕ) → made_at s.log t ≢ [] → step s (Message t) ≡ answers s (made (made_at s.log t))
  unfolding step checks_of final_of order
  message-whole t h =
      rw (ne_eqb (length (made_at s.log t)) 0 (λ e. h (no_length (made_at s.log t) e)), take_all 16 (made_at s.log t) (made-few g.history t))
    where
      no_length : (l : List Entry) → length l ≡ 0 → l ≡ []
      no_length [] e = refl
      no_length (x ∷ xs) e = absurd (omega arith)

  module _ (n : ℕ) (grants : Grantable s n) where
    abbrev after : State
    after = (step s (Commit n)).state

    abbrev stamp : ℕ
    stamp = suc s.clock

    abbrev writes : List Write
    writes = writes_of (at_place s grants.place)

    -- the commit's stamp is the clock's next, and the log is the old one with the written keys installed at that stamp
    pub commit-log : after.log ≡ installed s.log stamp writes
    commit-log = ap (λ (d : Step). d.state.log) (granted-step s g n grants) ∙ ap (λ (t : Transaction). installed s.log stamp (writes_of t)) (found s g n grants.stands)

    pub commit-clock : after.clock ≡ stamp
    commit-clock = ap (λ (d : Step). d.state.clock) (granted-step s g n grants)

    -- "Commit installs the written keys in the order of first writing, all with the commit's stamp, each with its key's next ordinal": the
    -- versions of that stamp are these and no others
    pub commit-makes : made_at after.log stamp ≡ map (next s.log stamp) writes
    commit-makes =
        ap (λ (es : List Entry). made_at es stamp) commit-log
        ∙ made-installed s.log stamp writes (underway-at s g n grants.stands).writes.once
        ∙ ap (λ (es : List Entry). es ++ map (next s.log stamp) writes) (made-later g.history stamp (omega arith))

    -- a commit that wrote nothing takes its stamp and leaves the log, and its stamp has no message
    pub commit_idle : writes ≡ [] → (after.log ≡ s.log) × (after.clock ≡ stamp) × ((step after (Message stamp)).reply ≡ refused 18)
    unfolding installed
    commit_idle e = (commit-log ∙ rw e, commit-clock, message-none after stamp (commit-makes ∙ ap (λ (ws : List Write). map (next s.log stamp) ws) e))
