-- What each call answers where it is not refused. Every state is taken.
use Prim.Native.Nat.{ℕ}
use Rattle.std.specs.Prelude.{Option, Some, None, ℤ}
use Rattle.transaction.specs.Transaction.{pending_of}
use Rattle.model.specs.Log.{look_up, newest}
use Rattle.model.specs.State.{State, transaction}
use Rattle.model.specs.Call.{Call, Start, Read, Note, Write, Tune, Distance, Abort, Commit, Message, Newest}
use Rattle.model.specs.Step as step
use Rattle.model.specs.Step.{Step, checks_of, final_of}
use Rattle.model.specs.Changes.{Answers, refuses, starts, reads, own_reads, notes, writes, tunes, distances, ends, commits, breaks, messages, newests}
use Rattle.model.proofs.Order.{order_by, order-end}
use Rattle.model.proofs.Refusals.{commit_cases}
use Rattle.units.specs.declared.Version.{Version}

module _ (s : State) where
  abbrev Kind : Call → Step → Type 0
  Kind c d = Answers c d.reply

  read_kind : (n k : ℕ) (p : Option ℤ) → Kind (Read n k) (step.reads s n k p)
  read_kind n k (Some v) = own_reads v
  read_kind n k None = reads (newest s.log k)

  note_kind : (n k o : ℕ) (f : Option Version) → Kind (Note n k o) (step.notes s n k f)
  note_kind n k o (Some v) = notes v
  note_kind n k o None = refuses 7

  -- a refusal, or what the call is for
  pub answers_kind : (c : Call) → Answers c (step.step s c).reply
  unfolding step.step checks_of final_of
  answers_kind Start = order_by (Kind Start) _ _ _ (λ h. refuses 3) (λ a. order_by (Kind Start) _ _ _ (λ h. refuses 5) (λ b. order-end (Kind Start) _ (starts _)))
  answers_kind (Read n k) =
      order_by (Kind (Read n k)) _ _ _ (λ h. refuses 1) (λ a.
      order_by (Kind (Read n k)) _ _ _ (λ h. refuses 2) (λ b.
      order_by (Kind (Read n k)) _ _ _ (λ h. refuses 4) (λ c.
      order-end (Kind (Read n k)) _ (read_kind n k (pending_of (transaction s n) k)))))
  answers_kind (Note n k o) =
      order_by (Kind (Note n k o)) _ _ _ (λ h. refuses 1) (λ a.
      order_by (Kind (Note n k o)) _ _ _ (λ h. refuses 2) (λ b.
      order_by (Kind (Note n k o)) _ _ _ (λ h. refuses 8) (λ c.
      order_by (Kind (Note n k o)) _ _ _ (λ h. refuses 7) (λ d.
      order_by (Kind (Note n k o)) _ _ _ (λ h. refuses 4) (λ e.
      order-end (Kind (Note n k o)) _ (note_kind n k o (look_up s.log k o)))))))
  answers_kind (Write n k v) =
      order_by (Kind (Write n k v)) _ _ _ (λ h. refuses 1) (λ a.
      order_by (Kind (Write n k v)) _ _ _ (λ h. refuses 2) (λ b.
      order_by (Kind (Write n k v)) _ _ _ (λ h. refuses 4) (λ c.
      order-end (Kind (Write n k v)) _ writes)))
  answers_kind (Tune n k1 k2 k3) =
      order_by (Kind (Tune n k1 k2 k3)) _ _ _ (λ h. refuses 1) (λ a.
      order_by (Kind (Tune n k1 k2 k3)) _ _ _ (λ h. refuses 9) (λ b.
      order-end (Kind (Tune n k1 k2 k3)) _ tunes))
  answers_kind (Distance n i) =
      order_by (Kind (Distance n i)) _ _ _ (λ h. refuses 1) (λ a.
      order_by (Kind (Distance n i)) _ _ _ (λ h. refuses 9) (λ b.
      order-end (Kind (Distance n i)) _ (distances _)))
  answers_kind (Abort n) = order_by (Kind (Abort n)) _ _ _ (λ h. refuses 1) (λ a. order-end (Kind (Abort n)) _ ends)
  answers_kind (Commit n) = commit_cases (Kind (Commit n)) s n (λ m. refuses m) (λ known r q. breaks r) (λ h. commits _)
  answers_kind (Message t) = order_by (Kind (Message t)) _ _ _ (λ h. refuses 18) (λ a. order-end (Kind (Message t)) _ (messages _))
  answers_kind (Newest k) = order_by (Kind (Newest k)) _ _ _ (λ h. refuses 2) (λ a. order-end (Kind (Newest k)) _ (newests _))
