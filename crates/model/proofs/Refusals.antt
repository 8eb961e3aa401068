-- Demand 1: "A bad one gets the number that document 01's table and its order of checks name, and no other call gets one; state and lent
-- buffers stay as they were."
use Prim.Native.Nat.{ℕ}
use mathlib.Core.List.{List}
use mathlib.Core.Path.{◌≡◌, refl}
use mathlib.Core.Logic.{◌↔◌}
use mathlib.Core.Bool.{Bool, true, false, not, ◌&&◌, true≢false, false≢true}
use lib.Dec.{eqb}
use borrow.Author.Tests.{leb-true, le-leb, ltb-true, lt-ltb, eqb-true, eq-eqb}
use Rattle.lists.specs.Lists.{Every, none, also}
use Rattle.std.specs.Prelude.{Option, Some, None, Result, Ok, Err, ℤ}
use Rattle.units.specs.declared.rule.Rule.{Rule}
use Rattle.transaction.specs.declared.Transaction.{Transaction}
use Rattle.transaction.specs.Transaction.{pending_of}
use Rattle.model.specs.Log.{look_up}
use Rattle.model.specs.Rules.{certified}
use Rattle.model.specs.State.{State, nobody, transaction}
use Rattle.model.specs.Call.{Call, Start, Read, Note, Write, Tune, Distance, Abort, Commit, Message, Newest, refused, aborted}
use Rattle.model.specs.Step.{Step, Check, step, order, checks_of, final_of, answers, aborts, commits, is_absent, notes, reads, ends}
use Rattle.model.specs.Kept.{Kept}
use Rattle.model.specs.Reached.{Good}
use Rattle.model.specs.Checks.{line_of, RefusedBy, Wrote, SixteenReads, SixteenOthers, NotRecorded, TooLong}
use Rattle.model.proofs.Replies.{other}
use Rattle.model.proofs.Order.{Fails, Fits, over, refuses, breaks, refused-row, row-refused, order_by, order-end}
use Rattle.model.proofs.Rules.{certified_exactly}
use Rattle.model.proofs.Made.{none_made}
use Rattle.model.proofs.LookUps.{absent_tests}
use Rattle.model.proofs.Places.{is_open, seat}
use Rattle.model.proofs.Desk.{none_open, of_found, all_open, wrote_tests, sixteen-reads, sixteen-others}
use Rattle.units.specs.declared.Version.{Version}

-- a test with its row, over any statement that says the same
same : {P Q R : Type 0} → P ↔ Q → Q ↔ R → P ↔ R
same a b = (λ p. b.0 (a.0 p), λ r. a.1 (b.1 r))

-- a read that would be recorded, and finds no room
no_room : {P Q : Type 0} (a b : Bool) → (a ≡ true) ↔ P → (b ≡ true) ↔ Q → ((not a && b) ≡ true) ↔ (¬ P × Q)
no_room true b p q = (λ e. absurd (false≢true e), λ h. absurd (h.0 (p.0 refl)))
no_room false b p q = (λ e. (λ h. false≢true (p.1 h), q.0 e), λ h. q.1 h.1)

-- the search for a broken rule finds one exactly if some rule is broken
broken_tests : (s : State) (n : ℕ) (t : Transaction) → ((aborts s n (certified s.log t)).holds ≡ true) ↔ (¬ Kept s.log t)
broken_tests s n t = (λ e k. false≢true (whole ((certified_exactly s.log t).1 k) e), λ h. go h (certified s.log t) refl)
  where
    whole : {c : Result (Unit {0}) Rule} → c ≡ Ok tt → (aborts s n c).holds ≡ true → false ≡ true
    whole q e = rw q at e

    go : ¬ Kept s.log t → (c : Result (Unit {0}) Rule) → certified s.log t ≡ c → (aborts s n c).holds ≡ true
    go h (Ok u) q = absurd (h ((certified_exactly s.log t).0 q))
    go h (Err r) q = refl

-- an abort by a rule is no refusal
no_refusal : (s : State) (n : ℕ) (c : Result (Unit {0}) Rule) (m : ℕ) → ¬ ((aborts s n c).step.reply ≡ refused m)
no_refusal s n (Ok u) m e = other e tt
no_refusal s n (Err r) m e = other e tt

module _ {opening : ℕ} (s : State) (g : Good opening s) where
  -- the checks of a call are the rows of the document's line for it, one by one and in its order
  fits : (c : Call) → Fits s (checks_of s c) (line_of s c)
  unfolding checks_of line_of
  fits Start = refuses (all_open s g) (λ a. refuses (spent_tests) (λ b. over))
    where
      spent_tests : (eqb s.clock 4294967295 ≡ true) ↔ (s.clock ≡ 4294967295)
      spent_tests = (λ e. eqb-true _ _ e, λ e. eq-eqb _ _ e)
  fits (Read n k) =
      refuses (none_open s g n) (λ known.
      refuses (λ e. ltb-true _ _ e, λ h. lt-ltb _ _ h) (λ b.
      refuses
      (same (no_room _ _ (wrote_tests (transaction s n) k) (sixteen-reads (seat s g n known))) (of_found s g n known (λ (t : Transaction). ¬ Wrote k t × SixteenReads t)))
      (λ c. over)))
  fits (Note n k o) =
      refuses (none_open s g n) (λ known.
      refuses (λ e. ltb-true _ _ e, λ h. lt-ltb _ _ h) (λ b.
      refuses (same (wrote_tests (transaction s n) k) (of_found s g n known (Wrote k))) (λ c.
      refuses (absent_tests k o s.log) (λ d.
      refuses (same (sixteen-reads (seat s g n known)) (of_found s g n known SixteenReads)) (λ e. over)))))
  fits (Write n k v) =
      refuses (none_open s g n) (λ known.
      refuses (λ e. ltb-true _ _ e, λ h. lt-ltb _ _ h) (λ b.
      refuses (same (sixteen-others (seat s g n known) k (is_open s g n known).0) (of_found s g n known (SixteenOthers k))) (λ c. over)))
  fits (Tune n k1 k2 k3) = refuses (none_open s g n) (λ known. refuses (λ e. eqb-true _ _ e, λ e. eq-eqb _ _ e) (λ b. over))
  fits (Distance n i) =
      refuses (none_open s g n) (λ known.
      refuses (same (λ e. leb-true _ _ e, λ h. le-leb _ _ h) (of_found s g n known (NotRecorded i))) (λ b. over))
  fits (Abort n) = refuses (none_open s g n) (λ known. over)
  fits (Commit n) =
      refuses (none_open s g n) (λ known.
      breaks (no_refusal s n (certified s.log (transaction s n))) (same (broken_tests s n (transaction s n)) (of_found s g n known (λ (t : Transaction). ¬ Kept s.log t))) (λ b.
      refuses (same (λ e. ltb-true _ _ e, λ h. lt-ltb _ _ h) (of_found s g n known (TooLong s.log))) (λ c.
      refuses (λ e. eqb-true _ _ e, λ e. eq-eqb _ _ e) (λ d. over))))
  fits (Message t) = refuses (none_made s.log t) (λ a. over)
  fits (Newest k) = refuses (λ e. ltb-true _ _ e, λ h. lt-ltb _ _ h) (λ a. over)

free-reads : (s : State) (n k : ℕ) (p : Option ℤ) (m : ℕ) → ¬ ((reads s n k p).reply ≡ refused m)
free-reads s n k (Some v) m e = other e tt
free-reads s n k None m e = other e tt

free-notes : (s : State) (n k : ℕ) (f : Option Version) → is_absent f ≡ false → (m : ℕ) → ¬ ((notes s n k f).reply ≡ refused m)
free-notes s n k (Some v) h m e = other e tt
free-notes s n k None h m e = true≢false h

-- where no check holds nothing is refused
free_final : (s : State) (c : Call) → Every Fails (checks_of s c) → (m : ℕ) → ¬ ((final_of s c).reply ≡ refused m)
unfolding checks_of final_of
free_final s Start h m e = other e tt
free_final s (Read n k) h m e = free-reads s n k (pending_of (transaction s n) k) m e
free_final s (Note n k o) (also a (also b (also c (also d h)))) m e = free-notes s n k (look_up s.log k o) d m e
free_final s (Write n k v) h m e = other e tt
free_final s (Tune n k1 k2 k3) h m e = other e tt
free_final s (Distance n i) h m e = other e tt
free_final s (Abort n) h m e = other e tt
free_final s (Commit n) h m e = other e tt
free_final s (Message t) h m e = other e tt
free_final s (Newest k) h m e = other e tt

-- "A bad one gets the number that document 01's table and its order of checks name, and no other call gets one": in every state that a session
-- reaches a call is refused by n exactly if n's proposition holds and none that stands before it in the document's line does
pub refused_exactly : {opening : ℕ} (s : State) → Good opening s → (c : Call) (n : ℕ) → ((step s c).reply ≡ refused n) ↔ RefusedBy (line_of s c) n
unfolding step
refused_exactly s g c n = (
  λ e. refused-row s (final_of s c) n (fits s g c) (λ h. free_final s c h n) e,
  λ h. row-refused s (final_of s c) n (fits s g c) h,
)

-- a check that holds refuses, or is an abort by a rule
data Stopped (s : State) : Step → Type 0 where
  stops : (n : ℕ) → Stopped s (answers s (refused n))
  ends_it : (n : ℕ) (r : Rule) → Stopped s (record { reply = aborted r; state = ends s n })

breaking : (s : State) (n : ℕ) (r : Result (Unit {0}) Rule) → (aborts s n r).holds ≡ true → Stopped s (aborts s n r).step
breaking s n (Ok u) e = absurd (false≢true e)
breaking s n (Err r) e = ends_it n r

stopped : (s : State) (c : Call) → Every (λ (k : Check). k.holds ≡ true → Stopped s k.step) (checks_of s c)
unfolding checks_of
stopped s Start = also (λ e. stops 3) (also (λ e. stops 5) none)
stopped s (Read n k) = also (λ e. stops 1) (also (λ e. stops 2) (also (λ e. stops 4) none))
stopped s (Note n k o) = also (λ e. stops 1) (also (λ e. stops 2) (also (λ e. stops 8) (also (λ e. stops 7) (also (λ e. stops 4) none))))
stopped s (Write n k v) = also (λ e. stops 1) (also (λ e. stops 2) (also (λ e. stops 4) none))
stopped s (Tune n k1 k2 k3) = also (λ e. stops 1) (also (λ e. stops 9) none)
stopped s (Distance n i) = also (λ e. stops 1) (also (λ e. stops 9) none)
stopped s (Abort n) = also (λ e. stops 1) none
stopped s (Commit n) = also (λ e. stops 1) (also (breaking s n (certified s.log (transaction s n))) (also (λ e. stops 6) (also (λ e. stops 5) none)))
stopped s (Message t) = also (λ e. stops 18) none
stopped s (Newest k) = also (λ e. stops 2) none

-- a step is a refusal, an abort by a rule, or what the call is for
pub step_cases : (P : Step → Type 0) (s : State) (c : Call) → ((n : ℕ) → P (answers s (refused n)))
    → ((n : ℕ) (r : Rule) → P (record { reply = aborted r; state = ends s n })) → P (final_of s c) → P (step s c)
unfolding step
step_cases P s c not_taken broke final = go (stopped s c)
  where
    stop : {d : Step} → Stopped s d → P d
    stop (stops n) = not_taken n
    stop (ends_it n r) = broke n r

    go : {cs : List Check} → Every (λ (k : Check). k.holds ≡ true → Stopped s k.step) cs → P (order cs (final_of s c))
    go none = order-end P (final_of s c) final
    go (also {x = k} {xs = ks} h hs) = order_by P k ks (final_of s c) (λ e. stop (h e)) (λ e. go hs)

-- where it is a refusal, what the call is for changes nothing
final_stays : (s : State) (c : Call) (n : ℕ) → (final_of s c).reply ≡ refused n → (final_of s c).state ≡ s
unfolding final_of
final_stays s Start n e = other e tt
final_stays s (Read m k) n e = absurd (free-reads s m k (pending_of (transaction s m) k) n e)
final_stays s (Note m k o) n e = go (look_up s.log k o) e
  where
    go : (f : Option Version) → (notes s m k f).reply ≡ refused n → (notes s m k f).state ≡ s
    go (Some v) e = other e tt
    go None e = refl
final_stays s (Write m k v) n e = other e tt
final_stays s (Tune m k1 k2 k3) n e = other e tt
final_stays s (Distance m i) n e = other e tt
final_stays s (Abort m) n e = other e tt
final_stays s (Commit m) n e = other e tt
final_stays s (Message t) n e = other e tt
final_stays s (Newest k) n e = other e tt

-- "state and lent buffers stay as they were". Every state is taken, also one that no session reaches.
pub refused-stays : (s : State) (c : Call) (n : ℕ) → (step s c).reply ≡ refused n → (step s c).state ≡ s
refused-stays s c n =
    step_cases (λ (d : Step). d.reply ≡ refused n → d.state ≡ s) s c (λ m e. refl) (λ m r e. other e tt) (final_stays s c n)

-- a commit is a refusal, an abort by the first broken rule, or the step where no check holds
pub commit_cases : (P : Step → Type 0) (s : State) (n : ℕ) → ((m : ℕ) → P (answers s (refused m)))
    → (nobody s n ≡ false → (r : Rule) → certified s.log (transaction s n) ≡ Err r → P (record { reply = aborted r; state = ends s n }))
    → (Every Fails (checks_of s (Commit n)) → P (commits s n)) → P (step s (Commit n))
unfolding step checks_of final_of
commit_cases P s n not_taken broke granted =
    order_by P _ _ _ (λ h. not_taken 1) (λ known.
    order_by P (aborts s n (certified s.log (transaction s n))) _ _ (go known (certified s.log (transaction s n)) refl) (λ kept.
    order_by P _ _ _ (λ h. not_taken 6) (λ room.
    order_by P _ _ _ (λ h. not_taken 5) (λ ticks.
    order-end P _ (granted (also known (also kept (also room (also ticks none)))))))))
  where
    go : nobody s n ≡ false → (c : Result (Unit {0}) Rule) → certified s.log (transaction s n) ≡ c → (aborts s n c).holds ≡ true → P (aborts s n c).step
    go known (Ok u) q h = absurd (false≢true h)
    go known (Err r) q h = broke known r q
