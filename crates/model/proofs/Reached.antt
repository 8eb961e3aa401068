-- Every state that a session reaches is good: the opening is, and every call keeps it so.
use Prim.Native.Nat.{ℕ, suc, ◌+◌, ◌≤◌, ◌<◌}
use native.Mathlib.Omega.{arith}
use native.Mathlib.Decide.{ℕ_discrete}
use mathlib.Core.Path.{◌≡◌, refl, sym, ◌∙◌}
use mathlib.Core.Logic.{◌≢◌}
use mathlib.Core.Bool.{Bool, true, false, cond, not, ◌&&◌, false≢true}
use mathlib.Core.List.{List, [], ◌∷◌}
use lib.Dec.{ltb}
use lib.IntN.{ℤ}
use lib.ListN.{length, get_or, set, replicate, length-set}
use lib.Seq.{get_or-set_same, get_or-set_other}
use borrow.Author.Tests.{leb-false, ltb-false, eqb-false}
use Rattle.lists.specs.Lists.{Every, none, also}
use Rattle.lists.proofs.Every.{every_map, every_set}
use Rattle.units.specs.Bounds.{triple}
use Rattle.units.specs.declared.Version.{Version}
use Rattle.std.specs.Prelude.{Option, Some, None}
use Rattle.transaction.specs.declared.Mark.{Mark}
use Rattle.transaction.specs.declared.Transaction.{Transaction}
use Rattle.transaction.specs.Transaction.{fresh, tuned, ended, recorded, written, wrote_at, pending_of, writes_of}
use Rattle.model.specs.Log.{newest, look_up}
use Rattle.model.specs.State.{State, opened, no_transaction, place_of, nobody, transaction, free_place, with_transaction}
use Rattle.model.specs.Call.{Call, Start, Read, Note, Write, Tune, Distance, Abort, Commit, Message, Newest}
use Rattle.model.specs.Step.{Step, step, checks_of, final_of, starts, reads, notes, marked, records, no_key, reads_full, has_written, ends, commits}
use Rattle.model.specs.Session.{reached}
use Rattle.model.specs.Reached.{Good, Seated, Stands, bare, grew}
use Rattle.model.proofs.Order.{Fails, order_by, order-end}
use Rattle.model.proofs.Refusals.{commit_cases}
use Rattle.model.proofs.History.{chain, chain_from, grown_later, length-installed}
use Rattle.model.proofs.Stands.{in_installed, stands-newest, stands_found}
use Rattle.model.proofs.Places.{names_told, placed, is_open, seat}
use Rattle.model.proofs.Seats.{seated-more, seated-fresh, seated-ended, seated-tuned, seated-recorded, seated-written}

abbrev at : List Transaction → ℕ → Transaction
at ps i = get_or ps i no_transaction

-- two places with open transactions of one name are one place
abbrev Names : List Transaction → Type 0
Names ps = (i j : ℕ) → (at ps i).live ≡ true → (at ps j).live ≡ true → (at ps i).name.0 ≡ (at ps j).name.0 → i ≡ j

-- what stands at j after i was set
pub set_cases : {A : Type 0} (P : ℕ → A → Type 0) (l : List A) (i : ℕ) (a d : A) → i < length l → P i a → ((j : ℕ) → j ≢ i → P j (get_or l j d)) → (j : ℕ) → P j (get_or (set l i a) j d)
set_cases P l i a d h p f j = go (ℕ_discrete j i)
  where
    go : Dec (j ≡ i) → P j (get_or (set l i a) j d)
    go (yes e) = rw (e, get_or-set_same l i a d h) p
    go (no n) = rw (get_or-set_other l i j a d n) (f j n)

module _ (ps : List Transaction) (i : ℕ) (t : Transaction) (h : i < length ps) where
  -- a transaction that keeps its name, or ends, leaves the names apart
  names-kept : (t.live ≡ true → (at ps i).live ≡ true) → t.name.0 ≡ (at ps i).name.0 → Names ps → Names (set ps i t)
  names-kept l e ns j k a b c = ns j k ((same j).0 a) ((same k).0 b) (sym (same j).1 ∙ c ∙ (same k).1)
    where
      Same : ℕ → Transaction → Type 0
      Same j u = (u.live ≡ true → (at ps j).live ≡ true) × (u.name.0 ≡ (at ps j).name.0)

      same : (j : ℕ) → Same j (at (set ps i t) j)
      same = set_cases Same ps i t no_transaction h (l, e) (λ j n. (λ x. x, refl))

  -- so does one with a name above those of all that are open
  names_fresh : ((j : ℕ) → (at ps j).live ≡ true → (at ps j).name.0 < t.name.0) → Names ps → Names (set ps i t)
  names_fresh old ns =
      set_cases (λ (j : ℕ) (u : Transaction). (k : ℕ) → Apart j u k (at (set ps i t) k)) ps i t no_transaction h
      (set_cases (Apart i t) ps i t no_transaction h (λ a b c. refl) (λ k n a b c. absurd (let z = old k b in omega arith)))
      (λ j n. set_cases (Apart j (at ps j)) ps i t no_transaction h (λ a b c. absurd (let z = old j a in omega arith)) (λ k m a b c. ns j k a b c))
    where
      Apart : ℕ → Transaction → ℕ → Transaction → Type 0
      Apart j u k w = u.live ≡ true → w.live ≡ true → u.name.0 ≡ w.name.0 → j ≡ k

-- a step of a transaction on itself that may do nothing keeps its name
name-kept : (b : Bool) (u t : Transaction) → u.name.0 ≡ t.name.0 → (cond b u t).name.0 ≡ t.name.0
name-kept true u t e = e
name-kept false u t e = refl

pub recorded-name : (t : Transaction) (m : Mark) → (recorded t m).name.0 ≡ t.name.0
unfolding recorded
recorded-name t m = name-kept (ltb t.recorded 16) _ t refl

pub written-name : (t : Transaction) (k : ℕ) (v : ℤ) → (written t k v).name.0 ≡ t.name.0
unfolding written
written-name t k v = name-kept (ltb (wrote_at t k) 16) _ t refl

module _ {opening : ℕ} (s : State) (g : Good opening s) where
  -- Start
  good_started : free_place s.place < 32 → s.clock ≢ 4294967295 → Good opening (starts s).state
  good_started f t =
      let c = chain_from (chain g.history) in
      let h = g.ticks in
      let r : free_place s.place < length s.place = rw g.desk f in
      record {
        history = grown_later g.history (omega arith);
        ticks = omega arith;
        room = g.room;
        desk = length-set s.place (free_place s.place) (fresh (suc s.clock)) ∙ g.desk;
        seated = every_set (free_place s.place) (fresh (suc s.clock)) (seated-fresh (suc s.clock) (omega arith) (omega arith)) (every_map (seated-more (omega arith) (λ e i. i)) g.seated);
        names = names_fresh s.place (free_place s.place) (fresh (suc s.clock)) r (λ j l. let z = names_told s g j l in omega arith) g.names;
      }

  module _ (n : ℕ) (known : nobody s n ≡ false) where
    -- a call that changes one open transaction, or ends it
    good_with : (t : Transaction) → t.name.0 ≡ (transaction s n).name.0 → Seated opening s.clock s.log t → Good opening (with_transaction s n t)
    good_with t e h =
        record {
          history = g.history;
          ticks = g.ticks;
          room = g.room;
          desk = length-set s.place (place_of s.place n) t ∙ g.desk;
          seated = every_set (place_of s.place n) t h g.seated;
          names = names-kept s.place (place_of s.place n) t (placed s g n known) (λ l. (is_open s g n known).0) e g.names;
        }

    good_ended : Good opening (ends s n)
    good_ended = good_with (ended (transaction s n)) refl (seated-ended (transaction s n) (seat s g n known))

    good_committed : s.clock ≢ 4294967295 → length s.log + length (writes_of (transaction s n)) ≤ 4096 → Good opening (commits s n).state
    good_committed t room =
        let h = g.ticks in
        let e = good_ended in
        record {
          history = grew {clock = suc s.clock} (suc s.clock) (writes_of (transaction s n)) g.history (omega arith) (omega arith) ((seat s g n known).underway (is_open s g n known).0).writes;
          ticks = omega arith;
          room = rw (length-installed s.log (suc s.clock) (writes_of (transaction s n))) room;
          desk = e.desk;
          seated = every_map (seated-more (omega arith) (in_installed s.log (suc s.clock) (writes_of (transaction s n)))) e.seated;
          names = e.names;
        }

    module _ (k : ℕ) (key : no_key k ≡ false) where
      -- Read and note: a version that stands in the log is recorded
      good_records : (v : Version) → reads_full (transaction s n) ≡ false → Stands s.log (marked k v) → Good opening (records s n k v).state
      good_records v full h =
          let r = leb-false 16 (transaction s n).recorded full in
          good_with (recorded (transaction s n) (marked k v)) (recorded-name (transaction s n) (marked k v))
          (seated-recorded (transaction s n) (marked k v) r (record { key = ltb-false 63 k key; stands = h }) (seat s g n known))

      good_reads : (p : Option ℤ) → (not (has_written p) && reads_full (transaction s n)) ≡ false → Good opening (reads s n k p).state
      good_reads (Some v) e = g
      good_reads None e = good_records (newest s.log k) e (stands-newest s.log k)

      good_notes : (o : ℕ) (f : Option Version) → look_up s.log k o ≡ f → reads_full (transaction s n) ≡ false → Good opening (notes s n k f).state
      good_notes o (Some v) e full = good_records v full (stands_found s.log k o v e)
      good_notes o None e full = g

      good_written : (v : ℤ) → wrote_at (transaction s n) k < 16 → Good opening (with_transaction s n (written (transaction s n) k v))
      good_written v h =
          good_with (written (transaction s n) k v) (written-name (transaction s n) k v)
          (seated-written (transaction s n) k v (seat s g n known).pending (seat s g n known).written h (ltb-false 63 k key) (seat s g n known))

  abbrev Kept : Step → Type 0
  Kept d = Good opening d.state

  good_granted : (n : ℕ) → Every Fails (checks_of s (Commit n)) → Kept (commits s n)
  unfolding checks_of
  good_granted n (also known (also kept (also room (also ticks none)))) = good_committed n known (eqb-false _ _ ticks) (ltb-false _ _ room)

  -- every call keeps a good state good
  pub good_step : (c : Call) → Good opening (step s c).state
  unfolding step checks_of final_of
  good_step Start =
      order_by Kept _ _ _ (λ h. g) (λ free.
      order_by Kept _ _ _ (λ h. g) (λ ticks.
      order-end Kept _ (good_started (leb-false 32 _ free) (eqb-false _ _ ticks))))
  good_step (Read n k) =
      order_by Kept _ _ _ (λ h. g) (λ known.
      order_by Kept _ _ _ (λ h. g) (λ key.
      order_by Kept _ _ _ (λ h. g) (λ full.
      order-end Kept _ (good_reads n known k key (pending_of (transaction s n) k) full))))
  good_step (Note n k o) =
      order_by Kept _ _ _ (λ h. g) (λ known.
      order_by Kept _ _ _ (λ h. g) (λ key.
      order_by Kept _ _ _ (λ h. g) (λ wrote.
      order_by Kept _ _ _ (λ h. g) (λ absent.
      order_by Kept _ _ _ (λ h. g) (λ full.
      order-end Kept _ (good_notes n known k key o (look_up s.log k o) refl full))))))
  good_step (Write n k v) =
      order_by Kept _ _ _ (λ h. g) (λ known.
      order_by Kept _ _ _ (λ h. g) (λ key.
      order_by Kept _ _ _ (λ h. g) (λ full.
      order-end Kept _ (good_written n known k key v (leb-false 16 _ full)))))
  good_step (Tune n k1 k2 k3) =
      order_by Kept _ _ _ (λ h. g) (λ known.
      order_by Kept _ _ _ (λ h. g) (λ bound.
      order-end Kept _ (good_with n known (tuned (transaction s n) (triple k1 k2 k3)) refl
      (seated-tuned (transaction s n) (triple k1 k2 k3) (let z = eqb-false k1 0 bound in omega arith) (seat s g n known)))))
  good_step (Distance n i) =
      order_by Kept _ _ _ (λ h. g) (λ known.
      order_by Kept _ _ _ (λ h. g) (λ there.
      order-end Kept _ g))
  good_step (Abort n) =
      order_by Kept _ _ _ (λ h. g) (λ known.
      order-end Kept _ (good_ended n known))
  good_step (Commit n) = commit_cases Kept s n (λ m. g) (λ known r q. good_ended n known) (λ h. good_granted n h)
  good_step (Message t) =
      order_by Kept _ _ _ (λ h. g) (λ made.
      order-end Kept _ g)
  good_step (Newest k) =
      order_by Kept _ _ _ (λ h. g) (λ key.
      order-end Kept _ g)

-- an ended transaction at every place
closed : (opening c n : ℕ) → Every (Seated opening c []) (replicate n (ended (fresh 0)))
closed opening c ℕ.zero = none
closed opening c (suc n) =
    also {x = ended (fresh 0)} (record { marks = refl; pending = refl; recorded = omega arith; written = omega arith; bound = omega arith; underway = λ h. absurd (false≢true h) }) (closed opening c n)

closed-live : (n i : ℕ) → (get_or (replicate n (ended (fresh 0))) i no_transaction).live ≡ false
closed-live ℕ.zero i = refl
closed-live (suc n) ℕ.zero = refl
closed-live (suc n) (suc i) = closed-live n i

-- "Opening a master gives the clock's first value, any 32-bit number"
pub good_opened : (opening : ℕ) → opening ≤ 4294967295 → Good opening (opened opening)
good_opened opening h =
    record {
      history = bare {clock = opening} (omega arith);
      ticks = h;
      room = omega arith;
      desk = refl;
      seated = closed opening opening 32;
      names = λ i j a b c. absurd (false≢true (sym (closed-live 32 i) ∙ a));
    }

good_on : {opening : ℕ} (s : State) (cs : List Call) → Good opening s → Good opening (reached s cs)
unfolding reached
good_on s [] g = g
good_on s (c ∷ cs) g = good_on (step s c).state cs (good_step s g c)

-- every session, from every opening, through all of its calls
pub good_reached : (opening : ℕ) → opening ≤ 4294967295 → (cs : List Call) → Good opening (reached (opened opening) cs)
good_reached opening h cs = good_on (opened opening) cs (good_opened opening h)
