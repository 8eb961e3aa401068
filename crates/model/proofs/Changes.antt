-- What each call does to the transaction that it names, at its place, and that it does nothing else: the promises of document 01's transaction
-- steps, in every state that a session reaches.
use Prim.Native.Nat.{ℕ, suc, ◌≤◌, ◌<◌}
use native.Mathlib.Omega.{arith}
use mathlib.Core.Path.{◌≡◌, refl, sym, ◌∙◌, ap, subst}
use mathlib.Core.Bool.{Bool, true, false, cond, not, ◌&&◌, true≢false, false≢true}
use mathlib.Core.List.{List, [], ◌∷◌}
use lib.IntN.{ℤ}
use lib.ListN.{length, get_or, length-set}
use lib.Seq.{get_or-set_same, get_or-set_other}
use lib.Dec.{ltb}
use borrow.Author.Tests.{leb-false, ltb-true, le-ltb, lt-ltb, eq-eqb, eqb-true, ne_eqb}
use Rattle.lists.specs.Lists.{find, also}
use Rattle.lists.specs.Members.{In, here, below, Distinct, apart}
use Rattle.lists.proofs.Find.{find-holds, find_first}
use Rattle.lists.proofs.Members.{every_in, in_map, get_or_in}
use Rattle.units.specs.Bounds.{triple}
use Rattle.units.specs.declared.Version.{Version}
use Rattle.std.specs.Prelude.{Option, Some, None}
use Rattle.units.specs.declared.rule.Rule.{Rule}
use Rattle.transaction.specs.declared.Write as pending
use Rattle.transaction.specs.declared.Transaction.{Transaction}
use Rattle.transaction.specs.Transaction.{fresh, tuned, ended, recorded, written, wrote_at, is_key, pending_of, writes_of, no_write}
use Rattle.model.specs.Log.{newest, look_up}
use Rattle.model.specs.State.{State, no_transaction, at_place, place_of, nobody, transaction, free_place, with_transaction}
use Rattle.model.specs.Open.{OpenAt, Of}
use Rattle.model.specs.Call.{Start, Read, Note, Write, Tune, Abort, Commit, Newest, started, version, own, done, committed, aborted, made_by}
use Rattle.model.specs.Step.{Step, step, order, checks_of, final_of, answers, marked, reads, notes, reads_full, has_written, writes_full, ends}
use Rattle.model.specs.Reached.{Good, keys_of, NewestOf, Numbered}
use Rattle.model.specs.Changes.{Becomes, Unmoved, Ends, OnlyEnds, Records, Rewrites, Seats}
use Rattle.model.proofs.Replies.{other}
use Rattle.model.proofs.Order.{order_by, order-end}
use Rattle.model.proofs.History.{chain, newest_is}
use Rattle.model.proofs.LookUps.{found_exactly}
use Rattle.model.proofs.Seats.{recorded-records, written_rewrites}
use Rattle.model.proofs.Places.{placed, seat}
use Rattle.model.proofs.Desk.{standing, not_nobody, found, of_found, underway-at}
use Rattle.model.proofs.Refusals.{commit_cases}

-- a pending value is that of a written key
value_written : (t : Transaction) (k : ℕ) (v : ℤ) → pending_of t k ≡ Some v → In (record { key = k; value = v }) (writes_of t)
unfolding pending_of wrote_at
value_written t k v = go (ltb (find (is_key k) (writes_of t)) (length (writes_of t))) refl
  where
    wrote : ℕ → ℤ → pending.Write
    wrote x z = record { key = x; value = z }

    at : pending.Write
    at = get_or (writes_of t) (find (is_key k) (writes_of t)) no_write

    go : (b : Bool) → ltb (find (is_key k) (writes_of t)) (length (writes_of t)) ≡ b → cond b (Some at.value) None ≡ Some v → In (record { key = k; value = v }) (writes_of t)
    go true h e =
        let l = ltb-true (find (is_key k) (writes_of t)) (length (writes_of t)) h in
        let z : at.value ≡ v = cc in
        let y : at.key ≡ k = eqb-true at.key k (find-holds (is_key k) (writes_of t) no_write l) in
        let w : at ≡ record { key = k; value = v } = ap (λ (x : ℕ). wrote x at.value) y ∙ ap (wrote k) z in
        subst (λ (w : pending.Write). In w (writes_of t)) w (get_or_in (writes_of t) (find (is_key k) (writes_of t)) no_write l)
    go false h e = let z : ◌≡◌ {A = ℕ} 0 1 = cc in absurd (omega arith)

module _ {opening : ℕ} (s : State) (g : Good opening s) where
  module _ (n : ℕ) where
    -- the transaction found is replaced at its place
    becomes_with : nobody s n ≡ false → (P : Transaction → Transaction → Type 0) (t : Transaction) → P (transaction s n) t → Becomes s n P (with_transaction s n t)
    becomes_with known P t p =
        record {
          place = place_of s.place n;
          stands = standing s g n known;
          becomes = rw (get_or-set_same s.place (place_of s.place n) t no_transaction (placed s g n known)) p;
          others = λ i h. get_or-set_other s.place (place_of s.place n) i t no_transaction h;
          size = length-set s.place (place_of s.place n) t;
        }

    still : (t : Transaction) → Unmoved s (with_transaction s n t)
    still t = record { clock = refl; log = refl }

    only-ends : nobody s n ≡ false → OnlyEnds s n (ends s n)
    only-ends known = record { ends = becomes_with known Ends (ended (transaction s n)) refl; rest = still (ended (transaction s n)) }

    -- "The client may abort": "An abort only ends its transaction"
    pub aborts-only : (step s (Abort n)).reply ≡ done → OnlyEnds s n (step s (Abort n)).state
    unfolding step checks_of final_of
    aborts-only =
        order_by P _ _ _ (λ h e. other e tt) (λ known.
        order-end P _ (λ e. only-ends known))
      where
        P : Step → Type 0
        P d = d.reply ≡ done → OnlyEnds s n d.state

    -- "The answer is committed with its stamp, or aborted", and that too only ends its transaction
    pub broken_only : (r : Rule) → (step s (Commit n)).reply ≡ aborted r → OnlyEnds s n (step s (Commit n)).state
    broken_only r =
        commit_cases (λ (d : Step). d.reply ≡ aborted r → OnlyEnds s n d.state) s n
        (λ m e. other e tt)
        (λ known q f e. only-ends known)
        (λ h e. other e tt)

    -- a granted commit ends its transaction, and leaves every other place
    pub commit-ends : (m : ℕ) → (step s (Commit n)).reply ≡ committed m → Becomes s n Ends (step s (Commit n)).state
    unfolding checks_of
    commit-ends m =
        commit_cases (λ (d : Step). d.reply ≡ committed m → Becomes s n Ends d.state) s n
        (λ m e. other e tt)
        (λ known q f e. other e tt)
        (λ h e. elim h [ also known hs ↦ (let b = (only-ends known).ends in record { place = b.place; stands = b.stands; becomes = b.becomes; others = b.others; size = b.size }) ])

    -- "The triple belongs to one transaction and may be tuned until its commit"
    pub tune_sets : (k1 k2 k3 : ℕ) → (step s (Tune n k1 k2 k3)).reply ≡ done
        → Becomes s n (λ (t u : Transaction). u ≡ tuned t (triple k1 k2 k3)) (step s (Tune n k1 k2 k3)).state × Unmoved s (step s (Tune n k1 k2 k3)).state
    unfolding step checks_of final_of
    tune_sets k1 k2 k3 =
        order_by P _ _ _ (λ h e. other e tt) (λ known.
        order_by P _ _ _ (λ h e. other e tt) (λ bound.
        order-end P _ (λ e. (becomes_with known Q (tuned (transaction s n) (triple k1 k2 k3)) refl, still (tuned (transaction s n) (triple k1 k2 k3))))))
      where
        Q : Transaction → Transaction → Type 0
        Q t u = u ≡ tuned t (triple k1 k2 k3)

        P : Step → Type 0
        P d = d.reply ≡ done → Becomes s n Q d.state × Unmoved s d.state

    module _ (k : ℕ) where
      records : (v : Version) → nobody s n ≡ false → reads_full (transaction s n) ≡ false
          → Becomes s n (Records (marked k v)) (with_transaction s n (recorded (transaction s n) (marked k v)))
      records v known full =
          becomes_with known (Records (marked k v)) (recorded (transaction s n) (marked k v))
          (recorded-records (transaction s n) (marked k v) (let h = leb-false _ (transaction s n).recorded full in omega arith) (seat s g n known))

      -- "A read at the master answers the key's newest version and records it"; "Two reads of one key are two records"
      pub read-records : (v : Version) → (step s (Read n k)).reply ≡ version v
          → NewestOf s.log k v × Becomes s n (Records (marked k v)) (step s (Read n k)).state × Unmoved s (step s (Read n k)).state
      unfolding step checks_of final_of
      read-records v =
          order_by P _ _ _ (λ h e. other e tt) (λ known.
          order_by P _ _ _ (λ h e. other e tt) (λ key.
          order_by P _ _ _ (λ h e. other e tt) (λ full.
          order-end P _ (go known (pending_of (transaction s n) k) full))))
        where
          P : Step → Type 0
          P d = d.reply ≡ version v → NewestOf s.log k v × Becomes s n (Records (marked k v)) d.state × Unmoved s d.state

          go : nobody s n ≡ false → (p : Option ℤ) → (not (has_written p) && reads_full (transaction s n)) ≡ false → P (reads s n k p)
          go known (Some w) full e = other e tt
          go known None full e =
              let z : newest s.log k ≡ v = cc in
              (rw (← z) (newest_is (chain g.history) k), rw (← z) (records (newest s.log k) known full), still (recorded (transaction s n) (marked k (newest s.log k))))

      -- an own value is answered only of a key that the transaction has written, and records nothing
      pub own-written : (v : ℤ) → (step s (Read n k)).reply ≡ own v
          → Of s n (λ (t : Transaction). In (record { key = k; value = v }) (writes_of t)) × ((step s (Read n k)).state ≡ s)
      unfolding step checks_of final_of
      own-written v =
          order_by P _ _ _ (λ h e. other e tt) (λ known.
          order_by P _ _ _ (λ h e. other e tt) (λ key.
          order_by P _ _ _ (λ h e. other e tt) (λ full.
          order-end P _ (go known (pending_of (transaction s n) k) refl))))
        where
          Q : Transaction → Type 0
          Q t = In (record { key = k; value = v }) (writes_of t)

          P : Step → Type 0
          P d = d.reply ≡ own v → Of s n Q × (d.state ≡ s)

          go : nobody s n ≡ false → (p : Option ℤ) → pending_of (transaction s n) k ≡ p → P (reads s n k p)
          go known (Some w) q e = let z : w ≡ v = cc in ((of_found s g n known Q).0 (rw (← z) (value_written (transaction s n) k w q)), refl)
          go known None q e = other e tt

      -- "A note records a version .. by key and ordinal; the master looks it up and believes nothing else, and answers that version"
      pub note-records : (o : ℕ) (v : Version) → (step s (Note n k o)).reply ≡ version v
          → Numbered s.log k o v × Becomes s n (Records (marked k v)) (step s (Note n k o)).state × Unmoved s (step s (Note n k o)).state
      unfolding step checks_of final_of
      note-records o v =
          order_by P _ _ _ (λ h e. other e tt) (λ known.
          order_by P _ _ _ (λ h e. other e tt) (λ key.
          order_by P _ _ _ (λ h e. other e tt) (λ wrote.
          order_by P _ _ _ (λ h e. other e tt) (λ absent.
          order_by P _ _ _ (λ h e. other e tt) (λ full.
          order-end P _ (go known (look_up s.log k o) refl full))))))
        where
          P : Step → Type 0
          P d = d.reply ≡ version v → Numbered s.log k o v × Becomes s n (Records (marked k v)) d.state × Unmoved s d.state

          go : nobody s n ≡ false → (f : Option Version) → look_up s.log k o ≡ f → reads_full (transaction s n) ≡ false → P (notes s n k f)
          go known (Some w) q full e =
              let z : w ≡ v = cc in
              ((found_exactly k o (chain g.history) v).0 (q ∙ ap Some z), rw (← z) (records w known full), still (recorded (transaction s n) (marked k w)))
          go known None q full e = other e tt

      -- "A second write of a key replaces the value and takes no new place"
      pub write_puts : (v : ℤ) → (step s (Write n k v)).reply ≡ done → Becomes s n (Rewrites k v) (step s (Write n k v)).state × Unmoved s (step s (Write n k v)).state
      unfolding step checks_of final_of
      write_puts v =
          order_by P _ _ _ (λ h e. other e tt) (λ known.
          order_by P _ _ _ (λ h e. other e tt) (λ key.
          order_by P _ _ _ (λ h e. other e tt) (λ full.
          order-end P _ (λ e. (becomes_with known (Rewrites k v) (written (transaction s n) k v) (rewrites known full), still (written (transaction s n) k v))))))
        where
          P : Step → Type 0
          P d = d.reply ≡ done → Becomes s n (Rewrites k v) d.state × Unmoved s d.state

          rewrites : nobody s n ≡ false → writes_full (transaction s n) k ≡ false → Rewrites k v (transaction s n) (written (transaction s n) k v)
          rewrites known full =
              written_rewrites (transaction s n) k v (seat s g n known).pending (seat s g n known).written (leb-false 16 (wrote_at (transaction s n) k) full)

  -- Start
  pub start_seats : (m : ℕ) → (step s Start).reply ≡ started m → Seats s m (step s Start).state × ((step s Start).state.log ≡ s.log)
  unfolding step checks_of final_of free_place
  start_seats m =
      order_by P _ _ _ (λ h e. other e tt) (λ room.
      order_by P _ _ _ (λ h e. other e tt) (λ ticks.
      order-end P _ (λ e. let z : suc s.clock ≡ m = cc in let h : free_place s.place < 32 = leb-false 32 (free_place s.place) room in (
        record {
          place = free_place s.place;
          within = h;
          free = closed _ (find-holds unused s.place no_transaction (rw g.desk h));
          lower = λ i l. taken _ (find_first unused s.place no_transaction i l);
          taken = rw (← z) (get_or-set_same s.place (free_place s.place) (fresh (suc s.clock)) no_transaction (rw g.desk h));
          others = λ i n. get_or-set_other s.place (free_place s.place) i (fresh (suc s.clock)) no_transaction n;
        },
        refl,
      ))))
    where
      P : Step → Type 0
      P d = d.reply ≡ started m → Seats s m d.state × (d.state.log ≡ s.log)

      unused : Transaction → Bool
      unused t = not t.live

      closed : (b : Bool) → not b ≡ true → b ≡ false
      closed true e = absurd (false≢true e)
      closed false e = refl

      taken : (b : Bool) → not b ≡ false → b ≡ true
      taken true e = refl
      taken false e = absurd (true≢false e)

-- the write of a key among those written, each key once
sole_write : (w : pending.Write) (ws : List pending.Write) → Distinct (keys_of ws) → In w ws → (find (is_key w.key) ws < length ws) × (get_or ws (find (is_key w.key) ws) no_write ≡ w)
unfolding find
sole_write w [] d i = elim i [ ]
sole_write w (y ∷ ws) d here = rw (eq-eqb w.key w.key refl) (omega arith, refl)
sole_write w (y ∷ ws) (apart h d) (below i) =
    rw (ne_eqb y.key w.key (λ q. every_in h (in_map (λ (x : pending.Write). x.key) i) (sym q)))
    (let r = sole_write w ws d i in (omega arith, r.1))

pending-value : (t : Transaction) (k : ℕ) (v : ℤ) → Distinct (keys_of (writes_of t)) → In (record { key = k; value = v }) (writes_of t) → pending_of t k ≡ Some v
unfolding pending_of wrote_at
pending-value t k v d i = let r = sole_write (record { key = k; value = v }) (writes_of t) d i in rw (lt-ltb _ _ r.0, r.1)

-- "If this transaction has written the key, it answers the pending value and records nothing"
pub own_read : {opening : ℕ} (s : State) → Good opening s → (n i k : ℕ) (v : ℤ) → OpenAt s n i → k ≤ 63 → In (record { key = k; value = v }) (writes_of (at_place s i))
    → step s (Read n k) ≡ answers s (own v)
unfolding step checks_of final_of order
own_read s g n i k v o key h =
    rw (not_nobody s g n o, le-ltb 63 k key, found s g n o, pending-value (at_place s i) k v (underway-at s g n o).writes.once h)

-- "For a key it also answers the stamp of the commit that made the newest version (0 for a start version)"
pub newest-answered : {opening : ℕ} (s : State) → Good opening s → (k : ℕ) → k ≤ 63 → step s (Newest k) ≡ answers s (made_by (newest s.log k).stamp.0) × NewestOf s.log k (newest s.log k)
unfolding step checks_of final_of order
newest-answered s g k key = (rw (le-ltb 63 k key), newest_is (chain g.history) k)
