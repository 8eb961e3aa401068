-- The search of the desk against its places: what is found under a name is the one open transaction that stands at a place under that name, and
-- the tests of a call's checks against the rows of document 01's table. Good states.
use Prim.Native.Nat.{ℕ, ◌≤◌, ◌<◌}
use native.Mathlib.Omega.{arith}
use mathlib.Core.Path.{◌≡◌, refl, sym, ◌∙◌, ap}
use mathlib.Core.Logic.{◌↔◌}
use mathlib.Core.Bool.{Bool, true, false, cond, not, true≢false, false≢true}
use mathlib.Core.List.{List}
use lib.Dec.{leb, ltb}
use lib.ListN.{length, get_or, length-take, length-map}
use borrow.Author.Tests.{leb-true, leb-false, le-leb, ltb-true, ltb-false, lt-ltb, eqb-true, eq-eqb}
use Rattle.lists.specs.Lists.{find, Every}
use Rattle.lists.proofs.Find.{find_le, find-holds}
use Rattle.lists.proofs.Every.{every_at, at_every, find_none, none_found}
use Rattle.lists.proofs.Members.{every_in, in_map, get_or_in}
use Rattle.transaction.specs.declared.Write.{Write}
use Rattle.transaction.specs.declared.Transaction.{Transaction}
use Rattle.std.specs.Prelude.{Some, None}
use Rattle.transaction.specs.Transaction.{is_key, wrote_at, pending_of, reads_of, writes_of, no_write}
use Rattle.model.specs.Log.{Entry}
use Rattle.model.specs.State.{State, no_transaction, at_place, goes_by, place_of, nobody, transaction, free_place}
use Rattle.model.specs.Open.{OpenAt, Of}
use Rattle.model.specs.Step.{has_written, reads_full, writes_full}
use Rattle.model.specs.Reached.{Good, Seated, Underway, keys_of}
use Rattle.model.specs.Checks.{NoneOpen, AllOpen, Wrote, SixteenReads, SixteenOthers}
use Rattle.model.proofs.Seats.{keys-other}
use Rattle.model.proofs.Places.{placed, is_open}

module _ {opening : ℕ} (s : State) (g : Good opening s) where
  module _ (n : ℕ) where
    -- what is found stands at a place
    pub standing : nobody s n ≡ false → OpenAt s n (place_of s.place n)
    standing known =
        let o = is_open s g n known in
        record { place = let h = placed s g n known in omega (arith, g.desk); live = o.0; name = o.1 }

    goes : {i : ℕ} → OpenAt s n i → goes_by n (at_place s i) ≡ true
    goes o = rw (o.live, o.name) (eq-eqb n n refl)

    -- what stands at a place is found
    pub not_nobody : {i : ℕ} → OpenAt s n i → nobody s n ≡ false
    unfolding place_of
    not_nobody {i} o = go (nobody s n) refl
      where
        go : (b : Bool) → nobody s n ≡ b → b ≡ false
        go true e =
            let h : length s.place ≤ find (goes_by n) s.place = omega (arith, leb-true, g.desk) in
            absurd (true≢false (sym (goes o) ∙ every_at no_transaction (none_found (goes_by n) s.place h) i (let l = o.place in omega (arith, g.desk))))
        go false e = refl

    -- at one place
    pub one_place : {i : ℕ} → OpenAt s n i → place_of s.place n ≡ i
    one_place {i} o = let p = standing (not_nobody o) in g.names (place_of s.place n) i p.live o.live (p.name ∙ sym o.name)

    -- "1: no open transaction of that name"
    pub none_open : (nobody s n ≡ true) ↔ NoneOpen s n
    none_open = (λ e i o. true≢false (sym e ∙ not_nobody o), λ h. go h (nobody s n) refl)
      where
        go : NoneOpen s n → (b : Bool) → nobody s n ≡ b → b ≡ true
        go h true e = refl
        go h false e = absurd (h _ (standing e))

    -- what holds of the transaction found holds of the open one of that name
    pub of_found : nobody s n ≡ false → (P : Transaction → Type 0) → P (transaction s n) ↔ Of s n P
    of_found known P = (
      λ p. record { place = place_of s.place n; stands = standing known; has = p },
      λ o. rw (one_place o.stands) o.has,
    )

    -- so it is the transaction of that place
    pub found : {i : ℕ} → OpenAt s n i → transaction s n ≡ at_place s i
    found o = ap (at_place s) (one_place o)

    pub seated-at : {i : ℕ} → OpenAt s n i → Seated opening s.clock s.log (at_place s i)
    seated-at {i} o = every_at no_transaction g.seated i (let h = o.place in omega (arith, g.desk))

    pub underway-at : {i : ℕ} → OpenAt s n i → Underway opening s.clock s.log (at_place s i)
    underway-at o = (seated-at o).underway o.live

  -- "3: start while 32 are open"
  pub all_open : (leb 32 (free_place s.place) ≡ true) ↔ AllOpen s
  unfolding free_place
  all_open = (to, λ h. le-leb 32 (find free s.place) (rw (find_none free (from h)) (omega (arith, g.desk))))
    where
      free : Transaction → Bool
      free t = not t.live

      occupied : (b : Bool) → not b ≡ false → b ≡ true
      occupied true e = refl
      occupied false e = absurd (true≢false e)

      to : leb 32 (find free s.place) ≡ true → AllOpen s
      to e i h =
          let l : length s.place ≤ find free s.place = omega (arith, leb-true, g.desk) in
          occupied _ (every_at no_transaction (none_found free s.place l) i (omega (arith, g.desk)))

      from : AllOpen s → Every (λ (t : Transaction). free t ≡ false) s.place
      from h = at_every _ no_transaction s.place (λ i l. ap not (h i (omega (arith, g.desk))))

-- "8: note: this transaction has written the key"
module _ (t : Transaction) (k : ℕ) where
  pub wrote_found : (wrote_at t k < length (writes_of t)) ↔ Wrote k t
  unfolding wrote_at
  wrote_found = (to, λ i. go i (ltb (find (is_key k) (writes_of t)) (length (writes_of t))) refl)
    where
      to : find (is_key k) (writes_of t) < length (writes_of t) → Wrote k t
      to h =
          let w : Write = get_or (writes_of t) (find (is_key k) (writes_of t)) no_write in
          let e : w.key ≡ k = eqb-true _ _ (find-holds (is_key k) (writes_of t) no_write h) in
          rw e at (in_map (λ (w : Write). w.key) (get_or_in (writes_of t) (find (is_key k) (writes_of t)) no_write h))

      go : Wrote k t → (b : Bool) → ltb (find (is_key k) (writes_of t)) (length (writes_of t)) ≡ b → find (is_key k) (writes_of t) < length (writes_of t)
      go i true e = ltb-true _ _ e
      go i false e = absurd (every_in (keys-other k (none_found (is_key k) (writes_of t) (ltb-false _ _ e))) i refl)

  pub wrote_tests : (has_written (pending_of t k) ≡ true) ↔ Wrote k t
  unfolding pending_of
  wrote_tests = (λ e. go (ltb (wrote_at t k) (length (writes_of t))) refl e, λ i. rw (lt-ltb _ _ (wrote_found.1 i)))
    where
      go : (b : Bool) → ltb (wrote_at t k) (length (writes_of t)) ≡ b → has_written (cond b (Some (get_or (writes_of t) (wrote_at t k) no_write).value) None) ≡ true → Wrote k t
      go true e h = wrote_found.0 (ltb-true _ _ e)
      go false e h = absurd (false≢true h)

module _ {opening clock : ℕ} {log : List Entry} {t : Transaction} (seated : Seated opening clock log t) where
  -- "4: 17th recorded read"
  pub sixteen-reads : (reads_full t ≡ true) ↔ SixteenReads t
  sixteen-reads =
      let e : length (reads_of t) ≡ t.recorded = length-take t.recorded t.reads ∙ rw seated.marks (let h = seated.recorded in omega arith) in
      (λ h. let m = seated.recorded in omega (arith, leb-true), λ h. le-leb 16 t.recorded (omega arith))

  -- "4: .. or 17th different key written"
  pub sixteen-others : (k : ℕ) → t.live ≡ true → (writes_full t k ≡ true) ↔ SixteenOthers k t
  unfolding wrote_at
  sixteen-others k live =
      let e : length (keys_of (writes_of t)) ≡ length (writes_of t) = length-map (writes_of t) (λ (w : Write). w.key) in
      let few : length (writes_of t) ≤ 16 = (seated.underway live).writes.few in
      let found : wrote_at t k ≤ length (writes_of t) = find_le (is_key k) (writes_of t) in (
        λ h. let l : 16 ≤ wrote_at t k = omega (arith, leb-true) in
            record { sixteen = omega arith; different = (seated.underway live).writes.once; others = λ i. let m = (wrote_found t k).1 i in omega arith },
        λ o. le-leb 16 (wrote_at t k) (missing o.others o.sixteen e),
      )
    where
      missing : ¬ Wrote k t → length (keys_of (writes_of t)) ≡ 16 → length (keys_of (writes_of t)) ≡ length (writes_of t) → 16 ≤ wrote_at t k
      missing n x e = go (leb (length (writes_of t)) (wrote_at t k)) refl
        where
          go : (b : Bool) → leb (length (writes_of t)) (wrote_at t k) ≡ b → 16 ≤ wrote_at t k
          go true h = omega (arith, leb-true)
          go false h = absurd (n ((wrote_found t k).0 (leb-false _ _ h)))
