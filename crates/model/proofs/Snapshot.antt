-- Demand 2: "Bounds (1, 0, any) give the read and write rules of snapshot isolation, no less and no more."
use Prim.Native.Nat.{ℕ, suc, ◌+◌, ◌≤◌, ◌<◌}
use native.Mathlib.Omega.{arith}
use mathlib.Core.Path.{◌≡◌, refl, sym, ◌∙◌, ap}
use mathlib.Core.Logic.{◌↔◌, ◌⊎◌, inl, inr, ◌≢◌}
use mathlib.Core.Bool.{Bool, true, false, ◌&&◌}
use mathlib.Core.List.{List}
use lib.Dec.{leb, eqb}
use lib.ListN.{length}
use borrow.Author.Tests.{leb-true, leb-false, le-leb, eqb-true}
use Rattle.lists.specs.Lists.{Every, none, also}
use Rattle.lists.specs.Members.{In}
use Rattle.lists.proofs.Every.{every_map}
use Rattle.lists.proofs.Members.{in_every}
use Rattle.lists.proofs.Count.{count_le, count_mono}
use Rattle.units.specs.Bounds.{snapshot}
use Rattle.units.specs.declared.Bounds.{Bounds}
use Rattle.transaction.specs.declared.Mark.{Mark}
use Rattle.transaction.specs.declared.Transaction.{Transaction}
use Rattle.transaction.specs.Transaction.{reads_of, writes_of}
use Rattle.model.specs.Log.{Entry, up_to, between}
use Rattle.model.specs.Rules.{distance, WithinBV, WithinFV, KeepsBV, KeepsFV, KeepsSV, KeepsWC}
use Rattle.model.specs.State.{State, at_place}
use Rattle.model.specs.Open.{OpenAt}
use Rattle.model.specs.Call.{Commit, committed}
use Rattle.model.specs.Step.{step}
use Rattle.model.specs.Kept.{Kept}
use Rattle.model.specs.Reached.{Good, Stands, loaded, stored}
use Rattle.model.specs.Snapshot.{NewestAt, Snapshot}
use Rattle.model.proofs.History.{up_to_mono, up_to-more}
use Rattle.model.proofs.Signed.{diff_lt, diff_le}
use Rattle.model.proofs.Desk.{one_place, underway-at}
use Rattle.model.proofs.Commits.{granted_exactly}

module _ (log : List Entry) (s : ℕ) (x : Mark) where
  -- the newest at the start: as many versions up to the start as up to the version read
  newest-at : Stands log x → up_to log x.key s ≡ up_to log x.key x.stamp.0 → NewestAt log s x
  newest-at st e = record { committed = first st; others = in_every _ log (λ f i q. other f i q (leb f.stamp x.stamp.0) refl (leb f.stamp s) refl) }
    where
      first : Stands log x → x.stamp.0 ≤ s
      first (loaded o z) = omega arith
      first (stored f i k o z) = go (leb f.stamp s) refl
        where
          go : (b : Bool) → leb f.stamp s ≡ b → x.stamp.0 ≤ s
          go true h = omega (arith, leb-true)
          go false h = absurd (let m = up_to-more x.key s x.stamp.0 i k (leb-false _ _ h) (omega arith) in omega arith)

      other : (f : Entry) → In f log → f.key ≡ x.key → (a : Bool) → leb f.stamp x.stamp.0 ≡ a → (b : Bool) → leb f.stamp s ≡ b → (f.stamp ≤ x.stamp.0) ⊎ (s < f.stamp)
      other f i q true h b k = inl (leb-true _ _ h)
      other f i q false h true k = absurd (let m = up_to-more x.key x.stamp.0 s i q (leb-false _ _ h) (leb-true _ _ k) in omega arith)
      other f i q false h false k = inr (leb-false _ _ k)

  at-newest : NewestAt log s x → up_to log x.key s ≡ up_to log x.key x.stamp.0
  unfolding up_to
  at-newest n =
      let a : up_to log x.key x.stamp.0 ≤ up_to log x.key s = up_to_mono log x.key n.committed in
      let b : up_to log x.key s ≤ up_to log x.key x.stamp.0 = count_mono _ _ (every_map (λ (e : Entry) f q. go (eqb e.key x.key) refl e.stamp f q) n.others) in
      omega arith
    where
      go : {k : ℕ} (b : Bool) → eqb k x.key ≡ b → (u : ℕ) → (k ≡ x.key → (u ≤ x.stamp.0) ⊎ (s < u)) → (b && leb u s) ≡ true → (b && leb u x.stamp.0) ≡ true
      go true e u f q = elim (f (eqb-true _ _ e)) [ inl h ↦ le-leb _ _ h | inr h ↦ absurd (let z = leb-true u s q in omega arith) ]
      go false e u f q = q

-- of one read under (1, 0, ..): BV and FV say that it is the newest at the start
module _ (log : List Entry) (t : Transaction) (one : t.bounds.k1 ≡ 1) (zero : t.bounds.k2 ≡ 0) where
  abbrev at_start : Mark → ℕ
  at_start x = up_to log x.key t.name.0

  abbrev at_read : Mark → ℕ
  at_read x = up_to log x.key x.stamp.0

  within : {l : List Mark} → Every (Stands log) l → Every (WithinBV log t) l → Every (WithinFV log t) l → Every (NewestAt log t.name.0) l
  unfolding distance
  within none none none = none
  within (also {x = x} s ss) (also b bs) (also f fs) =
      let p = (diff_lt (at_start x) (at_read x) t.bounds.k1).0 b in
      let q = (diff_le (at_start x) (at_read x) t.bounds.k2).0 f in
      also (newest-at log t.name.0 x s (omega arith)) (within ss bs fs)

  newest-bv : (x : Mark) → NewestAt log t.name.0 x → WithinBV log t x
  unfolding distance
  newest-bv x n = let e = at-newest log t.name.0 x n in (diff_lt (at_start x) (at_read x) t.bounds.k1).1 (omega arith)

  newest-fv : (x : Mark) → NewestAt log t.name.0 x → WithinFV log t x
  unfolding distance
  newest-fv x n = let e = at-newest log t.name.0 x n in (diff_le (at_start x) (at_read x) t.bounds.k2).1 (omega arith)

  -- snapshot read is BV with FV, and snapshot write is WC
  pub snapshot-rules : Every (Stands log) (reads_of t) → (KeepsBV log t × KeepsFV log t × KeepsWC log t) ↔ Snapshot log t
  snapshot-rules st = (
    λ k. record { reads = within st k.0 k.1; writes = k.2 },
    λ r. (every_map newest-bv r.reads, every_map newest-fv r.reads, r.writes),
  )

-- "65,535 is called any ..; no count here reaches it"
pub between-few : (log : List Entry) (x a b : ℕ) → length log ≤ 4096 → between log x a b ≤ 4096
unfolding between
between-few log x a b h = let c : between log x a b ≤ length log = count_le _ log in omega arith

all_pairs : (log : List Entry) (t : Transaction) → length log ≤ 4096 → 4096 ≤ t.bounds.k3 → KeepsSV log t
all_pairs log t h k = in_every _ (reads_of t) (λ x i. in_every _ (reads_of t) (λ y j. let c = between-few log x.key x.stamp.0 y.stamp.0 h in omega arith))

module _ {opening : ℕ} (s : State) (g : Good opening s) (n i : ℕ) (o : OpenAt s n i) where
  -- the recorded reads of an open transaction are versions of the log, or start versions
  pub reads_stand : Every (Stands s.log) (reads_of (at_place s i))
  reads_stand = every_map (λ x r. r.stands) (underway-at s g n o).reads

  module _ (bounds : (at_place s i).bounds ≡ snapshot) where
    one : (at_place s i).bounds.k1 ≡ 1
    one = ap (λ (b : Bounds). b.k1) bounds

    zero : (at_place s i).bounds.k2 ≡ 0
    zero = ap (λ (b : Bounds). b.k2) bounds

    most : (at_place s i).bounds.k3 ≡ 65535
    most = ap (λ (b : Bounds). b.k3) bounds

    -- the four rules under (1, 0, any) are the two of snapshot isolation
    pub snapshot_exactly : Kept s.log (at_place s i) ↔ Snapshot s.log (at_place s i)
    snapshot_exactly =
        let r = snapshot-rules s.log (at_place s i) one zero reads_stand in (
          λ k. r.0 (k.bv, k.fv, k.wc),
          λ p. let q = r.1 p in record { bv = q.0; fv = q.1; sv = all_pairs s.log (at_place s i) g.room (omega (arith, most)); wc = q.2 },
        )

    -- so a commit under them is granted exactly under snapshot isolation, where log and clock have room
    pub snapshot-granted : ((step s (Commit n)).reply ≡ committed (suc s.clock))
        ↔ (Snapshot s.log (at_place s i) × (length s.log + length (writes_of (at_place s i)) ≤ 4096) × (s.clock ≢ 4294967295))
    snapshot-granted =
        let e = granted_exactly s g n (suc s.clock) in (
          λ h. let k = (e.0 h).0 in
              let q : k.place ≡ i = sym (one_place s g n k.stands) ∙ one_place s g n o in
              (snapshot_exactly.0 (rw q at k.kept), rw q at k.room, k.ticks),
          λ h. e.1 (record { place = i; stands = o; kept = snapshot_exactly.1 h.0; room = h.1; ticks = h.2 }, refl),
        )
