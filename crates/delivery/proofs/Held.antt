-- What a copy holds after versions of one log have arrived, in any order, some lost and some again: the newest of them, or the start version.
use Prim.Native.Nat.{ℕ, ◌≤◌, ◌<◌}
use native.Mathlib.Decide.{dec_lt}
use native.Mathlib.Omega.{arith}
use mathlib.Core.Path.{◌≡◌, refl, sym, ◌∙◌, ap, subst}
use mathlib.Core.Logic.{⊎_elim}
use mathlib.Core.List.{List, ◌∷◌}
use lib.ListN.{get_or-replicate}
use Rattle.lists.specs.Lists.{Every, also}
use Rattle.lists.specs.Members.{In, here, below}
use Rattle.lists.proofs.Every.{every_map, every_both}
use Rattle.lists.proofs.Members.{every_in}
use Rattle.units.specs.Version.{start_version}
use Rattle.units.specs.declared.Version.{Version}
use Rattle.model.specs.Log.{Entry, version_of, versions, up_to, newest}
use Rattle.model.specs.Reached.{Chain, NewestOf, start, last}
use Rattle.model.proofs.History.{chain_stamps, ordinal_counts, ordinals_rise, same-ordinal, newest_counts, newest_is, ordinal_range, up_to_mono, up_to_now}
use Rattle.copy.specs.Copy.{fresh_copy, held, carried_version}
use Rattle.copy.specs.Arrivals as arrive
use Rattle.copy.specs.Arrivals.{Arrival, take_all, Came}
use Rattle.copy.proofs.Newest.{all_is, all_tops}
use Rattle.delivery.specs.Held as kept
use Rattle.delivery.specs.Held.{arrival_of, Committed, NewestTaken, taken}

-- the version that came is one of the log
record From (log : List Entry) (k : ℕ) (v : Version) (xs : List Arrival) : Type 0 where
  entry : Entry
  there : In entry log
  key : entry.key ≡ k
  same : v ≡ version_of entry
  arrived : In (arrival_of entry) xs

came_from : {log : List Entry} {k : ℕ} {v : Version} {xs : List Arrival} → Came k v xs → Every (Committed log) xs → From log k v xs
came_from (arrive.here {x = x} {xs = xs} q e) (also c cs) =
    record {
      entry = c.entry;
      there = c.there;
      key = ap (λ (y : Arrival). y.item.key) (sym c.same) ∙ q;
      same = e ∙ ap (λ (y : Arrival). carried_version y.stamp y.item) c.same;
      arrived = subst (λ (y : Arrival). In y (x ∷ xs)) c.same here;
    }
came_from (arrive.later m) (also c cs) =
    let f = came_from m cs in
    record { entry = f.entry; there = f.there; key = f.key; same = f.same; arrived = below f.arrived }

module _ {opening clock : ℕ} {log : List Entry} (c : Chain opening clock log) where
  -- of one key, an ordinal that is not greater has a stamp that is not later
  stamp_le : {e f : Entry} → In e log → In f log → e.key ≡ f.key → f.ordinal ≤ e.ordinal → f.stamp ≤ e.stamp
  stamp_le {e} {f} i j q h = go (dec_lt e.stamp f.stamp)
    where
      go : Dec (e.stamp < f.stamp) → f.stamp ≤ e.stamp
      go (yes l) = absurd (let z = ordinals_rise c i j q l in omega arith)
      go (no l) = omega arith

  -- no version of a key has a greater ordinal than its newest
  entry_le : {e : Entry} → In e log → e.ordinal ≤ (newest log e.key).ordinal.0
  entry_le {e} i =
      let a : (newest log e.key).ordinal.0 ≡ versions log e.key = newest_counts c e.key in
      let b : up_to log e.key clock ≡ versions log e.key = up_to_now c e.key clock (omega arith) in
      let o : up_to log e.key e.stamp ≡ e.ordinal = ordinal_counts c i in
      let m : up_to log e.key e.stamp ≤ up_to log e.key clock = up_to_mono log e.key (every_in (chain_stamps c) i).1 in
      omega arith

  module _ {xs : List Arrival} (committed : Every (Committed log) xs) (k : ℕ) (low : k ≤ 63) where
    -- none that arrived for the key is newer than what is held
    tops : Every (λ (x : Arrival). x.item.key ≡ k → x.item.ordinal.0 ≤ (held (take_all fresh_copy xs) k).ordinal.0) xs
    tops =
        every_map (λ (x : Arrival) h q.
        let z : x.item.key < 64 = omega arith in
        subst (λ (j : ℕ). x.item.ordinal.0 ≤ (held (take_all fresh_copy xs) j).ordinal.0) q (h z)) (all_tops fresh_copy xs)

    -- each of them has an ordinal above the start version's
    none_came : {v : Version} → v ≡ start_version → Every (λ (x : Arrival). x.item.key ≡ k → x.item.ordinal.0 ≤ v.ordinal.0) xs → NewestTaken log k xs v
    none_came {v} e ts =
        subst (NewestTaken log k xs) (sym e) (kept.start (every_both (λ (x : Arrival) t m q.
        let o : 1 ≤ m.entry.ordinal = (ordinal_range c m.there).0 in
        let a : x.item.ordinal.0 ≡ m.entry.ordinal = ap (λ (y : Arrival). y.item.ordinal.0) m.same in
        let z : v.ordinal.0 ≡ 0 = ap (λ (w : Version). w.ordinal.0) e in
        absurd (omega (arith, t q))) ts committed))

    one_came : {v : Version} → From log k v xs → Every (λ (x : Arrival). x.item.key ≡ k → x.item.ordinal.0 ≤ v.ordinal.0) xs → NewestTaken log k xs v
    one_came {v} f ts =
        subst (NewestTaken log k xs) (sym f.same) (taken f.entry f.there f.key f.arrived (every_both (λ (x : Arrival) t m q.
        let z : v.ordinal.0 ≡ f.entry.ordinal = ap (λ (w : Version). w.ordinal.0) f.same in
        let a : x.item.ordinal.0 ≡ m.entry.ordinal = ap (λ (y : Arrival). y.item.ordinal.0) m.same in
        let s : x.stamp ≡ m.entry.stamp = ap (λ (y : Arrival). y.stamp) m.same in
        let b : f.entry.key ≡ m.entry.key = f.key ∙ sym q ∙ ap (λ (y : Arrival). y.item.key) m.same in
        let o : m.entry.ordinal ≤ f.entry.ordinal = omega (arith, t q) in
        let l : m.entry.stamp ≤ f.entry.stamp = stamp_le {e = f.entry} {f = m.entry} f.there m.there b o in
        (omega arith, omega arith)) ts committed))

    -- "the copy always holds, for every key, the newest committed version among those taken, or the start version"
    pub newest-held : NewestTaken log k xs (held (take_all fresh_copy xs) k)
    newest-held =
        ⊎_elim
        (λ e. none_came (e ∙ get_or-replicate 64 k start_version start_version (omega arith)) tops)
        (λ m. one_came (came_from m committed) tops)
        (all_is fresh_copy k xs)

  module _ {k : ℕ} {xs : List Arrival} where
    -- none that was taken of the key is newer
    pub taken_top : {v : Version} {x : Arrival} → NewestTaken log k xs v → In x xs → x.item.key ≡ k → x.item.ordinal.0 ≤ v.ordinal.0
    taken_top (kept.start h) i q = absurd (every_in h i q)
    taken_top (taken e j p a h) i q = (every_in h i q).0

    -- what is held is never ahead of the master
    pub taken_le : {v : Version} → NewestTaken log k xs v → v.ordinal.0 ≤ (newest log k).ordinal.0
    taken_le (kept.start h) = omega arith
    taken_le (taken e i q a h) = subst (λ (j : ℕ). e.ordinal ≤ (newest log j).ordinal.0) q (entry_le i)

    -- and where it is not behind, it is the master's newest version
    pub taken-newest : {v : Version} → NewestTaken log k xs v → (newest log k).ordinal.0 ≤ v.ordinal.0 → v ≡ newest log k
    taken-newest {v} t h = go (newest_is c k) t h (taken_le t)
      where
        go : {n v : Version} → NewestOf log k n → NewestTaken log k xs v → n.ordinal.0 ≤ v.ordinal.0 → v.ordinal.0 ≤ n.ordinal.0 → v ≡ n
        go (start a) (kept.start b) h l = refl
        go (start a) (taken e i q x y) h l = absurd (every_in a i q)
        go (last f j p m) (kept.start b) h l = absurd (let o = (ordinal_range c j).0 in omega arith)
        go (last f j p m) (taken e i q x y) h l = ap version_of (same-ordinal c i j (q ∙ sym p) (omega arith))
