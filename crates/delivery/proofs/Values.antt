-- Where every call of a session writes signed 32-bit numbers, every value in the log and every pending write is one.
use Prim.Native.Nat.{ℕ, suc}
use native.Mathlib.Omega.{arith}
use mathlib.Core.Bool.{Bool, true, false, cond}
use mathlib.Core.List.{List, ◌∷◌}
use lib.Dec.{ltb}
use lib.IntN.{ℤ}
use Rattle.std.specs.Prelude.{Option, Some, None}
use Rattle.lists.specs.Lists.{Every, none, also}
use Rattle.lists.proofs.Every.{every_set, every_take}
use Rattle.lists.proofs.Images.{every_get_or, every_replicate}
use Rattle.units.specs.declared.Version.{Version}
use Rattle.units.specs.Bounds.{triple}
use Rattle.decimal.specs.Read.{InRange, values}
use Rattle.transaction.specs.declared.Mark.{Mark}
use Rattle.transaction.specs.declared.Write.{Write}
use Rattle.transaction.specs.declared.Transaction.{Transaction}
use Rattle.transaction.specs.Transaction.{fresh, tuned, ended, recorded, written, wrote_at, pending_of, no_write}
use Rattle.model.specs.Log.{Entry, next, installed, newest, look_up}
use Rattle.model.specs.State.{State, opened, no_transaction, place_of, transaction, free_place, with_transaction}
use Rattle.model.specs.Call as call
use Rattle.model.specs.Call.{Call}
use Rattle.model.specs.Step.{Step, step, final_of, reads, notes, marked, records}
use Rattle.model.specs.Session.{reached}
use Rattle.model.proofs.Refusals.{step_cases}
use Rattle.delivery.specs.Values.{Writable, WritesRanged, Ranged}

fresh_ranged : (n : ℕ) → WritesRanged (fresh n)
fresh_ranged n = every_replicate (λ (w : Write). InRange values w.value) no_write (omega arith, omega arith) 16

either_ranged : (b : Bool) (u t : Transaction) → WritesRanged u → WritesRanged t → WritesRanged (cond b u t)
either_ranged true u t p q = p
either_ranged false u t p q = q

recorded_ranged : (t : Transaction) (m : Mark) → WritesRanged t → WritesRanged (recorded t m)
unfolding recorded
recorded_ranged t m h = either_ranged (ltb t.recorded 16) _ t h h

written_ranged : (t : Transaction) (k : ℕ) (v : ℤ) → InRange values v → WritesRanged t → WritesRanged (written t k v)
unfolding written
written_ranged t k v r h = either_ranged (ltb (wrote_at t k) 16) _ t (every_set (wrote_at t k) (record { key = k; value = v }) r h) h

installed_ranged : (log : List Entry) (stamp : ℕ) {ws : List Write} → Every (λ (w : Write). InRange values w.value) ws → Every (λ (e : Entry). InRange values e.value) log
    → Every (λ (e : Entry). InRange values e.value) (installed log stamp ws)
unfolding installed
installed_ranged log stamp none h = h
installed_ranged log stamp (also {x = w} v vs) h = installed_ranged (next log stamp w ∷ log) stamp vs (also v h)

module _ (s : State) (r : Ranged s) where
  found_ranged : (n : ℕ) → WritesRanged (transaction s n)
  found_ranged n = every_get_or no_transaction none r.desk (place_of s.place n)

  -- a call that changes one transaction
  ranged_with : (n : ℕ) (t : Transaction) → WritesRanged t → Ranged (with_transaction s n t)
  ranged_with n t h = record { log = r.log; desk = every_set (place_of s.place n) t h r.desk }

  ranged_records : (n k : ℕ) (v : Version) → Ranged (records s n k v).state
  ranged_records n k v = ranged_with n (recorded (transaction s n) (marked k v)) (recorded_ranged (transaction s n) (marked k v) (found_ranged n))

  ranged_reads : (n k : ℕ) (p : Option ℤ) → Ranged (reads s n k p).state
  ranged_reads n k (Some v) = r
  ranged_reads n k None = ranged_records n k (newest s.log k)

  ranged_notes : (n k : ℕ) (f : Option Version) → Ranged (notes s n k f).state
  ranged_notes n k (Some v) = ranged_records n k v
  ranged_notes n k None = r

  ranged_ended : (n : ℕ) → Ranged (with_transaction s n (ended (transaction s n)))
  ranged_ended n = ranged_with n (ended (transaction s n)) (found_ranged n)

  ranged_final : (c : Call) → Writable c → Ranged (final_of s c).state
  unfolding final_of
  ranged_final call.Start w = record { log = r.log; desk = every_set (free_place s.place) (fresh (suc s.clock)) (fresh_ranged (suc s.clock)) r.desk }
  ranged_final (call.Read n k) w = ranged_reads n k (pending_of (transaction s n) k)
  ranged_final (call.Note n k o) w = ranged_notes n k (look_up s.log k o)
  ranged_final (call.Write n k v) w = ranged_with n (written (transaction s n) k v) (written_ranged (transaction s n) k v w (found_ranged n))
  ranged_final (call.Tune n k1 k2 k3) w = ranged_with n (tuned (transaction s n) (triple k1 k2 k3)) (found_ranged n)
  ranged_final (call.Distance n i) w = r
  ranged_final (call.Abort n) w = ranged_ended n
  ranged_final (call.Commit n) w =
      record { log = installed_ranged s.log (suc s.clock) (every_take (transaction s n).written (found_ranged n)) r.log; desk = (ranged_ended n).desk }
  ranged_final (call.Message t) w = r
  ranged_final (call.Newest k) w = r

  ranged_step : (c : Call) → Writable c → Ranged (step s c).state
  ranged_step c w = step_cases (λ (d : Step). Ranged d.state) s c (λ n. r) (λ n q. ranged_ended n) (ranged_final c w)

ranged_on : (s : State) {cs : List Call} → Every Writable cs → Ranged s → Ranged (reached s cs)
unfolding reached
ranged_on s none r = r
ranged_on s (also {x = c} w ws) r = ranged_on (step s c).state ws (ranged_step s r c w)

pub ranged_reached : (opening : ℕ) {cs : List Call} → Every Writable cs → Ranged (reached (opened opening) cs)
ranged_reached opening ws = ranged_on (opened opening) ws (record { log = none; desk = every_replicate WritesRanged (ended (fresh 0)) (fresh_ranged 0) 32 })
