-- What the next call then answers: a read after a write of the key, a start after an end.
use Prim.Native.Nat.{ℕ, ◌≤◌, ◌<◌}
use native.Mathlib.Decide.{ℕ_discrete}
use mathlib.Core.Path.{◌≡◌, sym, ◌∙◌, ap}
use mathlib.Core.Logic.{◌≢◌}
use mathlib.Core.Bool.{true, false, true≢false}
use mathlib.Core.List.{List}
use lib.IntN.{ℤ}
use lib.ListN.{set, length-set}
use lib.Seq.{get_or-set_same}
use Rattle.lists.specs.Members.{In, here}
use Rattle.lists.proofs.Members.{in_right, get_or_in}
use Rattle.units.specs.declared.Stamp.{Stamp}
use Rattle.transaction.specs.declared.Write as pending
use Rattle.transaction.specs.declared.Transaction.{Transaction}
use Rattle.transaction.specs.Transaction.{no_write}
use Rattle.model.specs.State.{State, at_place}
use Rattle.model.specs.Open.{OpenAt}
use Rattle.model.specs.Call.{Start, Read, Write, started, own, done}
use Rattle.model.specs.Step.{Step, step}
use Rattle.model.specs.Reached.{Good}
use Rattle.model.specs.Checks.{AllOpen}
use Rattle.model.specs.Changes.{Becomes, Ends, Puts, again, anew, Seats}
use Rattle.model.proofs.Changes.{write_puts, own_read, start_seats}
use Rattle.model.proofs.Reached.{good_step}

-- what a write put is among the writes
put_in : {k : ℕ} {v : ℤ} {ws us : List pending.Write} → Puts k v ws us → In (record { key = k; value = v }) us
put_in {k} {v} {ws} (again i h e) =
    rw (get_or-set_same ws i (record { key = k; value = v }) no_write h) at (get_or_in (set ws i (record { key = k; value = v })) i no_write (rw (length-set ws i (record { key = k; value = v })) h))
put_in {ws = ws} (anew n) = in_right ws here

-- and a read then answers it: "A second write of a key replaces the value"
pub read-written : {opening : ℕ} (s : State) → Good opening s → (n k : ℕ) (v : ℤ) → k ≤ 63 → (step s (Write n k v)).reply ≡ done
    → (step (step s (Write n k v)).state (Read n k)).reply ≡ own v
read-written s g n k v key e =
    let b = (write_puts s g n k v e).0 in
    ap (λ (d : Step). d.reply) (own_read (step s (Write n k v)).state (good_step s g (Write n k v)) n b.place k v
    (record {
      place = b.stands.place;
      live = b.becomes.rest.live ∙ b.stands.live;
      name = ap (λ (x : Stamp). x.0) b.becomes.rest.name ∙ b.stands.name;
    })
    key (put_in b.becomes.writes))

-- "an ended one frees its place, and the place is used again": a start is not refused for want of a place, and where every other place is taken
-- it takes this one
module _ {opening : ℕ} (s after : State) (g : Good opening after) (n : ℕ) (b : Becomes s n Ends after) where
  freed : (at_place after b.place).live ≡ false
  freed = ap (λ (t : Transaction). t.live) b.becomes

  pub place-free : ¬ AllOpen after
  place-free h = true≢false (sym (h b.place b.stands.place) ∙ freed)

  pub used_again : ((i : ℕ) → i < 32 → i ≢ b.place → (at_place s i).live ≡ true) → (m : ℕ) → (step after Start).reply ≡ started m → OpenAt (step after Start).state m b.place
  used_again others m e =
      let q = (start_seats after g m e).0 in
      let z : q.place ≡ b.place = go q (ℕ_discrete q.place b.place) in
      record {
        place = b.stands.place;
        live = rw z at (ap (λ (t : Transaction). t.live) q.taken);
        name = rw z at (ap (λ (t : Transaction). t.name.0) q.taken);
      }
    where
      go : (q : Seats after m (step after Start).state) → Dec (q.place ≡ b.place) → q.place ≡ b.place
      go q (yes z) = z
      go q (no h) = absurd (true≢false (sym (others q.place q.within h) ∙ ap (λ (t : Transaction). t.live) (sym (b.others q.place h)) ∙ q.free))
