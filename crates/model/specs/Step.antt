-- What each call does: document 01's list of refusals in its order, and then what the call is for.
use Rattle.std.specs.Prelude.{ℕ, suc, ◌+◌, Bool, true, false, cond, ◌&&◌, not, List, [], ◌∷◌, eqb, leb, ltb, length, get_or, take, set, Option, Some, None, Result, Ok, Err, ℤ}
use Rattle.units.specs.Bounds.{triple}
use Rattle.units.specs.declared.Version.{Version}
use Rattle.transaction.specs.declared.Mark.{Mark}
use Rattle.transaction.specs.declared.Transaction.{Transaction}
use Rattle.transaction.specs.Transaction.{fresh, tuned, ended, recorded, written, wrote_at, pending_of, reads_of, writes_of, no_mark}
use Rattle.model.specs.Log.{newest, look_up, installed, made_at}
use Rattle.model.specs.Rules.{distance, certified}
use Rattle.model.specs.State.{State, nobody, transaction, free_place, with_transaction}
use Rattle.model.specs.Call.{Call, Start, Read, Note, Write, Tune, Distance, Abort, Commit, Message, Newest, Reply, refused, started, version, own, done, apart_by, committed, aborted, made, made_by}
use Rattle.units.specs.declared.rule.Rule.{Rule}

-- a reply, and the state after it
pub record Step : Type 0 where
  pub reply : Reply
  pub state : State

-- a test, and the whole step that it gives where it holds
pub record Check : Type 0 where
  pub holds : Bool
  pub step : Step

-- the first check that holds decides; the step is taken where none does
unfoldable pub order : List Check → Step → Step
order [] d = d
order (c ∷ cs) d = cond c.holds c.step (order cs d)

-- "Each returns its number and nothing else; state and buffers stay"
abbrev pub refuse : State → ℕ → Bool → Check
refuse s number holds = record { holds = holds; step = record { reply = refused number; state = s } }

abbrev pub answers : State → Reply → Step
answers s r = record { reply = r; state = s }

-- the bounds of the tests, by document 01's names
abbrev pub no_key : ℕ → Bool
no_key k = ltb 63 k

abbrev pub spent : State → Bool
spent s = eqb s.clock 4294967295

abbrev pub reads_full : Transaction → Bool
reads_full t = leb 16 t.recorded

abbrev pub writes_full : Transaction → ℕ → Bool
writes_full t k = leb 16 (wrote_at t k)

abbrev pub has_written : Option ℤ → Bool
has_written (Some v) = true
has_written None = false

abbrev pub is_absent : Option Version → Bool
is_absent (Some v) = false
is_absent None = true

-- Start: the next stamp is the name, the first free place is taken
abbrev pub starts : State → Step
starts s =
    record {
      reply = started (suc s.clock);
      state = record { clock = suc s.clock; log = s.log; place = set s.place (free_place s.place) (fresh (suc s.clock)) };
    }

-- a read that was answered is recorded by its key, ordinal and stamp
abbrev pub marked : ℕ → Version → Mark
marked k v = record { key = k; ordinal = v.ordinal; stamp = v.stamp }

abbrev pub records : State → ℕ → ℕ → Version → Step
records s n k v = record { reply = version v; state = with_transaction s n (recorded (transaction s n) (marked k v)) }

-- "If this transaction has written the key, it answers the pending value and records nothing"
abbrev pub reads : State → ℕ → ℕ → Option ℤ → Step
reads s n k (Some v) = answers s (own v)
reads s n k None = records s n k (newest s.log k)

abbrev pub notes : State → ℕ → ℕ → Option Version → Step
notes s n k (Some v) = records s n k v
notes s n k None = answers s (refused 7)

-- "An abort only ends its transaction"
abbrev pub ends : State → ℕ → State
ends s n = with_transaction s n (ended (transaction s n))

abbrev pub aborts : State → ℕ → Result (Unit {0}) Rule → Check
aborts s n (Ok u) = record { holds = false; step = answers s done }
aborts s n (Err r) = record { holds = true; step = record { reply = aborted r; state = ends s n } }

-- Commit: the next stamp is the commit's, the written keys are installed, the transaction ends
abbrev pub commits : State → ℕ → Step
commits s n =
    record {
      reply = committed (suc s.clock);
      state =
          record {
            clock = suc s.clock;
            log = installed s.log (suc s.clock) (writes_of (transaction s n));
            place = (ends s n).place;
          };
    }

-- Document 01's checks of a call, in its order: "Start: 3, 5. Read, write: 1, 2, 4. Note: 1, 2, 8, 7, 4. Tune, distance: 1, 9. Abort: 1. Commit:
-- 1, the aborts, 6, 5. Message: 18, 17. Stamp of a key's newest version ..: 2." Refusal 17 is of the room that a text is lent, and belongs to the
-- one who writes it.
unfoldable pub checks_of : State → Call → List Check
checks_of s Start = refuse s 3 (leb 32 (free_place s.place)) ∷ refuse s 5 (spent s) ∷ []
checks_of s (Read n k) =
    refuse s 1 (nobody s n)
    ∷ refuse s 2 (no_key k)
    ∷ refuse s 4 (not (has_written (pending_of (transaction s n) k)) && reads_full (transaction s n))
    ∷ []
checks_of s (Note n k o) =
    refuse s 1 (nobody s n)
    ∷ refuse s 2 (no_key k)
    ∷ refuse s 8 (has_written (pending_of (transaction s n) k))
    ∷ refuse s 7 (is_absent (look_up s.log k o))
    ∷ refuse s 4 (reads_full (transaction s n))
    ∷ []
checks_of s (Write n k v) = refuse s 1 (nobody s n) ∷ refuse s 2 (no_key k) ∷ refuse s 4 (writes_full (transaction s n) k) ∷ []
checks_of s (Tune n k1 k2 k3) = refuse s 1 (nobody s n) ∷ refuse s 9 (eqb k1 0) ∷ []
checks_of s (Distance n i) = refuse s 1 (nobody s n) ∷ refuse s 9 (leb (length (reads_of (transaction s n))) i) ∷ []
checks_of s (Abort n) = refuse s 1 (nobody s n) ∷ []
checks_of s (Commit n) =
    refuse s 1 (nobody s n)
    ∷ aborts s n (certified s.log (transaction s n))
    ∷ refuse s 6 (ltb 4096 (length s.log + length (writes_of (transaction s n))))
    ∷ refuse s 5 (spent s)
    ∷ []
checks_of s (Message t) = refuse s 18 (eqb (length (made_at s.log t)) 0) ∷ []
checks_of s (Newest k) = refuse s 2 (no_key k) ∷ []

-- what a call is for
unfoldable pub final_of : State → Call → Step
final_of s Start = starts s
final_of s (Read n k) = reads s n k (pending_of (transaction s n) k)
final_of s (Note n k o) = notes s n k (look_up s.log k o)
final_of s (Write n k v) = record { reply = done; state = with_transaction s n (written (transaction s n) k v) }
final_of s (Tune n k1 k2 k3) = record { reply = done; state = with_transaction s n (tuned (transaction s n) (triple k1 k2 k3)) }
final_of s (Distance n i) = answers s (apart_by (distance s.log (transaction s n).name.0 (get_or (reads_of (transaction s n)) i no_mark)))
final_of s (Abort n) = record { reply = done; state = ends s n }
final_of s (Commit n) = commits s n
final_of s (Message t) = answers s (made (take 16 (made_at s.log t)))
final_of s (Newest k) = answers s (made_by (newest s.log k).stamp.0)

-- a call is its checks in order, and then what it is for
unfoldable pub step : State → Call → Step
step s c = order (checks_of s c) (final_of s c)
