-- The clock goes on by one with each stamp taken and by none otherwise, so "a name never returns". Every state is taken.
use Prim.Native.Nat.{ℕ, suc, ◌≤◌, ◌<◌}
use native.Mathlib.Omega.{arith}
use mathlib.Core.Path.{◌≡◌, refl, sym, ◌∙◌}
use mathlib.Core.List.{List, [], ◌∷◌}
use Rattle.std.specs.Prelude.{Option, Some, None, ℤ}
use Rattle.transaction.specs.Transaction.{pending_of}
use Rattle.model.specs.Log.{look_up}
use Rattle.model.specs.State.{State, transaction}
use Rattle.model.specs.Call.{Call, Start, Read, Note, Write, Tune, Distance, Abort, Commit, Message, Newest, Reply, refused, started, version, own, done, apart_by, committed, aborted, made, made_by}
use Rattle.model.specs.Step.{step, final_of, reads, notes}
use Rattle.model.specs.Session.{reached}
use Rattle.model.specs.Clock.{Takes, Clocked, takes, stays}
use Rattle.model.proofs.Refusals.{step_cases}
use Rattle.units.specs.declared.Version.{Version}

clocked_reads : (s : State) (n k : ℕ) (p : Option ℤ) → Clocked s (reads s n k p)
clocked_reads s n k (Some v) = stays (λ m h. h) refl
clocked_reads s n k None = stays (λ m h. h) refl

clocked_notes : (s : State) (n k : ℕ) (f : Option Version) → Clocked s (notes s n k f)
clocked_notes s n k (Some v) = stays (λ m h. h) refl
clocked_notes s n k None = stays (λ m h. h) refl

clocked_final : (s : State) (c : Call) → Clocked s (final_of s c)
unfolding final_of
clocked_final s Start = takes refl refl
clocked_final s (Read n k) = clocked_reads s n k (pending_of (transaction s n) k)
clocked_final s (Note n k o) = clocked_notes s n k (look_up s.log k o)
clocked_final s (Write n k v) = stays (λ m h. h) refl
clocked_final s (Tune n k1 k2 k3) = stays (λ m h. h) refl
clocked_final s (Distance n i) = stays (λ m h. h) refl
clocked_final s (Abort n) = stays (λ m h. h) refl
clocked_final s (Commit n) = takes refl refl
clocked_final s (Message t) = stays (λ m h. h) refl
clocked_final s (Newest k) = stays (λ m h. h) refl

-- "Each start and each granted commit adds one and takes the result. A refusal or abort takes none."
pub clocked : (s : State) (c : Call) → Clocked s (step s c)
clocked s c = step_cases (Clocked s) s c (λ n. stays (λ m h. h) refl) (λ n r. stays (λ m h. h) refl) (clocked_final s c)

pub clock_rises : (s : State) (c : Call) → s.clock ≤ (step s c).state.clock
clock_rises s c = go (clocked s c)
  where
    go : Clocked s (step s c) → s.clock ≤ (step s c).state.clock
    go (takes t e) = omega arith
    go (stays t e) = omega arith

pub reached_rises : (s : State) (cs : List Call) → s.clock ≤ (reached s cs).clock
unfolding reached
reached_rises s [] = omega arith
reached_rises s (c ∷ cs) = let a = clock_rises s c in let b = reached_rises (step s c).state cs in omega arith

-- a reply takes one stamp
takes_one : (r : Reply) (m n : ℕ) → Takes r m → Takes r n → m ≡ n
takes_one (started k) m n p q = sym p ∙ q
takes_one (committed k) m n p q = sym p ∙ q
takes_one (refused k) m n p q = absurd p
takes_one (version v) m n p q = absurd p
takes_one (own v) m n p q = absurd p
takes_one done m n p q = absurd p
takes_one (apart_by d) m n p q = absurd p
takes_one (aborted r) m n p q = absurd p
takes_one (made es) m n p q = absurd p
takes_one (made_by k) m n p q = absurd p

-- the stamp taken is the next one, and the clock shows it
pub takes-next : (s : State) (c : Call) (m : ℕ) → Takes (step s c).reply m → (m ≡ suc s.clock) × ((step s c).state.clock ≡ m)
takes-next s c m h = go (clocked s c)
  where
    go : Clocked s (step s c) → (m ≡ suc s.clock) × ((step s c).state.clock ≡ m)
    go (takes t e) = let q = takes_one (step s c).reply m (suc s.clock) h t in (q, e ∙ sym q)
    go (stays t e) = absurd (t m h)

-- "A transaction's name is its start stamp, so a name never returns": a stamp taken later in a session is greater than one taken before
pub never_returns : (s : State) (a : Call) (cs : List Call) (b : Call) (m n : ℕ) → Takes (step s a).reply m → Takes (step (reached (step s a).state cs) b).reply n → m < n
never_returns s a cs b m n p q =
    let x = takes-next s a m p in
    let y = takes-next (reached (step s a).state cs) b n q in
    let z = reached_rises (step s a).state cs in
    omega arith
