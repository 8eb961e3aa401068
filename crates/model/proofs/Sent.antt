-- What a master has sent stays what it is: a call leaves the log or installs at the clock's next stamp, so that no version is lost and the
-- versions of a stamp that the clock has passed never change. Every state is taken.
use Prim.Native.Nat.{ℕ, suc, ◌≤◌}
use native.Mathlib.Omega.{arith}
use mathlib.Core.Path.{◌≡◌, refl, ◌∙◌, ap}
use mathlib.Core.List.{List, [], ◌∷◌}
use Rattle.lists.specs.Members.{In}
use Rattle.std.specs.Prelude.{Option, Some, None, ℤ}
use Rattle.transaction.specs.declared.Write.{Write}
use Rattle.transaction.specs.Transaction.{pending_of, writes_of}
use Rattle.model.specs.Log.{Entry, look_up, installed, made_at}
use Rattle.model.specs.State.{State, transaction}
use Rattle.model.specs.Call as call
use Rattle.model.specs.Call.{Call}
use Rattle.model.specs.Step.{Step, step, final_of, reads, notes}
use Rattle.model.specs.Session.{reached}
use Rattle.model.proofs.Refusals.{step_cases}
use Rattle.model.proofs.Clock.{clock_rises}
use Rattle.model.proofs.Made.{made_other}
use Rattle.model.proofs.Stands.{in_installed}
use Rattle.units.specs.declared.Version.{Version}

pub data Logs (s : State) (d : Step) : Type 0 where
  stays : d.state.log ≡ s.log → Logs s d
  installs : (ws : List Write) → d.state.log ≡ installed s.log (suc s.clock) ws → Logs s d

logs_reads : (s : State) (n k : ℕ) (p : Option ℤ) → Logs s (reads s n k p)
logs_reads s n k (Some v) = stays refl
logs_reads s n k None = stays refl

logs_notes : (s : State) (n k : ℕ) (f : Option Version) → Logs s (notes s n k f)
logs_notes s n k (Some v) = stays refl
logs_notes s n k None = stays refl

logs_final : (s : State) (c : Call) → Logs s (final_of s c)
unfolding final_of
logs_final s call.Start = stays refl
logs_final s (call.Read n k) = logs_reads s n k (pending_of (transaction s n) k)
logs_final s (call.Note n k o) = logs_notes s n k (look_up s.log k o)
logs_final s (call.Write n k v) = stays refl
logs_final s (call.Tune n k1 k2 k3) = stays refl
logs_final s (call.Distance n i) = stays refl
logs_final s (call.Abort n) = stays refl
logs_final s (call.Commit n) = installs (writes_of (transaction s n)) refl
logs_final s (call.Message t) = stays refl
logs_final s (call.Newest k) = stays refl

pub logs : (s : State) (c : Call) → Logs s (step s c)
logs s c = step_cases (Logs s) s c (λ n. stays refl) (λ n r. stays refl) (logs_final s c)

in_step : (s : State) (c : Call) (e : Entry) → In e s.log → In e (step s c).state.log
in_step s c e i = go (logs s c)
  where
    go : Logs s (step s c) → In e (step s c).state.log
    go (stays q) = rw q i
    go (installs ws q) = rw q (in_installed s.log (suc s.clock) ws e i)

-- a version once committed stays in the log
pub version-stays : (s : State) (cs : List Call) (e : Entry) → In e s.log → In e (reached s cs).log
unfolding reached
version-stays s [] e i = i
version-stays s (c ∷ cs) e i = version-stays (step s c).state cs e (in_step s c e i)

made-step : (s : State) (c : Call) (t : ℕ) → t ≤ s.clock → made_at (step s c).state.log t ≡ made_at s.log t
made-step s c t h = go (logs s c)
  where
    go : Logs s (step s c) → made_at (step s c).state.log t ≡ made_at s.log t
    go (stays q) = ap (λ (es : List Entry). made_at es t) q
    go (installs ws q) = ap (λ (es : List Entry). made_at es t) q ∙ made_other s.log (suc s.clock) t ws (λ e. omega arith)

-- the message of a stamp never changes
pub made-stays : (s : State) (cs : List Call) (t : ℕ) → t ≤ s.clock → made_at (reached s cs).log t ≡ made_at s.log t
unfolding reached
made-stays s [] t h = refl
made-stays s (c ∷ cs) t h = made-stays (step s c).state cs t (let r = clock_rises s c in omega arith) ∙ made-step s c t h
