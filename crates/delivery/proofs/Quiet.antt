-- "If no commit comes between": calls none of which is granted a commit leave the log as it was. Every state is taken.
use Prim.Native.Nat.{ℕ}
use mathlib.Core.Path.{◌≡◌, refl, ◌∙◌}
use mathlib.Core.Logic.{◌≢◌}
use mathlib.Core.List.{List, [], ◌∷◌}
use lib.IntN.{ℤ}
use Rattle.std.specs.Prelude.{Option, Some, None}
use Rattle.lists.specs.Lists.{none, also}
use Rattle.units.specs.declared.Version.{Version}
use Rattle.transaction.specs.Transaction.{pending_of}
use Rattle.model.specs.Log.{look_up}
use Rattle.model.specs.State.{State, transaction}
use Rattle.model.specs.Call as call
use Rattle.model.specs.Call.{Call, committed}
use Rattle.model.specs.Step.{Step, step, final_of, reads, notes}
use Rattle.model.specs.Session.{reached, replies}
use Rattle.model.proofs.Refusals.{step_cases}
use Rattle.delivery.specs.Named.{NoCommit}

module _ (s : State) where
  abbrev Quiet : Step → Type 0
  Quiet d = ((m : ℕ) → d.reply ≢ committed m) → d.state.log ≡ s.log

  quiet_reads : (n k : ℕ) (p : Option ℤ) → Quiet (reads s n k p)
  quiet_reads n k (Some v) h = refl
  quiet_reads n k None h = refl

  quiet_notes : (n k : ℕ) (f : Option Version) → Quiet (notes s n k f)
  quiet_notes n k (Some v) h = refl
  quiet_notes n k None h = refl

  quiet_final : (c : Call) → Quiet (final_of s c)
  unfolding final_of
  quiet_final call.Start h = refl
  quiet_final (call.Read n k) h = quiet_reads n k (pending_of (transaction s n) k) h
  quiet_final (call.Note n k o) h = quiet_notes n k (look_up s.log k o) h
  quiet_final (call.Write n k v) h = refl
  quiet_final (call.Tune n k1 k2 k3) h = refl
  quiet_final (call.Distance n i) h = refl
  quiet_final (call.Abort n) h = refl
  quiet_final (call.Commit n) h = absurd (h _ refl)
  quiet_final (call.Message t) h = refl
  quiet_final (call.Newest k) h = refl

  quiet_step : (c : Call) → Quiet (step s c)
  quiet_step c = step_cases Quiet s c (λ n h. refl) (λ n r h. refl) (quiet_final c)

pub quiet_log : (s : State) (cs : List Call) → NoCommit (replies s cs) → (reached s cs).log ≡ s.log
unfolding reached replies
quiet_log s [] none = refl
quiet_log s (c ∷ cs) (also h hs) = quiet_log (step s c).state cs hs ∙ quiet_step s c h
